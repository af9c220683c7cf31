-- The code points of labels.
use Rattle.std.proofs.Common.{◌≡◌, ℕ, zero, suc, ◌+◌, ◌-◌, ◌<◌, ◌≤◌, List, [], ◌∷◌, length, take, get_or, sym, ap, arith}
use Rattle.std.proofs.lemmas.List.{take-map, length-map}
use Rattle.std.proofs.lemmas.List.Sums.{sum_by_more_le}
use Rattle.std.specs.String.{string_bytes}
use Rattle.std.specs.declared.string.String.{String}
use Rattle.std.specs.declared.alloc.Global.{Global}
use Rattle.fm_grammar.specs.Exposition.{Text, Label}
use Rattle.fm_grammar.specs.WellFormed.{code_points, label_code_points}
use Rattle.fm_grammar.specs.LabelPairs.{label_of, labels_of}

label_at : (labels : List (String Global × String Global)) (i : ℕ) (d : Label) (item : String Global × String Global) → i < length labels → item ≡ get_or labels i item → get_or (labels_of labels) i d ≡ label_of item
label_at [] i d item within is = absurd (omega arith)
label_at (x ∷ labels) zero d item within is = ap label_of (sym is)
label_at (x ∷ labels) (suc i) d item within is = label_at labels i d item (omega arith) is

pub points_at : (labels : List (String Global × String Global)) (i : ℕ) (item : String Global × String Global) → i < length labels → item ≡ get_or labels i item → label_code_points (labels_of (take i labels)) + (code_points (string_bytes item.0) + code_points (string_bytes item.1)) ≤ label_code_points (labels_of labels)
points_at labels i item within is =
    let f : Label → ℕ = λ label. code_points label.name + code_points label.value in
    let in_all : i < length (labels_of labels) = omega (arith, within, length-map labels label_of) in
    let more = sum_by_more_le f (labels_of labels) i (label_of item) in_all in
    omega (arith, more, ap f (label_at labels i (label_of item) item within is), ap label_code_points (take-map label_of i labels))

pub long_name : (labels : List (String Global × String Global)) (i left a : ℕ) (item : String Global × String Global) (name : Text) → i < length labels → item ≡ get_or labels i item → left + label_code_points (labels_of (take i labels)) ≡ 128 → name ≡ string_bytes item.0 → a ≡ code_points name → (a ≤ left → ⊥) → label_code_points (labels_of labels) ≤ 128 → ⊥
long_name labels i left a item name within is so_far n p over h = over (omega (arith, points_at labels i item within is, so_far, p, ap code_points n, h))

pub long_value : (labels : List (String Global × String Global)) (i left a rest b : ℕ) (item : String Global × String Global) (name value : Text) → i < length labels → item ≡ get_or labels i item → left + label_code_points (labels_of (take i labels)) ≡ 128 → name ≡ string_bytes item.0 → a ≡ code_points name → (a ≤ left) × (rest ≡ left - a) → value ≡ string_bytes item.1 → b ≡ code_points value → (b ≤ rest → ⊥) → label_code_points (labels_of labels) ≤ 128 → ⊥
long_value labels i left a rest b item name value within is so_far n p sub v q over h = over (omega (arith, points_at labels i item within is, so_far, p, ap code_points n, sub.0, sub.1, q, ap code_points v, h))
