-- Points, whose samples share their common labels.
use Rattle.std.proofs.Common.{◌≡◌, ℕ, List, [], ◌∷◌, ◌++◌, refl, sym, ap, ◌∙◌, append_assoc, arith, length, length-append, ◌≤◌, ◌<◌, ◌+◌, ◌^◌, get_or, take, drop, suc, zero, drop-cons, add-one, subst, Bool, true, false, true≢false}
use Rattle.std.proofs.Math.ListN.{drop_of_length-le}
use Rattle.std.proofs.Math.Seq.{take-length}
use Rattle.std.proofs.lemmas.List.{append-nil, take-append-drop, map-append, drop-append-le, take-append-le}
use Rattle.std.proofs.lemmas.Grind.{flat_map-append}
use Rattle.std.specs.List.{flat_map}
use Rattle.fm_grammar.specs.Exposition as grammar
use Rattle.fm_grammar.specs.Exposition.{Label}
use Rattle.fm_grammar.proofs.Runs.{all_append}
use Rattle.fm_exposition.specs.declared.exposition.Sample.{Sample}
use Rattle.fm_exposition.specs.Samples.{common_labels, own_labels, sample_of, samples_of}
use Rattle.fm_grammar.specs.inside.LabelLists.{AreUtf8Labels}
use Rattle.fm_exposition.specs.inside.Points.{HaveInCommon, AreInPoints, EndsInPoint, IsCut, HaveUtf8Labels}

-- a sample's common labels are those that it shares
pub common_at : (common : List Label) (samples : List Sample) (i : ℕ) (sample : Sample) → i < length samples → sample ≡ get_or samples i sample → HaveInCommon common samples → common_labels sample ≡ common
common_at common [] i sample within is all = absurd (omega arith)
common_at common (s ∷ samples) zero sample within is all = ap common_labels is ∙ all.0
common_at common (s ∷ samples) (suc i) sample within is all = common_at common samples i sample (omega arith) is all.1

pub ruleset points = (common_at)

next_is : (counts : List ℕ) (i : ℕ) → i < length counts → drop i counts ≡ get_or counts i 0 ∷ drop (i + 1) counts
next_is counts i within = rw add-one (drop-cons counts i 0 within)

-- the next point is within what is left, and the points after it cover the rest
pub next_point : (counts : List ℕ) (i : ℕ) (samples : List Sample) → i < length counts → AreInPoints (drop i counts) samples
    → (common : List Label) × (get_or counts i 0 ≤ length samples) × HaveInCommon common (take (get_or counts i 0) samples) × AreInPoints (drop (i + 1) counts) (drop (get_or counts i 0) samples)
next_point counts i samples within cut = let P : List ℕ → Type 0 = λ cs. AreInPoints cs samples in subst P (next_is counts i within) cut

-- after the last point nothing is left
pub no_point : (counts : List ℕ) (i : ℕ) (samples : List Sample) → length counts ≤ i → AreInPoints (drop i counts) samples → samples ≡ []
no_point counts i samples all cut = let P : List ℕ → Type 0 = λ cs. AreInPoints cs samples in subst P (drop_of_length-le counts all) cut

-- a list is cut in two
parts : (n : ℕ) (samples part others : List Sample) → part ≡ take n samples → others ≡ drop n samples → samples ≡ part ++ others
parts n samples part others part_is others_is = sym (take-append-drop n samples) ∙ ap (λ zs. zs ++ drop n samples) (sym part_is) ∙ ap (λ zs. part ++ zs) (sym others_is)

-- the lines of what is left are those of the next part and the rest
pub lines_parts : (f : grammar.Sample → List ℕ) (n : ℕ) (samples part others : List Sample) → part ≡ take n samples → others ≡ drop n samples
    → flat_map f (samples_of samples) ≡ flat_map f (samples_of part) ++ flat_map f (samples_of others)
lines_parts f n samples part others part_is others_is =
    ap (λ zs. flat_map f (samples_of zs)) (parts n samples part others part_is others_is) ∙ ap (flat_map f) (map-append sample_of part others) ∙ flat_map-append f (samples_of part) (samples_of others)

-- samples after others, both cut into points
AreInPoints-append : (a b : List ℕ) (xs ys : List Sample) → AreInPoints a xs → AreInPoints b ys → AreInPoints (a ++ b) (xs ++ ys)
AreInPoints-append [] b xs ys none h = subst (λ (zs : List Sample). AreInPoints b (zs ++ ys)) (sym none) h
AreInPoints-append (count ∷ a) b xs ys (common, within, shared, more) h = (
  common,
  omega (arith, length-append xs ys),
  subst (λ (zs : List Sample). HaveInCommon common zs) (sym (take-append-le count xs ys within)) shared,
  subst (λ (zs : List Sample). AreInPoints (a ++ b) zs) (sym (drop-append-le count xs ys within)) (AreInPoints-append a b (drop count xs) ys more h),
)

AreInPoints-one : (common : List Label) (point : List Sample) → HaveInCommon common point → AreInPoints (length point ∷ []) point
AreInPoints-one common point shared = (
  common,
  omega arith,
  subst (λ (zs : List Sample). HaveInCommon common zs) (sym (take-length point)) shared,
  drop_of_length-le point (omega arith),
)

ends_in_points : (common : List Label) (counts : List ℕ) (samples : List Sample) → EndsInPoint common counts samples → AreInPoints counts samples
ends_in_points common counts samples ends =
    let whole = AreInPoints-append ends.counts_before (length ends.point ∷ []) ends.before ends.point ends.points_before (AreInPoints-one common ends.point ends.shared) in
    subst (λ (cs : List ℕ). AreInPoints cs samples) (sym ends.counts_are)
    (subst (λ (zs : List Sample). AreInPoints (ends.counts_before ++ length ends.point ∷ []) zs) (sym ends.samples_are) whole)

cut_under_way : (common : List Label) (counts : List ℕ) (samples : List Sample) → EndsInPoint common counts samples → IsCut common true counts samples
cut_under_way common counts samples ends = record { points = ends_in_points common counts samples ends; under_way = λ _. ends }

pub cut_nothing : (common : List Label) → IsCut common false [] []
cut_nothing common = record { points = refl; under_way = λ never. absurd (true≢false (sym never)) }

-- no point is current
pub cut_ended : (common other : List Label) (is_under_way : Bool) (counts : List ℕ) (samples : List Sample) → IsCut common is_under_way counts samples → IsCut other false counts samples
cut_ended common other is_under_way counts samples cut = record { points = cut.points; under_way = λ never. absurd (true≢false (sym never)) }

-- a point begins
pub cut_begun : (common : List Label) (is_under_way : Bool) (counts : List ℕ) (samples : List Sample) → IsCut common is_under_way counts samples → IsCut common true (counts ++ 0 ∷ []) samples
cut_begun common is_under_way counts samples cut = cut_under_way common (counts ++ 0 ∷ []) samples (record {
  counts_before = counts;
  before = samples;
  point = [];
  counts_are = refl;
  samples_are = sym (append-nil samples);
  points_before = cut.points;
  shared = tt;
})

-- the point gets a sample more
pub cut_pushed : (common : List Label) (counts more : List ℕ) (samples : List Sample) (sample : Sample) → IsCut common true counts samples → common_labels sample ≡ common
    → ((front : List ℕ) (count : ℕ) → counts ≡ front ++ count ∷ [] → more ≡ front ++ (count + 1) ∷ []) → IsCut common true more (samples ++ sample ∷ [])
cut_pushed common counts more samples sample cut shares counted =
    let ends = cut.under_way refl in
    cut_under_way common more (samples ++ sample ∷ []) (record {
      counts_before = ends.counts_before;
      before = ends.before;
      point = ends.point ++ sample ∷ [];
      counts_are = counted ends.counts_before (length ends.point) ends.counts_are ∙ ap (λ (n : ℕ). ends.counts_before ++ n ∷ []) (sym (length-append ends.point (sample ∷ [])));
      samples_are = ap (λ (zs : List Sample). zs ++ sample ∷ []) ends.samples_are ∙ append_assoc ends.before ends.point (sample ∷ []);
      points_before = ends.points_before;
      shared = all_append (λ (s : Sample). common_labels s ≡ common) ends.point (sample ∷ []) ends.shared (shares, tt);
    })

-- the last count is that of samples that are there
pub last_count : (common : List Label) (counts : List ℕ) (samples : List Sample) → IsCut common true counts samples → length samples + 1 < 2 ^ 64
    → (front : List ℕ) × (count : ℕ) × (counts ≡ front ++ count ∷ []) × (count + 1 < 2 ^ 64)
last_count common counts samples cut fits =
    let ends = cut.under_way refl in
    (ends.counts_before, length ends.point, ends.counts_are, omega (arith, fits, ap length ends.samples_are, length-append ends.before ends.point))

-- the labels of one sample more are valid UTF-8
pub utf8_pushed : (samples : List Sample) (sample : Sample) → HaveUtf8Labels samples → AreUtf8Labels (common_labels sample) → AreUtf8Labels (own_labels sample) → HaveUtf8Labels (samples ++ sample ∷ [])
utf8_pushed samples sample have common own = all_append (λ (s : Sample). AreUtf8Labels (common_labels s) × AreUtf8Labels (own_labels s)) samples (sample ∷ []) have ((common, own), tt)
