-- Labels in a text that grows.
use Rattle.std.proofs.Common.{slice_get, Some, ◌≡◌, ℕ, zero, suc, List, [], ◌∷◌, ◌++◌, Bool, true, false, IsTrue, IsSome, is_some, codes, ◌==◌, ◌≤◌, ◌<◌, ◌+◌, refl, sym, ap, subst, ◌∙◌, append_assoc, append-nil, arith, length, length-append, take, drop, get_or, Option, Some, None, IfSome, Contains, inl, inr, Result, Ok, Err, IfOk, ◌-◌, length-drop}
use Rattle.std.specs.List.{between, AllByRecursion}
use Rattle.std.specs.Str.{IsUtf8}
use Rattle.std.proofs.lemmas.Slice.{between_is}
use Rattle.std.proofs.Math.Seq.{take-append_seam, drop-append_seam}
use Rattle.std.proofs.lemmas.Option.{slice_get_within, get_or_from_slice_get}
use Rattle.std.proofs.lemmas.List.{take-append-le, take_more, take_all, drop-map, map-append, length-map}
use Rattle.std.proofs.lemmas.List.Elements.{Contains-append_cases}
use Rattle.std.proofs.lemmas.Bool.Decides.{nat_tests}
use Rattle.std.specs.Option.{option_map}
use Rattle.fm_grammar.specs.Exposition.{Text, Label}
use Rattle.fm_grammar.specs.Spelling.{escaped, label_text, label_list_text}
use Rattle.fm_text.proofs.ListLemmas.{list_joined}
use Rattle.fm_text.specs.inside.Grown.{Grown}
use Rattle.fm_text.specs.declared.spans.Part.{Part}
use Rattle.fm_text.specs.declared.spans.LabelSpan.{LabelSpan}
use Rattle.fm_text.specs.inside.LabelTexts.{list_before, part_in, label_in, labels_in, names_in, IsPart, IsSpan, AreParts, AreWithin, IsListed, AreListed, name_in_list, LabelsState, whole_label, whole_span}

-- a part of a text is the same part of a longer one
same_between : (text more : Text) (i j : ℕ) → j ≤ length text → between i j (text ++ more) ≡ between i j text
same_between text more i j fits = between_is (text ++ more) i j ∙ (ap (drop i) (take-append-le j text more fits) ∙ sym (between_is text i j))

pub part_grown : (old new more : Text) (p : Part) → Grown old new more → IsPart old p → part_in new p ≡ part_in old p
part_grown old new more p grown is = ap (λ (t : Text). part_in t p) grown.bytes ∙ same_between old more p.start p.end is.within

pub IsPart-grown : (old new more : Text) (p : Part) → Grown old new more → IsPart old p → IsPart new p
IsPart-grown old new more p grown is = record {
  order = is.order;
  within = (let lengths : length new ≡ length old + length more = ap length grown.bytes ∙ length-append old more in omega (arith, is.within));
  utf8 = subst IsUtf8 (sym (part_grown old new more p grown is)) is.utf8;
}

IsSpan-grown : (old new more : Text) (p : LabelSpan) → Grown old new more → IsSpan old p → IsSpan new p
IsSpan-grown old new more p grown is = record {
  name = IsPart-grown old new more p.name grown is.name;
  value = IsPart-grown old new more p.value grown is.value;
}

pub label_grown : (old new more : Text) (p : LabelSpan) → Grown old new more → IsSpan old p → label_in new p ≡ label_in old p
label_grown old new more p grown is = λ i. record {
  name = part_grown old new more p.name grown is.name i;
  value = part_grown old new more p.value grown is.value i;
}

pub labels_grown : (old new more : Text) (spans : List LabelSpan) → Grown old new more → AllByRecursion (IsSpan old) spans → labels_in new spans ≡ labels_in old spans
labels_grown old new more [] grown are = refl
labels_grown old new more (p ∷ spans) grown are = λ i. label_grown old new more p grown are.0 i ∷ labels_grown old new more spans grown are.1 i

pub spans_grown : (old new more : Text) (spans : List LabelSpan) → Grown old new more → AllByRecursion (IsSpan old) spans → AllByRecursion (IsSpan new) spans
spans_grown old new more [] grown are = tt
spans_grown old new more (p ∷ spans) grown are = (IsSpan-grown old new more p grown are.0, spans_grown old new more spans grown are.1)

pub option_grown : (old new more : Text) (p : Option Part) → Grown old new more → IfSome p (IsPart old) → option_map (part_in new) p ≡ option_map (part_in old) p
option_grown old new more None grown is = refl
option_grown old new more (Some p) grown is = ap Some (part_grown old new more p grown is)

pub some_grown : (old new more : Text) (p : Option Part) → Grown old new more → IfSome p (IsPart old) → IfSome p (IsPart new)
some_grown old new more None grown is = tt
some_grown old new more (Some p) grown is = IsPart-grown old new more p grown is

-- one span more, if the current label has both parts
pub spans_pushed : (text : Text) (ps : List LabelSpan) (n v : Option Part) → AllByRecursion (IsSpan text) ps → IfSome n (IsPart text) → IfSome v (IsPart text) → AllByRecursion (IsSpan text) (ps ++ whole_span n v)
spans_pushed text [] None v a b c = tt
spans_pushed text [] (Some n) None a b c = tt
spans_pushed text [] (Some n) (Some v) a b c = (record { name = b; value = c }, tt)
spans_pushed text (p ∷ ps) n v a b c = (a.0, spans_pushed text ps n v a.1 b c)

pub spans_whole : (text : Text) (spans : List LabelSpan) (name value : Option Part) → AreParts text spans name value → AllByRecursion (IsSpan text) (spans ++ whole_span name value)
spans_whole text spans name value are = spans_pushed text spans name value are.spans are.name are.value

whole_in : (text : Text) (name value : Option Part) → labels_in text (whole_span name value) ≡ whole_label (option_map (part_in text) name) (option_map (part_in text) value)
whole_in text None value = refl
whole_in text (Some n) None = refl
whole_in text (Some n) (Some v) = refl

pub labels_whole : (text : Text) (spans : List LabelSpan) (name value : Option Part) → labels_in text (spans ++ whole_span name value) ≡ labels_in text spans ++ whole_label (option_map (part_in text) name) (option_map (part_in text) value)
labels_whole text spans name value = map-append (label_in text) spans (whole_span name value) ∙ ap (λ (ls : List Label). labels_in text spans ++ ls) (whole_in text name value)

-- a part in the middle of what is appended
pub between_pieces : (a b c d : Text) → between (length a + length b) (length a + length b + length c) (a ++ (b ++ (c ++ d))) ≡ c
between_pieces a b c d =
    between_is (a ++ (b ++ (c ++ d))) _ _
    ∙ ap (λ (t : Text). drop (length a + length b) (take (length a + length b + length c) t)) (sym (append_assoc a b (c ++ d)) ∙ sym (append_assoc (a ++ b) c d))
    ∙ ap (λ (n : ℕ). drop (length a + length b) (take n (((a ++ b) ++ c) ++ d))) (sym (length-append (a ++ b) c ∙ ap (λ (n : ℕ). n + length c) (length-append a b)))
    ∙ ap (drop (length a + length b)) (take-append_seam ((a ++ b) ++ c) d)
    ∙ ap (λ (n : ℕ). drop n ((a ++ b) ++ c)) (sym (length-append a b))
    ∙ drop-append_seam (a ++ b) c

pub part_of_name : (old new sep name : Text) (s e : ℕ) → Grown old new (sep ++ (name ++ codes "=\"")) → IsUtf8 name → e ≡ length new - 2 → s ≡ e - length name → IsPart new (record { start = s; end = e }) × (part_in new (record { start = s; end = e }) ≡ name)
part_of_name old new sep name s e grown utf8 ends starts =
    let all : length new ≡ length old + (length sep + (length name + 2)) =
    ap length grown.bytes ∙ length-append old (sep ++ (name ++ codes "=\"")) ∙ ap (λ (n : ℕ). length old + n) (length-append sep (name ++ codes "=\"") ∙ ap (λ (n : ℕ). length sep + n) (length-append name (codes "=\""))) in
    let from : s ≡ length old + length sep = omega arith in
    let to : e ≡ length old + length sep + length name = omega arith in
    let is : between s e new ≡ name = ap (λ (t : Text). between s e t) grown.bytes ∙ ap (λ (n : ℕ). between n e (old ++ (sep ++ (name ++ codes "=\"")))) from ∙ ap (λ (n : ℕ). between (length old + length sep) n (old ++ (sep ++ (name ++ codes "=\"")))) to ∙ between_pieces old sep name (codes "=\"") in
    (record { order = omega arith; within = omega arith; utf8 = subst IsUtf8 (sym is) utf8 }, is)

-- the same after the separator that it has in a list
pub part_of_listed_name : (old new : Text) (is_first : Bool) (name : Text) (s e : ℕ) → Grown old new (name_in_list is_first name) → IsUtf8 name → e ≡ length new - 2 → s ≡ e - length name → IsPart new (record { start = s; end = e }) × (part_in new (record { start = s; end = e }) ≡ name)
part_of_listed_name old new true name = part_of_name old new [] name
part_of_listed_name old new false name = part_of_name old new (codes "\",") name

-- an item of a list of which all are so
pub all_at : {X : Type 0} (P : X → Type 0) (xs : List X) (i : ℕ) (d : X) → AllByRecursion P xs → i < length xs → P (get_or xs i d)
all_at P [] i d all within = absurd (omega arith)
all_at P (y ∷ xs) zero d all within = all.0
all_at P (y ∷ xs) (suc i) d all within = all_at P xs i d all.1 (omega arith)

pub all_from : {X : Type 0} (P : X → Type 0) (xs : List X) (i : ℕ) → AllByRecursion P xs → AllByRecursion P (drop i xs)
all_from P xs zero all = all
all_from P [] (suc i) all = tt
all_from P (x ∷ xs) (suc i) all = all_from P xs i all.1

pub names_push : (text : Text) (ps : List LabelSpan) (p : LabelSpan) → names_in text (ps ++ p ∷ []) ≡ names_in text ps ++ (label_in text p).name ∷ []
names_push text [] p = refl
names_push text (q ∷ ps) p = ap (λ (ns : List Text). (label_in text q).name ∷ ns) (names_push text ps p)

pub Contains-one : (x y : Text) → Contains (y ∷ []) x → y ≡ x
Contains-one x y (zero, within, is) = is
Contains-one x y (suc i, within, is) = absurd (omega arith)

-- a label of the list has the name
pub name_there : (text : Text) (ps : List LabelSpan) (i : ℕ) (d : LabelSpan) (name : Text) → i < length ps → (label_in text (get_or ps i d)).name ≡ name → Contains (names_in text ps) name
name_there text [] i d name within named = absurd (omega arith)
name_there text (q ∷ ps) zero d name within named = (0, omega arith, named)
name_there text (q ∷ ps) (suc i) d name within named =
    (let there = name_there text ps i d name (omega arith) named in (suc there.0, omega (arith, there.1), there.2))

-- one label more, with another name
pub name_absent : (text : Text) (ps : List LabelSpan) (i : ℕ) (d : LabelSpan) (name : Text) → i < length ps → ¬ ((label_in text (get_or ps i d)).name ≡ name) → ¬ (Contains (names_in text (take i ps)) name) → ¬ (Contains (names_in text (take (i + 1) ps)) name)
name_absent text ps i d name within other before there =
    let split : Contains (names_in text (take i ps) ++ (label_in text (get_or ps i d)).name ∷ []) name =
    subst (λ (ns : List Text). Contains ns name) (ap (names_in text) (take_more ps i d within) ∙ names_push text (take i ps) (get_or ps i d)) there in
    elim (Contains-append_cases _ _ name split) [ inl h ↦ before h | inr h ↦ other (Contains-one name _ h) ]

-- one name or value more, of the current label
pub parts_named : (old new more : Text) (ps : List LabelSpan) (n v : Option Part) (p : Part) → Grown old new more → AreParts old ps n v → IsPart new p → AreParts new ps (Some p) v
parts_named old new more ps n v p grown are is = record {
  spans = spans_grown old new more ps grown are.spans;
  name = is;
  value = some_grown old new more v grown are.value;
}

pub parts_valued : (old new more : Text) (ps : List LabelSpan) (n v : Option Part) (p : Part) → Grown old new more → AreParts old ps n v → IsPart new p → AreParts new ps n (Some p)
parts_valued old new more ps n v p grown are is = record {
  spans = spans_grown old new more ps grown are.spans;
  name = some_grown old new more n grown are.name;
  value = is;
}

-- what contracts see of labels in a text
abbrev pub shown : Text → List LabelSpan → Option Part → Option Part → LabelsState
shown text ps n v = record { labels = labels_in text ps; name = option_map (part_in text) n; value = option_map (part_in text) v }

pub shown_named : (old new more : Text) (ps : List LabelSpan) (n v : Option Part) (p : Part) (name : Text) → Grown old new more → AreParts old ps n v → part_in new p ≡ name → shown new ps (Some p) v ≡ record (shown old ps n v) { name = Some name }
shown_named old new more ps n v p name grown are is = λ i. record {
  labels = labels_grown old new more ps grown are.spans i;
  name = Some (is i);
  value = option_grown old new more v grown are.value i;
}

pub shown_valued : (old new more : Text) (ps : List LabelSpan) (n v : Option Part) (p : Part) (value : Text) → Grown old new more → AreParts old ps n v → part_in new p ≡ value → shown new ps n (Some p) ≡ record (shown old ps n v) { value = Some value }
shown_valued old new more ps n v p value grown are is = λ i. record {
  labels = labels_grown old new more ps grown are.spans i;
  name = option_grown old new more n grown are.name i;
  value = Some (is i);
}

-- the labels from an index on
pub labels_from : (text : Text) (ps : List LabelSpan) (from : ℕ) → labels_in text (take (length ps - from) (drop from ps)) ≡ drop from (labels_in text ps)
labels_from text ps from =
    ap (labels_in text) (take_all (length ps - from) (drop from ps) (let rest : length (drop from ps) ≡ length ps - from = length-drop from ps in omega arith)) ∙ sym (drop-map (label_in text) from ps)

pub if_ok_more : {T E : Type 0} (r : Result T E) (P Q : T → Type 0) → ((t : T) → P t → Q t) → IfOk r P → IfOk r Q
if_ok_more (Ok x) P Q more p = more x p
if_ok_more (Err e) P Q more p = tt

-- the labels' list

name_listed : (old new n : Text) (labels : List Label) (is_first : Bool) → is_first ≡ (length labels == 0) → new ≡ old ++ name_in_list is_first n → IsListed None None old labels → IsListed (Some n) None new labels
name_listed old new n [] true e grown is = grown ∙ ap (λ (t : Text). t ++ name_in_list true n) is
name_listed old new n [] false e grown is = absurd cc
name_listed old new n (l ∷ ls) true e grown is = absurd (grind (arith, nat_tests, e))
name_listed old new n (l ∷ ls) false e grown is =
    grown ∙ sym (append_assoc old (codes "\"" ++ codes ",") (n ++ codes "=\""))
    ∙ ap (λ (t : Text). t ++ (n ++ codes "=\"")) (sym (append_assoc old (codes "\"") (codes ",")) ∙ ap (λ (t : Text). t ++ codes ",") is)

value_listed : (old new n v : Text) (labels : List Label) → new ≡ old ++ v → escaped v ≡ v → IsListed (Some n) None old labels → IsListed (Some n) (Some v) new labels
value_listed old new n v labels grown plain is =
    grown ∙ ap (λ (t : Text). t ++ v) is ∙ append_assoc (list_before labels) (n ++ codes "=\"") v
    ∙ ap (λ (t : Text). list_before labels ++ t) (append_assoc n (codes "=\"") v)
    ∙ ap (λ (t : Text). list_before labels ++ (n ++ (codes "=\"" ++ t))) (sym plain)

closed : (n v : Text) → (n ++ (codes "=\"" ++ escaped v)) ++ codes "\"" ≡ label_text (record { name = n; value = v })
unfolding label_text
closed n v = append_assoc n (codes "=\"" ++ escaped v) (codes "\"") ∙ ap (λ (t : Text). n ++ t) (append_assoc (codes "=\"") (escaped v) (codes "\""))

end_listed : (text n v : Text) (labels : List Label) → IsListed (Some n) (Some v) text labels → IsListed None None text (labels ++ (record { name = n; value = v } ∷ []))
end_listed text n v [] is = ap (λ (t : Text). t ++ codes "\"") is ∙ closed n v
end_listed text n v (l ∷ ls) is =
    let last : Label = record { name = n; value = v } in
    let front = label_list_text (l ∷ ls) in
    ap (λ (t : Text). t ++ codes "\"") is
    ∙ append_assoc (front ++ codes ",") (n ++ (codes "=\"" ++ escaped v)) (codes "\"")
    ∙ ap (λ (t : Text). (front ++ codes ",") ++ t) (closed n v)
    ∙ append_assoc front (codes ",") (label_text last)
    ∙ ap (λ (t : Text). front ++ t) (sym (append-nil (codes "," ++ label_text last)))
    ∙ sym (list_joined (l ∷ ls) (last ∷ []) (omega arith))

-- one name more, of the current label
named_listed : (listed next : Bool) (old new name : Text) (ps : List LabelSpan) (n v : Option Part) (p : Part) (is_first : Bool) → (IsTrue next → (listed ≡ true) × (n ≡ None) × (v ≡ None)) → is_first ≡ (length ps == 0)
    → Grown old new (name_in_list is_first name) → part_in new p ≡ name → AreWithin listed old ps n v → AreListed next (Some (part_in new p)) (option_map (part_in new) v) new (labels_in new ps)
named_listed listed false old new name ps n v p is_first may e grown is held = tt
named_listed true true old new name ps None None p is_first may e grown is held =
    let base = name_listed old new name (labels_in old ps) is_first (e ∙ ap (λ (k : ℕ). k == 0) (sym (length-map ps (label_in old)))) grown.bytes held.listed in
    let same = labels_grown old new (name_in_list is_first name) ps grown held.parts.spans in
    subst (λ (x : Text). IsListed (Some x) None new (labels_in new ps)) (sym is) (subst (λ (ls : List Label). IsListed (Some name) None new ls) (sym same) base)
named_listed true true old new name ps (Some m) v p is_first may e grown is held = (let never : Some m ≡ None = (may refl).1 in absurd cc)
named_listed true true old new name ps None (Some m) p is_first may e grown is held = (let never : Some m ≡ None = (may refl).2 in absurd cc)
named_listed false true old new name ps n v p is_first may e grown is held = (let never : false ≡ true = (may refl).0 in absurd cc)

pub held_named : (listed next : Bool) (old new name : Text) (ps : List LabelSpan) (n v : Option Part) (p : Part) (is_first : Bool) → (IsTrue next → (listed ≡ true) × (n ≡ None) × (v ≡ None)) → is_first ≡ (length ps == 0)
    → Grown old new (name_in_list is_first name) → IsPart new p → part_in new p ≡ name → AreWithin listed old ps n v → AreWithin next new ps (Some p) v
held_named listed next old new name ps n v p is_first may e grown within is held = record {
  parts = parts_named old new (name_in_list is_first name) ps n v p grown held.parts within;
  listed = named_listed listed next old new name ps n v p is_first may e grown is held;
}

-- one value more
valued_listed : (listed next : Bool) (old new value : Text) (ps : List LabelSpan) (n v : Option Part) (p : Part) → (IsTrue next → (listed ≡ true) × IsSome n × (v ≡ None) × (escaped value ≡ value))
    → Grown old new value → part_in new p ≡ value → AreWithin listed old ps n v → AreListed next (option_map (part_in new) n) (Some (part_in new p)) new (labels_in new ps)
valued_listed listed false old new value ps n v p may grown is held = tt
valued_listed true true old new value ps (Some m) None p may grown is held =
    let base = value_listed old new (part_in old m) value (labels_in old ps) grown.bytes (may refl).3 held.listed in
    let same = labels_grown old new value ps grown held.parts.spans in
    let name = part_grown old new value m grown held.parts.name in
    subst (λ (x : Text). IsListed (Some (part_in new m)) (Some x) new (labels_in new ps)) (sym is)
    (subst (λ (x : Text). IsListed (Some x) (Some value) new (labels_in new ps)) (sym name) (subst (λ (ls : List Label). IsListed (Some (part_in old m)) (Some value) new ls) (sym same) base))
valued_listed true true old new value ps None v p may grown is held = (let never : IsSome {T = Part} None = (may refl).1 in absurd cc)
valued_listed true true old new value ps (Some m) (Some w) p may grown is held = (let never : Some w ≡ None = (may refl).2 in absurd cc)
valued_listed false true old new value ps n v p may grown is held = (let never : false ≡ true = (may refl).0 in absurd cc)

pub held_valued : (listed next : Bool) (old new value : Text) (ps : List LabelSpan) (n v : Option Part) (p : Part) → (IsTrue next → (listed ≡ true) × IsSome n × (v ≡ None) × (escaped value ≡ value))
    → Grown old new value → IsPart new p → part_in new p ≡ value → AreWithin listed old ps n v → AreWithin next new ps n (Some p)
held_valued listed next old new value ps n v p may grown within is held = record {
  parts = parts_valued old new value ps n v p grown held.parts within;
  listed = valued_listed listed next old new value ps n v p may grown is held;
}

-- the end of a label
ended_listed : (listed next : Bool) (text : Text) (ps : List LabelSpan) (n v : Option Part) → (IsTrue next → (listed ≡ true) × (is_some n ≡ is_some v)) → AreWithin listed text ps n v → AreListed next None None text (labels_in text (ps ++ whole_span n v))
ended_listed listed false text ps n v may held = tt
ended_listed true true text ps None None may held = subst (λ (qs : List LabelSpan). IsListed None None text (labels_in text qs)) (sym (append-nil ps)) held.listed
ended_listed true true text ps (Some n) (Some v) may held =
    subst (λ (ls : List Label). IsListed None None text ls) (sym (labels_whole text ps (Some n) (Some v))) (end_listed text (part_in text n) (part_in text v) (labels_in text ps) held.listed)
ended_listed true true text ps None (Some v) may held = (let never : false ≡ true = (may refl).1 in absurd cc)
ended_listed true true text ps (Some n) None may held = (let never : true ≡ false = (may refl).1 in absurd cc)
ended_listed false true text ps n v may held = (let never : false ≡ true = (may refl).0 in absurd cc)

pub held_ended : (listed next : Bool) (text : Text) (ps : List LabelSpan) (n v : Option Part) → (IsTrue next → (listed ≡ true) × (is_some n ≡ is_some v)) → AreWithin listed text ps n v → AreWithin next text (ps ++ whole_span n v) None None
held_ended listed next text ps n v may held = record {
  parts = record { spans = spans_whole text ps n v held.parts; name = tt; value = tt };
  listed = ended_listed listed next text ps n v may held;
}

-- a part is in order
pub part_ordered : (text : Text) (part : Option Part) → IfSome part (IsPart text) → IfSome part (λ p. p.start ≤ p.end)
part_ordered text None is = tt
part_ordered text (Some p) is = is.order

-- one more label of a text is that of a list
pub one_more_of_list : (text : Text) (ps : List LabelSpan) (list : List Label) (i : ℕ) (d : LabelSpan) (label : Label) → i < length ps → labels_in text (take i ps) ≡ take i list → slice_get list i ≡ Some label → label_in text (get_or ps i d) ≡ label → labels_in text (take (i + 1) ps) ≡ take (i + 1) list
one_more_of_list text ps list i d label within so_far there same =
    let more : take (i + 1) list ≡ take i list ++ label ∷ [] = take_more list i label (slice_get_within list i label there) ∙ ap (λ (l : Label). take i list ++ l ∷ []) (get_or_from_slice_get list i label label there) in
    ap (labels_in text) (take_more ps i d within) ∙ map-append (label_in text) (take i ps) (get_or ps i d ∷ []) ∙ ((λ j. so_far j ++ same j ∷ []) ∙ sym more)
