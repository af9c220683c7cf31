-- Joined values: no text has the byte after each, so they can be told apart again.
use Rattle.std.proofs.Common.{◌≡◌, ℕ, ◌<◌, ◌≤◌, ◌+◌, ◌-◌, ◌/◌, ◌%◌, Bool, true, false, nat_eq, List, [], ◌∷◌, ◌++◌, length, take, drop, get_or, map, refl, sym, ap, ◌∙◌, append_assoc, arith, cond, subst, drop_of_length-le, slice_get, Some, None, zero, suc, add-one, not, true≢false, ◌==◌, ◌↔◌, IsTrue}
use Rattle.std.proofs.Math.Seq.{take-length, take-append_seam}
use Rattle.std.proofs.lemmas.Grind.{flat_map-append}
use Rattle.std.specs.Borrow.{Bor}
use Rattle.std.proofs.lemmas.List.{append-nil, take_more, drop_more, take-append-drop, length-drop, map-append, append_cancel_left}
use Rattle.std.specs.List.{AllByRecursion}
use Rattle.std.specs.Str.{IsUtf8, bytes_eq}
use Rattle.std.specs.Cmp.Lexicographic.{bytes_decides}
use Rattle.fm_grammar.specs.Exposition.{Text}
use Rattle.fm_labels.specs.LabelValues.{shown_texts, ended, joined, values_after, values_in}
use Rattle.fm_labels.specs.inside.JoinedValues.{AreJoined, IsOnlyValue}
use lib.Utf8.{encode, encodes, scalar, scalars, next, scalar_cases}
use Rattle.std.specs.Cmp.{first_so, second_so}
use mathlib.Core.Logic.{⊎_elim}
use native.Mathlib.Nat.{lt_trans}
use lib.Dec.{T, ltb, ltb→lt, lit<}
use Rattle.std.proofs.lemmas.Bool.Decides.{nat_tests}

-- a byte that no value ends with
abbrev pub IsNoEnd : ℕ → Type 0
IsNoEnd c = nat_eq c 255 ≡ false

low : (c : ℕ) → c < 255 → IsNoEnd c
low c h = grind (arith, nat_tests)

-- what holds of both choices
chosen : (P : Text → Type 0) (b : Bool) (xs ys : Text) → (b ≡ true → P xs) → (b ≡ false → P ys) → P (cond b xs ys)
chosen P true xs ys f g = f refl
chosen P false xs ys f g = g refl

next_low : (bits : ℕ) → IsNoEnd (next bits)
next_low bits = low (next bits) (omega arith)

-- no byte of a character is the end of a value
encode_low : (c : ℕ) → c < 1114112 → AllByRecursion IsNoEnd (encode c)
unfolding encode
encode_low c h =
    chosen (AllByRecursion IsNoEnd) (ltb c 128) _ _
    (λ t. let l : c < 128 = ltb→lt c 128 (subst T (sym t) tt) in (low c (omega arith), tt))
    (λ f. chosen (AllByRecursion IsNoEnd) (ltb c 2048) _ _
    (λ t. let l : c < 2048 = ltb→lt c 2048 (subst T (sym t) tt) in (low (192 + c / 64) (omega arith), (next_low c, tt)))
    (λ f2. chosen (AllByRecursion IsNoEnd) (ltb c 65536) _ _
    (λ t. let l : c < 65536 = ltb→lt c 65536 (subst T (sym t) tt) in (low (224 + c / 4096) (omega arith), (next_low (c / 64), (next_low c, tt))))
    (λ f3. (low (240 + c / 262144) (omega arith), (next_low (c / 4096), (next_low (c / 64), (next_low c, tt)))))))

both_low : (xs ys : Text) → AllByRecursion IsNoEnd xs → AllByRecursion IsNoEnd ys → AllByRecursion IsNoEnd (xs ++ ys)
both_low [] ys low rest = rest
both_low (x ∷ xs) ys low rest = (low.0, both_low xs ys low.1 rest)

encodes_low : (cs : List ℕ) → scalars cs ≡ true → AllByRecursion IsNoEnd (encodes cs)
encodes_low [] h = tt
encodes_low (c ∷ cs) h =
    let below : c < 1114112 = ⊎_elim (λ l. lt_trans l (lit< tt)) (λ l. l.1) (scalar_cases c (first_so (scalar c) (scalars cs) h)) in
    both_low (encode c) (encodes cs) (encode_low c below) (encodes_low cs (second_so (scalar c) (scalars cs) h))

-- no byte of a text is the end of a value
pub text_low : (text : Text) → IsUtf8 text → AllByRecursion IsNoEnd text
text_low text (cs, (all, is)) = subst (AllByRecursion IsNoEnd) is (encodes_low cs all)

-- the values of joined values are the same
pub values_after-ended : (front value rest : Text) → AllByRecursion IsNoEnd value → values_after front (value ++ 255 ∷ rest) ≡ (front ++ value) ∷ values_in rest
values_after-ended front [] rest clear = ap (λ t. t ∷ values_in rest) (sym (append-nil front))
values_after-ended front (c ∷ value) rest (clear, more) =
    rw clear (values_after-ended (front ++ c ∷ []) value rest more ∙ ap (λ t. t ∷ values_in rest) (append_assoc front (c ∷ []) value))

-- a byte before the end of the first value
pub skips : (bytes : Text) (i : ℕ) → i < length bytes → (get_or bytes i 0 ≡ 255 → ⊥) → values_after (take i bytes) (drop i bytes) ≡ values_after (take (i + 1) bytes) (drop (i + 1) bytes)
skips bytes i h other = let clear : IsNoEnd (get_or bytes i 0) = grind (arith, nat_tests) in rw (drop_more bytes i 0 h, take_more bytes i 0 h, clear) refl

-- the end of the first value
pub ends : (bytes : Text) (i : ℕ) → i < length bytes → nat_eq (get_or bytes i 0) 255 ≡ true → values_after (take i bytes) (drop i bytes) ≡ take i bytes ∷ values_in (drop (i + 1) bytes)
ends bytes i h end = rw (drop_more bytes i 0 h, end) refl

take_rest : (bytes : Text) (i : ℕ) → take (length bytes - i) (drop i bytes) ≡ drop i bytes
take_rest bytes i = rw (← length-drop i bytes) (take-length (drop i bytes))

-- the bytes up to an end, and those after it
pub cut : (bytes : Text) (i : ℕ) → i < length bytes → get_or bytes i 0 ≡ 255 → bytes ≡ ended (take i bytes) ++ take (length bytes - (i + 1)) (drop (i + 1) bytes)
cut bytes i h end =
    sym (take-append-drop i bytes) ∙ ap (λ t. take i bytes ++ t) (drop_more bytes i 0 h ∙ (λ j. end j ∷ drop (i + 1) bytes)) ∙ sym (append_assoc (take i bytes) (255 ∷ []) (drop (i + 1) bytes)) ∙ ap (λ t. ended (take i bytes) ++ t) (sym (take_rest bytes (i + 1)))

-- bytes that begin with a value and its end
pub begins : (bytes value : Text) → length value < length bytes → get_or bytes (length value) 0 ≡ 255 → take (length value) bytes ≡ value → bytes ≡ ended value ++ take (length bytes - (length value + 1)) (drop (length value + 1) bytes)
begins bytes value h end same = cut bytes (length value) h end ∙ ap (λ t. ended t ++ take (length bytes - (length value + 1)) (drop (length value + 1) bytes)) same

pub begins_not : (bytes value : Text) → (take (length value) bytes ≡ value → ⊥) → (rest : Text) → bytes ≡ ended value ++ rest → ⊥
begins_not bytes value differs rest is = differs (ap (take (length value)) (is ∙ append_assoc value (255 ∷ []) rest) ∙ take-append_seam value (255 ∷ rest))

-- what is left where the first value ends
pub first_value : (bytes : Text) (i : ℕ) → i < length bytes → get_or bytes i 0 ≡ 255 → values_after (take i bytes) (drop i bytes) ≡ values_in bytes
    → (bytes ≡ ended (take i bytes) ++ take (length bytes - (i + 1)) (drop (i + 1) bytes)) × (values_in bytes ≡ take i bytes ∷ values_in (take (length bytes - (i + 1)) (drop (i + 1) bytes)))
first_value bytes i h end before =
    (cut bytes i h end, sym before ∙ ends bytes i h (ap (λ n. nat_eq n 255) end) ∙ ap (λ t. take i bytes ∷ values_in t) (sym (take_rest bytes (i + 1))))

-- no value ends
pub none_left : (bytes : Text) (i : ℕ) → length bytes ≤ i → values_after (take i bytes) (drop i bytes) ≡ values_in bytes → values_in bytes ≡ []
none_left bytes i h before = sym before ∙ ap (values_after (take i bytes)) (drop_of_length-le bytes h)

-- one value more
pub joined-more : (front : List Text) (value : Text) → joined (front ++ value ∷ []) ≡ (joined front ++ value) ++ 255 ∷ []
joined-more front value = flat_map-append ended front (value ∷ []) ∙ ap (λ t. joined front ++ t) (append-nil (ended value)) ∙ sym (append_assoc (joined front) value (255 ∷ []))

pub texts_more : (P : Text → Type 0) (front : List Text) (value : Text) → AllByRecursion P front → P value → AllByRecursion P (front ++ value ∷ [])
texts_more P [] value all one = (one, tt)
texts_more P (text ∷ front) value all one = (all.0, texts_more P front value all.1 one)

-- the texts that are borrowed up to the next
pub shown_more : (values : List (Bor Text)) (i : ℕ) (value : Bor Text) → i < length values → shown_texts (take (i + 1) values) ≡ shown_texts (take i values) ++ (get_or values i value).now ∷ []
shown_more values i value h = ap shown_texts (take_more values i value h) ∙ map-append (λ (text : Bor Text). text.now) (take i values) (get_or values i value ∷ [])

-- all of the values
pub shown_all : (values : List (Bor Text)) (i : ℕ) → i ≡ length values → shown_texts (take i values) ≡ shown_texts values
shown_all values i h = rw h (ap shown_texts (take-length values))

-- joined texts are told apart again
pub values_in-joined : (values : List Text) → AllByRecursion IsUtf8 values → values_in (joined values) ≡ values
values_in-joined [] texts = refl
values_in-joined (value ∷ values) texts =
    ap values_in (append_assoc value (255 ∷ []) (joined values)) ∙ values_after-ended [] value (joined values) (text_low value texts.0) ∙ ap (λ t. value ∷ t) (values_in-joined values texts.1)

pub AreJoined-joined : (values : List Text) → AllByRecursion IsUtf8 values → AreJoined (joined values)
AreJoined-joined values texts = let same = values_in-joined values texts in record { is = ap joined same; utf8 = rw same texts }

-- the value at an index, from what is left there
pub get_left : (values rest : List Text) (i : ℕ) (value : Text) → drop i values ≡ value ∷ rest → slice_get values i ≡ Some value
get_left [] rest zero value is = cc
get_left [] rest (suc i) value is = cc
get_left (v ∷ values) rest zero value is = cc
get_left (v ∷ values) rest (suc i) value is = get_left values rest i value is

pub get_none : (values : List Text) (i j : ℕ) → drop i values ≡ [] → i ≤ j → slice_get values j ≡ None
get_none [] i j is h = refl
get_none (v ∷ values) zero j is h = cc
get_none (v ∷ values) (suc i) zero is h = absurd (omega arith)
get_none (v ∷ values) (suc i) (suc j) is h = get_none values i j is (omega arith)

pub next_left : (values rest : List Text) (i : ℕ) (value : Text) → drop i values ≡ value ∷ rest → drop (i + 1) values ≡ rest
next_left values rest i value is = rw add-one (by values i is)
  where
    by : (values : List Text) (i : ℕ) → drop i values ≡ value ∷ rest → drop (suc i) values ≡ rest
    by [] zero is = cc
    by [] (suc i) is = cc
    by (v ∷ values) zero is = cc
    by (v ∷ values) (suc i) is = by values i is

pub text_left : (P : Text → Type 0) (values rest : List Text) (i : ℕ) (value : Text) → AllByRecursion P values → drop i values ≡ value ∷ rest → P value
text_left P [] rest zero value all is = absurd cc
text_left P [] rest (suc i) value all is = absurd cc
text_left P (v ∷ values) rest zero value all is = let same : v ≡ value = cc in subst P same all.0
text_left P (v ∷ values) rest (suc i) value all is = text_left P values rest i value all.1 is

-- joined values, the one at an index among them
pub joined_at : (values : List (Bor Text)) (i : ℕ) (value : Bor Text) → i < length values
    → joined (shown_texts values) ≡ joined (shown_texts (take i values)) ++ (ended (get_or values i value).now ++ joined (shown_texts (drop (i + 1) values)))
joined_at values i value h =
    ap (λ (t : List (Bor Text)). joined (shown_texts t)) (sym (take-append-drop i values))
    ∙ ap joined (map-append (λ (text : Bor Text). text.now) (take i values) (drop i values))
    ∙ flat_map-append ended (shown_texts (take i values)) (shown_texts (drop i values))
    ∙ ap (λ (t : List (Bor Text)). joined (shown_texts (take i values)) ++ joined (shown_texts t)) (drop_more values i value h)

-- where bytes aren't the joined values: not the value at an index is next
pub differs_at : (values : List (Bor Text)) (i : ℕ) (value : Bor Text) (bytes rest : Text) → i < length values → bytes ≡ joined (shown_texts (take i values)) ++ rest
    → ((back : Text) → rest ≡ ended (get_or values i value).now ++ back → ⊥) → joined (shown_texts values) ≡ bytes → ⊥
differs_at values i value bytes rest h is other same =
    other (joined (shown_texts (drop (i + 1) values))) (append_cancel_left (joined (shown_texts (take i values))) rest _ (sym is ∙ sym same ∙ joined_at values i value h))

-- where it is next
pub same_at : (values : List (Bor Text)) (i : ℕ) (value : Bor Text) (bytes rest after : Text) → i < length values → bytes ≡ joined (shown_texts (take i values)) ++ rest
    → rest ≡ ended (get_or values i value).now ++ after → bytes ≡ joined (shown_texts (take (i + 1) values)) ++ after
same_at values i value bytes rest after h is next =
    let v = (get_or values i value).now in let front = joined (shown_texts (take i values)) in
    is ∙ ap (λ t. front ++ t) next ∙ sym (append_assoc front (ended v) after)
    ∙ ap (λ t. t ++ after) (sym (append_assoc front v (255 ∷ [])) ∙ sym (ap joined (shown_more values i value h) ∙ joined-more (shown_texts (take i values)) v))

-- all values are joined, and nothing is left, or something
pub same_all : (values : List (Bor Text)) (i : ℕ) (bytes rest : Text) → i ≡ length values → bytes ≡ joined (shown_texts (take i values)) ++ rest
    → bytes ≡ joined (shown_texts values) ++ rest
same_all values i bytes rest all is = is ∙ ap (λ t. joined t ++ rest) (shown_all values i all)

pub nothing_left : (front bytes rest : Text) (b : Bool) → b ≡ (length rest == 0) → bytes ≡ front ++ rest → IsTrue b ↔ (front ≡ bytes)
nothing_left front bytes [] b is whole = (λ t. sym (whole ∙ append-nil front), λ same. is)
nothing_left front bytes (x ∷ rest) b is whole =
    (λ t. let zero_left : (length (x ∷ rest) == 0) ≡ true = sym is ∙ t in absurd (grind (arith, nat_tests)), λ same. let none : (x ∷ rest) ≡ [] = append_cancel_left front (x ∷ rest) [] (sym whole ∙ sym same ∙ sym (append-nil front)) in cc)

-- what `!=` of bytes says
pub same_bytes : (x y : Text) → false ≡ not (bytes_eq x y) → x ≡ y
same_bytes x y h = (bytes_decides x y).0 (by (bytes_eq x y) h)
  where
    by : (b : Bool) → false ≡ not b → b ≡ true
    by true h = refl
    by false h = cc

pub other_bytes : (x y : Text) → true ≡ not (bytes_eq x y) → x ≡ y → ⊥
other_bytes x y h same = true≢false (h ∙ ap not ((bytes_decides x y).1 same))

-- what is left of joined values after the first of them
pub joined_rest : (bytes value rest : Text) → bytes ≡ ended value ++ rest → values_in bytes ≡ value ∷ values_in rest → joined (values_in bytes) ≡ bytes → joined (values_in rest) ≡ rest
joined_rest bytes value rest is next all = append_cancel_left (ended value) (joined (values_in rest)) rest (sym (ap joined next) ∙ all ∙ is)

only_of : (left : List Text) (bytes : Text) → length left ≡ 1 → values_in bytes ≡ left → joined (values_in bytes) ≡ bytes → IsOnlyValue bytes
only_of [] bytes one rest all = absurd (omega (arith, one))
only_of (value ∷ []) bytes one rest all = record { value = value; only = rest; is = sym all ∙ ap joined rest ∙ append-nil (ended value) }
only_of (value ∷ other ∷ more) bytes one rest all = absurd (omega (arith, one))

-- the last of the values is the only one that is left
pub only_value : (values : List Text) (bytes : Text) (i : ℕ) → i + 1 ≡ length values → values_in bytes ≡ drop i values → joined (values_in bytes) ≡ bytes → IsOnlyValue bytes
only_value values bytes i last rest all = only_of (drop i values) bytes (let l : length (drop i values) ≡ length values - i = length-drop i values in omega arith) rest all
