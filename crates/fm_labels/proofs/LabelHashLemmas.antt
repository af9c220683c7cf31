-- A block of bytes, in which values are put one after the other.
use Rattle.std.proofs.Common.{◌≡◌, ℕ, ◌<◌, ◌≤◌, ◌+◌, ◌-◌, List, [], ◌∷◌, ◌++◌, length, take, drop, set, replicate, suc, refl, sym, ap, ◌∙◌, append_assoc, arith, length-append, add-one}
use Rattle.std.proofs.lemmas.List.{append-nil, set_at, take_at, drop_at, drop-replicate}
use Rattle.std.proofs.Common.{fold, get_or, nat_le, true, false}
use Rattle.std.proofs.lemmas.Bool.Decides.{nat_tests}
use Rattle.std.specs.Str.{IsUtf8}
use Rattle.std.specs.List.{flat_map, AllByRecursion}
use Rattle.std.specs.Borrow.{Bor}
use Rattle.std.specs.Hash as hash
use Rattle.std.proofs.lemmas.Grind.{flat_map-append}
use borrow.Rule.Slice.PartMut.{put_mid}
use Rattle.fm_grammar.specs.Exposition.{Text}
use Rattle.fm_labels.specs.LabelValues.{shown_texts, ended, joined, in_block, rounded, writes_of}
use Rattle.fm_labels.specs.inside.JoinedValues.{IsBlock}
use Rattle.fm_labels.proofs.LabelValueLemmas.{joined_at, values_in-joined}

-- a list of zeros that isn't empty begins with one
zeros_more : (n m : ℕ) → n ≡ m + 1 → replicate {A = ℕ} n 0 ≡ 0 ∷ replicate {A = ℕ} m 0
zeros_more n m h = rw (h, add-one) refl

length-ended : (text value : Text) → length (text ++ ended value) ≡ length text + (length value + 1)
length-ended text value = simp length-append refl

-- a value and its end are put after the text
pub put_block : (text value block : Text) (used : ℕ) → length text ≡ used → length value < 64 - used → IsBlock text block
    → (used + length value + 1 ≡ length (text ++ ended value)) × IsBlock (text ++ ended value) (set (put_mid used (used + length value - used) block value) (used + length value) 255)
put_block text value block used at room is =
    let l = length value in let zeros = replicate {A = ℕ} (64 - length text) 0 in
    let long = length-ended text value in
    let left : take used block ≡ text = ap (take used) is.is ∙ take_at text zeros used at in
    let right : drop (used + l - used) (drop used block) ≡ replicate (64 - length text - (used + l - used)) 0 = ap (λ t. drop (used + l - used) (drop used t)) is.is ∙ ap (drop (used + l - used)) (drop_at text zeros used at) ∙ drop-replicate (used + l - used) (64 - length text) 0 in
    let rest = 64 - length (text ++ ended value) in
    let count : 64 - length text - (used + l - used) ≡ rest + 1 = omega arith in
    let whole : put_mid used (used + l - used) block value ≡ (text ++ value) ++ 0 ∷ replicate {A = ℕ} rest 0 =
    (λ j. left j ++ (value ++ right j)) ∙ ap (λ n. text ++ (value ++ replicate {A = ℕ} n 0)) count ∙ ap (λ t. text ++ (value ++ t)) (zeros_more (rest + 1) rest refl) ∙ sym (append_assoc text value (0 ∷ replicate {A = ℕ} rest 0)) in
    let seam : length (text ++ value) ≡ used + l = simp length-append (omega arith) in (
      omega arith,
      record {
        fits = omega arith;
        is = ap (λ t. set t (used + l) 255) whole ∙ set_at (text ++ value) 0 (replicate {A = ℕ} rest 0) 255 (used + l) seam ∙ append_assoc text value (255 ∷ replicate {A = ℕ} rest 0) ∙ ap (λ t. text ++ t) (sym (append_assoc value (255 ∷ []) (replicate {A = ℕ} rest 0))) ∙ sym (append_assoc text (ended value) (replicate {A = ℕ} rest 0));
      },
    )

-- the joined values are as long as those before an index and the one there, at least
pub long_at : (values : List (Bor Text)) (i : ℕ) (value : Bor Text) → i < length values
    → length (joined (shown_texts (take i values))) + (length (get_or values i value).now + 1) ≤ length (joined (shown_texts values))
long_at values i value h = rw (joined_at values i value h) (simp length-append (omega arith))

-- one value more was fed
pub fed_more : {S : Type 0} (write : S → Text → S) (start before after : S) (front : List Text) (value : Text) → before ≡ fold write start (flat_map hash.str front) → after ≡ fold write before (hash.str value)
    → after ≡ fold write start (flat_map hash.str (front ++ value ∷ []))
fed_more write start before after front value fed more =
    hash.fed_then write start before after (flat_map hash.str front) (hash.str value) fed more
    ∙ ap (fold write start) (ap (λ t. flat_map hash.str front ++ t) (sym (append-nil (hash.str value))) ∙ sym (flat_map-append hash.str front (value ∷ [])))

-- a text at the start of a block of zeros
pub block_of : (text : Text) → put_mid 0 (length text) (replicate {A = ℕ} 64 0) text ≡ in_block text
block_of text = ap (λ t. text ++ t) (drop-replicate (length text) 64 0)

-- what is fed for short texts, and for long ones
pub writes_of-short : (text : Text) → length text ≤ 64 → writes_of text ≡ take (rounded (length text)) (in_block text) ∷ []
writes_of-short text h = let short : nat_le (length text) 64 ≡ true = grind (arith, nat_tests) in rw short refl

pub writes_of-long : (values : List Text) → AllByRecursion IsUtf8 values → 64 < length (joined values) → writes_of (joined values) ≡ flat_map hash.str values
writes_of-long values texts h =
    let long : nat_le (length (joined values)) 64 ≡ false = grind (arith, nat_tests) in
    rw long (ap (flat_map hash.str) (values_in-joined values texts))
