-- A text that is written block by block.
use Rattle.std.proofs.Common.{◌≡◌, ◌<◌, ◌≤◌, ◌+◌, ℕ, suc, List, [], ◌∷◌, ◌++◌, Option, ap, sym, ◌∙◌, append_assoc, length, drop, take, get_or, slice_set, subst, arith}
use Rattle.std.proofs.Math.Seq.{drop-cons}
use Rattle.std.proofs.lemmas.List.{drop_all, append-nil, length-append, take_all, take_more_set}
use Rattle.std.proofs.lemmas.List.Folds.{concat-append}
use Rattle.std.specs.List.{concat}
use Rattle.fm_grammar.specs.Exposition.{Text, Sample}
use Rattle.fm_exposition.specs.Rows.{sample_rows}
use Rattle.fm_exposition.specs.Written.{AppendsBeginning}
use Rattle.fm_exposition.specs.inside.Writing.{AppendsAllBut}
use Rattle.fm_exposition.proofs.WrittenLemmas.{Appends-then}
use Rattle.fm_text.specs.inside.Grown.{Grown}
use Rattle.fm_writer.specs.Output.{Output, OutputSamples, OutputText, appended}

-- a beginning of the next piece is written
pub all_but_begun : (a b c : Option Text) (piece rest whole : Text) → AppendsAllBut (piece ++ rest) a b whole → AppendsBeginning b c piece → AppendsBeginning a c whole
all_but_begun a b c piece rest whole before (front, left, wrote, is) = (
  before.front ++ front,
  left ++ rest,
  Appends-then a b c before.front front before.appended wrote,
  append_assoc before.front front (left ++ rest) ∙ ap (λ (t : Text). before.front ++ t) (sym (append_assoc front left rest) ∙ ap (λ (t : Text). t ++ rest) is) ∙ before.is,
)

-- the block at i is the next one
pub next_block : (blocks : List Text) (last : Text) (i : ℕ) (block : Text) → i < length blocks → block ≡ get_or blocks i block → concat (drop i blocks) ++ last ≡ block ++ (concat (drop (i + 1) blocks) ++ last)
next_block blocks last i block within is =
    let left : drop i blocks ≡ block ∷ drop (suc i) blocks = drop-cons blocks i block within ∙ ap (λ (b : Text). b ∷ drop (suc i) blocks) (sym is) in
    let more : suc i ≡ i + 1 = omega arith in
    subst (λ (n : ℕ). concat (drop i blocks) ++ last ≡ block ++ (concat (drop n blocks) ++ last)) more (ap (λ (bs : List Text). concat bs ++ last) left ∙ append_assoc block (concat (drop (suc i) blocks)) last)

-- after all blocks the last one is left
pub last_block : (blocks : List Text) (last : Text) (i : ℕ) → length blocks ≤ i → concat (drop i blocks) ++ last ≡ last
last_block blocks last i all = ap (λ (bs : List Text). concat bs ++ last) (drop_all i blocks all)

-- a beginning of the last block is written
pub last_begun : (a b c : Option Text) (last whole : Text) → AppendsAllBut last a b whole → AppendsBeginning b c last → AppendsBeginning a c whole
last_begun a b c last whole before begun = all_but_begun a b c last [] whole (rw (append-nil last) before) begun

-- the last block becomes a full one, and an empty one the last

moved : (full : List Text) (last next : Text) → next ≡ [] → concat (full ++ last ∷ []) ++ next ≡ concat full ++ last
moved full last next none = rw (none, concat-append full (last ∷ [])) (append-nil (concat full ++ concat (last ∷ [])) ∙ ap (λ t. concat full ++ t) (append-nil last))

-- in the place of a block that another text left
pub spare_taken : (blocks : List Text) (n : ℕ) (last next : Text) → n < length blocks → next ≡ [] → concat (take (n + 1) (slice_set blocks n last)) ++ next ≡ concat (take n blocks) ++ last
spare_taken blocks n last next within none = ap (λ (bs : List Text). concat bs ++ next) (take_more_set blocks n last within) ∙ moved (take n blocks) last next none

-- behind all others
pub block_added : (blocks : List Text) (n : ℕ) (last next : Text) → length blocks ≤ n → next ≡ [] → concat (take (n + 1) (blocks ++ last ∷ [])) ++ next ≡ concat (take n blocks) ++ last
block_added blocks n last next past none =
    let all : length (blocks ++ last ∷ []) ≤ n + 1 = omega (arith, length-append blocks (last ∷ []), past) in
    ap (λ (bs : List Text). concat bs ++ next) (take_all (n + 1) (blocks ++ last ∷ []) all)
    ∙ moved blocks last next none ∙ ap (λ (bs : List Text). concat bs ++ last) (sym (take_all n blocks past))

-- an output whose text comes after another one
abbrev prefixed : Text → Output → Output
prefixed front (OutputSamples samples) = OutputSamples samples
prefixed front (OutputText text) = OutputText (front ++ text)

-- a line that is appended to the last block is appended to the text
pub row_in_blocks : (name : Text) (samples : List Sample) (front last new : Text) → OutputText new ≡ appended name (OutputText last) samples → OutputText (front ++ new) ≡ appended name (OutputText (front ++ last)) samples
row_in_blocks name samples front last new is = ap (prefixed front) is ∙ ap OutputText (sym (append_assoc front last (sample_rows name samples)))

-- what is appended to the last block is appended to the text
pub grown_in_blocks : (front last new piece : Text) → Grown last new piece → Grown (front ++ last) (front ++ new) piece
grown_in_blocks front last new piece grown = record { bytes = ap (λ (t : Text). front ++ t) grown.bytes ∙ sym (append_assoc front last piece) }
