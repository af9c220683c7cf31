-- Sample lines.
use Rattle.std.proofs.Common.{◌≡◌, ◌≢◌, ℕ, ◌⊎◌, inl, inr, List, [], ◌∷◌, ◌++◌, get_or, refl, sym, ap, subst, ◌∙◌, arith, Some, None}
use Rattle.std.specs.List.{All, Contains}
use Rattle.std.proofs.lemmas.List.{append_cancel_left}
use Rattle.std.proofs.lemmas.List.Elements.{All-contains}
use Rattle.fm_grammar.specs.declared.MetricType.{MetricType}
use Rattle.fm_grammar.specs.declared.SampleKind.{SampleKind}
use Rattle.fm_grammar.specs.Exposition.{Text, Label, Sample}
use Rattle.fm_grammar.specs.Kinds.{suffix_of}
use Rattle.fm_grammar.specs.WellFormed.{kinds_of, IsSample}
use Rattle.fm_grammar.specs.Spelling.{label_block_text, sample_line}
use Rattle.fm_grammar.specs.Document.{IsSampleLine}
use Rattle.fm_grammar.proofs.Runs.{Stops, one_run}
use Rattle.fm_grammar.proofs.Words.{IsWordByte, suffix_bytes, one_suffix}
use Rattle.fm_grammar.proofs.Labels.{braces_then}
use Rattle.fm_grammar.proofs.Spellings.{sample_spelling, is_sample}
use Rattle.fm_reader.specs.inside.Lines.{FoundSample}
use Rattle.fm_reader.specs.inside.Parts.{EndsName, IsAfterSuffix, IsKindFront, IsBlockFront, Shown, shown_text, MayShow, FoundShown}
use Rattle.fm_reader.proofs.Blocks.{one_block_front}

-- suffixes

pub first_is : (text : Text) (byte : ℕ) → byte ≢ 0 → get_or text 0 0 ≡ byte → (rest : Text) × (text ≡ byte ∷ rest)
first_is [] byte some e = absurd (some (sym e))
first_is (x ∷ text) byte some e = (text, ap (λ b. b ∷ text) e)

pub ends_first : (text : Text) → EndsName text → (get_or text 0 0 ≡ 123) ⊎ (get_or text 0 0 ≡ 32)
ends_first [] h = absurd h
ends_first (byte ∷ text) h = h

pub first_ends : (text : Text) → (get_or text 0 0 ≡ 123) ⊎ (get_or text 0 0 ≡ 32) → EndsName text
first_ends [] (inl e) = absurd (omega (arith, e))
first_ends [] (inr e) = absurd (omega (arith, e))
first_ends (byte ∷ text) h = h

-- a suffix ends there
ends_stop : (text : Text) → EndsName text → Stops IsWordByte text
ends_stop [] h = tt
ends_stop (byte ∷ text) (inl e) = λ d. omega arith
ends_stop (byte ∷ text) (inr e) = λ d. omega arith

pub not_after : (kind : SampleKind) (text rest : Text) → text ≡ suffix_of kind ++ rest → (EndsName rest → ⊥) → IsAfterSuffix kind text None
not_after kind text rest cut bad = λ other ends e. bad (subst EndsName (append_cancel_left (suffix_of kind) other rest (sym e ∙ cut)) ends)

-- no kind of the type fits
pub no_kind : (metric_type : MetricType) (kinds : List SampleKind) (text : Text) → kinds ≡ kinds_of metric_type → All (λ kind. IsAfterSuffix kind text None) kinds → IsKindFront metric_type text None
no_kind metric_type kinds text are none = λ kind rest has ends e.
    All-contains (λ k. IsAfterSuffix k text None) kinds kind none (subst (λ ks. Contains ks kind) (sym are) has) rest ends e

pub kind_found : (metric_type : MetricType) (kinds : List SampleKind) (text : Text) (kind : SampleKind) (rest : Text) → kinds ≡ kinds_of metric_type → Contains kinds kind → IsAfterSuffix kind text (Some rest) → IsKindFront metric_type text (Some (kind, rest))
kind_found metric_type kinds text kind rest are has found = (subst (λ ks. Contains ks kind) are has, found.0, found.1)

one_kind : (metric_type : MetricType) (text : Text) (kind other : SampleKind) (rest after : Text) → IsKindFront metric_type text (Some (kind, rest)) → EndsName after → text ≡ suffix_of other ++ after → (kind ≡ other) × (rest ≡ after)
one_kind metric_type text kind other rest after found ends e =
    let r = one_run IsWordByte (suffix_of kind) (suffix_of other) rest after (suffix_bytes kind) (suffix_bytes other) (ends_stop rest found.1) (ends_stop after ends) (sym found.2 ∙ e) in
    (one_suffix kind other r.0, r.1)

-- what comes in a line after the name

shown_part : Sample → Shown
shown_part sample = record { value = sample.value; time = sample.time; exemplar = sample.exemplar }

block_part : Sample → Text
block_part sample = label_block_text sample.labels ++ (32 ∷ shown_text (shown_part sample))

may_show : (metric_type : MetricType) (sample : Sample) → IsSample metric_type sample → MayShow sample.kind (shown_part sample)
unfolding shown_part
may_show metric_type sample h = record { suits = h.suits; value = h.value; time = h.time; allowed = h.allowed; exemplar = h.exemplar }

line_is : (name : Text) (sample : Sample) → sample_line name sample ≡ name ++ (suffix_of sample.kind ++ block_part sample)
unfolding sample_line block_part shown_part
line_is name sample = refl

block_ends : (labels : List Label) (rest : Text) → EndsName (label_block_text labels ++ (32 ∷ rest))
block_ends [] rest = inr refl
block_ends (label ∷ labels) rest = subst EndsName (sym (braces_then (label ∷ labels) (32 ∷ rest))) (inl refl)

part_ends : (sample : Sample) → EndsName (block_part sample)
unfolding block_part
part_ends sample = block_ends sample.labels (shown_text (shown_part sample))

rest_of_name : (line name : Text) (sample : Sample) → IsSampleLine line name sample → line ≡ name ++ (suffix_of sample.kind ++ block_part sample)
rest_of_name line name sample h = sample_spelling line name sample h ∙ line_is name sample

pub other_name : (line name : Text) (metric_type : MetricType) → ((rest : Text) → line ≢ name ++ rest) → FoundSample line name metric_type None
other_name line name metric_type none = λ sample is h. none _ (rest_of_name line name sample is)

after_is : (line name after : Text) (sample : Sample) → line ≡ name ++ after → IsSampleLine line name sample → after ≡ suffix_of sample.kind ++ block_part sample
after_is line name after sample cut is = append_cancel_left name after (suffix_of sample.kind ++ block_part sample) (sym cut ∙ rest_of_name line name sample is)

pub other_kind : (line name after : Text) (metric_type : MetricType) → line ≡ name ++ after → IsKindFront metric_type after None → FoundSample line name metric_type None
other_kind line name after metric_type cut none = λ sample is h. none sample.kind (block_part sample) h.kind (part_ends sample) (after_is line name after sample cut is)

kind_parts : (line name after block : Text) (metric_type : MetricType) (kind : SampleKind) (sample : Sample) → line ≡ name ++ after → IsKindFront metric_type after (Some (kind, block)) → IsSampleLine line name sample → (kind ≡ sample.kind) × (block ≡ label_block_text sample.labels ++ (32 ∷ shown_text (shown_part sample)))
unfolding block_part
kind_parts line name after block metric_type kind sample cut found is = one_kind metric_type after kind sample.kind block (block_part sample) found (part_ends sample) (after_is line name after sample cut is)

pub other_block : (line name after block : Text) (metric_type : MetricType) (kind : SampleKind) → line ≡ name ++ after → IsKindFront metric_type after (Some (kind, block)) → IsBlockFront block None → FoundSample line name metric_type None
other_block line name after block metric_type kind cut found none = λ sample is h.
    none sample.labels (shown_text (shown_part sample)) h.labels (kind_parts line name after block metric_type kind sample cut found is).1

pub other_values : (line name after block text : Text) (metric_type : MetricType) (kind : SampleKind) (labels : List Label) → line ≡ name ++ after → IsKindFront metric_type after (Some (kind, block)) → IsBlockFront block (Some (labels, text)) → FoundShown kind text None → FoundSample line name metric_type None
other_values line name after block text metric_type kind labels cut found front none = λ sample is h.
    let k = kind_parts line name after block metric_type kind sample cut found is in
    none (shown_part sample) (subst (λ x. MayShow x (shown_part sample)) (sym k.0) (may_show metric_type sample h))
    (one_block_front block labels sample.labels text (shown_text (shown_part sample)) front h.labels k.1).1

pub sample_found : (line name after block text : Text) (metric_type : MetricType) (kind : SampleKind) (labels : List Label) (shown : Shown) → line ≡ name ++ after → IsKindFront metric_type after (Some (kind, block)) → IsBlockFront block (Some (labels, text)) → FoundShown kind text (Some shown)
    → FoundSample line name metric_type (Some (record { kind = kind; labels = labels; value = shown.value; time = shown.time; exemplar = shown.exemplar }))
unfolding block_part shown_part
sample_found line name after block text metric_type kind labels shown cut found front values =
    let sample : Sample = record { kind = kind; labels = labels; value = shown.value; time = shown.time; exemplar = shown.exemplar } in
    let whole : line ≡ sample_line name sample = cut ∙ ap (λ z. name ++ z) (found.2 ∙ ap (λ z. suffix_of kind ++ z) (front.1 ∙ ap (λ z. label_block_text labels ++ (32 ∷ z)) values.1)) ∙ sym (line_is name sample) in (
      subst (λ l. IsSampleLine l name sample) (sym whole) (is_sample name sample),
      record { kind = found.0; labels = front.0; suits = values.0.suits; value = values.0.value; time = values.0.time; allowed = values.0.allowed; exemplar = values.0.exemplar },
    )
