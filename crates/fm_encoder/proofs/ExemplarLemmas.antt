-- The exemplars that a source of exemplars emits.
use Rattle.std.proofs.Common.{◌≡◌, ◌≤◌, ◌^◌, ℤ, pos, negsuc, List, [], ◌∷◌, ◌++◌, map, length, Contains, Option, Some, None, IfSome, Err, ◌⊎◌, inl, inr, refl, sym, subst, ap, ◌∙◌, arith, append-nil}
use Rattle.std.proofs.lemmas.Int.{ints}
use Rattle.std.specs.Option.{option_to_list}
use Rattle.std.specs.List.{AllByRecursion}
use Rattle.std.proofs.lemmas.List.{length-map}
use Rattle.fm_grammar.specs.declared.MetricType.{MetricType}
use Rattle.fm_grammar.specs.declared.MetricType.TheVariants.{Unknown}
use Rattle.fm_grammar.specs.Exposition.{Exemplar, Label}
use Rattle.fm_grammar.specs.WellFormed.{IsBetween, AreMillis, IsExemplar, label_code_points}
use Rattle.fm_raw.specs.declared.encode_error.EncodeError.{EncodeError}
use Rattle.fm_raw.specs.declared.encode_error.EncodeError.TheVariants.{ExemplarTwice}
use Rattle.fm_raw.specs.Signed.{IsSigned}
use Rattle.fm_labels.specs.Labels.{EmittedLabel, LabelValid, LabelsValid, NamePiece, ValuePiece, written, all_written, emitted_again}
use Rattle.fm_encoder.specs.Gathered.{GatheredExemplars}
use Rattle.fm_labels.specs.Refusals.{OwnRefusal}
use Rattle.fm_encoder.specs.Emits.{EmitsExemplars}
use Rattle.fm_labels.proofs.NameLemmas.{AreLabels-written}
use Rattle.fm_encoder.specs.Points.{EmittedExemplar, ExemplarPartsValid, ExemplarPartsFault, ExemplarValid, ExemplarFault, written_as, written_exemplar}

-- an encoder keeps at most one exemplar
pub exemplars_valid : (slot : Option Exemplar) (exemplars : List EmittedExemplar) → option_to_list slot ≡ map written_as exemplars → AllByRecursion ExemplarPartsValid exemplars → ExemplarValid exemplars × (slot ≡ written_exemplar exemplars)
exemplars_valid None [] is valid = (inl refl, refl)
exemplars_valid None (x ∷ exemplars) is valid = absurd cc
exemplars_valid (Some e) [] is valid = absurd cc
exemplars_valid (Some e) (x ∷ []) is valid = (inr (x, refl, valid.0), cc)
exemplars_valid (Some e) (x ∷ y ∷ exemplars) is valid = absurd cc

pub exemplars_fault : (k : EncodeError) (exemplars : List EmittedExemplar) → ((k ≡ ExemplarTwice) × (2 ≤ length (map written_as exemplars))) ⊎ ((exemplar : EmittedExemplar) × Contains exemplars exemplar × ExemplarPartsFault k exemplar) → ExemplarFault k exemplars
exemplars_fault k exemplars (inl (is, twice)) = inl (is, omega (arith, twice, length-map exemplars written_as))
exemplars_fault k exemplars (inr one) = inr one

-- valid labels are valid again as they are written
pub LabelsValid-again : (type : MetricType) (before : List Label) (labels : List EmittedLabel) → LabelsValid type before labels → LabelsValid type before (emitted_again (all_written labels))
LabelsValid-again type before [] valid = tt
LabelsValid-again type before (label ∷ labels) (inl none, valid) =
    subst (λ (l : EmittedLabel). LabelsValid type before (emitted_again (written l ++ all_written labels))) (sym none)
    (LabelsValid-again type before labels (subst (λ (ls : List Label). LabelsValid type ls labels) (append-nil before) (subst (λ (l : EmittedLabel). LabelsValid type (before ++ written l) labels) none valid)))
LabelsValid-again type before (label ∷ labels) (inr (name, text, is, fits), valid) =
    subst (λ (l : EmittedLabel). LabelsValid type before (emitted_again (written l ++ all_written labels))) (sym is)
    (inr (name, text, refl, fits), LabelsValid-again type (before ++ record { name = name; value = text } ∷ []) labels (subst (λ (l : EmittedLabel). LabelsValid type (before ++ written l) labels) is valid))

-- an exemplar of valid labels that are not too many, of a value and of a time
pub exemplar_whole : (emitted : EmittedExemplar) (labels : List Label) (made : Exemplar) → LabelsValid Unknown [] emitted.labels → labels ≡ all_written emitted.labels → label_code_points labels ≤ 128 → IsBetween (2 ^ 63) (2 ^ 63) emitted.value → IfSome emitted.time AreMillis → made ≡ record { labels = labels; value = emitted.value; time = emitted.time } → ExemplarPartsValid emitted × (made ≡ written_as emitted) × IsExemplar made
exemplar_whole emitted labels made valid are short value time is =
    let same : made ≡ written_as emitted = is ∙ ap (λ (ls : List Label). record { labels = ls; value = emitted.value; time = emitted.time }) are in
    let few : label_code_points (all_written emitted.labels) ≤ 128 = subst (λ (ls : List Label). label_code_points ls ≤ 128) are short in
    ((valid, few), same, subst IsExemplar (sym same) (record { labels = AreLabels-written Unknown emitted.labels valid; short = few; value = value; time = time }))

-- an encoder that refused what was emitted, if nothing was refused before
pub EmitsExemplars-refused : (emitted : EmittedExemplar) (F : Type 0) (k : EncodeError) (old new : GatheredExemplars) → old.refused ≡ None → new.refused ≡ Some k → OwnRefusal F k ⊎ ExemplarPartsFault k emitted → EmitsExemplars (emitted ∷ []) F old new (Err k)
EmitsExemplars-refused emitted F k old new accepting refused fault = record {
  kept = λ j e. absurd cc;
  valid = λ o n r. absurd cc;
  emitted = λ o n r. absurd cc;
  own = λ e n r. absurd cc;
  refused = λ j o n.
      (let same : k ≡ j = cc in
      subst (λ (i : EncodeError). OwnRefusal F i ⊎ (((i ≡ ExemplarTwice) × (2 ≤ length (old.exemplars ++ written_as emitted ∷ []))) ⊎ ((exemplar : EmittedExemplar) × Contains (emitted ∷ []) exemplar × ExemplarPartsFault i exemplar))) same
      (elim fault [ inl own ↦ inl own | inr parts ↦ inr (inr (emitted, (0, omega arith, refl), parts)) ]));
}

-- the millionths of an exemplar's value are in range
pub between_of_signed : (z : ℤ) → IsSigned 63 z → IsBetween (2 ^ 63) (2 ^ 63) z
between_of_signed (pos n) signed = omega (arith, ints, signed.0, signed.1)
between_of_signed (negsuc n) signed = omega (arith, ints, signed.0, signed.1)
