-- Labels that are valid where no name is reserved, and have no name that some type reserves, are valid in a family of any type. Valid
-- labels are also valid after labels with other names.
use Rattle.std.proofs.Common.{◌≡◌, List, [], ◌∷◌, ◌++◌, inl, inr, refl, sym, ap, subst, append_assoc, append-nil, arith, Contains}
use Rattle.std.specs.List.{Any}
use Rattle.std.proofs.lemmas.List.{map-append}
use Rattle.std.proofs.lemmas.List.Elements.{Contains-append_cases}
use Rattle.fm_grammar.specs.declared.MetricType.{MetricType}
use Rattle.fm_grammar.specs.declared.MetricType.TheVariants.{Unknown}
use Rattle.fm_grammar.specs.Exposition.{Text, Label}
use Rattle.fm_grammar.proofs.TypeWords.{is_a_type}
use Rattle.fm_labels.specs.WrittenLabels.{AreWritten}
use Rattle.fm_labels.specs.Labels.{EmittedLabel, label_names, LabelValid, LabelsValid, written, all_written}
use Rattle.fm_labels.specs.inside.FreeLabels.{AreFree, HasReserved, HasAnyReserved}
use Rattle.fm_labels.proofs.LabelsLemmas.{Any-left, Any-right}
use Rattle.fm_labels.proofs.NameLemmas.{AreFree-unless, AreFree-left, AreFree-right}

-- a valid label is valid in a family of another type that doesn't reserve its name
LabelValid-for : (type other : MetricType) (before : List Label) (label : EmittedLabel) → LabelValid type before label → AreFree other (written label) → LabelValid other before label
LabelValid-for type other before label (inl none) free = inl none
LabelValid-for type other before label (inr (n, t, is, fits)) free =
    let own = subst (λ (l : EmittedLabel). AreFree other (written l)) is free in
    inr (n, t, is, record { valid = fits.valid; free = own.0; fresh = fits.fresh })

LabelsValid-for : (type other : MetricType) (before : List Label) (labels : List EmittedLabel) → LabelsValid type before labels → AreFree other (all_written labels) → LabelsValid other before labels
LabelsValid-for type other before [] valid free = tt
LabelsValid-for type other before (label ∷ labels) valid free = (
  LabelValid-for type other before label valid.0 (AreFree-left other (written label) (all_written labels) free),
  LabelsValid-for type other (before ++ written label) labels valid.1 (AreFree-right other (written label) (all_written labels) free),
)

-- labels that are valid where no name is reserved, and that have no name that some type reserves
pub keeps : (labels : List EmittedLabel) (kept : List Label) → LabelsValid Unknown [] labels → kept ≡ all_written labels → ¬ (HasAnyReserved kept) → AreWritten labels kept
keeps labels kept valid is none = record {
  written = is;
  valid = λ type. LabelsValid-for Unknown type [] labels valid (AreFree-unless type (all_written labels) (λ has. none (let at = is_a_type type in (at.0, type, at.1, at.2, subst (HasReserved type) (sym is) has))));
}

-- none of the labels has the name of one of those before
abbrev Apart : List Label → List Label → Type 0
Apart front labels = ¬ (Any (Contains (label_names front)) (label_names labels))

LabelValid-after : (type : MetricType) (front before : List Label) (label : EmittedLabel) → LabelValid type before label → Apart front (written label) → LabelValid type (front ++ before) label
LabelValid-after type front before label (inl none) apart = inl none
LabelValid-after type front before label (inr (n, t, is, fits)) apart =
    inr (
      n,
      t,
      is,
      record {
        valid = fits.valid;
        free = fits.free;
        fresh = λ there. elim (Contains-append_cases (label_names front) (label_names before) n (subst (λ (ns : List Text). Contains ns n) (map-append (λ (l : Label). l.name) front before) there)) [
          | inl h ↦ subst (λ (l : EmittedLabel). Apart front (written l)) is apart (0, n, omega arith, refl, h)
          | inr h ↦ fits.fresh h
        ];
      },
    )

LabelsValid-after : (type : MetricType) (front before : List Label) (labels : List EmittedLabel) → LabelsValid type before labels → Apart front (all_written labels) → LabelsValid type (front ++ before) labels
LabelsValid-after type front before [] valid apart = tt
LabelsValid-after type front before (label ∷ labels) valid apart =
    let names : label_names (written label ++ all_written labels) ≡ label_names (written label) ++ label_names (all_written labels) = map-append (λ (l : Label). l.name) (written label) (all_written labels) in
    let split = subst (λ (ns : List Text). ¬ (Any (Contains (label_names front)) ns)) names apart in (
      LabelValid-after type front before label valid.0 (λ there. split (Any-left (Contains (label_names front)) (label_names (written label)) (label_names (all_written labels)) there)),
      subst (λ (ls : List Label). LabelsValid type ls labels) (sym (append_assoc front before (written label)))
          (LabelsValid-after type front (before ++ written label) labels valid.1 (λ there. split (Any-right (Contains (label_names front)) (label_names (written label)) (label_names (all_written labels)) there))),
    )

-- written labels, after labels with other names
pub written_after : (type : MetricType) (front : List Label) (labels : List EmittedLabel) (kept : List Label) → AreWritten labels kept → ¬ (Any (Contains (label_names front)) (label_names kept)) → LabelsValid type front labels × (front ++ kept ≡ front ++ all_written labels)
written_after type front labels kept keeps apart = (
  subst (λ (ls : List Label). LabelsValid type ls labels) (append-nil front) (LabelsValid-after type front [] labels (keeps.valid type) (subst (Apart front) keeps.written apart)),
  ap (λ (ls : List Label). front ++ ls) keeps.written,
)
