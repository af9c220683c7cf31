-- Labels are valid where their names fit.
use Rattle.std.proofs.Common.{◌≡◌, ◌≢◌, List, [], ◌∷◌, ◌++◌, length, inl, inr, refl, sym, ap, subst, arith, Contains, None}
use Rattle.std.specs.List.{AllByRecursion}
use Rattle.std.proofs.lemmas.List.{map-append}
use Rattle.std.proofs.lemmas.List.Elements.{Contains-push_cases}
use Rattle.fm_grammar.specs.declared.MetricType.{MetricType}
use Rattle.fm_grammar.specs.Exposition.{Text, Label}
use Rattle.fm_grammar.specs.Kinds.{reserved_label}
use Rattle.fm_grammar.specs.Names.{IsLabelName}
use Rattle.fm_grammar.specs.WellFormed.{AreLabels}
use Rattle.fm_grammar.specs.LabelPairs.{labels_with}
use Rattle.fm_labels.specs.Labels.{label_names, NameFits, LabelsValid, emitted_again}
use Rattle.fm_labels.specs.inside.FittingNames.{NamesFit}
use Rattle.fm_labels.specs.inside.FreeLabels.{AreFree}
use Rattle.fm_labels.proofs.LabelsLemmas.{LabelsValid-append, written_again}

-- names that fit still do after a label of another name
still_fit : (type : MetricType) (before : List Label) (l : Label) (names : List Text) → AllByRecursion (NameFits type before) names → AllByRecursion (λ other. other ≢ l.name) names → AllByRecursion (NameFits type (before ++ l ∷ [])) names
still_fit type before l [] fit others = tt
still_fit type before l (name ∷ names) fit others = (
  record {
    valid = fit.0.valid;
    free = fit.0.free;
    fresh = λ there. elim (Contains-push_cases (label_names before) l.name name (subst (λ (ns : List Text). Contains ns name) (map-append (λ (x : Label). x.name) before (l ∷ [])) there)) [
      | inl h ↦ fit.0.fresh h
      | inr h ↦ others.0 (sym h)
    ];
  },
  still_fit type before l names fit.1 others.1,
)

-- written labels whose names fit are valid when they are emitted again
pub LabelsValid-fitting : (type : MetricType) (before ls : List Label) → NamesFit type before (label_names ls) → LabelsValid type before (emitted_again ls)
LabelsValid-fitting type before [] fit = tt
LabelsValid-fitting type before (l ∷ ls) fit = (
  inr (l.name, l.value, refl, fit.each.0),
  LabelsValid-fitting type (before ++ l ∷ []) ls (record { each = still_fit type before l (label_names ls) fit.each.1 fit.different.0; different = fit.different.1 }),
)

-- also after others
pub LabelsValid-both : (type : MetricType) (before ls : List Label) → NamesFit type [] (label_names before) → NamesFit type before (label_names ls) → LabelsValid type [] (emitted_again before ++ emitted_again ls)
LabelsValid-both type before ls first fit =
    LabelsValid-append type [] (emitted_again before) (emitted_again ls) (LabelsValid-fitting type [] before first)
    (subst (λ (xs : List Label). LabelsValid type xs (emitted_again ls)) (sym (written_again before)) (LabelsValid-fitting type before ls fit))

none_there : (name : Text) → ¬ (Contains [] name)
none_there name (i, within, is) = absurd (omega (arith, within))

each_fits : (type : MetricType) (ls : List Label) → AllByRecursion (λ label. IsLabelName label.name) ls → AreFree type ls → AllByRecursion (NameFits type []) (label_names ls)
each_fits type [] names free = tt
each_fits type (l ∷ ls) names free = (record { valid = names.0; free = free.0; fresh = none_there l.name }, each_fits type ls names.1 free.1)

-- a type that reserves no name leaves all labels free
pub all_free : (type : MetricType) (ls : List Label) → reserved_label type ≡ None → AreFree type ls
all_free type [] none = tt
all_free type (l ∷ ls) none = (λ reserved. absurd cc, all_free type ls none)

-- constant labels fit in a family whose type reserves none of their names
pub constants_fit : (type : MetricType) (ls : List Label) → AreLabels ls → AreFree type ls → NamesFit type [] (label_names ls)
constants_fit type ls are free = record { each = each_fits type ls are.names free; different = are.different }

-- as many values as names
pub names_with : (names values : List Text) → length values ≡ length names → label_names (labels_with names values) ≡ names
names_with [] [] same = refl
names_with [] (v ∷ vs) same = refl
names_with (n ∷ ns) [] same = absurd (omega (arith, same))
names_with (n ∷ ns) (v ∷ vs) same = ap (λ (names : List Text). n ∷ names) (names_with ns vs (omega (arith, same)))
