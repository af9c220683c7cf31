-- Labels with names that were tested before.
use Rattle.std.proofs.Common.{◌≡◌, ◌≢◌, ℕ, ◌<◌, ◌≤◌, ◌+◌, zero, suc, List, [], ◌∷◌, ◌++◌, length, map, take, drop, get_or, Contains, refl, sym, ap, ◌∙◌, arith, subst, add-one, append-nil, append_assoc, ◌⊎◌, inl, inr, codes, String, Option, None, Some, Result, Err, lit<}
use mathlib.Core.Logic.{⊎_elim}
use Rattle.std.proofs.lemmas.List.{length-map, get_or-map, map-append}
use Rattle.std.proofs.lemmas.List.Elements.{Contains-append_left, Contains-push_cases}
use Rattle.std.specs.String.{string_bytes}
use Rattle.std.specs.declared.alloc.Global.{Global}
use Rattle.std.specs.List.{AllByRecursion}
use Rattle.fm_raw.specs.declared.encode_error.EncodeError.{EncodeError}
use Rattle.fm_raw.specs.declared.encode_error.EncodeError.TheVariants.{Memory, InvalidLabelName, ReservedLabel, DuplicateLabel}
use Rattle.fm_labels.specs.LabelEncoders.{GatheredLabels, TakesLabels}
use Rattle.fm_labels.specs.Refusals.{NoFault, result_of}
use Rattle.fm_grammar.specs.declared.MetricType.{MetricType}
use Rattle.fm_grammar.specs.Exposition.{Text, Label}
use Rattle.fm_grammar.specs.LabelPairs.{labels_with}
use Rattle.fm_grammar.specs.Names.{IsLabelName, AllDifferent}
use Rattle.fm_registry_rules.specs.LabelNames.{AreLabelNames}
use Rattle.fm_labels.specs.Labels.{EmittedLabel, NamePiece, ValuePiece, IsReserved, label_names, LabelsValid, LabelsFault, NameFault, emitted_again, all_written}
use Rattle.fm_labels.specs.inside.TakenNames.{NamesAreFree, IsTakenName}

module _ (type : MetricType) (before : List Label) where
  -- no names
  pub free_none : NamesAreFree type before []
  free_none = record { free = tt; fresh = tt }

  -- a further name that may follow
  pub free_more : (names : List Text) (name : Text) → NamesAreFree type before names → ¬ (IsReserved type name) → ¬ (Contains (label_names before) name) → NamesAreFree type before (names ++ name ∷ [])
  free_more names name h free fresh = record {
    free = all_push (λ n. ¬ (IsReserved type n)) names name h.free free;
    fresh = all_push (λ n. ¬ (Contains (label_names before) n)) names name h.fresh fresh;
  }
    where
      all_push : (P : Text → Type 0) (xs : List Text) (x : Text) → AllByRecursion P xs → P x → AllByRecursion P (xs ++ x ∷ [])
      all_push P [] x all one = (one, tt)
      all_push P (y ∷ xs) x all one = (all.0, all_push P xs x all.1 one)

-- labels with names and values up to an index, and from there on
pub labels_with-split : (names values : List Text) (i : ℕ) → labels_with names values ≡ labels_with (take i names) (take i values) ++ labels_with (drop i names) (drop i values)
labels_with-split names values zero = refl
labels_with-split [] [] (suc i) = refl
labels_with-split [] (v ∷ values) (suc i) = refl
labels_with-split (n ∷ names) [] (suc i) = ends (drop i names)
  where
    ends : (ns : List Text) → [] ≡ labels_with ns []
    ends [] = refl
    ends (n ∷ ns) = refl
labels_with-split (n ∷ names) (v ∷ values) (suc i) = ap (λ ls. record { name = n; value = v } ∷ ls) (labels_with-split names values i)

-- one label more
pub labels_with-more : (names values rest : List Text) (i : ℕ) (value name : Text) → i < length names → drop i values ≡ value ∷ rest
    → labels_with (take (i + 1) names) (take (i + 1) values) ≡ labels_with (take i names) (take i values) ++ record { name = get_or names i name; value = value } ∷ []
labels_with-more names values rest i value name h is = rw add-one (by names values i h is)
  where
    by : (names values : List Text) (i : ℕ) → i < length names → drop i values ≡ value ∷ rest
        → labels_with (take (suc i) names) (take (suc i) values) ≡ labels_with (take i names) (take i values) ++ record { name = get_or names i name; value = value } ∷ []
    by [] values i h is = absurd (omega arith)
    by (n ∷ names) [] zero h is = absurd cc
    by (n ∷ names) [] (suc i) h is = absurd cc
    by (n ∷ names) (v ∷ values) zero h is = let same : v ≡ value = cc in ap (λ t. record { name = n; value = t } ∷ []) same
    by (n ∷ names) (v ∷ values) (suc i) h is = ap (λ ls. record { name = n; value = v } ∷ ls) (by names values i (omega arith) is)

-- where no value is left, or no name
pub labels_with-values_end : (names values : List Text) (i : ℕ) → drop i values ≡ [] → labels_with names values ≡ labels_with (take i names) (take i values)
labels_with-values_end names values i h = labels_with-split names values i ∙ ap (λ vs. labels_with (take i names) (take i values) ++ labels_with (drop i names) vs) h ∙ none (drop i names)
  where
    none : (ns : List Text) → labels_with (take i names) (take i values) ++ labels_with ns [] ≡ labels_with (take i names) (take i values)
    none [] = append-nil _
    none (n ∷ ns) = append-nil _

pub labels_with-names_end : (names values : List Text) (i : ℕ) → drop i names ≡ [] → labels_with names values ≡ labels_with (take i names) (take i values)
labels_with-names_end names values i h = labels_with-split names values i ∙ ap (λ ns. labels_with (take i names) (take i values) ++ labels_with ns (drop i values)) h ∙ append-nil _

-- the name at an index is among the names
pub name_among : (items : List (String Global)) (i : ℕ) (item : String Global) → i < length items → item ≡ get_or items i item → Contains (map string_bytes items) (string_bytes item)
name_among items i item h is = (i, simp length-map h, get_or-map string_bytes items i item (string_bytes item) h ∙ ap string_bytes (sym is))

names_of-push : (before : List Label) (l : Label) → label_names (before ++ l ∷ []) ≡ label_names before ++ l.name ∷ []
names_of-push before l = map-append (λ (label : Label). label.name) before (l ∷ [])

-- after a label with another name the other names may follow still
fits_after : (type : MetricType) (before : List Label) (l : Label) (names : List Text) → NamesAreFree type before names → AllByRecursion (λ other. other ≢ l.name) names → NamesAreFree type (before ++ l ∷ []) names
fits_after type before l names fit differ = record { free = fit.free; fresh = by names fit.fresh differ }
  where
    by : (names : List Text) → AllByRecursion (λ name. ¬ (Contains (label_names before) name)) names → AllByRecursion (λ other. other ≢ l.name) names → AllByRecursion (λ name. ¬ (Contains (label_names (before ++ l ∷ [])) name)) names
    by [] fresh differ = tt
    by (n ∷ names) fresh differ =
        ((λ there. ⊎_elim (λ h. fresh.0 h) (λ same. differ.0 (sym same)) (Contains-push_cases (label_names before) l.name n (subst (λ ns. Contains ns n) (names_of-push before l) there))), by names fresh.1 differ.1)

-- labels with names that were tested and that may follow are valid
pub named_valid : (type : MetricType) (before : List Label) (names values : List Text) → AreLabelNames names → NamesAreFree type before names → LabelsValid type before (emitted_again (labels_with names values))
named_valid type before [] values are fit = tt
named_valid type before (n ∷ names) [] are fit = tt
named_valid type before (n ∷ names) (v ∷ values) are fit =
    let label : Label = record { name = n; value = v } in
    let rest : NamesAreFree type before names = record { free = fit.free.1; fresh = fit.fresh.1 } in (
      inr (n, v, refl, record { valid = are.valid.0; free = fit.free.0; fresh = fit.fresh.0 }),
      named_valid type (before ++ label ∷ []) names values (record { valid = are.valid.1; different = are.different.1 }) (fits_after type before label names rest are.different.0),
    )

-- what is written of them is the same labels
pub written-named : (ls : List Label) → all_written (emitted_again ls) ≡ ls
written-named [] = refl
written-named (l ∷ ls) = ap (λ t. l ∷ t) (written-named ls)

-- the fault of a name stays, whatever labels come before it besides
fault_later : (k : EncodeError) (type : MetricType) (before more : List Label) (name : Text) → NameFault k type before name → NameFault k type (before ++ more) name
fault_later InvalidLabelName type before more name fault = fault
fault_later ReservedLabel type before more name fault = fault
fault_later DuplicateLabel type before more name fault = subst (λ ns. Contains ns name) (sym (map-append (λ (label : Label). label.name) before more)) (Contains-append_left (label_names before) (label_names more) name fault)
fault_later _ type before more name fault = absurd fault

-- one of the names may not follow: so one of the labels may not
pub named_fault : (k : EncodeError) (type : MetricType) (before : List Label) (names values : List Text) → length values ≡ length names → IsTakenName k type before names → LabelsFault k type before (emitted_again (labels_with names values))
named_fault k type before [] values long (name, (i, within, is), fault) = absurd (omega arith)
named_fault k type before (n ∷ names) [] long taken = absurd (omega arith)
named_fault k type before (n ∷ names) (v ∷ values) long (name, (zero, within, is), fault) =
    inl (inr (n, (0, lit< tt, refl), subst (NameFault k type before) (sym is) fault))
named_fault k type before (n ∷ names) (v ∷ values) long (name, (suc i, within, is), fault) =
    let label : Label = record { name = n; value = v } in
    inr (named_fault k type (before ++ label ∷ []) names values (omega arith) (name, (i, omega arith, is), fault_later k type before (label ∷ []) name fault))

-- the labels that an encoder took, or which of their names it refused
pub takes_named : (names values : List Text) (old new : GatheredLabels) (result : Result (Unit {0}) EncodeError) → length values ≡ length names
    → new.metric_type ≡ old.metric_type → ((k : EncodeError) → old.refused ≡ Some k → new ≡ old)
    → (new.refused ≡ None → AreLabelNames names × NamesAreFree old.metric_type old.labels names × (new.labels ≡ old.labels ++ labels_with names values))
    → ((k : EncodeError) → old.refused ≡ None → new.refused ≡ Some k → (k ≡ Memory) ⊎ IsTakenName k old.metric_type old.labels names)
    → result ≡ result_of new.refused → TakesLabels (emitted_again (labels_with names values)) NoFault old new result
takes_named names values old new result long same kept taken refused returned = record {
  emitted = record {
    same_type = same;
    kept = kept;
    valid = λ accepting accepted ok. named_valid old.metric_type old.labels names values (taken accepted).0 (taken accepted).1;
    emitted = λ accepting accepted ok. (taken accepted).2 ∙ ap (λ ls. old.labels ++ ls) (sym (written-named (labels_with names values)));
    own = λ e accepted err. absurd (let none : Err e ≡ result_of None = sym err ∙ returned ∙ ap result_of accepted in cc);
    refused = λ k accepting why. ⊎_elim (λ m. inl (inl m)) (λ name. inr (named_fault k old.metric_type old.labels names values long name)) (refused k accepting why);
  };
  returned = returned;
}
