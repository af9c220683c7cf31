-- The point of a state set: its labels are tested, and then its samples are added.
use Rattle.std.proofs.Common.{◌≡◌, List, [], ◌∷◌, Bool, true, false, map, Contains, Option, Some, None, Result, Ok, Err, ◌⊎◌, inl, inr, refl, subst, ◌∙◌}
use Rattle.fm_grammar.specs.declared.MetricType.TheVariants.{StateSet}
use Rattle.fm_grammar.specs.Exposition.{Text, Label}
use Rattle.fm_raw.specs.declared.encode_error.EncodeError.{EncodeError}
use Rattle.fm_raw.specs.declared.encode_error.EncodeError.TheVariants.{DuplicateLabel}
use Rattle.fm_labels.specs.Labels.{label_names}
use Rattle.fm_labels.specs.Refusals.{result_of}
use Rattle.fm_encoder.specs.Points.{Setting, StateSetPoint, PartsValid, PartsFault}
use Rattle.fm_encoder.specs.Gathered.{GatheredPoints}
use Rattle.fm_encoder.specs.Emits.{EmitsPoints}
use Rattle.fm_encoder.specs.inside.Samples.{state_sample}
use Rattle.fm_encoder.specs.inside.Steps.{BeginsPoint, PushesSamples, TestsStates}
use Rattle.fm_encoder.proofs.BucketLemmas.{SameContext-then, EmitsPoints-made, EmitsPoints-refused}

-- an encoder that returns a refusal has it
pub some_from_answer : {r : Result (Unit {0}) EncodeError} (k : EncodeError) (refused : Option EncodeError) → r ≡ result_of refused → r ≡ Err k → refused ≡ Some k
some_from_answer k None is err = absurd cc
some_from_answer k (Some j) is err = cc

-- what is none after a change of each was none before
pub none_before : {S T : Type 0} (f : S → T) (xs : List S) → map f xs ≡ [] → xs ≡ []
none_before f [] is = refl
none_before f (x ∷ xs) is = absurd cc

module _ (states : List (Text × Bool)) (is_empty : Bool) (old begun tested : GatheredPoints) (begins : BeginsPoint StateSet old begun) (begun_none : begun.refused ≡ None) (tests : TestsStates is_empty begun tested) where
  pub EmitsPoints-states : (new : GatheredPoints) → (is_empty ≡ true → states ≡ []) → tested.refused ≡ None → PushesSamples (map (state_sample tested.setting tested.common) states) tested new → EmitsPoints (λ ps. ps ≡ StateSetPoint states ∷ []) ⊥ old new (result_of new.refused)
  EmitsPoints-states new empty tested_none push =
      let passed : PartsValid begun.setting begun.common (StateSetPoint states) = elim (tests.passed tested_none) [ inl e ↦ inl (empty e) | inr free ↦ inr free ] in
      let parts : PartsValid old.setting old.common (StateSetPoint states) =
      subst (λ (ls : List Label). PartsValid old.setting ls (StateSetPoint states)) begins.same.common
      (subst (λ (s : Setting). PartsValid s begun.common (StateSetPoint states)) begins.same.setting passed) in
      EmitsPoints-made (StateSetPoint states) (λ s ls. map (state_sample s ls) states) ⊥ old tested new
      (SameContext-then old begun tested begins.same tests.same) (tests.output ∙ begins.output)
      (λ k is. (let same : begun ≡ old = begins.kept k is in absurd cc))
      tested_none (begins.same_type begun_none) (begins.no_deferred begun_none) parts refl push

  pub EmitsPoints-no_states : (k : EncodeError) → (is_empty ≡ false → ¬ (states ≡ [])) → tested.refused ≡ Some k → EmitsPoints (λ ps. ps ≡ StateSetPoint states ∷ []) ⊥ old tested (Err k)
  EmitsPoints-no_states k some is =
      let refused = tests.refused k is in
      let fault : PartsFault k begun.setting begun.common (StateSetPoint states) = (refused.0, some refused.1, refused.2) in
      let parts : PartsFault k old.setting old.common (StateSetPoint states) =
      subst (λ (ls : List Label). PartsFault k old.setting ls (StateSetPoint states)) begins.same.common
      (subst (λ (s : Setting). PartsFault k s begun.common (StateSetPoint states)) begins.same.setting fault) in
      EmitsPoints-refused (StateSetPoint states) ⊥ old begun tested k begins begun_none
      (λ i. record { setting = tests.same.setting i; common = tests.same.common i; deferred = tests.same.deferred i; output = tests.output i; refused = is i })
      (inr parts)
