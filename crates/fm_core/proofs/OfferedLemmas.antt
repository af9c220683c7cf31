-- What a metric offered to an encoder, and what the encoder made of it.
use Rattle.std.proofs.Common.{◌≡◌, ◌++◌, ℕ, List, Option, None, Some, Vec, Global, Result, Ok, Err, MatchResult, ◌⊎◌, inl, inr, refl, sym, ap, subst}
use Rattle.fm_grammar.specs.declared.MetricType.{MetricType}
use Rattle.fm_grammar.specs.Exposition.{Text, Label, Family}
use Rattle.fm_raw.specs.declared.encode_error.EncodeError.{EncodeError}
use Rattle.fm_raw.specs.declared.encode_error.EncodeError.TheVariants.{Memory}
use Rattle.fm_writer.specs.Output.{Output, with_lines}
use Rattle.fm_encoder.specs.Points.{Member, Context, members_samples}
use Rattle.fm_encoder.specs.Offers.{MetricHasFault, context_at}
use Rattle.fm_encoder.specs.Gathered.{GatheredMembers}
use Rattle.fm_labels.specs.Refusals.{OwnRefusal, IsOutcome}
use Rattle.fm_encoder.specs.Emits.{EmitsMembers}
use Rattle.fm_labels.proofs.LabelSetLemmas.{own_refusal_is}
use Rattle.fm_encoder.proofs.MemberLemmas.{MembersValid-formed}
use Rattle.fm_core.specs.inside.Offered.{Offered, IsReady}

-- a further line leaves an encoder as ready as it was
pub ready_ended : (families : Option (Vec Family Global)) (old new : GatheredMembers) (line : Text) → new ≡ record old { output = with_lines old.output line } → IsReady families old → IsReady families new
ready_ended families old new line is ready = subst (IsReady families) (sym is) (by families ready)
  where
    by : (fs : Option (Vec Family Global)) → IsReady fs old → IsReady fs (record old { output = with_lines old.output line })
    by None before = record { output = (before.output.0 ++ line, ap (λ (o : Output). with_lines o line) before.output.1); accepting = before.accepting }
    by (Some fs) before = record { output = ap (λ (o : Output). with_lines o line) before.output; accepting = before.accepting }

-- what an encoder with this output makes of a metric
abbrev pub Makes : (Option ℕ → List Member → Type 0) → (Option ℕ → Type 0) → Type 0 → Text → MetricType → List Label → Output → GatheredMembers → Result (Unit {0}) EncodeError → Type 0
Makes Offers Stamps MayFault name type constants output new made = MatchResult made
    (λ _. (new.refused ≡ None) × Offered Offers Stamps name type constants output new.output)
    (λ k. (k ≡ Memory) ⊎ MetricHasFault k Offers Stamps MayFault name type constants)

module _ (Offers : Option ℕ → List Member → Type 0) (Stamps : Option ℕ → Type 0) (MayFault : Type 0) (name : Text) (type : MetricType) (constants : List Label) (stamp : Option ℕ) (output : Output) where
  abbrev context : Context
  context = context_at name type constants stamp

  abbrev begun : GatheredMembers
  begun = record { context = context; output = output; refused = None }

  fault_of : (k : EncodeError) → OwnRefusal MayFault k → (k ≡ Memory) ⊎ MetricHasFault k Offers Stamps MayFault name type constants
  fault_of k (inl memory) = inl memory
  fault_of k (inr fault) = inr (inl fault)

  made_from : (new : GatheredMembers) (visited made : Result (Unit {0}) EncodeError) → Stamps stamp → EmitsMembers (Offers stamp) MayFault begun new visited → IsOutcome new.refused visited made → Makes Offers Stamps MayFault name type constants output new made
  made_from new visited (Ok m) stamped emits h =
      let x = emits.emitted refl h.0 h.1 in (
        h.0,
        record {
          samples = members_samples context x.0;
          formed = record { admitted = (x.0, stamp, stamped, x.1, x.2, refl); formed = MembersValid-formed context x.0 x.2 };
          is = x.3;
        },
      )
  made_from new visited (Err k) stamped emits (inl refused) = elim (emits.refused k refl refused) [
    | inl own ↦ fault_of k own
    | inr (ms, offered, fault) ↦ inr (inr (ms, stamp, stamped, offered, fault))
  ]
  made_from new visited (Err k) stamped emits (inr (e, none, err, is)) =
      fault_of k (subst (OwnRefusal MayFault) (sym is) (own_refusal_is MayFault e (emits.own e none err)))

  pub offered_made : (encoder new : GatheredMembers) (visited made : Result (Unit {0}) EncodeError) → encoder ≡ begun → Stamps stamp → EmitsMembers (Offers encoder.context.setting.time) MayFault encoder new visited → IsOutcome new.refused visited made → Makes Offers Stamps MayFault name type constants output new made
  offered_made encoder new visited made is stamped emits ends =
      made_from new visited made stamped (subst (λ (g : GatheredMembers). EmitsMembers (Offers g.context.setting.time) MayFault g new visited) is emits) ends
