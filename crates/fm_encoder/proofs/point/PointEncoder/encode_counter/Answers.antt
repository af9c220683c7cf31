use Rattle.std.proofs.Common.{◌≡◌, ◌⊎◌, List, [], MatchOption, Some, inl, inr, refl, rules}
use Rattle.fm_grammar.specs.Exposition.{Label}
use Rattle.std.specs.Option.{option_map, option_map_or}
use Rattle.fm_grammar.specs.declared.SampleKind.TheVariants.{Total}
use Rattle.fm_exposition.specs.Samples.{value_of, exemplar_of}
use Rattle.fm_encoder.specs.Points.{Setting, CounterPoint, NumberFault, millis, plain_sample, created_samples, ExemplarValid, ExemplarFault, written_exemplar}
use Rattle.fm_labels.specs.Refusals.{OwnRefusal}
use Rattle.fm_labels.proofs.Cases.{none_from_answer}
use Rattle.fm_encoder.proofs.BucketLemmas.{EmitsPoints-refused, PushesSamples-after}
use Rattle.fm_encoder.proofs.MemberLemmas.{OwnRefusal-right}
use Rattle.fm_encoder.proofs.point.PointEncoder.encode_counter.Goals as goal
use Rattle.fm_encoder.proofs.point.PointEncoder.encode_counter.Goals.{in-Some+in-Ok-exemplar_given, in-None}

pub returns-in-Some-created : goal.returns-in-Some-created
returns-in-Some-created g c =
    let exemplar = c.match-exemplar.exemplar in
    let emitted = option_map_or (λ e. g.E.EncodeExemplar.exemplars e.now) c.args.exemplar [] in
    let taken : ExemplarValid emitted × (option_map exemplar_of exemplar ≡ written_exemplar emitted) = elim c.match-exemplar.branch [
      | in-Some+in-Ok-exemplar_given w ↦ search rules
      | in-None w ↦ search rules
    ] in
    let total = λ (s : Setting) (ls : List Label). record (plain_sample s ls Total [] (value_of c.in-Ok.number)) { exemplar = option_map exemplar_of exemplar } in
    let accepted = none_from_answer _ c.push_sample.ensures.returned c.in_ok-push_sample.was in
    let pushed = PushesSamples-after total (λ (s : Setting) (ls : List Label). created_samples s ls (Some (millis c.in-Some-created.created))) _ c.begin_point.new.self _ _ c.push_sample.ensures.emitted accepted c.push_created.ensures.emitted refl in
    rw (c.in-Some-created.is) (search rules)

pub returns-in-Err-exemplar_given : goal.returns-in-Err-exemplar_given
returns-in-Err-exemplar_given g c =
    let error = c.in-Err-exemplar_given.error in
    let refuses = c.refuse-in-Err-exemplar_given.ensures in
    let exemplars = option_map_or (λ e. g.E.EncodeExemplar.exemplars e.now) c.args.exemplar [] in
    let MayFault = MatchOption c.args.exemplar ⊥ (λ e. g.E.EncodeExemplar.may_fault e.now) in
    let fault : OwnRefusal MayFault error ⊎ ExemplarFault error exemplars = rw c.in-Some.is c.in-Err-exemplar_given.ensures in
    let numbers = g.V.EncodeCounterValue.numbers c.args.total.now in
    let either : OwnRefusal (g.V.EncodeCounterValue.may_fault c.args.total.now ⊎ MayFault) error ⊎ (NumberFault error numbers ⊎ ExemplarFault error exemplars) = elim fault [
      | inl own ↦ inl (OwnRefusal-right error own)
      | inr of_exemplar ↦ inr (inr of_exemplar)
    ] in
    let begun = none_from_answer _ c.begin_point.ensures.returned c.in_ok-begin_point.was in
    let point = CounterPoint numbers exemplars (option_map millis c.args.created) in
    rw (refuses.returned) (record {
      emitted = EmitsPoints-refused point _ c.args.self.now c.begin_point.new.self _ error c.begin_point.ensures.emitted begun (λ i. record (c.self.view_is i) { refused = refuses.error i }) either;
      returned = rw (refuses.error) refl;
    })
