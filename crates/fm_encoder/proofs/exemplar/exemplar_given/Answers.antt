use Rattle.std.proofs.Common.{refl}
use Rattle.fm_encoder.proofs.ExemplarLemmas.{exemplars_valid}
use Rattle.fm_encoder.proofs.exemplar.exemplar_given.Goals as goal

pub returns : goal.returns
returns g c =
    let emits = rw (← c.encoder.view_is) at c.encode-visited.ensures in
    let ended = c.in_ok-outcome.ensures {u = tt} in
    let all = exemplars_valid _ (g.E.EncodeExemplar.exemplars c.args.exemplar.now) (emits.emitted refl ended.0 ended.1) (emits.valid refl ended.0 ended.1) in
    (all.0, all.1, c.encoder.invariant)
