use Rattle.std.proofs.Common.{sym, ap, ◌∙◌}
use Rattle.fm_encoder.specs.Gathered.{GatheredExemplars}
use Rattle.fm_labels.specs.Refusals.{result_of}
use Rattle.fm_encoder.proofs.ExemplarLemmas.{EmitsExemplars-refused}
use Rattle.fm_encoder.proofs.exemplar.ExemplarEncoder.encode.Goals as goal

pub returns-in-Err : goal.returns-in-Err
returns-in-Err g c =
    let refused = λ (e : GatheredExemplars). e.refused in
    let refused_with = c.refuse-in-Err.ensures.error in
    rw c.refuse-in-Err.ensures.returned (record {
      emitted = EmitsExemplars-refused _ _ c.in-Err.error _ _ (ap refused (sym c.self.view_is) ∙ c.in_ok-check.ensures) refused_with c.in-Err.ensures;
      returned = sym (ap result_of refused_with);
    })
