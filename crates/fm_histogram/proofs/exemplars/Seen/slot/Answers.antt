use Rattle.std.proofs.Common.{◌≡◌, Some, inr, refl, sym, subst, ap, ◌∙◌}
use Rattle.std.specs.Prelude.{slice_get}
use Rattle.std.specs.Option.{option_map}
use Rattle.std.proofs.lemmas.Option.{slice_get_read}
use Rattle.fm_encoder.specs.Points.{millis}
use Rattle.fm_histogram.specs.Exemplars.{LiesAt}
use Rattle.fm_histogram.proofs.exemplars.Seen.slot.Goals as goal

pub returns-clause-valid : goal.returns-clause-valid
returns-clause-valid c =
    let exemplar = c.in_ok-exemplar.exemplar.now in
    let taken = c.are_taken.ensures exemplar.value (option_map millis exemplar.timestamp) in
    inr (_, refl, (taken.0, taken.1))

pub returns-clause-fits : goal.returns-clause-fits
returns-clause-fits c e is =
    let inside = c.self.inside in let exemplar = c.in_ok-exemplar.exemplar.now in
    let read = c.in_ok-get.ensures.lookup in
    let at : slice_get c.deref.result.now c.args.index ≡ Some c.in_ok-get.field-0.now = slice_get_read _ _ _ _ refl read.3.0 read.1 in
    let found : c.in_ok-get.field-0.now ≡ Some exemplar = cc c.in_ok-exemplar.ensures.value in
    let lies : LiesAt inside.snapshot.buckets c.args.index exemplar.value = c.self.invariant.fit c.args.index exemplar (subst (λ slots. slice_get slots c.args.index ≡ Some (Some exemplar)) c.deref.ensures.value (at ∙ ap (λ slot. Some slot) found)) in
    let value : exemplar.value ≡ e.value = cc is in
    subst (λ v. LiesAt c.args.self.now.counted.buckets c.args.index v) value (rw (← c.self.view_is) lies)
