use Rattle.std.proofs.Common.{refl, sym}
use Rattle.fm_labels.proofs.LabelSetLemmas.{EndsLabel-both}
use Rattle.fm_labels.proofs.label.LabelEncoder.end_label.Goals as goal

pub returns-in-true-true : goal.returns-in-true-true
returns-in-true-true c =
    let labels = c.self.inside.labels in
    let w = rw (← c.self.view_is) at c.write_label.ensures in
    let named = sym (c.in-true-true.ensures {u = tt}) in
    let valued = sym (c.in-true-true.ensures' {u = tt}) in
    let whole = EndsLabel-both _ labels.name labels.value _ _ c.in_default.is c.in_ok-check.ensures named valued c.self.invariant refl w.same_type w.pieces w.labels w.refused in
    record { emitted = rw (← c.self.view_is) whole; returned = w.returned }
