use Rattle.std.proofs.Common.{subst, sym, ap, ◌∙◌}
use Rattle.fm_labels.specs.LabelValues.{values_in}
use Rattle.fm_labels.specs.inside.JoinedValues.{AreJoined}
use Rattle.fm_labels.proofs.LabelValueLemmas.{values_in-joined, AreJoined-joined}
use Rattle.fm_labels.proofs.label_values.LabelValues.new.Goals as goal

pub invariant_of-result : goal.invariant_of-result
invariant_of-result c = let e = c.in_ok-bytes.ensures in subst AreJoined (sym e.joined) (AreJoined-joined _ e.texts)

pub returns : goal.returns
returns c = let e = c.in_ok-bytes.ensures in ap values_in e.joined ∙ values_in-joined _ e.texts
