use Rattle.std.proofs.Common.{ap}
use Rattle.fm_labels.specs.LabelEncoders.{GatheredPieces, GatheredLabels}
use Rattle.fm_labels.proofs.NamedLemmas.{takes_named}
use Rattle.fm_labels.proofs.label.LabelSetEncoder.encode_named.Goals as goal

pub returns : goal.returns
returns c = let e = c.take_named.ensures in rw (← c.self.view_is) (takes_named c.args.names.now c.args.values.now _ _ c.take_named.result c.requires e.same_type (λ k why. ap (λ (p : GatheredPieces). let seen : GatheredLabels = record { metric_type = p.metric_type; labels = p.labels; refused = p.refused } in seen) (e.kept k why)) e.labels e.refused e.returned)
