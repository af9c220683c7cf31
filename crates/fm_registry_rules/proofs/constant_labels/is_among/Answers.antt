use Rattle.std.proofs.Common.{◌∙◌, ap, is_some}
use Rattle.fm_registry_rules.proofs.RefusedLabelLemmas.{found-has_text}
use Rattle.fm_registry_rules.proofs.constant_labels.is_among.Goals as goal

pub returns : goal.returns
returns c = c.is_some.ensures ∙ ap is_some c.index_of_label.ensures ∙ found-has_text c.args.labels.now c.args.name.now 0
