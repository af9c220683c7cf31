use Rattle.std.proofs.Common.{sym, ◌∙◌}
use Rattle.fm_grammar.specs.LabelPairs.{labels_of}
use Rattle.fm_registry_rules.proofs.RefusedLabelLemmas.{names_of, refused-invalid, refused-duplicate}
use Rattle.fm_registry_rules.proofs.constant_labels.is_refused_after.Goals as goal

pub returns-then-not-is_label_name : goal.returns-then-not-is_label_name
returns-then-not-is_label_name c = refused-invalid (names_of (labels_of c.args.before.now)) c.args.name.now (sym c.is_label_name.ensures.test ∙ c.if-not-is_label_name.true)

pub returns : goal.returns
returns c = refused-duplicate (names_of (labels_of c.args.before.now)) c.args.name.now c.is_among.result (sym c.is_label_name.ensures.test ∙ c.if-not-is_label_name.false) c.is_among.ensures
