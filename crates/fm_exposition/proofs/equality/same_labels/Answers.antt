use Rattle.std.proofs.Common.{sym, ◌∙◌}
use Rattle.std.specs.Cmp.Derive.Mapped.{pointwise-map}
use Rattle.fm_exposition.specs.Same.{same_label}
use Rattle.fm_grammar.specs.LabelPairs.{label_of}
use Rattle.fm_exposition.proofs.equality.same_labels.Goals as goal

pub returns : goal.returns
returns c = c.eq.ensures ∙ sym (pointwise-map label_of same_label c.args.one.now c.args.other.now)
