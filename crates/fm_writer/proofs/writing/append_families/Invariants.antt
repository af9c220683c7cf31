use Rattle.std.specs.Prelude.{take}
use Rattle.std.specs.List.{AllByRecursion}
use Rattle.fm_exposition.specs.inside.DocumentRows.{family_rows}
use Rattle.fm_text.specs.inside.Grown.{IsLeft}
use Rattle.fm_writer.specs.inside.Utf8.{IsUtf8Family}
use Rattle.fm_writer.proofs.writing.append_families.Given as goal

abbrev pub invariant-loop-family : goal.invariant-loop-family
invariant-loop-family g l = IsLeft family_rows l.families l.family-index (g.O.Output.stands_for l.fn.text) (g.O.Output.stands_for l.text) × AllByRecursion IsUtf8Family (take l.family-index l.families)
