use Rattle.std.proofs.Common.{subst}
use Rattle.lint.specs.Documents.{PrintsAgain}
use Rattle.lint.proofs.Again.{again}
use Rattle.lint.proofs.verdict.lint.Goals as goal

pub returns-in-Ok-encode_exposition-clause-printed : goal.returns-in-Ok-encode_exposition-clause-printed
returns-in-Ok-encode_exposition-clause-printed g c = λ _.
    subst (PrintsAgain (g.W.Write.contents c.args.out.now) (g.W.Write.contents c.encode_exposition.new.writer)) c.in-Ok.ensures.cases.0
    (again (g.W.Write.contents c.args.out.now) (g.W.Write.contents c.encode_exposition.new.writer) c.in-Ok.text.now _ c.in-Ok-read.ensures.read c.in-Ok-encode_exposition.ensures.document)
