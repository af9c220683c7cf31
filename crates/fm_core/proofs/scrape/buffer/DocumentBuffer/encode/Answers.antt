use Rattle.std.proofs.Common.{◌≡◌, Option, None, Some, IfSome, refl, subst, ◌∙◌}
use Rattle.std.specs.Io.KnownBytes.{Keeps}
use Rattle.std.proofs.lemmas.Result.{IfErr-weaker}
use Rattle.fm_grammar.specs.Exposition.{Text}
use Rattle.fm_grammar.proofs.ResultLemmas.{on_ok_more}
use Rattle.fm_exposition.specs.inside.DocumentRows.{document_rows}
use Rattle.fm_core.proofs.scrape.buffer.DocumentBuffer.encode.Goals.{in-Ok, in-Err}
use Rattle.fm_core.proofs.scrape.buffer.DocumentBuffer.encode.Goals as goal

keeps_same : (a : Option Text) → Keeps a a
keeps_same None = tt
keeps_same (Some xs) = refl

pub returns-clause-document : goal.returns-clause-document
returns-clause-document g c = elim c.match-render.branch [
  | in-Ok w ↦
      let made = w.in-Ok.ensures.text in
      let lines : w.lines.result.now ≡ document_rows made.0 = subst (λ (o : Option Text). IfSome o (λ t. w.lines.result.now ≡ t)) (w.lines.ensures ∙ made.3) refl in
      rw (w.written-is, w.writer-is) (on_ok_more w.write_lines-written.result _ _ (λ wrote. (wrote.0, (made.0, made.1, made.2, wrote.1), wrote.2)) (w.write_lines-written.ensures.document made.0 made.2 lines))
  | in-Err w ↦ rw w.written-is tt
]

pub returns-clause-refused : goal.returns-clause-refused
returns-clause-refused g c = elim c.match-render.branch [
  | in-Ok w ↦ rw (w.written-is, w.writer-is) (IfErr-weaker w.write_lines-written.result _ _ (λ k writers not_writers. absurd (not_writers writers)) w.write_lines-written.ensures.fault)
  | in-Err w ↦ rw (w.written-is, w.writer-is) (λ not_writers. (keeps_same (g.W.Write.contents c.args.writer.now), w.in-Err.ensures.fault))
]
