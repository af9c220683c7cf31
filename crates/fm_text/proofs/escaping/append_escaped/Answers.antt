use Rattle.fm_grammar.specs.Spelling.{escape}
use Rattle.fm_text.proofs.GrownLemmas.{left_of_run}
use Rattle.fm_text.proofs.escaping.append_escaped.Goals as goal

pub loop-first-preserved : goal.loop-first-preserved
loop-first-preserved g c =
    left_of_run escape _ _ c.loop-first.rest.now _ _ c.in-Some.after.now _ _ _ _ _ c.split_at.ensures.front c.split_at.ensures.back c.plain_len.ensures.plain c.in-Some.ensures.cases.0 c.loop-first.invariant (rw c.in_ok-put.was at c.put.ensures) (rw c.in_ok-append_escape.was at c.append_escape.ensures)
