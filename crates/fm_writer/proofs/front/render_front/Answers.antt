use Rattle.std.proofs.Common.{arith}
use Rattle.fm_grammar.proofs.ResultLemmas.{on_ok_more}
use Rattle.fm_writer.proofs.FrontLemmas.{front_bare, front_listed}
use Rattle.fm_writer.proofs.front.render_front.Goals as goal

pub returns-then-len-eq0 : goal.returns-then-len-eq0
returns-then-len-eq0 c =
    front_bare c.args.name.now c.args.kind _ _ (omega (arith, c.len.ensures, c.if-len-eq0.true)) (rw (c.clear.ensures, c.as_bytes.ensures.value, c.as_bytes-2.ensures.value, c.suffix.ensures) at c.in_ok-put_three.ensures.grown)

pub returns : goal.returns
returns c =
    on_ok_more c.append_before.result _ _ (λ list. front_listed c.args.name.now c.args.kind c.args.common.now.labels _ _ (omega (arith, c.len.ensures, c.if-len-eq0.false)) (rw (c.clear.ensures, c.as_bytes.ensures.value, c.as_bytes-2.ensures.value, c.suffix.ensures) at c.in_ok-put_three.ensures.grown) list) c.append_before.ensures
