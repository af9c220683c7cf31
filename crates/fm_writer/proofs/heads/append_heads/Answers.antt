use Rattle.fm_grammar.proofs.ResultLemmas.{on_ok_more}
use Rattle.fm_writer.proofs.RowLemmas.{heads_whole}
use Rattle.fm_writer.proofs.heads.append_heads.Goals as goal

pub returns : goal.returns
returns g c =
    on_ok_more c.end_heads.result _ _ (λ end. heads_whole _ _ _ _ c.args.name.now c.args.head.help.now c.args.head.metric_type _ (rw (c.in_ok-put_three.was, c.as_bytes-name.ensures.value, c.as_bytes.ensures.value, c.after_type_name-word.ensures) at c.put_three.ensures) (rw (c.in_ok-append_help.was, c.as_bytes-name.ensures.value, c.as_bytes-2.ensures.value) at c.append_help.ensures) (rw c.as_bytes-name.ensures.value at end)) c.end_heads.ensures
