use Rattle.std.proofs.Common.{[]}
use Rattle.fm_grammar.proofs.ResultLemmas.{on_ok_more}
use Rattle.fm_text.proofs.labels.render_label_list.Goals as goal

pub returns : goal.returns
returns g c = on_ok_more c.append_list.result _ _ (λ grown. grown.grows [] c.reset.ensures) c.append_list.ensures
