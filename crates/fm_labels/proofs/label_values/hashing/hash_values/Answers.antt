use Rattle.std.proofs.Common.{ap, sym, ◌∙◌, fold}
use Rattle.fm_labels.proofs.LabelHashLemmas.{writes_of-long}
use Rattle.fm_labels.proofs.label_values.hashing.hash_values.Goals as goal

pub returns-in-None : goal.returns-in-None
returns-in-None g c = c.feed_each.ensures.fed ∙ ap (fold g.H.Hasher.write c.args.state.now) (sym (writes_of-long _ c.feed_each.ensures.texts c.in-None.ensures.full))
