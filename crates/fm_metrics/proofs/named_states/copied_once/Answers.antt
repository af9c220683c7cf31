use Rattle.std.proofs.Common.{refl}
use Rattle.fm_metrics.proofs.NameLemmas.{copies-more, none_equal}
use Rattle.fm_metrics.proofs.named_states.copied_once.Goals as goal

pub loop-name-init : goal.loop-name-init
loop-name-init c = rw c.new-copies.ensures.items (refl, none_equal)

pub loop-name-preserved : goal.loop-name-preserved
loop-name-preserved c =
    let added = c.in_ok-add_copy.ensures in
    (copies-more c.args.names.now _ _ _ _ c.loop-name-test.true c.loop-name.invariant.0 added.names, added.different)
