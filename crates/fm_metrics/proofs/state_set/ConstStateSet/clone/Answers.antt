use Rattle.fm_metrics.proofs.state_set.ConstStateSet.clone.Goals as goal

pub invariant_of-result : goal.invariant_of-result
invariant_of-result g c = record { known = c.equal_is_known.ensures _ (c.requires _ c.in_ok-state.ensures.cases) c.args.self.now.known }
