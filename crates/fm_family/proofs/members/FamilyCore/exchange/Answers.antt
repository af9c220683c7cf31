use Rattle.std.proofs.Common.{ap, sym, arith, swap, ◌∙◌, length}
use Rattle.fm_family.proofs.WrittenLemmas.{written_count}
use Rattle.fm_family.proofs.LeavingLemmas.{written_swap, swap_same}
use Rattle.fm_family.proofs.members.FamilyCore.exchange.Goals as goal

pub returns-then-first-second : goal.returns-then-first-second
returns-then-first-second g c =
    let es = c.args.self.now.entries in
    sym (ap (λ n. swap es c.args.first n) (sym c.if-first-second.true) ∙ swap_same es c.args.first)

pub swap-requires : goal.swap-requires
swap-requires g c =
    let inside = c.self.inside in
    let counted = written_count g.LS.EncodeLabelSet.labels inside.members.entries inside.labels.items c.self.invariant in
    let seen = ap (λ m. length m.entries) c.self.view_is in
    record { i_in_bounds = omega arith; j_in_bounds = omega arith }

pub invariant_of-self : goal.invariant_of-self
invariant_of-self g c =
    let inside = c.self.inside in
    rw (c.swap_indices.ensures.entries, c.swap.ensures.items) (written_swap g.LS.EncodeLabelSet.labels c.args.first c.args.second inside.members.entries inside.labels.items c.self.invariant)
