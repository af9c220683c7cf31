use Rattle.std.proofs.Common.{ℕ, ◌<◌, ℤ, Bool, List, Err, flat_map, ◌^◌, length, get_or, subst, sym, rules, inl, inr}
use Rattle.fm_tally.specs.declared.error.TallyError.{TallyError}
use Rattle.fm_histogram.specs.Histogram.{Histogram, takes}
use Rattle.fm_tally.specs.Pieces.{MayFail, IsObserved}
use Rattle.fm_tally.proofs.PieceLemmas.{joined_more, too_many, same_bounds, element}
use Rattle.fm_tally.proofs.pieces.merge_all.Goals as goal

-- what a worker's fault is of
fault_of : (taken : ℤ → Bool) (refuses : ℕ → Type 0) (empty : Histogram) (index pieces : ℕ) (piece values : List ℤ) (e : TallyError) → index < pieces
    → IsObserved taken refuses empty index piece (Err e) → MayFail taken refuses pieces values e
fault_of taken refuses empty index pieces piece values e h done =
    elim done [
      | inl is ↦ subst (MayFail taken refuses pieces values) (sym is) tt
      | inr is ↦ subst (MayFail taken refuses pieces values) (sym is.0) (h, is.1)
    ]

pub take_all-requires : goal.take_all-requires
take_all-requires g c =
    let i = c.loop-index.index in
    let pieces = c.args.pieces.now in
    let inside : i < length pieces = search rules in
    let e = element pieces i inside in
    let done = rw (← c.index-done-index.is, c.in-Ok.is) at (c.requires.done i c.index-done-index.result e c.loop-index-test.true) in
    let bounds = c.requires.empty.0 in
    same_bounds (takes g.S.Sign.NEGATIVE) bounds _ _ _ _ (c.loop-index.invariant bounds c.requires.empty.1) (done bounds c.requires.empty.1)

pub loop-index-preserved : goal.loop-index-preserved
loop-index-preserved g c bounds h =
    let i = c.loop-index.index in
    let pieces = c.args.pieces.now in
    let inside : i < length pieces = search rules in
    let e = element pieces i inside in
    let done = rw (← c.index-done-index.is, c.in-Ok.is) at (c.requires.done i c.index-done-index.result e c.loop-index-test.true) in
    rw (joined_more (λ p. p.items) pieces i e inside) (c.take_all.ensures.counted (search rules) bounds _ _ (c.loop-index.invariant bounds h) (done bounds h))

pub returns-then-not-take_all-clause-err : goal.returns-then-not-take_all-clause-err
returns-then-not-take_all-clause-err g c =
    let i = c.loop-index.index in
    let pieces = c.args.pieces.now in
    let inside : i < length pieces = search rules in
    let e = element pieces i inside in
    let done = rw (← c.index-done-index.is, c.in-Ok.is) at (c.requires.done i c.index-done-index.result e c.loop-index-test.true) in
    let bounds = c.requires.empty.0 in
    let all = c.loop-index.invariant bounds c.requires.empty.1 in
    let piece = done bounds c.requires.empty.1 in
    let over = c.take_all.ensures.full (search rules) in
    too_many (takes g.S.Sign.NEGATIVE) (λ p. p.items) pieces i e bounds _ _ (2 ^ 64) inside all piece over

pub returns-in-Err-clause-err : goal.returns-in-Err-clause-err
returns-in-Err-clause-err g c =
    let i = c.loop-index.index in
    let pieces = c.args.pieces.now in
    let inside : i < length pieces = search rules in
    let e = element pieces i inside in
    let done = rw (← c.index-done-index.is, c.in-Err.is) at (c.requires.done i c.index-done-index.result e c.loop-index-test.true) in
    fault_of (takes g.S.Sign.NEGATIVE) (g.G.Gate.may_refuse c.args.gate.now) c.args.empty.now i (length pieces) (get_or pieces i e).items (flat_map (λ p. p.items) pieces) c.in-Err.fault inside done
