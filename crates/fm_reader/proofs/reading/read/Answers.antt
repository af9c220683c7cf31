use Rattle.std.proofs.Common.{◌∷◌, length, ap, arith, rules, length-append}
use Rattle.fm_grammar.proofs.Law.{one_reading}
use Rattle.fm_reader.proofs.Reached.{reached_bound, line_of, reached_next, bad_line, cut_short, fault_refuses, empty_text, not_empty_text, reached_end, given}
use Rattle.fm_reader.proofs.reading.read.Goals as goal

pub overflow_add-line : goal.overflow_add-line
overflow_add-line c =
    let bound = reached_bound _ _ _ _ c.loop-front.invariant.reached in
    let p = c.in-Some.ensures in
    omega (arith, bound, ap length p.0, length-append c.in-Some.front.now (10 ∷ c.in-Some.after.now))

pub returns-in_default-2-clause-fault : goal.returns-in_default-2-clause-fault
returns-in_default-2-clause-fault c =
    let p = c.in-Some.ensures in
    bad_line _ _ c.in-Some.front.now c.in-Some.after.now _ _ c.loop-front.invariant.reached p.0 (line_of _ p.1) (rw c.in_default-2.is at c.in_ok-next.ensures.step)

pub returns-in_default-2-clause-refused : goal.returns-in_default-2-clause-refused
returns-in_default-2-clause-refused c = fault_refuses _ _ (returns-in_default-2-clause-fault c)

pub loop-front-preserved : goal.loop-front-preserved
loop-front-preserved c =
    let p = c.in-Some.ensures in
    record {
      is_text = search rules;
      reached = reached_next _ _ c.in-Some.front.now c.in-Some.after.now _ _ _ c.loop-front.invariant.reached p.0 (line_of _ p.1) (rw c.in-Some-2.is at c.in_ok-next.ensures.step);
      names = rw c.in-Some-2.is at c.in_ok-next.ensures.names;
    }

pub overflow_add-result : goal.overflow_add-result
overflow_add-result c = omega (arith, reached_bound _ _ _ _ c.loop-front.invariant.reached)

pub overflow_add-result-in_default-ended : goal.overflow_add-result-in_default-ended
overflow_add-result-in_default-ended c = omega (arith, reached_bound _ _ _ _ c.loop-front.invariant.reached)

pub returns-then-not-is_empty-clause-fault : goal.returns-then-not-is_empty-clause-fault
returns-then-not-is_empty-clause-fault c =
    let none = c.in_default.ensures in
    cut_short _ _ _ _ c.loop-front.invariant.reached (line_of _ none) (λ both. not_empty_text _ c.if-not-is_empty.ensures both.0)

pub returns-then-not-is_empty-clause-refused : goal.returns-then-not-is_empty-clause-refused
returns-then-not-is_empty-clause-refused c = fault_refuses _ _ (returns-then-not-is_empty-clause-fault c)

pub returns-in_default-ended-clause-fault : goal.returns-in_default-ended-clause-fault
returns-in_default-ended-clause-fault c =
    let none = c.in_default.ensures in
    cut_short _ _ _ _ c.loop-front.invariant.reached (line_of _ none) (λ both. c.in_default-ended.ensures both.1)

pub returns-in_default-ended-clause-refused : goal.returns-in_default-ended-clause-refused
returns-in_default-ended-clause-refused c = fault_refuses _ _ (returns-in_default-ended-clause-fault c)

pub exposition-requires : goal.exposition-requires
exposition-requires c = (reached_end _ _ _ _ _ c.loop-front.invariant.reached (empty_text _ c.if-not-is_empty.ensures) c.in-Some-ended.ensures).0

pub returns-clause-read : goal.returns-clause-read
returns-clause-read c = given _ _ _ c.exposition.ensures (reached_end _ _ _ _ _ c.loop-front.invariant.reached (empty_text _ c.if-not-is_empty.ensures) c.in-Some-ended.ensures)

pub returns-clause-only : goal.returns-clause-only
returns-clause-only c = λ f h d.
    let r = given _ _ _ c.exposition.ensures (reached_end _ _ _ _ _ c.loop-front.invariant.reached (empty_text _ c.if-not-is_empty.ensures) c.in-Some-ended.ensures) in
    one_reading c.args.text.now f _ h.well_formed r.0.well_formed d r.1
