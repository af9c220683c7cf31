use Rattle.std.proofs.Common.{sym, ap, ◌∙◌, arith}
use lib.Count.{count_trailing_zeros}
use Rattle.fm_text.specs.inside.Plain.{is_special}
use Rattle.fm_reader.proofs.Runs.{run_bound, run_through, run_stops}
use Rattle.fm_reader.proofs.parts.plain.plain_end.Goals as goal

pub returns-then-found-ne0-clause-value : goal.returns-then-found-ne0-clause-value
returns-then-found-ne0-clause-value c =
    let found = c.specials-found in
    let run = run_stops is_special c.args.text.now c.loop-at.at 16 (omega arith) (omega arith) (omega (arith, found.ensures)) ∙ ap (count_trailing_zeros 64) (sym found.ensures) in
    omega (arith, run, c.loop-at.invariant.0)

pub returns-then-found-ne0-clause-bound : goal.returns-then-found-ne0-clause-bound
returns-then-found-ne0-clause-bound c =
    let found = c.specials-found in
    let run = run_stops is_special c.args.text.now c.loop-at.at 16 (omega arith) (omega arith) (omega (arith, found.ensures)) ∙ ap (count_trailing_zeros 64) (sym found.ensures) in
    omega (arith, run, run_bound is_special c.args.text.now c.loop-at.at c.loop-at.invariant.1)

pub loop-at-preserved : goal.loop-at-preserved
loop-at-preserved c =
    let run = run_through is_special c.args.text.now c.loop-at.at 16 (omega arith) (omega (arith, c.specials-found.ensures)) in
    (omega (arith, run, c.loop-at.invariant.0), omega arith)

pub returns-clause-bound : goal.returns-clause-bound
returns-clause-bound c = omega (arith, run_bound is_special c.args.text.now c.loop-at.at c.loop-at.invariant.1)
