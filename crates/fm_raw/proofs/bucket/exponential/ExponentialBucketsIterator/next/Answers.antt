use Rattle.std.proofs.Common.{◌≡◌, ◌≢◌, ℕ, ◌<◌, ◌-◌, ◌*◌, ℤ, pos, List, ◌∷◌, length, refl, ap, to_z, rules, arith}
use Rattle.std.proofs.lemmas.Int.{to_z_pos}
use Rattle.std.specs.Int.{w64}
use Rattle.fm_raw.specs.Bounds.{exponential_bounds}
use Rattle.fm_raw.specs.inside.Fits.{FitExponential}
use Rattle.fm_raw.proofs.ExponentialLemmas.{exponential_more, no_less, fit_more, first_fits, second_fits}
use Rattle.fm_raw.proofs.bucket.exponential.ExponentialBucketsIterator.next.Goals as goal
use Rattle.fm_raw.proofs.bucket.exponential.ExponentialBucketsIterator.next.Goals.{then-self-gt0, else-self-gt0}

pub overflow_mul-self : goal.overflow_mul-self
overflow_mul-self c = record { fits = omega (arith, second_fits c.self.inside.next c.self.inside.factor c.self.inside.left c.self.invariant (omega arith)) }

pub invariant_of-self : goal.invariant_of-self
invariant_of-self c = fit_more c.self.inside.next c.self.inside.factor c.self.inside.left c.self.invariant

-- what the state is before and after a call
steps : (was now : List ℤ) (bound next factor left : ℕ) (answer : ℤ) → exponential_bounds (pos next) factor left ≡ was → FitExponential next factor left → answer ≡ to_z w64 next → left ≢ 0
    → now ≡ exponential_bounds (pos bound) factor (left - 1) → (0 < left - 1 → bound ≡ next * factor) → was ≡ answer ∷ now
steps was now bound next factor left answer same fits is some then more =
    let e = exponential_more next factor left (omega arith) in
    let rest = no_less bound (next * factor) factor (left - 1) more in
    rw (← same, e, then, rest, is, to_z_pos w64 next (first_fits next factor left fits (omega arith))) refl

pub returns-clause-steps : goal.returns-clause-steps
returns-clause-steps c =
    elim c.if-self-gt0.branch [
      | then-self-gt0 w ↦ steps c.args.self.now c.if-self-gt0.self _ c.self.inside.next c.self.inside.factor c.self.inside.left c.from_millionths.result c.self.view_is c.self.invariant c.from_millionths.ensures c.if-self-eq0.false w.self-is (λ _. refl)
      | else-self-gt0 w ↦ steps c.args.self.now c.if-self-gt0.self _ c.self.inside.next c.self.inside.factor c.self.inside.left c.from_millionths.result c.self.view_is c.self.invariant c.from_millionths.ensures c.if-self-eq0.false w.self-is (λ h. absurd (omega (arith, w.if-self-gt0.false)))
    ]

pub returns-clause-goes : goal.returns-clause-goes
returns-clause-goes c =
    let e = ap length (returns-clause-steps c) in search rules
