use Rattle.std.proofs.Common.{◌≡◌, ◌≢◌, ℕ, ◌<◌, ◌-◌, ℤ, ◌+ℤ◌, List, ◌∷◌, length, refl, ap, to_z, of_z, rules, arith}
use Rattle.std.proofs.lemmas.Int.{to_z-of_z}
use Rattle.std.specs.Int.{w64}
use Rattle.std.specs.Int.RustNames.{FitsSigned}
use Rattle.fm_raw.specs.Bounds.{linear_bounds}
use Rattle.fm_raw.proofs.LinearLemmas.{linear_more, no_less, fit_more, second_fits, sum_is, sum_fits}
use Rattle.fm_raw.proofs.bucket.linear.LinearBucketsIterator.next.Goals as goal
use Rattle.fm_raw.proofs.bucket.linear.LinearBucketsIterator.next.Goals.{then-self-gt0, else-self-gt0}

pub overflow_add-self : goal.overflow_add-self
overflow_add-self c =
    let f : FitsSigned w64 c.self.inside.next = search rules in
    let g : FitsSigned w64 c.self.inside.width = search rules in
    sum_fits c.self.inside.next c.self.inside.width f g (second_fits c.self.inside.next c.self.inside.width c.self.inside.left c.self.invariant (omega arith))

pub invariant_of-self : goal.invariant_of-self
invariant_of-self c =
    let f : FitsSigned w64 c.self.inside.next = search rules in
    let g : FitsSigned w64 c.self.inside.width = search rules in
    let e = sum_is c.self.inside.next c.self.inside.width f g (second_fits c.self.inside.next c.self.inside.width c.self.inside.left c.self.invariant (omega arith)) in
    rw e (fit_more c.self.inside.next c.self.inside.width c.self.inside.left c.self.invariant)

-- what the state is before and after a call
steps : (was now inside : List ℤ) (bound next width : ℤ) (left : ℕ) (answer : ℤ) → inside ≡ was → inside ≡ linear_bounds next width left → FitsSigned w64 next → answer ≡ to_z w64 (of_z w64 next) → left ≢ 0
    → now ≡ linear_bounds bound width (left - 1) → (0 < left - 1 → bound ≡ next +ℤ width) → was ≡ answer ∷ now
steps was now inside bound next width left answer same view fits is some then more =
    let e = linear_more next width left (omega arith) in
    let rest = no_less bound (next +ℤ width) width (left - 1) more in
    rw (← same, view, e, then, rest, is, to_z-of_z w64 next fits) refl

pub returns-clause-steps : goal.returns-clause-steps
returns-clause-steps c =
    let f : FitsSigned w64 c.self.inside.next = search rules in
    let g : FitsSigned w64 c.self.inside.width = search rules in
    elim c.if-self-gt0.branch [
      | then-self-gt0 w ↦ (let e = sum_is c.self.inside.next c.self.inside.width f g (second_fits c.self.inside.next c.self.inside.width c.self.inside.left c.self.invariant (omega arith)) in
          steps c.args.self.now c.if-self-gt0.self _ _ c.self.inside.next c.self.inside.width c.self.inside.left c.from_millionths.result c.self.view_is refl f c.from_millionths.ensures c.if-self-eq0.false w.self-is (λ _. e))
      | else-self-gt0 w ↦ steps c.args.self.now c.if-self-gt0.self _ _ c.self.inside.next c.self.inside.width c.self.inside.left c.from_millionths.result c.self.view_is refl f c.from_millionths.ensures c.if-self-eq0.false w.self-is (λ h. absurd (omega (arith, w.if-self-gt0.false)))
    ]

pub returns-clause-goes : goal.returns-clause-goes
returns-clause-goes c =
    let e = ap length (returns-clause-steps c) in search rules
