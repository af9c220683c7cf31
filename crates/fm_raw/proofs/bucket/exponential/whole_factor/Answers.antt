use Rattle.std.proofs.Common.{◌^◌, arith, ap, ◌∙◌}
use Rattle.std.specs.Int.{w64}
use Rattle.std.specs.Int.RustNames.{unsigned_abs, FitsSigned}
use Rattle.std.proofs.lemmas.Int.{ints, to_z-of_z}
use Rattle.fm_raw.proofs.ExponentialLemmas.{product_above, no_remainder}
use Rattle.fm_raw.proofs.bucket.exponential.whole_factor.Goals as goal

pub returns-then-greatest-le0-clause-none : goal.returns-then-greatest-le0-clause-none
returns-then-greatest-le0-clause-none c = (
  omega arith,
  λ factor one is.
      let above = product_above c.args.least factor c.args.steps c.requires one in
      omega (arith, ints, above, is, c.if-greatest-le0.true),
)

pub returns-then-greatest-least-ne0-clause-none : goal.returns-then-greatest-least-ne0-clause-none
returns-then-greatest-least-ne0-clause-none c = (
  omega arith,
  λ factor one is.
      let fits : FitsSigned w64 c.args.greatest = c.ranges.greatest in
      let size = c.unsigned_abs-greatest.ensures.value ∙ ap unsigned_abs (to_z-of_z w64 c.args.greatest fits) in
      c.if-greatest-least-ne0.true (no_remainder c.args.greatest c.unsigned_abs-greatest.result c.args.least (factor ^ c.args.steps) is size),
)
