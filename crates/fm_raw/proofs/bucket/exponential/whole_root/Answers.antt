use Rattle.std.proofs.Common.{◌+◌, ◌^◌, ◌<◌, sym, ◌∙◌, ◌-◌, ◌/◌, arith}
use Rattle.fm_raw.proofs.ExponentialLemmas.{ones, root_between, root_above, root_below}
use Rattle.fm_raw.proofs.bucket.exponential.whole_root.Goals as goal

pub returns-then-power-eq1-clause-some : goal.returns-then-power-eq1-clause-some
returns-then-power-eq1-clause-some c = (omega arith, ones c.args.exponent ∙ sym c.if-power-eq1.true)

pub loop-low-init : goal.loop-low-init
loop-low-init c = record {
  two = omega arith;
  inside = omega arith;
  between = λ root is. root_between root c.args.exponent c.args.power c.requires.some.1 c.requires.some.0 c.if-power-eq1.false is;
}

pub loop-low-preserved-then-found-power-2 : goal.loop-low-preserved-then-found-power-2
loop-low-preserved-then-found-power-2 c =
    let middle = c.loop-low.low + (c.loop-low.high - c.loop-low.low) / 2 in
    let small : middle ^ c.args.exponent < c.args.power = omega (arith, c.capped_power-found.ensures, c.if-found-power-2.true, c.requires.small) in
    record {
      two = omega arith;
      inside = omega arith;
      between = λ root is. (root_above root middle c.args.exponent c.args.power is small, (c.loop-low.invariant.between root is).1);
    }

pub loop-low-preserved : goal.loop-low-preserved
loop-low-preserved c =
    let middle = c.loop-low.low + (c.loop-low.high - c.loop-low.low) / 2 in
    let great : c.args.power < middle ^ c.args.exponent = omega (arith, c.capped_power-found.ensures, c.if-found-power-2.false, c.if-found-power.false) in
    record {
      two = omega arith;
      inside = omega arith;
      between = λ root is. ((c.loop-low.invariant.between root is).0, root_below root middle c.args.exponent c.args.power is great);
    }
