use Rattle.std.proofs.Common.{◌≡◌, ◌≤◌, ◌+◌, length, None, sym, ◌∙◌, subst, arith, take_all}
use Rattle.std.specs.List.{AllByRecursion}
use Rattle.std.specs.Map.{lookup}
use Rattle.fm_labels.specs.LabelValues.{values_eq}
use Rattle.fm_family.proofs.YoungLemmas.{all_more, none_from_false, beside}
use Rattle.fm_family.proofs.vec.members.VecMembers.are_beside.Goals as goal

pub loop-index-preserved : goal.loop-index-preserved
loop-index-preserved g c =
    all_more (λ f. lookup (values_eq f.0) c.args.others.now.entries ≡ None) c.args.self.now.entries c.loop-index.index (c.in-Some.values.now, c.in-Some.field-0-1.now) c.in-Some.ensures.shown c.loop-index.invariant (none_from_false _ (sym c.has.ensures ∙ c.if-has.false))

pub returns : goal.returns
returns g c = λ _.
    let others = c.args.others.now in let young = c.args.self.now in
    let len = c.len-index-end.ensures in
    let young_count = c.count.ensures in let other_count = c.count-2.ensures in let same = c.if-count.false in
    let count : young.count ≡ others.count = cc in
    let young_len = c.len.ensures.count in let other_len = c.len-else-count.ensures.count in let limit = c.limit.ensures in let within = c.len-else-count.ensures.within in
    let room : length others.entries + length young.entries ≤ others.limit = omega (arith, c.if-len-limit.false, young_len, other_len, limit, within) in
    let over : length young.entries ≤ c.loop-index.index = omega (arith, c.loop-index-test.false, len.count) in
    let apart = subst (AllByRecursion (λ f. lookup (values_eq f.0) others.entries ≡ None)) (take_all c.loop-index.index young.entries over) c.loop-index.invariant in
    beside others young c.are_different.ensures (record { different = len.different; values = len.values; within = len.within }) count room apart
