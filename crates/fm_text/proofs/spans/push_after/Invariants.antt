use Rattle.std.proofs.Common.{◌≡◌, ◌++◌, take, drop}
use Rattle.std.specs.List.{AllByRecursion}
use Rattle.fm_text.specs.inside.LabelTexts.{labels_in, IsSpan}
use Rattle.fm_text.proofs.spans.push_after.Given as goal

abbrev pub invariant-loop-span : goal.invariant-loop-span
invariant-loop-span l =
    AllByRecursion (IsSpan l.whole) l.spans.items
    × (labels_in l.whole l.spans.items ≡ labels_in l.whole l.fn.spans.items ++ labels_in (drop l.by l.whole) (take l.span-index l.others))
