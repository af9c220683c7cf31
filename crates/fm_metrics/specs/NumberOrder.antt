-- The order of the numbers that metrics contain.
use Rattle.std.specs.Prelude.{◌≡◌, Option, Some}
use Rattle.std.specs.declared.cmp.Ordering.{Ordering}
use Rattle.std.specs.declared.cmp.Ordering.TheVariants.{Less}

-- x is less than y in the order of their type
abbrev pub IsLess : {N : Type 0} → (N → N → Option Ordering) → N → N → Type 0
IsLess cmp x y = cmp x y ≡ Some Less
