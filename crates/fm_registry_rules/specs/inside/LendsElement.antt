-- What a list that may be absent is once a `&mut` into it has ended.
use Rattle.std.specs.Prelude.{ℕ, Option, Vec}
use Rattle.std.specs.declared.alloc.Allocator as alloc
use Rattle.std.specs.contracts.option.Option as option
use Rattle.std.specs.contracts.vec.Vec as vec
use Rattle.std.specs.Option.{option_map}
use Rattle.std.specs.Vec.{with_item}
use Rattle.std.specs.Borrow.{Fml, RattleType, MutBor, Lends}

module _ (T A : RattleType) (g : alloc.Ghosts A.Denot) where
  -- the list has at this index the final value of r
  abbrev pub lends_element : MutBor (Option (Vec T.Denot A.Denot)) → ℕ → MutBor T.Denot → Fml
  lends_element v index r = Lends (option.the_row (vec.the_row T A g)) T v r (λ w. option_map (λ items. with_item items index w) v.now)
