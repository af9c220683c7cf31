-- What the parts of a registry are once a `&mut` into one of them has ended.
use Rattle.std.specs.Prelude.{ℕ, Option, Vec}
use Rattle.std.specs.declared.alloc.Global.{Global}
use Rattle.std.specs.contracts.option.Option as option
use Rattle.std.specs.contracts.vec.Vec as vec
use Rattle.std.specs.contracts.alloc.Global as global
use Rattle.std.specs.contracts.impls.GlobalAllocator.TheImpl.{ghosts}
use Rattle.std.specs.String.{string_bytes}
use Rattle.std.specs.Borrow.{Fml, RattleType, MutBor, Lends}
use Rattle.fm_registry_rules.specs.Texts.{Text}
use Rattle.fm_registry_rules.specs.Tree.{Tree}
use Rattle.fm_registry_rules.specs.Steps.{with_named}
use Rattle.fm_registry_rules.specs.inside.Forests.{with_nth}
use Rattle.fm_registry_rules.specs.Lists.{items_of}
use Rattle.fm_core.specs.inside.TreeView.{forest_of}
use Rattle.fm_core.specs.contracts.registry.tree.Registry.{the_row}
use Rattle.fm_core.specs.contracts.registry.tree.Subsystem as subsystem
use Rattle.fm_core.specs.declared.registry.tree.Subsystem.{Subsystem}

module _ (M : RattleType) where
  -- the subsystems are the final value of r
  abbrev pub lends_subsystems : MutBor (Tree M.Denot) → MutBor (Option (Vec (Subsystem M.Denot) Global)) → Fml
  lends_subsystems t r = Lends (the_row M) (option.the_row (vec.the_row (subsystem.the_row M) global.the_row ghosts)) t r (λ w. record t.now { children = forest_of (items_of w) })

  -- the subsystem at this index is the final value of r, with its name
  abbrev pub lends_nth : MutBor (Tree M.Denot) → ℕ → MutBor (Subsystem M.Denot) → Fml
  lends_nth t index r = Lends (the_row M) (subsystem.the_row M) t r (λ w. record t.now { children = with_nth t.now.children index (string_bytes w.name) w.registry })

  -- the subsystem with this name is the final value of r, with its name
  abbrev pub lends_child : MutBor (Tree M.Denot) → Text → MutBor (Subsystem M.Denot) → Fml
  lends_child t name r = Lends (the_row M) (subsystem.the_row M) t r (λ w. record t.now { children = with_named t.now.children name (string_bytes w.name) w.registry })
