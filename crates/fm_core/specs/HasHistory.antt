-- What holds of every registry that its calls lead to: it reads a history.
use Rattle.std.specs.Prelude.{◌≡◌, List, [], Option}
use Rattle.fm_registry_rules.specs.Texts.{Text, Labels}
use Rattle.fm_registry_rules.specs.History.{Call, History, root_history, with_more}
use Rattle.fm_registry_rules.specs.Tree.{Tree, Leaf, Reads}

-- the tree reads some history
pub record HasHistory {M : Type 0} (t : Tree M) : Type 0 where
  pub history : History M
  pub reads : Reads t history

-- each history that the old tree reads, with more calls after it, is read by the new tree: nothing that was accepted is
-- lost
pub record Grows {M : Type 0} (old new : Tree M) : Type 0 where
  pub calls : (b : History M) → Reads old b → List (Call M)
  pub reads : (b : History M) (h : Reads old b) → Reads new (with_more b (calls b h))

-- a root with nothing in it
abbrev pub root_tree : {M : Type 0} → Option Text → Labels → Tree M
root_tree namespace labels = record { facts = record { namespace = namespace; labels = labels; depth = 0; metrics = [] }; children = Leaf }

-- a new root with this namespace and these labels
pub record IsNewRoot {M : Type 0} (namespace : Option Text) (labels : Labels) (t : Tree M) : Type 0 where
  pub tree : t ≡ root_tree namespace labels
  pub reads : Reads t (root_history namespace labels)
  pub sound : HasHistory t
