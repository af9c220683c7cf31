-- What borrowing a subsystem means for a history.
use Rattle.std.specs.Prelude.{List, map}
use Rattle.fm_registry_rules.specs.Texts.{Text}
use Rattle.fm_registry_rules.specs.History.{Call, History, with_more, in_front, history_below}
use Rattle.fm_registry_rules.specs.Tree.{Tree, Reads}
use Rattle.fm_registry_rules.specs.Steps.{with_child}

-- The tree reads the history, and the subsystem reads the calls below its path as a history. What this history gains is added to
-- the tree's history, with the subsystem's name in front of the paths, once the subsystem is back in the tree.
pub record LoanReads {M : Type 0} (t : Tree M) (name : Text) (child : Tree M) (b : History M) : Type 0 where
  pub whole : Reads t b
  pub lent : Reads child (history_below b name)
  pub back : (w : Tree M) (more : List (Call M)) → Reads w (with_more (history_below b name) more) → Reads (with_child t name w) (with_more b (map (in_front name) more))
