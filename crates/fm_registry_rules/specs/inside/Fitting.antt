-- Metrics that fit the registry where they are registered. What fits is for those to say who register.
use Rattle.std.specs.Prelude.{Some, IfSome}
use Rattle.std.specs.List.{AllByRecursion}
use Rattle.fm_registry_rules.specs.Texts.{Path}
use Rattle.fm_registry_rules.specs.Registration.{Registration}
use Rattle.fm_registry_rules.specs.History.{History}
use Rattle.fm_registry_rules.specs.Tree.{Tree, subtree_from, Reads}
use Rattle.fm_registry_rules.specs.Listing.{Listed, listed_at}

module _ {M : Type 0} (Fits : Listed M → Type 0) where
  -- every metric of the history fits, with the namespace and the labels of its registry
  abbrev pub EachFits : History M → Type 0
  EachFits b = (path : Path) → AllByRecursion Fits (listed_at b path)

  -- a metric that is registered at this path of the tree fits the registry there
  abbrev pub FitsAt : Tree M → Path → Registration M → Type 0
  FitsAt t path registration =
      IfSome (subtree_from (Some t) path) (λ c. Fits (record { namespace = c.facts.namespace; labels = c.facts.labels; registration = registration }))

  -- the tree reads a history whose metrics all fit
  pub record HasFittingHistory (t : Tree M) : Type 0 where
    pub history : History M
    pub reads : Reads t history
    pub each : EachFits history
