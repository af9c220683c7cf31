-- Registries that read a history.
use Rattle.std.proofs.Common.{[], Option, None, IfSome, Result, Ok, Err, refl, sym, subst}
use Rattle.std.specs.List.{AllByRecursion}
use Rattle.fm_grammar.specs.Names.{IsSnakeCase}
use Rattle.fm_grammar.specs.WellFormed.{AreLabels}
use Rattle.fm_grammar.specs.declared.MetricType.{MetricType}
use Rattle.fm_registry_rules.specs.Texts.{Text, Labels}
use Rattle.fm_registry_rules.specs.Registration.{Registration}
use Rattle.fm_registry_rules.specs.History.{History, root_history, history_below, Register}
use Rattle.fm_registry_rules.specs.Answer.{after}
use Rattle.fm_registry_rules.specs.Tree.{Tree}
use Rattle.fm_registry_rules.specs.Loan.{LoanReads}
use Rattle.fm_registry_rules.specs.Listing.{IsListable, listed_tree}
use Rattle.fm_registry_rules.specs.declared.error.RegistryError.{RegistryError}
use Rattle.fm_registry_rules.proofs.RootLemmas.{reads-root_history}
use Rattle.fm_registry_rules.proofs.OrderLemmas.{listed_tree-fits}
use Rattle.fm_core.specs.HasHistory.{HasHistory, IsNewRoot, root_tree}
use Rattle.fm_core.specs.Registers.{Registers}

module _ {M : Type 0} where
  -- a root with a valid namespace and valid labels
  pub new_root : (namespace : Option Text) (labels : Labels) → IfSome namespace IsSnakeCase → AreLabels labels → IsNewRoot {M = M} namespace labels (root_tree namespace labels)
  new_root namespace labels valid are =
      let reads = reads-root_history {M = M} namespace labels valid are in
      record { tree = refl; reads = reads; sound = record { history = root_history namespace labels; reads = reads } }

  -- a root with neither
  pub new_empty_root : IsNewRoot {M = M} None [] (root_tree None [])
  new_empty_root = new_root None [] tt (record { names = tt; different = tt })

  -- after a registration
  pub Registers-sound : (Types : MetricType → Type 0) (asked : MetricType → Registration M) (old new : Tree M) (r : Result (Unit {0}) RegistryError) → Registers Types asked old new r → HasHistory old → HasHistory new
  Registers-sound Types asked old new (Ok x) registers sound = record { history = after sound.history (Register [] (asked registers.metric_type)); reads = registers.ok sound.history sound.reads }
  Registers-sound Types asked old new (Err e) registers sound = subst HasHistory (sym registers.err) sound

  -- a borrowed subsystem
  pub LoanReads-sound : (t c : Tree M) (name : Text) (b : History M) → LoanReads t name c b → HasHistory c
  LoanReads-sound t c name b loan = record { history = history_below b name; reads = loan.lent }

  -- each listed metric makes a well-formed family, but for its samples
  pub listed_tree-listable : (t : Tree M) → HasHistory t → AllByRecursion IsListable (listed_tree t)
  listed_tree-listable t sound = listed_tree-fits t sound.history sound.reads
