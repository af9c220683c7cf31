-- Registries whose metrics all fit: what a registration keeps, and where a fault is.
use Rattle.std.proofs.Common.{◌≡◌, ℕ, suc, List, [], ◌∷◌, Option, None, Result, Ok, Err, inl, inr, refl, sym, subst, arith}
use Rattle.std.specs.List.{Any, AllByRecursion}
use Rattle.fm_grammar.specs.declared.MetricType.{MetricType}
use Rattle.fm_grammar.proofs.Runs.{all_weaker}
use Rattle.fm_raw.specs.declared.encode_error.EncodeError.{EncodeError}
use Rattle.fm_registry_rules.specs.Texts.{Path}
use Rattle.fm_registry_rules.specs.Registration.{Registration}
use Rattle.fm_registry_rules.specs.History.{History, Register, labels_at, namespace_at}
use Rattle.fm_registry_rules.specs.Answer.{answer}
use Rattle.fm_registry_rules.specs.Tree.{Tree, Shows, Reads}
use Rattle.fm_registry_rules.specs.Listing.{Listed, IsListable, order}
use Rattle.fm_registry_rules.specs.inside.Fitting.{FitsAt, HasFittingHistory}
use Rattle.fm_registry_rules.specs.declared.error.RegistryError.{RegistryError}
use Rattle.fm_registry_rules.proofs.FittingTreeLemmas.{fits_there, fitting-accepted, shown_fits, shown_listable}
use Rattle.fm_encoder.specs.Points.{Member}
use Rattle.fm_core.specs.HasHistory.{HasHistory}
use Rattle.fm_core.specs.Registers.{RegistersAt}
use Rattle.fm_core.specs.Admits.{HoldsOfOne}

module _ {M : Type 0} (Fits : Listed M → Type 0) where
  -- it reads a history
  pub fitting_history : (t : Tree M) → HasFittingHistory Fits t → HasHistory t
  fitting_history t h = record { history = h.history; reads = h.reads }

  -- a registration of a metric that fits if it is accepted, whichever type it declares, or one that was refused
  pub fitting_accepted : (path : Path) (Types : MetricType → Type 0) (asked : MetricType → Registration M) (old new : Tree M) (r : Result (Unit {0}) RegistryError) → RegistersAt path Types asked old new r
      → ((t : MetricType) → Types t → (b : History M) → Reads old b → answer b (Register path (asked t)) ≡ None → Fits (record { namespace = namespace_at b path; labels = labels_at b path; registration = asked t }))
      → HasFittingHistory Fits old → HasFittingHistory Fits new
  fitting_accepted path Types asked old new (Ok x) registers fits h =
      fitting-accepted Fits old new path (asked registers.metric_type) h (fits registers.metric_type registers.declared) registers.ok
  fitting_accepted path Types asked old new (Err e) registers fits h = subst (HasFittingHistory Fits) (sym registers.err) h

  -- one of a metric that fits the tree's registry at the path
  pub fitting_registers : (path : Path) (Types : MetricType → Type 0) (asked : MetricType → Registration M) (old new : Tree M) (r : Result (Unit {0}) RegistryError) → RegistersAt path Types asked old new r
      → ((t : MetricType) → Types t → FitsAt Fits old path (asked t)) → HasFittingHistory Fits old → HasFittingHistory Fits new
  fitting_registers path Types asked old new r registers fits h =
      fitting_accepted path Types asked old new r registers (λ t types b reads none. fits_there Fits old b path (asked t) reads.shows (fits t types) none) h

any-first : {X : Type 0} (P : X → Type 0) (x : X) (xs : List X) → P x → Any P (x ∷ xs)
any-first P x xs here = (0, x, omega arith, refl, here)

any-later : {X : Type 0} (P : X → Type 0) (x : X) (xs : List X) → Any P xs → Any P (x ∷ xs)
any-later P x xs (i, y, within, is, here) = (suc i, y, omega (arith, within), is, here)

module _ {M : Type 0} (P Q : Listed M → Type 0) where
  -- what holds of one of the listed metrics, and implies this for each
  some_one : (ls : List (Listed M)) → AllByRecursion (λ l. P l → Q l) ls → HoldsOfOne P ls → Any Q ls
  some_one [] each one = absurd one
  some_one (l ∷ ls) each (inl here) = any-first Q l ls (each.0 here)
  some_one (l ∷ ls) each (inr later) = any-later Q l ls (some_one ls each.1 later)

  both_hold : (R S : Listed M → Type 0) (ls : List (Listed M)) → AllByRecursion R ls → AllByRecursion S ls → AllByRecursion (λ l. R l × S l) ls
  both_hold R S [] r s = tt
  both_hold R S (l ∷ ls) r s = ((r.0, s.0), both_hold R S ls r.1 s.1)

  -- where it implies this for each metric that fits
  pub one_of_fitting : (Fits : Listed M → Type 0) → ((l : Listed M) → IsListable l → Fits l → P l → Q l)
      → (t : Tree M) (b : History M) → HasFittingHistory Fits t → Shows t b → HoldsOfOne P (order b) → Any Q (order b)
  one_of_fitting Fits each t b h shows one =
      some_one (order b)
      (all_weaker (λ l. IsListable l × Fits l) (λ l. P l → Q l) (λ l both. each l both.0 both.1) (order b)
      (both_hold IsListable Fits (order b) (shown_listable Fits t b h shows) (shown_fits Fits t b h shows)))
      one
