-- How contracts see a root: its tree, and the subsystem in which it registers.
use Rattle.std.specs.Prelude.{◌≡◌, ◌⊎◌, ◌++◌, ◌∷◌, ℕ, [], List, if◌then◌else◌, Option, None, Some, Result, Ok, Err, OnOk, OnErr, MatchResult}
use Rattle.fm_grammar.specs.declared.MetricType.{MetricType}
use Rattle.fm_registry_rules.specs.Texts.{Text, Path, Labels, has_text}
use Rattle.fm_registry_rules.specs.Registration.{Registration}
use Rattle.fm_registry_rules.specs.declared.error.RegistryError.{RegistryError}
use Rattle.fm_registry_rules.specs.declared.error.RegistryError.TheVariants.{Memory}
use Rattle.fm_registry_rules.specs.History.{History, Subsystem}
use Rattle.fm_registry_rules.specs.Answer.{Refusal, DuplicateLabel, seen_error, refusal_of, or_then, after}
use Rattle.fm_registry_rules.specs.Running.{IsReply}
use Rattle.fm_registry_rules.specs.Tree.{Tree, Reads, subtree_from}
use Rattle.fm_labels.specs.ReservedNames.{family_names_refusal}
use Rattle.fm_core.specs.HasHistory.{Grows}
use Rattle.fm_core.specs.Registers.{RegistersAt}

-- the tree, and the path of the subsystem in which metrics are registered
pub record RootState (M : Type 0) : Type 0 where
  pub tree : Tree M
  pub path : Path

-- the same of a root, with the length of the path to which `leave` goes back, and the handle by which its metrics wait
pub record SeenRoot (H M : Type 0) : Type 0 where
  pub at : RootState M
  pub base : ℕ
  pub wait : H

-- the first constant label whose name is among these
abbrev pub constants_refusal : Labels → List Text → Option Refusal
constants_refusal [] names = None
constants_refusal (label ∷ labels) names = if has_text names label.name then Some (DuplicateLabel label.name) else constants_refusal labels names

module _ {M : Type 0} where
  -- the constant labels of a registry, or none if there is no registry
  abbrev pub labels_of_tree : Option (Tree M) → Labels
  labels_of_tree None = []
  labels_of_tree (Some t) = t.facts.labels

  -- the constant labels of the current subsystem
  abbrev pub labels_here : RootState M → Labels
  labels_here r = labels_of_tree (subtree_from (Some r.tree) r.path)

  -- why a family of this type with these label names can't be in the current subsystem
  abbrev pub names_refusal_here : MetricType → List Text → RootState M → Option Refusal
  names_refusal_here type names r = or_then (family_names_refusal type names) (constants_refusal (labels_here r) names)

  -- there was no memory, and the root is as it was
  abbrev pub IsUnchanged : RegistryError → RootState M → RootState M → Type 0
  IsUnchanged e old new = (e ≡ Memory) × (new ≡ old)

  -- A metric was registered in the root's subsystem with this result, which is that of the history of the tree: at `Ok` the tree
  -- reads the history after the call, and at `Err` it is as it was. Nothing that was accepted is lost.
  pub record Adds (Types : MetricType → Type 0) (asked : MetricType → Registration M) (old new : RootState M) (result : Result (Unit {0}) RegistryError) : Type 0 where
    pub registers : RegistersAt old.path Types asked old.tree new.tree result
    pub grows : Grows old.tree new.tree
    pub path : new.path ≡ old.path

  -- there was this refusal, and the root is as it was
  pub record IsRefused {T : Type 0} (refusal : Option Refusal) (old new : RootState M) (result : Result T RegistryError) : Type 0 where
    pub error : RegistryError
    pub is : result ≡ Err error
    pub why : refusal ≡ Some (seen_error error)
    pub same : new ≡ old

  -- The same, unless there was no memory for the name and the help, or the names of the metric's labels were refused.
  abbrev pub AddsOrNot : Option Refusal → (MetricType → Type 0) → (MetricType → Registration M) → RootState M → RootState M → Result (Unit {0}) RegistryError → Type 0
  AddsOrNot refusal Types asked old new result =
      ((result ≡ Err Memory) × (new ≡ old)) ⊎ (IsRefused refusal old new result ⊎ ((refusal ≡ None) × Adds Types asked old new result))

  -- a clone of a metric was registered, as the metric that it converts to
  pub record AddsClone {T : Type 0} (IsClone : T → Type 0) (Converts : T → M → Type 0) (refusal : M → Option Refusal) (Types : M → MetricType → Type 0) (asked : M → MetricType → Registration M) (old new : RootState M) (result : Result (Unit {0}) RegistryError) : Type 0 where
    pub clone : T
    pub is_clone : IsClone clone
    pub metric : M
    pub converts : Converts clone metric
    pub adds : AddsOrNot (refusal metric) (Types metric) (asked metric) old new result

  -- A metric was made that is as `Begins` says, a clone of it was registered, and the metric is the result. At an error a clone was
  -- refused with this error, or there was no memory; the root is as it was.
  abbrev pub Makes : {T : Type 0} → (T → Type 0) → (T → T → Type 0) → (T → M → Type 0) → (M → Option Refusal) → (M → MetricType → Type 0) → (M → MetricType → Registration M) → RootState M → RootState M → Result T RegistryError → Type 0
  Makes {T} Begins IsClone Converts refuses Types asked old new result = MatchResult result
      (λ made. Begins made × AddsClone (IsClone made) Converts refuses Types asked old new (Ok tt))
      (λ e. IsUnchanged e old new ⊎ ((made : T) × AddsClone (IsClone made) Converts refuses Types asked old new (Err e)))

  -- a clone of this metric was registered, and the metric is the result; or there was an error, and the root is as it was
  abbrev pub AddsKept : {T : Type 0} → T → (T → T → Type 0) → (T → M → Type 0) → (M → Option Refusal) → (M → MetricType → Type 0) → (M → MetricType → Registration M) → RootState M → RootState M → Result T RegistryError → Type 0
  AddsKept metric IsClone Converts refuses Types asked old new result = MatchResult result
      (λ kept. (kept ≡ metric) × AddsClone (IsClone metric) Converts refuses Types asked old new (Ok tt))
      (λ e. IsUnchanged e old new ⊎ AddsClone (IsClone metric) Converts refuses Types asked old new (Err e))

  -- The same as `Makes` for a family by label names: these names were refused with this error, and the root is as it was; or they are
  -- not refused.
  abbrev pub MakesNamed : {T : Type 0} → Option Refusal → (T → Type 0) → (T → T → Type 0) → (T → M → Type 0) → (M → Option Refusal) → (M → MetricType → Type 0) → (M → MetricType → Registration M) → RootState M → RootState M → Result T RegistryError → Type 0
  MakesNamed {T} refusal Begins IsClone Converts refuses Types asked old new result = MatchResult result
      (λ made. (refusal ≡ None) × Begins made × AddsClone (IsClone made) Converts refuses Types asked old new (Ok tt))
      (λ e. IsUnchanged e old new
      ⊎ (((refusal ≡ Some (seen_error e)) × (new ≡ old))
      ⊎ ((refusal ≡ None) × ((made : T) × AddsClone (IsClone made) Converts refuses Types asked old new (Err e)))))

  -- The root goes on in the subsystem with this name, which is made with these labels if it isn't there; the result is that of the
  -- history of the tree. At `Err` the root is as it was.
  pub record Enters (name : Text) (labels : Labels) (old new : RootState M) (result : Result (Unit {0}) RegistryError) : Type 0 where
    pub reply : (b : History M) → Reads old.tree b → IsReply (refusal_of result) b (Subsystem old.path name labels)
    pub ok : OnOk result ((new.path ≡ old.path ++ name ∷ []) × ((b : History M) → Reads old.tree b → Reads new.tree (after b (Subsystem old.path name labels))))
    pub err : OnErr result (new ≡ old)
    pub grows : Grows old.tree new.tree
