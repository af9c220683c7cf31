-- A history: a root, and the flat list of the calls that were accepted.
use Rattle.std.specs.Prelude.{ℕ, ◌+◌, ◌&&◌, List, [], ◌∷◌, ◌++◌, fold, Option, None, Some, if◌then◌else◌}
use Rattle.std.specs.Str.{bytes_eq}
use Rattle.fm_registry_rules.specs.Texts.{Text, Path, Labels, path_eq, has_text, merge_labels, join_name}
use Rattle.fm_registry_rules.specs.Registration.{Registration}

-- an accepted call: at a registry's path, a subsystem with its name and labels, or a metric
pub data Call (M : Type 0) : Type 0 where
  Subsystem : Path → Text → Labels → Call M
  Register : Path → Registration M → Call M

-- what the root was made with, how many registries are above it, and the calls
pub record History (M : Type 0) : Type 0 where
  pub namespace : Option Text
  pub labels : Labels
  pub depth : ℕ
  pub calls : List (Call M)

module _ {M : Type 0} where
  -- the history of a new root
  abbrev pub root_history : Option Text → Labels → History M
  root_history namespace labels = record { namespace = namespace; labels = labels; depth = 0; calls = [] }

  -- the metrics registered at a path, in order
  abbrev pub metrics_at : List (Call M) → Path → List (Registration M)
  metrics_at [] path = []
  metrics_at (Register target registration ∷ calls) path = if path_eq target path then registration ∷ metrics_at calls path else metrics_at calls path
  metrics_at (Subsystem target name labels ∷ calls) path = metrics_at calls path

  -- the names of the subsystems at a path, in order
  abbrev pub children_at : List (Call M) → Path → List Text
  children_at [] path = []
  children_at (Register target registration ∷ calls) path = children_at calls path
  children_at (Subsystem target name labels ∷ calls) path = if path_eq target path then name ∷ children_at calls path else children_at calls path

  -- the labels that the subsystem with this name at a path was given
  abbrev pub labels_given : List (Call M) → Path → Text → Labels
  labels_given [] path name = []
  labels_given (Register target registration ∷ calls) path name = labels_given calls path name
  labels_given (Subsystem target other labels ∷ calls) path name =
      if path_eq target path && bytes_eq other name then labels ++ labels_given calls path name else labels_given calls path name

  -- the labels at the end of a path that continues from a registry: those of the registry, then those of each subsystem
  -- on the path
  abbrev pub labels_along : List (Call M) → Labels → Path → Path → Labels
  labels_along calls labels target [] = labels
  labels_along calls labels target (name ∷ path) = labels_along calls (merge_labels labels (labels_given calls target name)) (target ++ name ∷ []) path

  -- the labels of the registry at a path
  abbrev pub labels_at : History M → Path → Labels
  labels_at b path = labels_along b.calls b.labels [] path

  -- the root's namespace and the names of the path, joined by underscores
  abbrev pub namespace_at : History M → Path → Option Text
  namespace_at b path = fold join_name b.namespace path

  -- the first name of a path from a registry that is not that of a subsystem
  abbrev pub missing_along : List (Call M) → Path → Path → Option Text
  missing_along calls target [] = None
  missing_along calls target (name ∷ path) = if has_text (children_at calls target) name then missing_along calls (target ++ name ∷ []) path else Some name

  -- the history with more calls at its end
  abbrev pub with_more : History M → List (Call M) → History M
  with_more b more = record b { calls = b.calls ++ more }

  -- a call, as the registry above the subsystem with this name sees it
  abbrev pub in_front : Text → Call M → Call M
  in_front name (Subsystem target other labels) = Subsystem (name ∷ target) other labels
  in_front name (Register target registration) = Register (name ∷ target) registration

  -- the calls below a subsystem, as that subsystem sees them
  abbrev pub calls_below : List (Call M) → Text → List (Call M)
  calls_below [] name = []
  calls_below (Subsystem [] other labels ∷ calls) name = calls_below calls name
  calls_below (Subsystem (front ∷ target) other labels ∷ calls) name =
      if bytes_eq front name then Subsystem target other labels ∷ calls_below calls name else calls_below calls name
  calls_below (Register [] registration ∷ calls) name = calls_below calls name
  calls_below (Register (front ∷ target) registration ∷ calls) name =
      if bytes_eq front name then Register target registration ∷ calls_below calls name else calls_below calls name

  -- the history of a subsystem of the root: its namespace, labels and depth, and the calls below it
  abbrev pub history_below : History M → Text → History M
  history_below b name = record {
    namespace = join_name b.namespace name;
    labels = merge_labels b.labels (labels_given b.calls [] name);
    depth = b.depth + 1;
    calls = calls_below b.calls name;
  }
