-- Which calls are accepted, and which text each error has.
use Rattle.std.specs.Prelude.{◌≡◌, ⊤, ℕ, ◌+◌, Bool, true, false, ◌&&◌, not, List, [], ◌∷◌, ◌++◌, Option, None, Some, Result, Ok, Err, length, if◌then◌else◌, nat_le, is_some, ◌⊎◌}
use Rattle.std.specs.String.{string_bytes}
use Rattle.fm_grammar.specs.NameTests.{is_snake_case, is_word, is_label_name}
use Rattle.fm_grammar.specs.Kinds.{takes_unit}
use Rattle.fm_registry_rules.specs.Texts.{Text, Labels, has_text}
use Rattle.fm_registry_rules.specs.Registration.{Registration, SeenUnit, is_same_metric, text_of_unit}
use Rattle.fm_registry_rules.specs.Taken.{tail_of, tails_of, is_tail_taken, is_child_taken}
use Rattle.fm_registry_rules.specs.History.{Call, Subsystem, Register, History, metrics_at, children_at, missing_along, with_more}
use Rattle.fm_registry_rules.specs.declared.error.RegistryError as errors

-- why a call is refused, with the text that caused it
pub data Refusal : Type 0 where
  InvalidNameFormat : Text → Refusal
  MustHaveAnEmptyUnitString : Text → Refusal
  OtherUnitFormatMustBeLowercase : Text → Refusal
  AlreadyExists : Text → Refusal
  Memory : Refusal
  InvalidNamespace : Text → Refusal
  InvalidSubsystemName : Text → Refusal
  InvalidLabelName : Text → Refusal
  DuplicateLabel : Text → Refusal
  NoSuchSubsystem : Text → Refusal
  TooDeep : Text → Refusal
  NameTaken : Text → Refusal
  ReservedLabel : Text → Refusal
  NoRandomKeys : Refusal

-- an error as a refusal, with its text as bytes
abbrev pub seen_error : errors.RegistryError → Refusal
seen_error (errors.TheVariants.InvalidNameFormat name) = InvalidNameFormat (string_bytes name)
seen_error (errors.TheVariants.MustHaveAnEmptyUnitString name) = MustHaveAnEmptyUnitString (string_bytes name)
seen_error (errors.TheVariants.OtherUnitFormatMustBeLowercase unit) = OtherUnitFormatMustBeLowercase (string_bytes unit)
seen_error (errors.TheVariants.AlreadyExists name) = AlreadyExists (string_bytes name)
seen_error errors.TheVariants.Memory = Memory
seen_error (errors.TheVariants.InvalidNamespace namespace) = InvalidNamespace (string_bytes namespace)
seen_error (errors.TheVariants.InvalidSubsystemName name) = InvalidSubsystemName (string_bytes name)
seen_error (errors.TheVariants.InvalidLabelName name) = InvalidLabelName (string_bytes name)
seen_error (errors.TheVariants.DuplicateLabel name) = DuplicateLabel (string_bytes name)
seen_error (errors.TheVariants.NoSuchSubsystem name) = NoSuchSubsystem (string_bytes name)
seen_error (errors.TheVariants.TooDeep name) = TooDeep (string_bytes name)
seen_error (errors.TheVariants.NameTaken name) = NameTaken (string_bytes name)
seen_error (errors.TheVariants.ReservedLabel name) = ReservedLabel (string_bytes name)
seen_error errors.TheVariants.NoRandomKeys = NoRandomKeys

-- the refusal that a result contains
abbrev pub refusal_of : {T : Type 0} → Result T errors.RegistryError → Option Refusal
refusal_of (Ok _) = None
refusal_of (Err e) = Some (seen_error e)

-- the first refusal of a list of tests
abbrev pub first_of : List (Bool × Refusal) → Option Refusal
first_of [] = None
first_of (test ∷ tests) = if test.0 then Some test.1 else first_of tests

-- the first refusal, or else the later one
abbrev pub or_then : Option Refusal → Option Refusal → Option Refusal
or_then (Some refusal) later = Some refusal
or_then None later = later

-- the first label whose name is invalid
abbrev pub first_bad_label : Labels → Option Refusal
first_bad_label [] = None
first_bad_label (label ∷ labels) = if is_label_name label.name then first_bad_label labels else Some (InvalidLabelName label.name)

-- the unit's text is not a word
abbrev pub is_bad_unit : Option SeenUnit → Bool
is_bad_unit None = false
is_bad_unit (Some unit) = not (is_word unit.text)

module _ {M : Type 0} where
  -- whether a metric of the list has this name, type and unit
  abbrev pub has_metric : List (Registration M) → Registration M → Bool
  has_metric [] registration = false
  has_metric (other ∷ others) registration = if is_same_metric registration other then true else has_metric others registration

  -- why a registry with these metrics and subsystems refuses a registration
  abbrev pub metric_refusal : List (Registration M) → List Text → Registration M → Option Refusal
  metric_refusal there children registration =
      first_of (
      (not (is_snake_case registration.name), InvalidNameFormat registration.name)
      ∷ (is_some registration.unit && not (takes_unit registration.metric_type), MustHaveAnEmptyUnitString registration.name)
      ∷ (is_bad_unit registration.unit, OtherUnitFormatMustBeLowercase (text_of_unit registration.unit))
      ∷ (has_metric there registration, AlreadyExists registration.name)
      ∷ (is_tail_taken (tails_of there) children (tail_of registration), NameTaken registration.name)
      ∷ [])

-- why a registry at this depth refuses a subsystem, whatever its labels
abbrev pub name_or_depth_refusal : ℕ → Text → Option Refusal
name_or_depth_refusal depth name = first_of ((not (is_snake_case name), InvalidSubsystemName name) ∷ (nat_le 64 depth, TooDeep name) ∷ [])

-- why a name, a depth and labels are refused for a subsystem, whatever else exists
abbrev pub asking_refusal : ℕ → Text → Labels → Option Refusal
asking_refusal depth name labels = or_then (name_or_depth_refusal depth name) (first_bad_label labels)

module _ {M : Type 0} where
  -- why a registry with these metrics and subsystems refuses the name of a new subsystem
  abbrev pub new_name_refusal : List (Registration M) → List Text → Text → Option Refusal
  new_name_refusal there children name = first_of ((is_child_taken (tails_of there) children name, NameTaken name) ∷ [])

  -- the same for any subsystem: one that exists is not refused
  abbrev pub child_refusal : List (Registration M) → List Text → Text → Option Refusal
  child_refusal there children name = if has_text children name then None else new_name_refusal there children name

  -- why a registry at this depth, with these metrics and subsystems, refuses a subsystem
  abbrev pub subsystem_refusal : ℕ → List (Registration M) → List Text → Text → Labels → Option Refusal
  subsystem_refusal depth there children name labels = or_then (asking_refusal depth name labels) (child_refusal there children name)

-- why a root refuses its namespace
abbrev pub namespace_refusal : Text → Option Refusal
namespace_refusal namespace = first_of ((not (is_snake_case namespace), InvalidNamespace namespace) ∷ [])

-- why a label is refused after labels with these names
abbrev pub label_refusal_after : List Text → Text → Option Refusal
label_refusal_after before name = first_of ((not (is_label_name name), InvalidLabelName name) ∷ (has_text before name, DuplicateLabel name) ∷ [])

-- the first refusal of labels that come after others with these names
abbrev pub labels_refusal_after : List Text → Labels → Option Refusal
labels_refusal_after before [] = None
labels_refusal_after before (label ∷ labels) = or_then (label_refusal_after before label.name) (labels_refusal_after (before ++ label.name ∷ []) labels)

-- why a root refuses its labels
abbrev pub root_labels_refusal : Labels → Option Refusal
root_labels_refusal labels = labels_refusal_after [] labels

-- the first name on the path that is not that of a subsystem
abbrev pub missing_name : Option Text → Option Refusal
missing_name None = None
missing_name (Some name) = Some (NoSuchSubsystem name)

module _ {M : Type 0} where
  -- the reply to a call, which the history alone decides
  abbrev pub answer : History M → Call M → Option Refusal
  answer b (Subsystem path name labels) = or_then (missing_name (missing_along b.calls [] path)) (subsystem_refusal (b.depth + length path) (metrics_at b.calls path) (children_at b.calls path) name labels)
  answer b (Register path registration) = or_then (missing_name (missing_along b.calls [] path)) (metric_refusal (metrics_at b.calls path) (children_at b.calls path) registration)

  -- what an accepted call adds to the history: nothing if it creates a subsystem that exists
  abbrev pub gained : History M → Call M → List (Call M)
  gained b (Subsystem path name labels) = if has_text (children_at b.calls path) name then [] else Subsystem path name labels ∷ []
  gained b (Register path registration) = Register path registration ∷ []

  -- the history after a reply
  abbrev pub after_if : Option Refusal → History M → Call M → History M
  after_if None b call = with_more b (gained b call)
  after_if (Some _) b call = b

  -- the history after a call
  abbrev pub after : History M → Call M → History M
  after b call = after_if (answer b call) b call

-- whether a call may run out of memory before it finds this reply: a name that is not in snake case, a unit, a depth, a
-- label and a path are refused without memory
abbrev pub MayTakeMemory : Option Refusal → Type 0
MayTakeMemory None = ⊤
MayTakeMemory (Some (AlreadyExists name)) = ⊤
MayTakeMemory (Some (NameTaken name)) = ⊤
MayTakeMemory (Some _) = ⊥

-- a call got the wanted reply, or there was no memory and the call may need some
abbrev pub IsReturned : Option Refusal → Option Refusal → Type 0
IsReturned got wanted = ((got ≡ Some Memory) × MayTakeMemory wanted) ⊎ (got ≡ wanted)
