-- A history by example: replies, refusals in their order, names and labels.
use Rattle.std.proofs.Common.{◌≡◌, false, true, [], ◌∷◌, codes, Option, None, Some, map, refl}
use Rattle.fm_grammar.specs.declared.MetricType.TheVariants.{Counter, Gauge, Info}
use Rattle.fm_registry_rules.specs.Texts.{Text, Label, set_label}
use Rattle.fm_registry_rules.specs.Registration.{Registration, SeenUnit}
use Rattle.fm_registry_rules.specs.History.{History, Call, Subsystem, Register, root_history, history_below}
use Rattle.fm_registry_rules.specs.Answer.{InvalidNameFormat, MustHaveAnEmptyUnitString, OtherUnitFormatMustBeLowercase, AlreadyExists, InvalidSubsystemName, InvalidLabelName, DuplicateLabel, NoSuchSubsystem, TooDeep, NameTaken, Refusal, answer, after, gained, root_labels_refusal}
use Rattle.fm_registry_rules.specs.Listing.{listed_name, order}

abbrev unit_of : Text → SeenUnit
unit_of text = record { own = false; text = text }

abbrev label : Text → Text → Label
label name value = record { name = name; value = value }

abbrev seconds : Registration (Unit {0})
seconds = record { name = codes "busy"; help = []; metric_type = Counter; unit = Some (unit_of (codes "seconds")); metric = tt }

abbrev root : History (Unit {0})
root = root_history (Some (codes "app")) []

abbrev asked : Call (Unit {0})
asked = Subsystem [] (codes "http") (label (codes "zone") (codes "a") ∷ [])

abbrev filled : History (Unit {0})
filled = after (after root asked) (Register (codes "http" ∷ []) seconds)

-- a history with a subsystem and a metric below it
asked_once : answer root asked ≡ None
asked_once = refl

asked_again : gained filled asked ≡ []
asked_again = refl

names : map listed_name (order filled) ≡ codes "app_http_busy_seconds" ∷ []
names = refl

labels_below : (history_below filled (codes "http")).labels ≡ label (codes "zone") (codes "a") ∷ []
labels_below = refl

-- each refusal, before those that come after it
no_such : answer root (Register (codes "http" ∷ []) (record seconds { name = codes "Busy" })) ≡ Some (NoSuchSubsystem (codes "http"))
no_such = refl

bad_name : answer root (Register [] (record seconds { name = codes "busy_"; metric_type = Info })) ≡ Some (InvalidNameFormat (codes "busy_"))
bad_name = refl

no_unit : answer root (Register [] (record seconds { metric_type = Info; unit = Some (unit_of (codes "Hz")) })) ≡ Some (MustHaveAnEmptyUnitString (codes "busy"))
no_unit = refl

bad_unit : answer filled (Register (codes "http" ∷ []) (record seconds { unit = Some (unit_of (codes "a_b")) })) ≡ Some (OtherUnitFormatMustBeLowercase (codes "a_b"))
bad_unit = refl

there_already : answer filled (Register (codes "http" ∷ []) (record seconds { help = codes "other" })) ≡ Some (AlreadyExists (codes "busy"))
there_already = refl

deep_name : answer (record root { depth = 64 }) (Subsystem [] (codes "9") []) ≡ Some (InvalidSubsystemName (codes "9"))
deep_name = refl

deep : answer (record root { depth = 64 }) (Subsystem [] (codes "http") (label (codes "9") [] ∷ [])) ≡ Some (TooDeep (codes "http"))
deep = refl

last_depth : answer (record root { depth = 63 }) (Subsystem [] (codes "http") (label (codes "9") [] ∷ [])) ≡ Some (InvalidLabelName (codes "9"))
last_depth = refl

-- labels of a root, one after the other, and a later value
twice : root_labels_refusal (label (codes "a") [] ∷ label (codes "b") [] ∷ label (codes "a") [] ∷ label (codes "9") [] ∷ []) ≡ Some (DuplicateLabel (codes "a"))
twice = refl

later_value : set_label (label (codes "a") [] ∷ label (codes "b") [] ∷ []) (label (codes "a") (codes "x")) ≡ label (codes "a") (codes "x") ∷ label (codes "b") [] ∷ []
later_value = refl

-- names that are taken, and names that are free, on an empty root
abbrev gauge : Text → Option SeenUnit → Registration (Unit {0})
gauge name unit = record { name = name; help = []; metric_type = Gauge; unit = unit; metric = tt }

abbrev empty : History (Unit {0})
empty = root_history None []

abbrev second : Call (Unit {0}) → Call (Unit {0}) → Option Refusal
second first then = answer (after empty first) then

abbrev counted : Text → Registration (Unit {0})
counted name = record { name = name; help = []; metric_type = Counter; unit = None; metric = tt }

tail_below_child : second (Register [] (gauge (codes "a_b") None)) (Subsystem [] (codes "a") []) ≡ Some (NameTaken (codes "a"))
tail_below_child = refl

child_above_tail : second (Subsystem [] (codes "a") []) (Register [] (gauge (codes "a_b") None)) ≡ Some (NameTaken (codes "a_b"))
child_above_tail = refl

child_below_child : second (Subsystem [] (codes "a") []) (Subsystem [] (codes "a_b") []) ≡ Some (NameTaken (codes "a_b"))
child_below_child = refl

child_above_child : second (Subsystem [] (codes "a_b") []) (Subsystem [] (codes "a") []) ≡ Some (NameTaken (codes "a"))
child_above_child = refl

unit_in_name : second (Register [] (gauge (codes "g") (Some (record { own = false; text = codes "bytes" })))) (Register [] (gauge (codes "g_bytes") None)) ≡ Some (NameTaken (codes "g_bytes"))
unit_in_name = refl

own_unit : second (Register [] (gauge (codes "g") (Some (record { own = false; text = codes "seconds" })))) (Register [] (gauge (codes "g") (Some (record { own = true; text = codes "seconds" })))) ≡ Some (NameTaken (codes "g"))
own_unit = refl

same_metric : second (Register [] (gauge (codes "g") None)) (Register [] (gauge (codes "g") None)) ≡ Some (AlreadyExists (codes "g"))
same_metric = refl

another_type : second (Register [] (counted (codes "a"))) (Register [] (gauge (codes "a") None)) ≡ Some (NameTaken (codes "a"))
another_type = refl

name_alone : second (Register [] (gauge (codes "a") None)) (Subsystem [] (codes "a") []) ≡ None
name_alone = refl

no_underscore : second (Register [] (gauge (codes "ab") None)) (Subsystem [] (codes "a") []) ≡ None
no_underscore = refl

same_child : second (Subsystem [] (codes "a") []) (Subsystem [] (codes "a") []) ≡ None
same_child = refl

label_before_name : second (Register [] (gauge (codes "a_b") None)) (Subsystem [] (codes "a") (label (codes "9") [] ∷ [])) ≡ Some (InvalidLabelName (codes "9"))
label_before_name = refl
