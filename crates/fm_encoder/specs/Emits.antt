-- What sources promise when they write to encoders. Each record says: an encoder that has refused something does not change. If
-- nothing is refused, `Ok` means that all parts were emitted and are valid, and an error is `Memory` or a declared one.
-- A refusal is for want of memory, for a declared error, or for a fault in the parts. Once something is refused, nothing
-- is said of the result: a metric may return anything, and no document becomes invalid.
use Rattle.std.specs.Prelude.{◌≡◌, ◌≤◌, List, [], ◌∷◌, ◌++◌, map, length, Contains, Some, None, Result, Ok, Err, ◌⊎◌}
use Rattle.std.specs.List.{AllByRecursion, flat_map}
use Rattle.fm_grammar.specs.Exposition.{Value, Sample}
use Rattle.fm_raw.specs.declared.encode_error.EncodeError.{EncodeError}
use Rattle.fm_raw.specs.declared.encode_error.EncodeError.TheVariants.{Memory, ValueTwice, ExemplarTwice}
use Rattle.fm_writer.specs.Output.{appended}
use Rattle.fm_labels.specs.Labels.{EmittedLabel, PieceFault, LabelsFault, LabelsValid, all_written}
use Rattle.fm_encoder.specs.Points.{EmittedExemplar, ExemplarPartsValid, ExemplarPartsFault, written_as, Point, PointValid, HeadFault, PartsFault, point_samples, Member, MembersValid, MembersFault, members_samples}
use Rattle.fm_labels.specs.LabelEncoders.{GatheredPieces, GatheredLabels}
use Rattle.fm_encoder.specs.Gathered.{GatheredNumbers, GatheredExemplars, GatheredPoints, GatheredMembers}
use Rattle.fm_labels.specs.Refusals.{OwnRefusal, OwnError}

-- these numbers are emitted to a value encoder
pub record EmitsNumbers (numbers : List Value) (MayFault : Type 0) (old new : GatheredNumbers) (result : Result (Unit {0}) EncodeError) : Type 0 where
  pub kept : (k : EncodeError) → old.refused ≡ Some k → new ≡ old
  pub emitted : old.refused ≡ None → new.refused ≡ None → result ≡ Ok tt → new.numbers ≡ old.numbers ++ numbers
  pub own : (e : EncodeError) → new.refused ≡ None → result ≡ Err e → OwnError MayFault e
  pub refused : (k : EncodeError) → old.refused ≡ None → new.refused ≡ Some k → (k ≡ ValueTwice) × (2 ≤ length (old.numbers ++ numbers))

-- these exemplars are emitted to an exemplar encoder
pub record EmitsExemplars (exemplars : List EmittedExemplar) (MayFault : Type 0) (old new : GatheredExemplars) (result : Result (Unit {0}) EncodeError) : Type 0 where
  pub kept : (k : EncodeError) → old.refused ≡ Some k → new ≡ old
  pub valid : old.refused ≡ None → new.refused ≡ None → result ≡ Ok tt → AllByRecursion ExemplarPartsValid exemplars
  pub emitted : old.refused ≡ None → new.refused ≡ None → result ≡ Ok tt → new.exemplars ≡ old.exemplars ++ map written_as exemplars
  pub own : (e : EncodeError) → new.refused ≡ None → result ≡ Err e → OwnError MayFault e
  pub refused : (k : EncodeError) → old.refused ≡ None → new.refused ≡ Some k
      → OwnRefusal MayFault k ⊎ (((k ≡ ExemplarTwice) × (2 ≤ length (old.exemplars ++ map written_as exemplars))) ⊎ ((exemplar : EmittedExemplar) × Contains exemplars exemplar × ExemplarPartsFault k exemplar))

-- points under the common labels of one member
abbrev pub PointsValid : GatheredPoints → List Point → Type 0
PointsValid g [] = Unit {0}
PointsValid g (point ∷ points) = (g.deferred ≡ None) × PointValid g.setting g.common point × PointsValid g points

-- the fault is in a point: in its type or the number of its slots, in the common labels, or, if these are valid, in its parts
abbrev pub PointFaultHere : EncodeError → GatheredPoints → Point → Type 0
PointFaultHere k g point =
    HeadFault k g.setting point ⊎ ((g.deferred ≡ Some k) ⊎ ((g.deferred ≡ None) × PartsFault k g.setting g.common point))

abbrev pub PointsFault : EncodeError → GatheredPoints → List Point → Type 0
PointsFault k g [] = ⊥
PointsFault k g (point ∷ points) = PointFaultHere k g point ⊎ PointsFault k g points

abbrev pub points_samples : GatheredPoints → List Point → List Sample
points_samples g = flat_map (point_samples g.setting g.common)

-- the same but for the output and the refusal
pub record SameContext (old new : GatheredPoints) : Type 0 where
  pub setting : new.setting ≡ old.setting
  pub common : new.common ≡ old.common
  pub deferred : new.deferred ≡ old.deferred

-- some admitted list of points is emitted to a point encoder
pub record EmitsPoints (Admitted : List Point → Type 0) (MayFault : Type 0) (old new : GatheredPoints) (result : Result (Unit {0}) EncodeError) : Type 0 where
  pub same : SameContext old new
  pub kept : (k : EncodeError) → old.refused ≡ Some k → new ≡ old
  pub emitted : old.refused ≡ None → new.refused ≡ None → result ≡ Ok tt → (points : List Point) × Admitted points × PointsValid old points × (new.output ≡ appended old.setting.name old.output (points_samples old points))
  pub own : (e : EncodeError) → new.refused ≡ None → result ≡ Err e → OwnError MayFault e
  pub refused : (k : EncodeError) → old.refused ≡ None → new.refused ≡ Some k → OwnRefusal MayFault k ⊎ ((points : List Point) × Admitted points × PointsFault k old points)

-- some admitted list of members is offered to a metric encoder
pub record EmitsMembers (Admitted : List Member → Type 0) (MayFault : Type 0) (old new : GatheredMembers) (result : Result (Unit {0}) EncodeError) : Type 0 where
  pub context : new.context ≡ old.context
  pub kept : (k : EncodeError) → old.refused ≡ Some k → new ≡ old
  pub emitted : old.refused ≡ None → new.refused ≡ None → result ≡ Ok tt → (members : List Member) × Admitted members × MembersValid old.context members × (new.output ≡ appended old.context.setting.name old.output (members_samples old.context members))
  pub own : (e : EncodeError) → new.refused ≡ None → result ≡ Err e → OwnError MayFault e
  pub refused : (k : EncodeError) → old.refused ≡ None → new.refused ≡ Some k → OwnRefusal MayFault k ⊎ ((members : List Member) × Admitted members × MembersFault k old.context members)

-- the members of these points under the same labels
abbrev pub members_of : List EmittedLabel → List Point → List Member
members_of ls = map (λ p. record { labels = ls; point = p })

-- the members of some list of points that is admitted
abbrev pub MembersOf : List EmittedLabel → (List Point → Type 0) → List Member → Type 0
MembersOf labels Admitted members = (points : List Point) × Admitted points × (members ≡ members_of labels points)

-- the members of these pairs of a label set and a source of points, in order
abbrev pub OffersOf : {S M : Type 0} → (S → List EmittedLabel) → (M → List Point → Type 0) → List (S × M) → List Member → Type 0
OffersOf labels Points [] members = members ≡ []
OffersOf labels Points (pair ∷ pairs) members =
    (own : List Member) × (rest : List Member) × MembersOf (labels pair.0) (Points pair.1) own × OffersOf labels Points pairs rest × (members ≡ own ++ rest)
