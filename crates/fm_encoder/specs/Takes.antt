-- What calls of the encoders of values, exemplars, points and members promise: what it takes is emitted to the encoder, as `Emits` says it, and its result is the encoder's first refusal.
use Rattle.std.specs.Prelude.{◌≡◌, List, Option, Result}
use Rattle.fm_grammar.specs.Exposition.{Value}
use Rattle.fm_raw.specs.declared.encode_error.EncodeError.{EncodeError}
use Rattle.fm_encoder.specs.Points.{EmittedExemplar, Point, Member}
use Rattle.fm_encoder.specs.Gathered.{GatheredNumbers, GatheredExemplars, GatheredPoints, GatheredMembers}
use Rattle.fm_labels.specs.Refusals.{Takes}
use Rattle.fm_encoder.specs.Emits.{EmitsNumbers, EmitsExemplars, EmitsPoints, EmitsMembers}

abbrev pub TakesNumbers : List Value → Type 0 → GatheredNumbers → GatheredNumbers → Result (Unit {0}) EncodeError → Type 0
TakesNumbers numbers MayFault old new result = Takes (EmitsNumbers numbers MayFault old new result) new.refused result

abbrev pub TakesExemplars : List EmittedExemplar → Type 0 → GatheredExemplars → GatheredExemplars → Result (Unit {0}) EncodeError → Type 0
TakesExemplars exemplars MayFault old new result = Takes (EmitsExemplars exemplars MayFault old new result) new.refused result

abbrev pub TakesPoints : (List Point → Type 0) → Type 0 → GatheredPoints → GatheredPoints → Result (Unit {0}) EncodeError → Type 0
TakesPoints Admitted MayFault old new result = Takes (EmitsPoints Admitted MayFault old new result) new.refused result

abbrev pub TakesMembers : (List Member → Type 0) → Type 0 → GatheredMembers → GatheredMembers → Result (Unit {0}) EncodeError → Type 0
TakesMembers Admitted MayFault old new result = Takes (EmitsMembers Admitted MayFault old new result) new.refused result
