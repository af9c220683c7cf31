-- What encoders of values, exemplars, points and members have gathered so far, and what they have refused.
use Rattle.std.specs.Prelude.{List, Option}
use Rattle.fm_grammar.specs.Exposition.{Label, Value, Exemplar}
use Rattle.fm_raw.specs.declared.encode_error.EncodeError.{EncodeError}
use Rattle.fm_writer.specs.Output.{Output}
use Rattle.fm_encoder.specs.Points.{Setting, Context}

-- a value encoder
pub record GatheredNumbers : Type 0 where
  pub numbers : List Value
  pub refused : Option EncodeError

-- an exemplar encoder
pub record GatheredExemplars : Type 0 where
  pub exemplars : List Exemplar
  pub refused : Option EncodeError

-- a point encoder; a refusal of the common labels is kept in `deferred` until the next point, and `output` is what its sink made of
-- the samples so far
pub record GatheredPoints : Type 0 where
  pub setting : Setting
  pub common : List Label
  pub deferred : Option EncodeError
  pub output : Output
  pub refused : Option EncodeError

-- a metric encoder
pub record GatheredMembers : Type 0 where
  pub context : Context
  pub output : Output
  pub refused : Option EncodeError
