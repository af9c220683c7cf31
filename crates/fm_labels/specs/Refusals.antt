-- What encoders refuse, and what their calls return.
use Rattle.std.specs.Prelude.{◌≡◌, Option, Some, None, Result, Ok, Err, MatchResult, ◌⊎◌}
use Rattle.fm_raw.specs.declared.encode_error.EncodeError.{EncodeError}
use Rattle.fm_raw.specs.declared.encode_error.EncodeError.TheVariants.{Memory, MetricFault}

-- a source that returns no error of its own
abbrev pub NoFault : Type 0
NoFault = ⊥

-- what an encoder's own call returns: the first refusal, from then on
abbrev pub result_of : Option EncodeError → Result (Unit {0}) EncodeError
result_of None = Ok tt
result_of (Some k) = Err k

-- the refusal that an encoder makes of a source's own error
abbrev pub own_refusal : EncodeError → EncodeError
own_refusal Memory = Memory
own_refusal _ = MetricFault

-- What a source's visit comes to, where this was refused and the source returned `visited`: the first refusal, or else what the
-- encoder makes of the source's own error.
abbrev pub IsOutcome : Option EncodeError → Result (Unit {0}) EncodeError → Result (Unit {0}) EncodeError → Type 0
IsOutcome refused visited result =
    MatchResult result
    (λ _. (refused ≡ None) × (visited ≡ Ok tt))
    (λ k. (refused ≡ Some k) ⊎ ((e : EncodeError) × (refused ≡ None) × (visited ≡ Err e) × (k ≡ own_refusal e)))

-- why an encoder refuses a source's own error: want of memory, or the source may return errors of its own
abbrev pub OwnRefusal : Type 0 → EncodeError → Type 0
OwnRefusal MayFault k = (k ≡ Memory) ⊎ ((k ≡ MetricFault) × MayFault)

-- an error of the visited source, if nothing was refused
abbrev pub OwnError : Type 0 → EncodeError → Type 0
OwnError MayFault e = (e ≡ Memory) ⊎ MayFault

-- this is handed over, and the result is the refusal, if there is one
pub record Takes (Emitted : Type 0) (refused : Option EncodeError) (result : Result (Unit {0}) EncodeError) : Type 0 where
  pub emitted : Emitted
  pub returned : result ≡ result_of refused
