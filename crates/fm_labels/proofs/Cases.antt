-- Cases of options and results.
use Rattle.std.proofs.Common.{◌≡◌, Option, Some, None, Result, Ok, Err, ◌⊎◌, inl, inr, refl}
use Rattle.fm_raw.specs.declared.encode_error.EncodeError.{EncodeError}
use Rattle.fm_labels.specs.Refusals.{result_of}

pub option_cases : {X : Type 0} → (o : Option X) → (o ≡ None) ⊎ ((x : X) × (o ≡ Some x))
option_cases None = inl refl
option_cases (Some x) = inr (x, refl)

pub answer_cases : (r : Result (Unit {0}) EncodeError) → (r ≡ Ok tt) ⊎ ((e : EncodeError) × (r ≡ Err e))
answer_cases (Ok _) = inl refl
answer_cases (Err e) = inr (e, refl)

pub none_from_not : {X : Type 0} → (o : Option X) → ((x : X) → o ≡ Some x → ⊥) → o ≡ None
none_from_not None never = refl
none_from_not (Some x) never = absurd (never x refl)

-- an encoder that returns no refusal has none
pub none_from_answer : {r : Result (Unit {0}) EncodeError} → (refused : Option EncodeError) → r ≡ result_of refused → r ≡ Ok tt → refused ≡ None
none_from_answer None is ok = refl
none_from_answer (Some k) is ok = absurd cc
