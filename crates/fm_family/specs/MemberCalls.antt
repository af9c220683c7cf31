-- What the calls of a family make of its members, which are known only while its lock is held.
use Rattle.std.specs.Prelude.{◌≡◌, Bool, List, Option, None, MatchOption, IsSomeAnd, is_some}
use denote.Ref.{Bor}
use Rattle.std.specs.Fn.{Once, FnOnceReturnsAt}
use Rattle.std.specs.List.{IsDistinct}
use Rattle.std.specs.Map.{lookup, keys_of, remove_entry}

-- the lock protected a state of which this is known, and the call made this of it, with this result
pub record Locked {S R : Type 0} (IsSound : S → Type 0) (IsDone : S → S → R → Type 0) (result : R) : Type 0 where
  pub old : S
  pub new : S
  pub sound : IsSound old
  pub is_done : IsDone old new result

-- no two members have equal labels
abbrev pub AreDifferent : {L M : Type 0} → (L → L → Bool) → List (L × M) → Type 0
AreDifferent eq members = IsDistinct eq (keys_of members)

-- `f` is called at the metric of the first member whose labels pass the test, and its result is returned; or there is no such member
abbrev pub CallsMember : {F L M R : Type 0} → Once F (Bor M × Unit {0}) R → F → (L → Bool) → List (L × M) → Option R → Type 0
CallsMember g f test members result = MatchOption (lookup test members) (result ≡ None) (λ metric. IsSomeAnd result (FnOnceReturnsAt g f metric))

-- the first member whose labels pass the test is gone, and the others stay in their order; the result says whether there was one
pub record Removes {L M : Type 0} (test : L → Bool) (old new : List (L × M)) (result : Bool) : Type 0 where
  pub found : result ≡ is_some (lookup test old)
  pub removed : new ≡ remove_entry test old
