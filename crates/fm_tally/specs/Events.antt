-- The result of a list of events, as sums over the list.
use Rattle.std.specs.Prelude.{ℕ, ◌+◌, ◌^◌, ◌==◌, nat_lt, Bool, if◌then◌else◌, List, [], ◌∷◌, ◌++◌, sum_by}
use Rattle.fm_tally.specs.declared.book.Event.{Event}
use Rattle.fm_tally.specs.declared.book.Event.TheVariants.{Add, Read}
use Rattle.fm_tally.specs.declared.book.Reply.{Reply}
use Rattle.fm_tally.specs.declared.book.Reply.TheVariants.{Added, Full, Sum}

-- a value that was accepted, and who added it
pub record Accepted : Type 0 where
  pub who : ℕ
  pub v : ℕ

abbrev pub sum_of : List Accepted → ℕ
sum_of adds = sum_by (λ a. a.v) adds

-- what one caller added
abbrev pub amount : ℕ → List Accepted → ℕ
amount who adds = sum_by (λ a. if a.who == who then a.v else 0) adds

-- the value, the start and the values accepted before it sum to at most 2^64 - 1
abbrev pub fits : ℕ → List Accepted → ℕ → Bool
fits start before v = nat_lt (start + sum_of before + v) (2 ^ 64)

-- what is accepted after one more event
abbrev pub accept : ℕ → List Accepted → Event → List Accepted
accept start before (Add who v) = if fits start before v then before ++ record { who = who; v = v } ∷ [] else before
accept start before (Read who) = before

-- the reply to an event
abbrev pub reply : ℕ → List Accepted → Event → Reply
reply start before (Add who v) = if fits start before v then Added else Full
reply start before (Read who) = Sum (start + sum_of before)

-- what is accepted after a list of events
abbrev pub accepted_after : ℕ → List Accepted → List Event → List Accepted
accepted_after start before [] = before
accepted_after start before (e ∷ es) = accepted_after start (accept start before e) es

abbrev pub replies_after : ℕ → List Accepted → List Event → List Reply
replies_after start before [] = []
replies_after start before (e ∷ es) = reply start before e ∷ replies_after start (accept start before e) es

abbrev pub accepted : ℕ → List Event → List Accepted
accepted start events = accepted_after start [] events

abbrev pub replies : ℕ → List Event → List Reply
replies start events = replies_after start [] events

-- the value of an Add
abbrev pub event_value : Event → ℕ
event_value (Add who v) = v
event_value (Read who) = 0
