use Rattle.std.proofs.Common.{◌≡◌, ◌≢◌, ℕ, suc, zero, ◌+◌, ◌<◌, ◌≤◌, ◌^◌, ◌==◌, Bool, true, false, cond, List, [], ◌∷◌, ◌++◌, length, get_or, take, sum_by, refl, ap, sym, subst, ◌∙◌, arith}
use Rattle.std.specs.Prelude.{All}
use Rattle.std.proofs.lemmas.Bool.Decides.{nat_tests}
use Rattle.std.proofs.lemmas.List.{take_more}
use Rattle.std.proofs.lemmas.List.Sums.{sum_by-append, sum_by-cons, sum_by-le-sum_by}
use Rattle.std.proofs.lemmas.List.Elements.{All-nil, All-cons}
use Rattle.fm_tally.specs.declared.book.Event.{Event}
use Rattle.fm_tally.specs.declared.book.Event.TheVariants.{Add, Read}
use Rattle.fm_tally.specs.declared.book.Reply.{Reply}
use Rattle.fm_tally.specs.declared.book.Reply.TheVariants.{Added, Full, Sum}
use Rattle.fm_tally.specs.Events.{Accepted, accepted, replies, sum_of, amount, fits, accept, reply, accepted_after, replies_after, event_value}

pub accepted_more : (start : ℕ) (before : List Accepted) (es : List Event) (e : Event) → accepted_after start before (es ++ e ∷ []) ≡ accept start (accepted_after start before es) e
accepted_more start before [] e = refl
accepted_more start before (x ∷ es) e = accepted_more start (accept start before x) es e

pub replies_more : (start : ℕ) (before : List Accepted) (es : List Event) (e : Event)
    → replies_after start before (es ++ e ∷ []) ≡ replies_after start before es ++ reply start (accepted_after start before es) e ∷ []
replies_more start before [] e = refl
replies_more start before (x ∷ es) e = ap (λ rs. reply start before x ∷ rs) (replies_more start (accept start before x) es e)

-- the reply at an index is that to the event there, after the events before it
pub reply_at : (start : ℕ) (before : List Accepted) (es : List Event) (k : ℕ) (d : Reply) (e : Event) → k < length es
    → get_or (replies_after start before es) k d ≡ reply start (accepted_after start before (take k es)) (get_or es k e)
reply_at start before [] k d e h = absurd (omega arith)
reply_at start before (x ∷ es) zero d e h = refl
reply_at start before (x ∷ es) (suc k) d e h = reply_at start (accept start before x) es k d e (omega arith)

sum_more : (adds : List Accepted) (who v : ℕ) → sum_of (adds ++ record { who = who; v = v } ∷ []) ≡ sum_of adds + v
sum_more adds who v = omega (arith, sum_by-append (λ (a : Accepted). a.v) adds (record { who = who; v = v } ∷ []))

bounded : (a : Accepted) (b : Bool) → cond b a.v 0 ≤ a.v
bounded a true = omega arith
bounded a false = omega arith

-- nobody added more than all
pub amount_within : (who : ℕ) (adds : List Accepted) → amount who adds ≤ sum_of adds
amount_within who adds = sum_by-le-sum_by (λ (a : Accepted). cond (a.who == who) a.v 0) (λ (a : Accepted). a.v) adds (λ a. bounded a (a.who == who))

room : (start v rest : ℕ) (before : List Accepted) → start + sum_of before + (v + rest) < 2 ^ 64 → fits start before v ≡ true
room start v rest before h = grind (arith, nat_tests)

-- if all values fit, all are accepted and none is refused
pub all_accepted : (start : ℕ) (before : List Accepted) (es : List Event) → start + sum_of before + sum_by event_value es < 2 ^ 64
    → (sum_of (accepted_after start before es) ≡ sum_of before + sum_by event_value es) × All (λ r. r ≢ Full) (replies_after start before es)
all_accepted start before [] h = (omega arith, All-nil (λ r. r ≢ Full))
all_accepted start before (Add who v ∷ es) h =
    let cons = sum_by-cons event_value (Add who v) es in
    let sum = sum_more before who v in
    let fit : fits start before v ≡ true = room start v (sum_by event_value es) before (omega (arith, cons)) in
    let rest = all_accepted start (before ++ record { who = who; v = v } ∷ []) es (omega (arith, cons, sum)) in
    let here : accept start before (Add who v) ≡ before ++ record { who = who; v = v } ∷ [] = rw fit refl in
    let said : reply start before (Add who v) ≡ Added = rw fit refl in (
      ap (λ b. sum_of (accepted_after start b es)) here ∙ omega (arith, cons, sum, rest.0),
      All-cons (λ r. r ≢ Full) (reply start before (Add who v)) _ (λ e. let f : Added ≡ Full = sym said ∙ e in cc) (subst (λ b. All (λ r. r ≢ Full) (replies_after start b es)) (sym here) rest.1),
    )
all_accepted start before (Read who ∷ es) h =
    let cons = sum_by-cons event_value (Read who) es in
    let rest = all_accepted start before es (omega (arith, cons)) in
    (omega (arith, cons, rest.0), All-cons (λ r. r ≢ Full) (Sum (start + sum_of before)) _ (λ e. cc) rest.1)

-- one event more
pub step_reply : (start : ℕ) (events : List Event) (i : ℕ) (d : Event) (rs : List Reply) (r : Reply) → i < length events → rs ≡ replies start (take i events)
    → r ≡ reply start (accepted start (take i events)) (get_or events i d) → rs ++ r ∷ [] ≡ replies start (take (i + 1) events)
step_reply start events i d rs r h was is =
    rw (take_more events i d h) (ap (λ xs. xs ++ r ∷ []) was ∙ (ap (λ x. replies start (take i events) ++ x ∷ []) is ∙ sym (replies_more start [] (take i events) (get_or events i d))))

pub step_sum : (start : ℕ) (events : List Event) (i : ℕ) (d : Event) (sum : ℕ) → i < length events
    → sum ≡ start + sum_of (accept start (accepted start (take i events)) (get_or events i d)) → sum ≡ start + sum_of (accepted start (take (i + 1) events))
step_sum start events i d sum h is =
    rw (take_more events i d h) (is ∙ ap (λ z. start + sum_of z) (sym (accepted_more start [] (take i events) (get_or events i d))))
