-- Shares that each have the sum of a batch.
use Rattle.std.proofs.Common.{◌≡◌, ℕ, suc, ◌<◌, List, [], ◌∷◌, Result, Ok, IfOk, map, length, get_or, sum_by, refl, sym, subst, arith}
use Rattle.std.proofs.lemmas.List.Sums.{sum_by-cons}
use Rattle.fastmetrics.specs.Shares.{Counted, total_of}

-- all shares together have the sum of all batches
pub all_batches : {X E : Type 0} (f : X → ℕ) (shares : List Counted) (done : List (Result Counted E)) (batches : List X) → map Ok shares ≡ done → length done ≡ length batches
    → ((k : ℕ) (d : Result Counted E) (e : X) → k < length done → IfOk (get_or done k d) (λ s. s.amount ≡ f (get_or batches k e))) → total_of shares ≡ sum_by f batches
all_batches f [] [] [] e n each = refl
all_batches f [] [] (b ∷ bs) e n each = absurd (omega arith)
all_batches f [] (r ∷ rs) batches e n each = absurd (cc)
all_batches f (s ∷ ss) [] batches e n each = absurd (cc)
all_batches f (s ∷ ss) (r ∷ rs) [] e n each = absurd (omega arith)
all_batches f (s ∷ ss) (r ∷ rs) (b ∷ bs) e n each =
    let head : Ok s ≡ r = cc in
    let tail : map Ok ss ≡ rs = cc in
    let here : s.amount ≡ f b = subst (λ x. IfOk x (λ s. s.amount ≡ f b)) (sym head) (each 0 r b (omega arith)) in
    let rest = all_batches f ss rs bs tail (omega arith) (λ k d x h. each (suc k) d x (omega arith)) in
    omega (arith, here, rest, sum_by-cons (λ (s : Counted). s.amount) s ss, sum_by-cons f b bs)
