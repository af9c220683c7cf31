use Rattle.std.specs.Prelude.{◌≡◌, ℕ, ◌+◌, ◌≤◌, All, List, [], ◌∷◌, ◌++◌, Some}
use Rattle.std.proofs.Common.{arith, rules, nat_cmp, refl, ap}
use Rattle.std.specs.Ordering.{ord_max}
use Rattle.std.proofs.lemmas.Bool.Decides.{nat_tests}
use Rattle.std.proofs.lemmas.List.{length-append}
use Rattle.std.proofs.lemmas.List.Sums.{sum_by-append}
use Rattle.std.proofs.lemmas.List.Elements.{All-push, All-pop, All-weaker}
use Rattle.fm_tally.specs.Shares.{Counted, total_of}
use Rattle.fm_tally.proofs.tally.gather.Goals as goal

left_within : (a b : ℕ) → a ≤ ord_max nat_cmp a b
left_within a b = grind (arith, nat_tests)

right_within : (a b : ℕ) → b ≤ ord_max nat_cmp a b
right_within a b = grind (arith, nat_tests)

max_within : (a b c : ℕ) → a ≤ c → b ≤ c → ord_max nat_cmp a b ≤ c
max_within a b c h k = grind (arith, nat_tests)

covers_more : (xs : List Counted) (x : Counted) (most : ℕ) → All (λ s. s.seen ≤ most) xs → All (λ s. s.seen ≤ ord_max nat_cmp most x.seen) (xs ++ x ∷ [])
covers_more xs x most all =
    let left = left_within most x.seen in
    All-push (λ s. s.seen ≤ ord_max nat_cmp most x.seen) xs x
    (All-weaker (λ (s : Counted). s.seen ≤ most) (λ s. s.seen ≤ ord_max nat_cmp most x.seen) (λ s h. omega arith) xs all)
    (right_within most x.seen)

stays_least : (xs : List Counted) (x : Counted) (most : ℕ) → ((bound : ℕ) → All (λ s. s.seen ≤ bound) xs → most ≤ bound) → (bound : ℕ) → All (λ s. s.seen ≤ bound) (xs ++ x ∷ []) → ord_max nat_cmp most x.seen ≤ bound
stays_least xs x most least bound all =
    let both = All-pop (λ (s : Counted). s.seen ≤ bound) (xs ++ x ∷ []) xs (Some x) refl all in
    max_within most x.seen bound (least bound both.0) both.1

total_more : (xs : List Counted) (x : Counted) → total_of (xs ++ x ∷ []) ≡ total_of xs + x.amount
total_more xs x = omega (arith, sum_by-append (λ (s : Counted). s.amount) xs (x ∷ []))

pub loop-share-preserved : goal.loop-share-preserved
loop-share-preserved g c =
    let was = c.loop-share.invariant in let xs = c.loop-share.yielded in let x = c.in-Some.share in let seen = ap (λ (s : Counted). s.seen) c.share.view_is in (
      omega (arith, length-append xs (x ∷ [])),
      omega (arith, total_more xs x, ap (λ (s : Counted). s.amount) c.share.view_is),
      (let h = covers_more xs x c.loop-share.most was.2 in search rules),
      λ bound all. let h = stays_least xs x c.loop-share.most was.3 bound all in search rules,
    )
