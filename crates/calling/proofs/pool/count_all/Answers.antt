use Rattle.std.proofs.Common.{◌≡◌, ◌≤◌, Some, Ok, map, sum, length, vec_items, ap, ◌∙◌, arith, rules}
use Rattle.std.proofs.lemmas.List.Sums.{sum_by_push}
use Rattle.std.proofs.lemmas.List.Elements.{All-pop}
use Rattle.fastmetrics.specs.Shares.{Counted, total_of, unused}
use Rattle.calling.proofs.BatchLemmas.{all_batches}
use Rattle.calling.proofs.pool.count_all.Goals as goal

pub returns-clause-total : goal.returns-clause-total
returns-clause-total g c =
    let gathered : map Ok (vec_items c.in_ok-shares.shares) ≡ vec_items c.in_ok-done.done = c.in_ok-shares.ensures in
    let as_many : length (vec_items c.in_ok-done.done) ≡ length c.args.batches.now = search rules in
    let sums = all_batches (λ b. sum (vec_items b)) _ _ c.args.batches.now gathered as_many (λ k d e h. c.in_ok-done.ensures.each k d e (search rules)) in
    let whole = c.in_ok-total.ensures.sum.0 in
    let more = sum_by_push (λ (s : Counted). s.amount) (vec_items c.in_ok-shares.shares) c.in_ok-done.watch in
    let fresh = All-pop (λ (s : Counted). s ≡ unused) _ _ (Some c.in-Some.watch) c.in-Some.ensures.items c.in_ok-tally.ensures.unused in
    let nothing : c.in_ok-done.watch.amount ≡ 0 = c.in_ok-done.ensures.watch ∙ ap (λ (s : Counted). s.amount) fresh.1 in
    omega (arith, whole, ap total_of c.in_ok-push.ensures.items, more, nothing, sums)

pub returns-clause-so_far : goal.returns-clause-so_far
returns-clause-so_far g c =
    let all = c.in_ok-total.ensures.sum.1 in
    let both = All-pop (λ (s : Counted). s.seen ≤ c.in_ok-total.total) _ (vec_items c.in_ok-shares.shares) (Some c.in_ok-done.watch) c.in_ok-push.ensures.items all in
    search rules
