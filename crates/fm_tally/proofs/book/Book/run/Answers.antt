use Rattle.std.proofs.Common.{◌≡◌, ◌+◌, [], get_or, take, vec_items, ap, ◌∙◌, arith, rules}
use Rattle.std.proofs.lemmas.List.{take_all}
use Rattle.fm_tally.specs.Events.{sum_of, accepted, replies, reply}
use Rattle.fm_tally.proofs.Runs.{step_reply, step_sum, reply_at, amount_within, all_accepted}
use Rattle.fm_tally.proofs.book.Book.run.Goals as goal

pub loop-event-preserved : goal.loop-event-preserved
loop-event-preserved c =
    let was = c.loop-event.invariant in
    let start = c.args.self.now in
    let i = c.loop-event.event-index in
    let before = accepted start (take i c.args.events.now) in
    record {
      made = c.push_reserved.ensures.items ∙ step_reply start c.args.events.now i _ _ _ c.loop-event-test.true was.made (c.make-reply.ensures.reply start before was.sum);
      sum = step_sum start c.args.events.now i _ _ c.loop-event-test.true (c.make-reply.ensures.sum start before was.sum);
      len = search rules;
      room = search rules;
    }

-- all events were made
done : (c : goal.After-loop-event) → vec_items c.loop-event.replies ≡ replies c.args.self.now c.args.events.now
done c = c.loop-event.invariant.made ∙ ap (replies c.args.self.now) (take_all c.loop-event.event-index c.args.events.now c.loop-event-test.false)

pub returns-clause-own : goal.returns-clause-own
returns-clause-own c k who d e h is =
    let start = c.args.self.now in
    let before = accepted start (take k c.args.events.now) in
    let own = amount_within who before in (
      start + sum_of before,
      ap (λ rs. get_or rs k d) (done c) ∙ (reply_at start [] c.args.events.now k d e h ∙ ap (reply start before) is),
      omega arith,
    )

pub returns-clause-none_refused : goal.returns-clause-none_refused
returns-clause-none_refused c fits =
    let all = all_accepted c.args.self.now [] c.args.events.now (omega arith) in
    rw (done c) all.1

pub returns-clause-whole_sum : goal.returns-clause-whole_sum
returns-clause-whole_sum c fits =
    let all = all_accepted c.args.self.now [] c.args.events.now (omega arith) in
    let sum = c.loop-event.invariant.sum ∙ ap (λ es. c.args.self.now + sum_of (accepted c.args.self.now es)) (take_all c.loop-event.event-index c.args.events.now c.loop-event-test.false) in
    omega (arith, all.0, sum)
