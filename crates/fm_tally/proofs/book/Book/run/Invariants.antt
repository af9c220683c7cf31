use Rattle.std.proofs.Common.{◌≡◌, ◌+◌, ◌≤◌, length, take, vec_len, vec_items}
use Rattle.std.specs.Prelude.{vec_capacity}
use Rattle.fm_tally.specs.Events.{accepted, replies, sum_of}
use Rattle.fm_tally.proofs.book.Book.run.Given as goal

abbrev pub invariant-loop-event : goal.invariant-loop-event
invariant-loop-event l = record {
  made : vec_items l.replies ≡ replies l.fn.self (take l.event-index l.events);
  sum : l.self ≡ l.fn.self + sum_of (accepted l.fn.self (take l.event-index l.events));
  len : vec_len l.replies ≡ l.event-index;
  room : length l.events ≤ vec_capacity l.replies;
}
