use Rattle.std.proofs.Common.{◌<◌, ◌≤◌, length, rules, vec_len}
use Rattle.std.proofs.lemmas.List.{take_all}
use Rattle.fm_tally.proofs.pieces.observe_pieces.Goals as goal

pub merge_all-requires-clause-done : goal.merge_all-requires-clause-done
merge_all-requires-clause-done g c = λ κs below k d e h.
    let h' : k < vec_len c.in_ok-done.done = search rules in
    rw c.as_slice.ensures.value (c.in_ok-done.ensures.done k d e h')

pub returns-then-all_started-clause-ok : goal.returns-then-all_started-clause-ok
returns-then-all_started-clause-ok g c =
    let made = c.in_ok-empty.ensures.bounds in
    let full : length c.args.pieces.now ≤ length c.as_slice.result.now = search rules in
    (made.0, made.1, rw (take_all (length c.as_slice.result.now) c.args.pieces.now full) at (c.in_ok-all.ensures.ok made.0 made.2))
