use Rattle.std.proofs.Common.{◌≡◌, ◌<◌, map, length, string_bytes, vec_len, ap, arith, rules}
use Rattle.std.proofs.lemmas.List.{length-map}
use Rattle.fm_metrics.proofs.NameLemmas.{some_once}
use Rattle.fm_metrics.proofs.named_states.NamedStates.new.Goals as goal

pub invariant_of-new-clause-some : goal.invariant_of-new-clause-some
invariant_of-new-clause-some c =
    let names = c.args.names.now in
    let long : length c.in_ok-names.names.items ≡ vec_len c.in_ok-names.names = search rules in
    let given : 0 < length names = search rules in
    let copied = ap length c.in_ok-names.ensures.names in
    omega (arith, long, given, copied, some_once (map (λ name. name.now) names) (rw (length-map names (λ name. name.now)) given), length-map c.in_ok-names.names.items string_bytes)
