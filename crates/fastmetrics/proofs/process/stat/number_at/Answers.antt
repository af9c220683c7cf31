use Rattle.std.proofs.Common.{◌≡◌, Bor, List, ℕ, ◌==◌, Some, option_map, slice_get, sym, ap, ◌∙◌, lit<}
use Rattle.std.specs.List.{slice_split}
use Rattle.std.proofs.lemmas.Iterator.Splits.{YieldsList-from_str_split}
use Rattle.std.proofs.lemmas.Iterator.Consumers.{nth_from_yields_List}
use Rattle.std.proofs.lemmas.Option.{IfSome_then}
use Rattle.fastmetrics.proofs.process.stat.number_at.Goals as goal

pub returns : goal.returns
returns c =
    let text = c.args.text.now in
    let pieces = YieldsList-from_str_split 32 text (lit< tt) c.split.ensures.text c.split.ensures.has_more c.split.ensures.pattern in
    let at = nth_from_yields_List c.nth.result _ c.args.index c.nth.ensures.ran pieces in
    let piece : slice_get (slice_split (λ byte. byte == 32) text) c.args.index ≡ Some c.in_ok-nth.field-0.now =
    sym at ∙ ap (option_map (λ (x : Bor (List ℕ)). x.now)) c.in_ok-nth.was in
    IfSome_then c.number_of.result c.number_of.ensures (λ number decimal. record { digits = c.in_ok-nth.field-0.now; piece = piece; decimal = decimal })
