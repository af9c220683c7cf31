use Rattle.std.proofs.Common.{◌≡◌, Some, String, Global, sym, ap, ◌∙◌}
use Rattle.std.proofs.lemmas.Option.{slice_get-get_or}
use Rattle.std.specs.Option.{option_map}
use Rattle.std.specs.String.{string_bytes}
use Rattle.fm_registry_rules.specs.Answer.{missing_name}
use Rattle.fm_core.proofs.registry.tree.Registry.tested_path.Goals as goal

pub returns-in-Some-clause-answer : goal.returns-in-Some-clause-answer
returns-in-Some-clause-answer g c =
    let (name, within, is, missing) = rw c.as_slice.ensures.value at c.in-Some.ensures.some in
    let same : Some c.swap_remove.result ≡ Some name = sym (slice_get-get_or c.args.path.items c.in-Some.index c.swap_remove.result within ∙ ap Some (sym c.swap_remove.ensures.value))
    ∙ slice_get-get_or c.args.path.items c.in-Some.index name within ∙ ap Some (sym is) in
    ap missing_name (ap (option_map string_bytes) same ∙ sym missing)
