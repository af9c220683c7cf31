use Rattle.std.proofs.Common.{◌≡◌, sym, ap}
use Rattle.std.proofs.lemmas.List.{take-map}
use Rattle.std.specs.String.{string_bytes}
use Rattle.fm_registry_rules.specs.Texts.{Path}
use Rattle.fastmetrics.proofs.registry.root.Root.leave.Goals as goal

pub returns : goal.returns
returns g c =
    let inside = c.self.inside in
    rw (c.truncate.ensures.items, ← c.self.view_is) (ap (λ (p : Path). record { at = record { tree = inside.registry; path = p }; base = inside.base; wait = inside.wait }) (sym (take-map string_bytes inside.base inside.path.items)))
