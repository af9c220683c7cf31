use Rattle.std.proofs.Common.{◌≡◌, drop, map}
use Rattle.std.specs.String.{string_bytes}
use Rattle.fm_registry_rules.specs.Texts.{has_text}
use Rattle.fm_registry_rules.proofs.label_names.has_name.Given as goal

abbrev pub invariant-loop-other : goal.invariant-loop-other
invariant-loop-other l = has_text (map string_bytes (drop l.other-index l.names)) l.name ≡ has_text (map string_bytes l.names) l.name
