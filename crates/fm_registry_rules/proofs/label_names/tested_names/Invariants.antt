use Rattle.std.proofs.Common.{◌≡◌, take, map, None}
use Rattle.std.specs.String.{string_bytes}
use Rattle.fm_registry_rules.specs.LabelNames.{shown_texts, names_refusal}
use Rattle.fm_registry_rules.proofs.label_names.tested_names.Given as goal

abbrev pub invariant-loop-name : goal.invariant-loop-name
invariant-loop-name l = record {
  copied : map string_bytes l.tested.items ≡ shown_texts (take l.name-index l.names);
  passed : names_refusal (shown_texts (take l.name-index l.names)) ≡ None;
}
