-- Lists that may be absent.
use Rattle.std.specs.Prelude.{List, [], Option, None, Some, Vec, String}
use Rattle.std.specs.declared.alloc.Global.{Global}
use Rattle.fm_grammar.specs.LabelPairs.{labels_of}
use Rattle.fm_registry_rules.specs.Texts.{Labels}

-- the items, or none
abbrev pub items_of : {T A : Type 0} → Option (Vec T A) → List T
items_of None = []
items_of (Some v) = v.items

-- labels, or none
abbrev pub seen_labels : Option (Vec (String Global × String Global) Global) → Labels
seen_labels labels = labels_of (items_of labels)
