use Rattle.std.proofs.Common.{◌≡◌, drop, map}
use Rattle.fm_grammar.specs.LabelPairs.{shown_label}
use Rattle.fm_exposition.specs.Finding.{first_value}
use Rattle.fm_exposition.proofs.exposition.Exposition.value.Given as goal

-- the families that are left decide
abbrev pub invariant-loop-family : goal.invariant-loop-family
invariant-loop-family l =
    first_value l.name (map shown_label l.labels) (drop l.family-index l.family-items)
    ≡ first_value l.name (map shown_label l.labels) l.self
