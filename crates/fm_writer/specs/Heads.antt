-- Families as they are known before their samples.
use Rattle.std.specs.Prelude.{[]}
use Rattle.std.specs.Option.{option_copied}
use Rattle.fm_grammar.specs.Exposition.{Text, Family}
use Rattle.fm_writer.specs.declared.heads.FamilyHead.{FamilyHead}

-- the family with this printed name and this head, without samples
abbrev pub headed : Text → FamilyHead → Family
headed name head = record { name = name; metric_type = head.metric_type; help = head.help.now; unit = option_copied head.unit; samples = [] }
