-- What a scrape has collected, and what it adds: families, or the lines of families.
use Rattle.std.specs.Prelude.{◌≡◌, List, ◌++◌, Option, None, Some, Vec}
use Rattle.std.specs.List.{AllByRecursion}
use Rattle.std.specs.Option.{option_map}
use Rattle.std.specs.String.{string_bytes}
use Rattle.std.specs.declared.alloc.Global.{Global}
use Rattle.fm_grammar.specs.Exposition.{Text, Sample, Family, Exposition}
use Rattle.fm_grammar.specs.WellFormed.{IsFamily}
use Rattle.fm_exposition.specs.inside.DocumentRows.{families_rows}
use Rattle.fm_raw.specs.declared.metadata.Metadata.{Metadata}
use Rattle.fm_raw.specs.Units.{seen_unit}
use Rattle.fm_registry_rules.specs.Lists.{items_of}
use Rattle.fm_registry_rules.specs.Registration.{printed_unit}
use Rattle.fm_registry_rules.specs.Listing.{Listed}
use Rattle.fm_writer.specs.Output.{Output, text_in}
use Rattle.fm_encoder.specs.declared.metric.EncodeMetric.{Ghosts}
use Rattle.fm_core.specs.Admits.{Admits}
use Rattle.fm_core.specs.Families.{GatheredFamilies}

-- the families so far, or their lines so far
pub record Collected : Type 0 where
  pub families : Exposition
  pub lines : Option Text

-- where there are lines, no families are kept
abbrev pub families_with : Option Text → Exposition → Exposition → Exposition
families_with None before more = before ++ more
families_with (Some lines) before more = before

-- with these further families, or their lines
abbrev pub with_families : Collected → Exposition → Collected
with_families c more = record { families = families_with c.lines c.families more; lines = option_map (λ lines. lines ++ families_rows more) c.lines }

-- what an encoder of families has collected
abbrev pub collected : GatheredFamilies → Collected
collected g = record { families = g.families; lines = g.lines }

-- the same by its parts: the families, if they are kept, and the output
abbrev pub collected_in : Option (Vec Family Global) → Output → Collected
collected_in families output = record { families = items_of families; lines = text_in output }

-- the family of a metric with this printed name and this metadata, with these samples
abbrev pub family_of : Text → Metadata → List Sample → Family
family_of name metadata samples =
    record { name = name; metric_type = metadata.metric_type; help = string_bytes metadata.help; unit = printed_unit (option_map seen_unit metadata.unit); samples = samples }

-- the listed metrics add families that they admit, each well formed, or the lines of these
abbrev pub Adds : {M : Type 0} → Ghosts M → List (Listed M) → Collected → Collected → Type 0
Adds declared ls old new = (e : Exposition) × Admits declared ls e × AllByRecursion IsFamily e × (new ≡ with_families old e)
