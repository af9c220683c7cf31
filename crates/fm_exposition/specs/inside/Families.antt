-- How contracts see a family.
use Rattle.std.specs.Option.{option_map}
use Rattle.std.specs.String.{string_bytes}
use Rattle.fm_grammar.specs.Exposition.{Family}
use Rattle.fm_exposition.specs.declared.exposition.FamilySamples.TheInside.{Inside}

abbrev pub family_of : Inside → Family
family_of a = record {
  name = string_bytes a.name;
  metric_type = a.metric_type;
  help = string_bytes a.help;
  unit = option_map string_bytes a.unit;
  samples = a.samples.samples;
}
