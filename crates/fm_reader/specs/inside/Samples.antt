-- How contracts see a sample that was read.
use Rattle.std.specs.Prelude.{List}
use Rattle.std.specs.Option.{option_map}
use Rattle.fm_grammar.specs.Exposition.{Label, Sample}
use Rattle.fm_exposition.specs.Samples.{value_of, exemplar_of}
use Rattle.fm_reader.specs.inside.Parts.{Shown}
use Rattle.fm_reader.specs.inside.Shared.{all_labels}
use Rattle.fm_reader.specs.declared.lines.sample.ReadSample.{ReadSample}
use Rattle.fm_reader.specs.declared.lines.values.ReadValues.{ReadValues}

abbrev pub shown_of : ReadValues → Shown
shown_of values = record { value = value_of values.value; time = values.time; exemplar = option_map exemplar_of values.exemplar }

-- where the common labels of the sample before are given
abbrev pub read_sample_of : List Label → ReadSample → Sample
read_sample_of before sample = record {
  kind = sample.kind;
  labels = all_labels before sample.labels;
  value = value_of sample.value;
  time = sample.time;
  exemplar = option_map exemplar_of sample.exemplar;
}
