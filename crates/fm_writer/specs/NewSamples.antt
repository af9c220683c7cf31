-- Samples on their way to a sink.
use Rattle.std.specs.Prelude.{◌≡◌, ◌<◌, ◌++◌, length}
use Rattle.std.specs.Option.{option_map}
use Rattle.fm_grammar.specs.Exposition.{Text, Sample}
use Rattle.fm_exposition.specs.Samples.{value_of, exemplar_of}
use Rattle.fm_writer.specs.Front.{line_front}
use Rattle.fm_writer.specs.declared.new_sample.NewSample.{NewSample}

-- how contracts see such a sample
abbrev pub new_sample : NewSample → Sample
new_sample sample = record {
  kind = sample.kind;
  labels = sample.common.now.labels ++ sample.own.now.labels;
  value = value_of sample.value;
  time = sample.time;
  exemplar = option_map exemplar_of sample.exemplar;
}

-- the sample has labels of its own, and this text is the front of its line in a family with this printed name
abbrev pub IsFrontOf : NewSample → Text → Text → Type 0
IsFrontOf sample name front = (front ≡ line_front name sample.kind sample.common.now.labels) × (0 < length sample.own.now.labels)
