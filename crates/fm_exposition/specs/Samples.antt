-- How contracts see values, exemplars and samples.
use Rattle.std.specs.Prelude.{List, ◌++◌, map}
use Rattle.std.specs.Arc.{arc_value}
use Rattle.std.specs.Box.{box_value}
use Rattle.std.specs.Global.{Box}
use Rattle.std.specs.Option.{option_map}
use Rattle.std.specs.Borrow.{Bor}
use Rattle.std.specs.declared.alloc.Global.{Global}
use Rattle.std.specs.declared.sync.Arc.{Arc}
use Rattle.fm_grammar.specs.Exposition as grammar
use Rattle.fm_grammar.specs.Exposition.{Label}
use Rattle.fm_grammar.specs.LabelPairs.{labels_of}
use Rattle.fm_exposition.specs.declared.exposition.Value.{Value}
use Rattle.fm_exposition.specs.declared.exposition.Value.TheVariants.{Whole, Fixed, Millis}
use Rattle.fm_exposition.specs.declared.exposition.Exemplar.{Exemplar}
use Rattle.fm_exposition.specs.declared.exposition.Sample.{Sample}

abbrev pub value_of : Value → grammar.Value
value_of (Whole z) = grammar.Whole z
value_of (Fixed z) = grammar.Fixed z
value_of (Millis t) = grammar.Millis t

abbrev pub exemplar_of : Exemplar → grammar.Exemplar
exemplar_of exemplar = record { labels = labels_of exemplar.labels.items; value = exemplar.value; time = exemplar.time }

-- a borrowed exemplar
abbrev pub exemplar_at : Bor Exemplar → grammar.Exemplar
exemplar_at exemplar = exemplar_of exemplar.now

-- an exemplar in a box
abbrev pub boxed_exemplar : Box Exemplar → grammar.Exemplar
boxed_exemplar exemplar = exemplar_of (box_value exemplar)

-- labels that samples share
abbrev pub shared_labels : Arc (List Label) Global → List Label
shared_labels shared = arc_value shared

-- the labels that a sample shares with its point's other samples
abbrev pub common_labels : Sample → List Label
common_labels sample = shared_labels sample.common

abbrev pub own_labels : Sample → List Label
own_labels sample = sample.own

abbrev pub sample_of : Sample → grammar.Sample
sample_of sample = record {
  kind = sample.kind;
  labels = common_labels sample ++ own_labels sample;
  value = value_of sample.value;
  time = sample.time;
  exemplar = option_map boxed_exemplar sample.exemplar;
}

abbrev pub samples_of : List Sample → List grammar.Sample
samples_of samples = map sample_of samples
