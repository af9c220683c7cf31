-- The first sample with a name and labels.
use Rattle.std.specs.Prelude.{List, ◌++◌, map, find, flat_map, Bool, ◌&&◌, Option, option_map}
use Rattle.std.specs.Cmp.Lexicographic.{pointwise}
use Rattle.fm_grammar.specs.Kinds.{suffix_of}
use Rattle.fm_grammar.specs.Exposition.{Text, Label, Value, Sample, Family, Exposition}
use Rattle.fm_exposition.specs.Same.{same_text, same_label}

-- a sample, with the name that its line begins with
pub record NamedSample : Type 0 where
  pub name : Text
  pub sample : Sample

-- a sample of the family of this name: its own name is that, with the suffix of its kind
abbrev pub named_in : Text → Sample → NamedSample
named_in family sample = record { name = family ++ suffix_of sample.kind; sample = sample }

-- the samples of a family in order
abbrev pub named_samples : Family → List NamedSample
named_samples family = map (named_in family.name) family.samples

-- whether a sample has this name and exactly these labels
abbrev pub is_named : Text → List Label → NamedSample → Bool
is_named name labels named = same_text named.name name && pointwise same_label named.sample.labels labels

-- the value of the first such sample of a list, if there is one
abbrev pub value_among : Text → List Label → List NamedSample → Option Value
value_among name labels samples = option_map (λ named. named.sample.value) (find (is_named name labels) samples)

-- and of an exposition
abbrev pub first_value : Text → List Label → Exposition → Option Value
first_value name labels e = value_among name labels (flat_map named_samples e)
