-- What a sink makes of the samples that it takes: it keeps them, or appends their lines to a text.
use Rattle.std.specs.Prelude.{◌≡◌, List, ◌++◌, Option, Some, None, IfSome}
use Rattle.fm_grammar.specs.Exposition.{Text, Label, Sample}
use Rattle.fm_exposition.specs.Rows.{sample_rows}

-- the samples so far, or the text so far
pub data Output : Type 0 where
  OutputSamples : List Sample → Output
  OutputText : Text → Output

-- with these further samples, of a family with this printed name
abbrev pub appended : Text → Output → List Sample → Output
appended name (OutputSamples before) samples = OutputSamples (before ++ samples)
appended name (OutputText before) samples = OutputText (before ++ sample_rows name samples)

-- with these further lines, if it is a text
abbrev pub with_lines : Output → Text → Output
with_lines (OutputSamples before) lines = OutputSamples before
with_lines (OutputText before) lines = OutputText (before ++ lines)

-- What contracts see of a sink: the labels that the next samples share, if it keeps samples and these share some, and the output so far.
pub record SinkState : Type 0 where
  pub shared : Option (List Label)
  pub output : Output

-- samples with these common labels may go to a sink
abbrev pub AreShared : List Label → Option (List Label) → Type 0
AreShared common shared = IfSome shared (λ labels. labels ≡ common)

-- what a sink with this output shares once it has taken a sample with these common labels
abbrev pub shared_by : Output → List Label → Option (List Label)
shared_by (OutputSamples samples) common = Some common
shared_by (OutputText text) common = None

-- the samples of an output that keeps them
abbrev pub samples_in : Output → Option (List Sample)
samples_in (OutputSamples samples) = Some samples
samples_in (OutputText text) = None

-- the text of an output that has one
abbrev pub text_in : Output → Option Text
text_in (OutputSamples samples) = None
text_in (OutputText text) = Some text
