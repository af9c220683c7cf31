-- What a sink has got from one metric.
use Rattle.std.specs.Prelude.{◌≡◌, ℕ, List, [], Option, None, Some, Vec}
use Rattle.std.specs.List.{AllByRecursion}
use Rattle.std.specs.declared.alloc.Global.{Global}
use Rattle.fm_grammar.specs.declared.MetricType.{MetricType}
use Rattle.fm_grammar.specs.Exposition.{Text, Label, Sample, Family}
use Rattle.fm_grammar.specs.WellFormed.{IsSample}
use Rattle.fm_exposition.specs.Rows.{head_rows}
use Rattle.fm_raw.specs.declared.metadata.Metadata.{Metadata}
use Rattle.fm_writer.specs.Output.{Output, OutputSamples, OutputText, appended}
use Rattle.fm_encoder.specs.Points.{Member}
use Rattle.fm_encoder.specs.Gathered.{GatheredMembers}
use Rattle.fm_encoder.specs.Offers.{AdmitsSamples}
use Rattle.fm_core.specs.inside.Collected.{family_of}

-- samples that the metric admits, which are well formed
pub record Formed (Offers : Option ℕ → List Member → Type 0) (Stamps : Option ℕ → Type 0) (name : Text) (type : MetricType) (constants : List Label) (samples : List Sample) : Type 0 where
  pub admitted : AdmitsSamples Offers Stamps name type constants samples
  pub formed : AllByRecursion (IsSample type) samples

-- such samples went to the sink
pub record Offered (Offers : Option ℕ → List Member → Type 0) (Stamps : Option ℕ → Type 0) (name : Text) (type : MetricType) (constants : List Label) (old new : Output) : Type 0 where
  pub samples : List Sample
  pub formed : Formed Offers Stamps name type constants samples
  pub is : new ≡ appended name old samples

-- the lines of a family with this printed name that come before its samples, for a metric with this metadata
abbrev pub rows_before : Text → Metadata → Text
rows_before name metadata = head_rows (family_of name metadata [])

-- samples of no family are kept now if families are, and otherwise there is a text
abbrev pub IsBetween : Option (Vec Family Global) → Output → Type 0
IsBetween None output = (text : Text) × (output ≡ OutputText text)
IsBetween (Some families) output = output ≡ OutputSamples []

-- the next family may begin
pub record IsReady (families : Option (Vec Family Global)) (encoder : GatheredMembers) : Type 0 where
  pub output : IsBetween families encoder.output
  pub accepting : encoder.refused ≡ None
