-- Texts that are valid UTF-8: the texts of labels, samples and families that are any text.
use Rattle.std.specs.Prelude.{IfSome}
use Rattle.std.specs.List.{AllByRecursion}
use Rattle.std.specs.Str.{IsUtf8}
use Rattle.fm_grammar.specs.Exposition.{Sample, Family}
use Rattle.fm_grammar.specs.inside.LabelLists.{AreUtf8Labels}

-- those of the sample's labels and of its exemplar's are
pub record IsUtf8Sample (sample : Sample) : Type 0 where
  pub labels : AreUtf8Labels sample.labels
  pub exemplar : IfSome sample.exemplar (λ exemplar. AreUtf8Labels exemplar.labels)

-- the help text and those of the samples are
pub record IsUtf8Family (family : Family) : Type 0 where
  pub help : IsUtf8 family.help
  pub samples : AllByRecursion IsUtf8Sample family.samples
