-- How samples form points.
use Rattle.std.specs.Prelude.{◌≡◌, ◌≤◌, ℕ, List, [], ◌∷◌, ◌++◌, length, take, drop, Bool, true}
use Rattle.std.specs.List.{AllByRecursion}
use Rattle.fm_grammar.specs.Exposition as grammar
use Rattle.fm_grammar.specs.Exposition.{Label}
use Rattle.fm_exposition.specs.declared.exposition.Sample.{Sample}
use Rattle.fm_grammar.specs.inside.LabelLists.{AreUtf8Labels}
use Rattle.fm_exposition.specs.Samples.{common_labels, own_labels}

-- the samples have one list of common labels
abbrev pub HaveInCommon : List Label → List Sample → Type 0
HaveInCommon common samples = AllByRecursion (λ sample. common_labels sample ≡ common) samples

-- each point has its count of samples, which share their common labels, and no sample is left
abbrev pub AreInPoints : List ℕ → List Sample → Type 0
AreInPoints [] samples = samples ≡ []
AreInPoints (count ∷ counts) samples =
    (common : List Label) × (count ≤ length samples) × HaveInCommon common (take count samples) × AreInPoints counts (drop count samples)

-- the last point has these common labels, and may get more samples
pub record EndsInPoint (common : List Label) (counts : List ℕ) (samples : List Sample) : Type 0 where
  pub counts_before : List ℕ
  pub before : List Sample
  pub point : List Sample
  pub counts_are : counts ≡ counts_before ++ length point ∷ []
  pub samples_are : samples ≡ before ++ point
  pub points_before : AreInPoints counts_before before
  pub shared : HaveInCommon common point

-- the samples form points; if one is current, it has these common labels
pub record IsCut (common : List Label) (is_under_way : Bool) (counts : List ℕ) (samples : List Sample) : Type 0 where
  pub points : AreInPoints counts samples
  pub under_way : is_under_way ≡ true → EndsInPoint common counts samples

abbrev pub HaveUtf8Labels : List Sample → Type 0
HaveUtf8Labels samples = AllByRecursion (λ sample. AreUtf8Labels (common_labels sample) × AreUtf8Labels (own_labels sample)) samples

-- the samples form points, and all labels are valid UTF-8
pub record AreStored (common : List Label) (is_under_way : Bool) (counts : List ℕ) (samples : List Sample) : Type 0 where
  pub cut : IsCut common is_under_way counts samples
  pub common_utf8 : AreUtf8Labels common
  pub samples_utf8 : HaveUtf8Labels samples

-- how contracts see stored samples: the common labels of the next ones, and the samples
pub record Stored : Type 0 where
  pub common : List Label
  pub samples : List grammar.Sample
