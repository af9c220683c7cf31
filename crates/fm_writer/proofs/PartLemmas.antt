-- Samples appended point by point.
use Rattle.std.proofs.Common.{◌≡◌, ℕ, List, take, drop}
use Rattle.std.specs.List.{flat_map}
use Rattle.fm_grammar.specs.Exposition as grammar
use Rattle.fm_grammar.specs.Exposition.{Text}
use Rattle.fm_exposition.specs.declared.exposition.Sample.{Sample}
use Rattle.fm_exposition.specs.Samples.{samples_of}
use Rattle.fm_exposition.proofs.PointLemmas.{lines_parts}
use Rattle.fm_text.specs.inside.Grown.{Grows, IsLeftOf}
use Rattle.fm_text.proofs.GrownLemmas.{left_of_more}

-- a point's lines are appended
pub point_more : (f : grammar.Sample → Text) (n : ℕ) (rest part others : List Sample) (whole : Text) (old now next : Text → Type 0) → part ≡ take n rest → others ≡ drop n rest
    → IsLeftOf (flat_map f (samples_of rest)) whole old now → Grows now next (flat_map f (samples_of part)) → IsLeftOf (flat_map f (samples_of others)) whole old next
point_more f n rest part others whole old now next part_is others_is left grown =
    left_of_more (flat_map f (samples_of part)) (flat_map f (samples_of others)) whole old now next (rw (← lines_parts f n rest part others part_is others_is) left) grown
