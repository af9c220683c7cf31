-- The samples of parts of a point, for lemmas and private functions.
use Rattle.std.specs.Prelude.{ℕ, pos, Bool, List, [], ◌∷◌, if◌then◌else◌, codes}
use Rattle.fm_grammar.specs.declared.SampleKind.TheVariants.{Plain, Total, Bucket as BucketKind}
use Rattle.fm_grammar.specs.Exposition.{Text, Label, Value, Whole, Fixed, Sample}
use Rattle.fm_grammar.specs.Numbers.{fixed_text}
use Rattle.fm_raw.specs.declared.bucket.bound.Bound.{Bound}
use Rattle.fm_raw.specs.declared.quantile.Quantile.{Quantile}
use Rattle.fm_encoder.specs.Points.{EmittedExemplar, Setting, Context, Member, plain_sample, written_exemplar, bound_label, point_samples, common_written}

module _ (setting : Setting) (common : List Label) where
  abbrev pub total_sample : List EmittedExemplar → Value → Sample
  total_sample exemplars number = record (plain_sample setting common Total [] number) { exemplar = written_exemplar exemplars }

  -- 1 for a state that is on, else 0
  abbrev pub state_sample : Text × Bool → Sample
  state_sample state =
      plain_sample setting common Plain (record { name = setting.name; value = state.0 } ∷ []) (Whole (pos (if state.1 then 1 else 0)))

  -- a sample that shows this number of values up to the bound
  abbrev pub bucket_line : Bound → ℕ → List EmittedExemplar → Sample
  bucket_line bound values exemplars =
      record (plain_sample setting common BucketKind (bound_label bound ∷ []) (Whole (pos values))) { exemplar = written_exemplar exemplars }

  -- the sample of a quantile has it as a label, and shows its value
  abbrev pub quantile_sample : Quantile → Sample
  quantile_sample q =
      plain_sample setting common Plain (record { name = codes "quantile"; value = fixed_text q.quantile } ∷ []) (Fixed q.value)

abbrev pub member_samples : Context → Member → List Sample
member_samples context member = point_samples context.setting (common_written context member) member.point
