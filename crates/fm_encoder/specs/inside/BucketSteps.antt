-- What the private steps of a point with buckets do.
use Rattle.std.specs.Prelude.{◌≡◌, ◌+◌, ◌<◌, ◌≤◌, ◌^◌, ℕ, List, [], ◌∷◌, Some, None, Result, MatchResult, ◌⊎◌}
use Rattle.std.specs.List.{AllByRecursion}
use Rattle.fm_grammar.specs.declared.MetricType.{MetricType}
use Rattle.fm_grammar.specs.declared.MetricType.TheVariants.{Histogram, GaugeHistogram, Summary}
use Rattle.fm_grammar.specs.declared.SampleKind.{SampleKind}
use Rattle.fm_grammar.specs.declared.SampleKind.TheVariants.{Count, Sum, GCount, GSum}
use Rattle.fm_grammar.specs.WellFormed.{IsSample}
use Rattle.fm_raw.specs.declared.encode_error.EncodeError.{EncodeError}
use Rattle.fm_raw.specs.declared.encode_error.EncodeError.TheVariants.{KindMismatch, ExemplarCountMismatch, BucketOverflow}
use Rattle.fm_raw.specs.declared.bucket.bound.Bucket.{Bucket}
use Rattle.fm_writer.specs.Output.{appended}
use Rattle.fm_encoder.specs.Points.{EmittedExemplar, ExemplarValid, ExemplarFault, values_in, BucketsFault, bucket_samples}
use Rattle.fm_encoder.specs.inside.Samples.{bucket_line}
use Rattle.fm_encoder.specs.Gathered.{GatheredPoints}
use Rattle.fm_labels.specs.Refusals.{OwnRefusal}
use Rattle.fm_encoder.specs.Emits.{SameContext}

-- metrics of the type have buckets
abbrev pub HasBuckets : MetricType → Type 0
HasBuckets Histogram = Unit {0}
HasBuckets GaugeHistogram = Unit {0}
HasBuckets _ = ⊥

-- metrics of the type show how many values there are in a sample of this kind, and their sum in one of that
abbrev pub HasTotals : MetricType → SampleKind → SampleKind → Type 0
HasTotals type of_count of_sum =
    (((type ≡ Histogram) ⊎ (type ≡ Summary)) × (of_count ≡ Count) × (of_sum ≡ Sum))
    ⊎ ((type ≡ GaugeHistogram) × (of_count ≡ GCount) × (of_sum ≡ GSum))

-- The tests of a point's type, then of the number of its slots, and then of whether its common labels were refused.
pub record BeginsBuckets (type : MetricType) (buckets slots : ℕ) (old new : GatheredPoints) : Type 0 where
  pub same : SameContext old new
  pub output : new.output ≡ old.output
  pub kept : (k : EncodeError) → old.refused ≡ Some k → new ≡ old
  pub same_type : new.refused ≡ None → type ≡ old.setting.metric_type
  pub same_number : new.refused ≡ None → slots ≡ buckets
  pub no_deferred : new.refused ≡ None → old.deferred ≡ None
  pub refused : (k : EncodeError) → old.refused ≡ None → new.refused ≡ Some k →
      ((k ≡ KindMismatch) × (¬ (type ≡ old.setting.metric_type))) ⊎ (((k ≡ ExemplarCountMismatch) × (¬ (slots ≡ buckets))) ⊎ (old.deferred ≡ Some k))

-- One more sample of a bucket, which shows how many values there are up to it, or why there is none.
pub record PushesBucket (before : ℕ) (bucket : Bucket) (exemplars : List EmittedExemplar) (MayFault : Type 0) (old new : GatheredPoints) (result : Result ℕ EncodeError) : Type 0 where
  pub same : SameContext old new
  pub returned : MatchResult result
      (λ values. (values ≡ before + bucket.count) × (values < 2 ^ 64) × (new.refused ≡ None) × ExemplarValid exemplars
      × (new.output ≡ appended old.setting.name old.output (bucket_line old.setting old.common bucket.upper_bound values exemplars ∷ []))
      × IsSample old.setting.metric_type (bucket_line old.setting old.common bucket.upper_bound values exemplars))
      (λ k. (new.refused ≡ Some k)
      × (OwnRefusal MayFault k ⊎ (((k ≡ BucketOverflow) × (2 ^ 64 ≤ before + bucket.count)) ⊎ ExemplarFault k exemplars)))

-- Further samples of buckets, or why there are none.
pub record PushesBuckets (buckets : List Bucket) (slots : List (List EmittedExemplar)) (MayFault : Type 0) (old new : GatheredPoints) : Type 0 where
  pub same : SameContext old new
  pub fits : new.refused ≡ None → values_in buckets < 2 ^ 64
  pub valid : new.refused ≡ None → AllByRecursion ExemplarValid slots
  pub output : new.refused ≡ None → new.output ≡ appended old.setting.name old.output (bucket_samples old.setting old.common [] buckets slots)
  pub formed : new.refused ≡ None → AllByRecursion (IsSample old.setting.metric_type) (bucket_samples old.setting old.common [] buckets slots)
  pub refused : (k : EncodeError) → new.refused ≡ Some k → OwnRefusal MayFault k ⊎ BucketsFault k buckets slots
