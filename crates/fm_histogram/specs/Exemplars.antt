-- A histogram that keeps the last exemplar of each bucket.
use Rattle.std.specs.Prelude.{◌≡◌, ℕ, ◌&&◌, true, ℤ, List, [], ◌∷◌, Option, Some, Result, length, slice_get, slice_set, is_ok, if◌then◌else◌}
use Rattle.fm_raw.specs.declared.bucket.bound.Bucket.{Bucket}
use Rattle.fm_raw.specs.declared.error.MetricError.{MetricError}
use Rattle.fm_encoder.specs.Points.{EmittedExemplar}
use Rattle.fm_encoder.specs.declared.exemplar.labeled.LabeledExemplar.{LabeledExemplar}
use Rattle.fm_encoder.specs.declared.exemplar.exemplar_labels.ExemplarLabels.{ExemplarLabels}
use Rattle.fm_histogram.specs.Histogram.{Histogram, CountsTaken, is_taken, index}
use Rattle.fm_histogram.specs.Observing.{Observes}

-- what is counted, and for each bucket the last exemplar, if there was one
pub record WithExemplars : Type 0 where
  pub counted : Histogram
  pub last : List (Option (LabeledExemplar ExemplarLabels))

-- the value counts, in the bucket at this index
pub record LiesAt (buckets : List Bucket) (i : ℕ) (value : ℤ) : Type 0 where
  pub taken : is_taken value ≡ true
  pub here : index value buckets ≡ i

-- the slots that are emitted: an exemplar lies in the bucket of its slot
pub record SlotsFit (buckets : List Bucket) (slots : List (List EmittedExemplar)) : Type 0 where
  pub fit : (i : ℕ) (e : EmittedExemplar) → slice_get slots i ≡ Some (e ∷ []) → LiesAt buckets i e.value

-- the counts are those of some values; each bucket has a slot, and an exemplar lies in the bucket of its slot
pub record ExemplarsFit (s : WithExemplars) : Type 0 where
  pub counts : CountsTaken is_taken s.counted
  pub slots : length s.last ≡ length s.counted.buckets
  pub fit : (i : ℕ) (e : LabeledExemplar ExemplarLabels) → slice_get s.last i ≡ Some (Some e) → LiesAt s.counted.buckets i e.value

-- a value is observed, and all exemplars stay
pub record ObservesAlone (value : ℤ) (old new : WithExemplars) (result : Result (Unit {0}) MetricError) : Type 0 where
  pub observes : Observes is_taken value old.counted new.counted result
  pub same : new.last ≡ old.last

-- a value is observed, and its exemplar takes the slot of the bucket in which it is counted; where it isn't counted all exemplars stay
pub record ObservesWith (e : LabeledExemplar ExemplarLabels) (old new : WithExemplars) (result : Result (Unit {0}) MetricError) : Type 0 where
  pub observes : Observes is_taken e.value old.counted new.counted result
  pub last : new.last ≡ (if is_ok result && is_taken e.value then slice_set old.last (index e.value old.counted.buckets) (Some e) else old.last)
