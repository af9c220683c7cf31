-- The samples of a point are well formed if its numbers are in range and its labels and its parts are valid.
use Rattle.std.proofs.Common.{◌≡◌, ℕ, ℤ, pos, ◌<◌, ◌+◌, ◌^◌, ◌++◌, List, [], ◌∷◌, map, Bool, true, false, if◌then◌else◌, Option, codes, Some, None, IfSome, inl, inr, refl, sym, subst, append_assoc, append-nil, arith}
use Rattle.std.specs.Prelude.{Contains}
use Rattle.std.specs.List.{AllByRecursion}
use Rattle.std.proofs.lemmas.List.Sums.{sum_by-append}
use Rattle.fm_grammar.specs.declared.MetricType.{MetricType}
use Rattle.fm_grammar.specs.declared.MetricType.TheVariants.{Unknown, Gauge, Counter, StateSet, Info as InfoType, Histogram, GaugeHistogram, Summary}
use Rattle.fm_grammar.specs.declared.SampleKind.TheVariants.{Plain, Total, Created, Bucket as BucketKind, Count, Sum, Info}
use Rattle.fm_grammar.specs.Exposition.{Text, Label, Value, Whole, Fixed, Millis}
use Rattle.fm_grammar.specs.Names.{IsSnakeCase}
use Rattle.fm_grammar.specs.Numbers.{fixed_text}
use Rattle.fm_grammar.specs.WellFormed.{kinds_of, AreLabels, ValueSuits, ValueFits, AreMillis, IsExemplar, IsSample}
use Rattle.fm_grammar.proofs.Runs.{all_append}
use Rattle.fm_raw.specs.declared.bucket.bound.Bucket.{Bucket}
use Rattle.fm_raw.specs.declared.quantile.Quantile.{Quantile}
use Rattle.fm_labels.specs.Labels.{EmittedLabel, IsReserved, LabelsValid, label_names, all_written}
use Rattle.fm_labels.specs.inside.FreeLabels.{AreFree}
use Rattle.fm_encoder.specs.Points.{EmittedExemplar, Point, UnknownPoint, GaugePoint, CounterPoint, StateSetPoint, InfoPoint, HistogramPoint, GaugeHistogramPoint, SummaryPoint, Member, Setting, Context, ExemplarValid, BucketsValid, PartsValid, type_of, common_emitted, common_written, values_in, plain_sample, written_exemplar, created_samples, bound_label, bucket_samples, total_samples, point_samples}
use Rattle.fm_encoder.specs.inside.Samples.{total_sample, state_sample, quantile_sample}
use Rattle.fm_encoder.specs.inside.Steps.{IsNumber}
use Rattle.fm_labels.proofs.NameLemmas.{AreLabels-written, AreLabels-joined, AreLabels-named, AreLabels-own, AreFree-written}
use Rattle.fm_encoder.proofs.BucketLemmas.{le_is_label_name, quantile_is_label_name}
use Rattle.fm_laws.specs.Ranges.{ExemplarNumbersFit, SlotsFit, PointNumbersFit}
use Rattle.fm_laws.proofs.FaultLemmas.{Forms, MemberForms}

number_fits : (v : Value) → IsNumber v → ValueFits v
number_fits (Whole z) fits = fits
number_fits (Fixed z) fits = fits
number_fits (Millis t) fits = absurd fits

number_suits_plain : (v : Value) → IsNumber v → ValueSuits Plain v
number_suits_plain (Whole z) fits = tt
number_suits_plain (Fixed z) fits = tt
number_suits_plain (Millis t) fits = absurd fits

number_suits_total : (v : Value) → IsNumber v → ValueSuits Total v
number_suits_total (Whole z) fits = tt
number_suits_total (Fixed z) fits = tt
number_suits_total (Millis t) fits = absurd fits

state_fits : (is_on : Bool) → ValueFits (Whole (pos (if is_on then 1 else 0)))
state_fits true = omega arith
state_fits false = omega arith

exemplar_formed : (exemplars : List EmittedExemplar) → AllByRecursion ExemplarNumbersFit exemplars → ExemplarValid exemplars → IfSome (written_exemplar exemplars) IsExemplar
exemplar_formed exemplars fits (inl none) = subst (λ (es : List EmittedExemplar). IfSome (written_exemplar es) IsExemplar) (sym none) tt
exemplar_formed exemplars fits (inr (exemplar, one, (valid, short))) =
    let numbers = (subst (AllByRecursion ExemplarNumbersFit) one fits).0 in
    subst (λ (es : List EmittedExemplar). IfSome (written_exemplar es) IsExemplar) (sym one) (record {
      labels = AreLabels-written Unknown exemplar.labels valid;
      short = short;
      value = numbers.value;
      time = numbers.time;
    })

module _ (setting : Setting) (common : List Label) (labels : AreLabels common) (time : IfSome setting.time AreMillis) where
  alone : AreLabels (common ++ [])
  alone = subst AreLabels (sym (append-nil common)) labels

  numbers_formed : (type : MetricType) → Contains (kinds_of type) Plain → (numbers : List Value) → AllByRecursion IsNumber numbers → AllByRecursion (IsSample type) (map (plain_sample setting common Plain []) numbers)
  numbers_formed type kind [] fit = tt
  numbers_formed type kind (number ∷ numbers) fit = (
    record { kind = kind; labels = alone; suits = number_suits_plain number fit.0; value = number_fits number fit.0; time = time; allowed = refl; exemplar = tt },
    numbers_formed type kind numbers fit.1,
  )

  created_formed : (type : MetricType) → Contains (kinds_of type) Created → (created : Option ℕ) → IfSome created AreMillis → AllByRecursion (IsSample type) (created_samples setting common created)
  created_formed type kind None fits = tt
  created_formed type kind (Some t) fits = (record { kind = kind; labels = alone; suits = tt; value = fits; time = time; allowed = refl; exemplar = tt }, tt)

  totals_formed : (exemplars : List EmittedExemplar) → IfSome (written_exemplar exemplars) IsExemplar → (numbers : List Value) → AllByRecursion IsNumber numbers → AllByRecursion (IsSample Counter) (map (total_sample setting common exemplars) numbers)
  totals_formed exemplars formed [] fit = tt
  totals_formed exemplars formed (number ∷ numbers) fit = (
    record { kind = (0, omega arith, refl); labels = alone; suits = number_suits_total number fit.0; value = number_fits number fit.0; time = time; allowed = tt; exemplar = formed },
    totals_formed exemplars formed numbers fit.1,
  )

  states_formed : IsSnakeCase setting.name → ¬ (Contains (label_names common) setting.name) → (states : List (Text × Bool)) → AllByRecursion (IsSample StateSet) (map (state_sample setting common) states)
  states_formed name fresh [] = tt
  states_formed name fresh (state ∷ states) = (
    record {
      kind = (0, omega arith, refl);
      labels = AreLabels-named common _ (record { name = setting.name; value = state.0 }) labels name fresh refl;
      suits = tt;
      value = state_fits state.1;
      time = time;
      allowed = refl;
      exemplar = tt;
    },
    states_formed name fresh states,
  )

  module _ (type : MetricType) (kind : Contains (kinds_of type) BucketKind) (reserved : IsReserved type (codes "le")) (free : AreFree type common) where
    buckets_formed : (before buckets : List Bucket) (slots : List (List EmittedExemplar)) → values_in (before ++ buckets) < 2 ^ 64
        → AllByRecursion ExemplarValid slots → SlotsFit slots → AllByRecursion (IsSample type) (bucket_samples setting common before buckets slots)
    buckets_formed before [] slots few valid fit = tt
    buckets_formed before (bucket ∷ buckets) [] few valid fit = tt
    buckets_formed before (bucket ∷ buckets) (exemplars ∷ slots) few valid fit =
        let same : (before ++ bucket ∷ []) ++ buckets ≡ before ++ (bucket ∷ buckets) = append_assoc before (bucket ∷ []) buckets in
        let still : values_in ((before ++ bucket ∷ []) ++ buckets) < 2 ^ 64 = subst (λ (bs : List Bucket). values_in bs < 2 ^ 64) (sym same) few in
        let split : values_in ((before ++ bucket ∷ []) ++ buckets) ≡ values_in (before ++ bucket ∷ []) + values_in buckets = sum_by-append (λ (b : Bucket). b.count) (before ++ bucket ∷ []) buckets in
        let here : values_in (before ++ bucket ∷ []) < 2 ^ 64 = omega (arith, still, split) in (
          record {
            kind = kind;
            labels = AreLabels-own type common _ (bound_label bucket.upper_bound) labels free reserved le_is_label_name refl;
            suits = tt;
            value = here;
            time = time;
            allowed = tt;
            exemplar = exemplar_formed exemplars fit.0 valid.0;
          },
          buckets_formed (before ++ bucket ∷ []) buckets slots still valid.1 fit.1,
        )

  sums_formed : (type : MetricType) → Contains (kinds_of type) Count → Contains (kinds_of type) Sum → Contains (kinds_of type) Created → (count : ℕ) (sum : ℤ) (created : Option ℕ)
      → count < 2 ^ 64 → ValueFits (Fixed sum) → IfSome created AreMillis → AllByRecursion (IsSample type) (total_samples setting common Count Sum count sum ++ created_samples setting common created)
  sums_formed type counts sums times count sum created count_fits sum_fits created_fits = (
    record { kind = counts; labels = alone; suits = tt; value = count_fits; time = time; allowed = refl; exemplar = tt },
    (
      record { kind = sums; labels = alone; suits = tt; value = sum_fits; time = time; allowed = refl; exemplar = tt },
      created_formed type times created created_fits,
    ),
  )

  histogram_formed : AreFree Histogram common → (buckets : List Bucket) (slots : List (List EmittedExemplar)) (count : ℕ) (sum : ℤ) (created : Option ℕ)
      → PointNumbersFit (HistogramPoint buckets slots count sum created) → BucketsValid buckets slots → AllByRecursion (IsSample Histogram) (point_samples setting common (HistogramPoint buckets slots count sum created))
  histogram_formed free buckets slots count sum created (slots_fit, count_fits, sum_fits, created_fits) (even, few, valid) =
      all_append (IsSample Histogram) (bucket_samples setting common [] buckets slots) _ (buckets_formed Histogram (0, omega arith, refl) refl free [] buckets slots few valid slots_fit)
      (sums_formed Histogram (1, omega arith, refl) (2, omega arith, refl) (3, omega arith, refl) count sum created count_fits sum_fits created_fits)

  gauge_histogram_formed : AreFree GaugeHistogram common → (buckets : List Bucket) (slots : List (List EmittedExemplar)) (count : ℕ) (sum : ℤ)
      → PointNumbersFit (GaugeHistogramPoint buckets slots count sum) → BucketsValid buckets slots → AllByRecursion (IsSample GaugeHistogram) (point_samples setting common (GaugeHistogramPoint buckets slots count sum))
  gauge_histogram_formed free buckets slots count sum (slots_fit, count_fits, sum_fits) (even, few, valid) =
      all_append (IsSample GaugeHistogram) (bucket_samples setting common [] buckets slots) _ (buckets_formed GaugeHistogram (0, omega arith, refl) refl free [] buckets slots few valid slots_fit) (
        record { kind = (1, omega arith, refl); labels = alone; suits = tt; value = count_fits; time = time; allowed = refl; exemplar = tt },
        (record { kind = (2, omega arith, refl); labels = alone; suits = tt; value = sum_fits; time = time; allowed = refl; exemplar = tt }, tt),
      )

  quantiles_formed : AreFree Summary common → (quantiles : List Quantile) → AllByRecursion (λ quantile. ValueFits (Fixed quantile.value)) quantiles
      → AllByRecursion (IsSample Summary) (map (quantile_sample setting common) quantiles)
  quantiles_formed free [] fit = tt
  quantiles_formed free (quantile ∷ quantiles) fit = (
    record {
      kind = (0, omega arith, refl);
      labels = AreLabels-own Summary common _ (record { name = codes "quantile"; value = fixed_text quantile.quantile }) labels free refl quantile_is_label_name refl;
      suits = tt;
      value = fit.0;
      time = time;
      allowed = refl;
      exemplar = tt;
    },
    quantiles_formed free quantiles fit.1,
  )

  info_formed : (type : MetricType) (emitted : List EmittedLabel) → LabelsValid type common emitted → IsSample InfoType (plain_sample setting common Info (all_written emitted) (Whole (pos 1)))
  info_formed type emitted valid = record {
    kind = (0, omega arith, refl);
    labels = AreLabels-joined type common _ emitted labels valid refl;
    suits = tt;
    value = omega arith;
    time = time;
    allowed = refl;
    exemplar = tt;
  }

  own_formed : IsSnakeCase setting.name → (point : Point) → AreFree (type_of point) common → PointNumbersFit point → PartsValid setting common point → AllByRecursion (IsSample (type_of point)) (point_samples setting common point)
  own_formed name (UnknownPoint numbers) free fit valid = numbers_formed Unknown (0, omega arith, refl) numbers fit
  own_formed name (GaugePoint numbers) free fit valid = numbers_formed Gauge (0, omega arith, refl) numbers fit
  own_formed name (CounterPoint numbers exemplars created) free (numbers_fit, exemplars_fit, created_fits) (one, valid) =
      all_append (IsSample Counter) (map (total_sample setting common exemplars) numbers) (created_samples setting common created)
      (totals_formed exemplars (exemplar_formed exemplars exemplars_fit valid) numbers numbers_fit) (created_formed Counter (1, omega arith, refl) created created_fits)
  own_formed name (StateSetPoint states) free fit (inl none) = subst (λ (ss : List (Text × Bool)). AllByRecursion (IsSample StateSet) (map (state_sample setting common) ss)) (sym none) tt
  own_formed name (StateSetPoint states) free fit (inr fresh) = states_formed name fresh states
  own_formed name (InfoPoint emitted) free fit valid = (info_formed setting.metric_type emitted valid, tt)
  own_formed name (HistogramPoint buckets slots count sum created) free fit valid = histogram_formed free buckets slots count sum created fit valid
  own_formed name (GaugeHistogramPoint buckets slots count sum) free fit valid = gauge_histogram_formed free buckets slots count sum fit valid
  own_formed name (SummaryPoint quantiles sum count created) free (quantiles_fit, count_fits, sum_fits, created_fits) valid =
      all_append (IsSample Summary) (map (quantile_sample setting common) quantiles) _ (quantiles_formed free quantiles quantiles_fit)
      (sums_formed Summary (1, omega arith, refl) (2, omega arith, refl) (3, omega arith, refl) count sum created count_fits sum_fits created_fits)

point_forms : (setting : Setting) (common : List Label) → AreLabels common → AreFree setting.metric_type common → IfSome setting.time AreMillis → IsSnakeCase setting.name → (point : Point) → PointNumbersFit point → Forms setting common point
point_forms setting common labels free time name point fit same valid =
    subst (λ (type : MetricType). AllByRecursion (IsSample type) (point_samples setting common point)) same
    (own_formed setting common labels time name point (subst (λ (type : MetricType). AreFree type common) (sym same) free) fit valid)

pub member_forms : (context : Context) → IsSnakeCase context.setting.name → IfSome context.setting.time AreMillis → (member : Member) → PointNumbersFit member.point → MemberForms context member
member_forms context name time member fit labels =
    let type = context.setting.metric_type in
    let emitted = common_emitted context member in
    point_forms context.setting (common_written context member) (AreLabels-written type emitted labels) (AreFree-written type [] emitted labels) time name member.point fit
