-- The library's metrics that fit have no fault, kind by kind.
use Rattle.std.proofs.Common.{◌≡◌, ℕ, ℤ, pos, Bool, List, [], ◌∷◌, length, Contains, Option, None, inl, inr, refl, sym, subst}
use Rattle.std.specs.List.{AllByRecursion}
use Rattle.std.specs.Option.{option_map}
use Rattle.fm_grammar.specs.declared.MetricType.{MetricType}
use Rattle.fm_grammar.specs.declared.MetricType.TheVariants as type
use Rattle.fm_grammar.specs.Exposition.{Text, Label, Value, Whole, Fixed}
use Rattle.fm_grammar.specs.Kinds.{reserved_label}
use Rattle.fm_grammar.specs.WellFormed.{AreLabels}
use Rattle.fm_grammar.specs.LabelPairs.{labels_of}
use Rattle.fm_raw.specs.declared.encode_error.EncodeError.{EncodeError}
use Rattle.fm_labels.specs.Labels.{EmittedLabel, LabelsValid, label_names}
use Rattle.fm_labels.specs.inside.FittingNames.{NamesFit}
use Rattle.fm_labels.specs.inside.FreeLabels.{AreFree}
use Rattle.fm_labels.proofs.NameLemmas.{emitted_again-pairs}
use Rattle.fm_labels.proofs.FittingLemmas.{LabelsValid-fitting, all_free}
use Rattle.fm_encoder.specs.Points.{Point, UnknownPoint, CounterPoint, GaugePoint, StateSetPoint, InfoPoint, Member, MembersFault, millis}
use Rattle.fm_encoder.specs.Offers.{MetricHasFault, context_at}
use Rattle.fm_encoder.proofs.NamedLemmas.{bare, info_faultless, metric_faultless, one_faultless, fixed_faultless, family_faultless, offers_named, one_states_faultless, HasNames, ArePlain, one_plain}
use Rattle.fm_metrics.specs.Counters.{counter_created}
use Rattle.fm_metrics.specs.Constants.{constant_total, constant_created, constant_value, unknown_value, label_set_of}
use Rattle.fm_family.specs.VecMembers.{OffersNamed, named_labels}
use Rattle.fm_histogram.specs.Histogram.{Histogram, CountsTaken}
use Rattle.fm_histogram.specs.Shown.{point_of, gauge_point_of}
use Rattle.fm_histogram.proofs.PlainLemmas.{few_counted, plain_point, plain_gauge_point}
use Rattle.fastmetrics.specs.declared.registry.kinds.scalar.Scalar.{Scalar}
use Rattle.fastmetrics.specs.declared.registry.kinds.scalar.Scalar.TheVariants as scalar
use Rattle.fastmetrics.specs.contracts.registry.kinds.scalar.ScalarEncodeMetric.TheImpl.{ghosts as scalars}
use Rattle.fastmetrics.specs.declared.registry.kinds.constant.Constant.{Constant}
use Rattle.fastmetrics.specs.declared.registry.kinds.constant.Constant.TheVariants as constant
use Rattle.fastmetrics.specs.contracts.registry.kinds.constant.ConstantEncodeMetric.TheImpl.{ghosts as constants}
use Rattle.fastmetrics.specs.inside.FittingMetrics.{scalar_type, constant_type, SnapshotFits, ConstantFits}

-- labels that are free in a family of the type that this one is, and in one whose type reserves no name
free_as : (own t : MetricType) (labels : List Label) → t ≡ own → AreFree own labels → AreFree t labels
free_as own t labels same free = subst (λ (x : MetricType). AreFree x labels) (sym same) free

free_in : (own t : MetricType) (labels : List Label) → t ≡ own → reserved_label own ≡ None → AreFree t labels
free_in own t labels same none = free_as own t labels same (all_free own labels none)

module _ (k : EncodeError) (name : Text) (labels : List Label) (are : AreLabels labels) (t : MetricType) where
  -- one number that some value gives, as a counter without exemplars or as a gauge
  counter_fits : (V : Type 0) (In : V → Type 0) (value : V → Value) (created : Option ℕ) (Stamps : Option ℕ → Type 0) (MayFault : Type 0) → ¬ MayFault → t ≡ type.Counter → ¬ (MetricHasFault k (λ stamp ms. (v : V) × In v × (ms ≡ bare (CounterPoint (value v ∷ []) [] created) ∷ [])) Stamps MayFault name t labels)
  counter_fits V In value created Stamps MayFault never same =
      one_faultless k V In (λ v. CounterPoint (value v ∷ []) [] created) Stamps MayFault name t labels are
      (free_in type.Counter t labels same refl) never (λ v. sym same) (λ v within. ((value v, refl), inl refl))

  gauge_fits : (V : Type 0) (In : V → Type 0) (value : V → Value) (Stamps : Option ℕ → Type 0) (MayFault : Type 0) → ¬ MayFault → t ≡ type.Gauge → ¬ (MetricHasFault k (λ stamp ms. (v : V) × In v × (ms ≡ bare (GaugePoint (value v ∷ [])) ∷ [])) Stamps MayFault name t labels)
  gauge_fits V In value Stamps MayFault never same =
      one_faultless k V In (λ v. GaugePoint (value v ∷ [])) Stamps MayFault name t labels are
      (free_in type.Gauge t labels same refl) never (λ v. sym same) (λ v within. (value v, refl))

  pub scalar_fits : (x : Scalar) → t ≡ scalar_type x → ¬ (MetricHasFault k (scalars.offers x) (scalars.stamps x) (scalars.may_fault x) name t labels)
  scalar_fits (scalar.Counter x) same = counter_fits _ _ (λ total. Whole (pos total)) (option_map millis (counter_created x)) _ _ (λ own. own.2) same
  scalar_fits (scalar.FixedCounter x) same = counter_fits _ _ Fixed (option_map millis (counter_created x)) _ _ (λ own. own.2) same
  scalar_fits (scalar.Gauge x) same = gauge_fits _ _ Whole _ _ (λ own. own.2) same
  scalar_fits (scalar.FixedGauge x) same = gauge_fits _ _ Fixed _ _ (λ own. own.2) same

  unknown_fits : (value : Value) (Stamps : Option ℕ → Type 0) (MayFault : Type 0) → ¬ MayFault → t ≡ type.Unknown → ¬ (MetricHasFault k (λ stamp ms. ms ≡ bare (UnknownPoint (value ∷ [])) ∷ []) Stamps MayFault name t labels)
  unknown_fits value Stamps MayFault never same =
      fixed_faultless k (UnknownPoint (value ∷ [])) Stamps MayFault name t labels are
      (free_in type.Unknown t labels same refl) never (sym same) (value, refl)

  const_counter_fits : (value : Value) (created : Option ℕ) (Stamps : Option ℕ → Type 0) (MayFault : Type 0) → ¬ MayFault → t ≡ type.Counter → ¬ (MetricHasFault k (λ stamp ms. ms ≡ bare (CounterPoint (value ∷ []) [] created) ∷ []) Stamps MayFault name t labels)
  const_counter_fits value created Stamps MayFault never same =
      fixed_faultless k (CounterPoint (value ∷ []) [] created) Stamps MayFault name t labels are
      (free_in type.Counter t labels same refl) never (sym same) ((value, refl), inl refl)

  const_gauge_fits : (value : Value) (Stamps : Option ℕ → Type 0) (MayFault : Type 0) → ¬ MayFault → t ≡ type.Gauge → ¬ (MetricHasFault k (λ stamp ms. ms ≡ bare (GaugePoint (value ∷ [])) ∷ []) Stamps MayFault name t labels)
  const_gauge_fits value Stamps MayFault never same =
      fixed_faultless k (GaugePoint (value ∷ [])) Stamps MayFault name t labels are
      (free_in type.Gauge t labels same refl) never (sym same) (value, refl)

  -- what some values were counted as, or what a snapshot has counted, under labels without the reserved name
  pub histogram_fits : (taken : ℤ → Bool) (created : Option ℕ) (Stamps : Option ℕ → Type 0) (MayFault : Type 0) → ¬ MayFault → t ≡ type.Histogram → AreFree type.Histogram labels → ¬ (MetricHasFault k (λ stamp ms. (s : Histogram) × CountsTaken taken s × (ms ≡ bare (point_of s created) ∷ [])) Stamps MayFault name t labels)
  histogram_fits taken created Stamps MayFault never same free =
      one_faultless k Histogram (CountsTaken taken) (λ s. point_of s created) Stamps MayFault name t labels are
      (free_as type.Histogram t labels same free) never (λ s. sym same) (λ s counts. plain_point s created (few_counted taken s counts))

  pub gauge_histogram_fits : (taken : ℤ → Bool) (Stamps : Option ℕ → Type 0) (MayFault : Type 0) → ¬ MayFault → t ≡ type.GaugeHistogram → AreFree type.GaugeHistogram labels → ¬ (MetricHasFault k (λ stamp ms. (s : Histogram) × CountsTaken taken s × (ms ≡ bare (gauge_point_of s) ∷ [])) Stamps MayFault name t labels)
  gauge_histogram_fits taken Stamps MayFault never same free =
      one_faultless k Histogram (CountsTaken taken) gauge_point_of Stamps MayFault name t labels are
      (free_as type.GaugeHistogram t labels same free) never (λ s. sym same) (λ s counts. plain_gauge_point s (few_counted taken s counts))

  snapshot_fits : (s : Histogram) (created : Option ℕ) (Stamps : Option ℕ → Type 0) (MayFault : Type 0) → ¬ MayFault → t ≡ type.Histogram → SnapshotFits type.Histogram labels s → ¬ (MetricHasFault k (λ stamp ms. ms ≡ bare (point_of s created) ∷ []) Stamps MayFault name t labels)
  snapshot_fits s created Stamps MayFault never same (free, few) =
      fixed_faultless k (point_of s created) Stamps MayFault name t labels are
      (free_as type.Histogram t labels same free) never (sym same) (plain_point s created few)

  gauge_snapshot_fits : (s : Histogram) (Stamps : Option ℕ → Type 0) (MayFault : Type 0) → ¬ MayFault → t ≡ type.GaugeHistogram → SnapshotFits type.GaugeHistogram labels s → ¬ (MetricHasFault k (λ stamp ms. ms ≡ bare (gauge_point_of s) ∷ []) Stamps MayFault name t labels)
  gauge_snapshot_fits s Stamps MayFault never same (free, few) =
      fixed_faultless k (gauge_point_of s) Stamps MayFault name t labels are
      (free_as type.GaugeHistogram t labels same free) never (sym same) (plain_gauge_point s few)

  -- an info whose labels may follow the constant ones
  info_fits : (ls : List EmittedLabel) (Stamps : Option ℕ → Type 0) (MayFault : Type 0) → ¬ MayFault → t ≡ type.Info → LabelsValid type.Info labels ls → ¬ (MetricHasFault k (λ stamp ms. ms ≡ bare (InfoPoint ls) ∷ []) Stamps MayFault name t labels)
  info_fits ls Stamps MayFault never same valid =
      subst (λ (own : MetricType). ¬ (MetricHasFault k (λ stamp ms. ms ≡ bare (InfoPoint ls) ∷ []) Stamps MayFault name own labels)) (sym same)
      (metric_faultless k (λ stamp ms. ms ≡ bare (InfoPoint ls) ∷ []) Stamps MayFault name type.Info labels never
      (λ stamp ms stamped offered. subst (λ (xs : List Member). ¬ (MembersFault k (context_at name type.Info labels stamp) xs)) (sym offered) (info_faultless k name labels are ls stamp valid)))

  pub constant_fits : (x : Constant) → t ≡ constant_type x → ConstantFits labels x → ¬ (MetricHasFault k (constants.offers x) (constants.stamps x) (constants.may_fault x) name t labels)
  constant_fits (constant.Info x) same fit =
      info_fits _ _ _ (λ own. elim own.4 [ inl h ↦ h | inr h ↦ h ]) same
      (subst (λ (ls : List EmittedLabel). LabelsValid type.Info labels ls) (sym (emitted_again-pairs (label_set_of x).items)) (LabelsValid-fitting type.Info labels (labels_of (label_set_of x).items) fit))
  constant_fits (constant.Counter x) same fit = const_counter_fits (Whole (pos (constant_total x))) (option_map millis (constant_created x)) _ _ (λ own. own) same
  constant_fits (constant.FixedCounter x) same fit = const_counter_fits (Fixed (constant_total x)) (option_map millis (constant_created x)) _ _ (λ own. own) same
  constant_fits (constant.Gauge x) same fit = const_gauge_fits (Whole (constant_value x)) _ _ (λ own. own) same
  constant_fits (constant.FixedGauge x) same fit = const_gauge_fits (Fixed (constant_value x)) _ _ (λ own. own) same
  constant_fits (constant.Unknown x) same fit = unknown_fits (Whole (unknown_value x)) _ _ (λ own. own) same
  constant_fits (constant.FixedUnknown x) same fit = unknown_fits (Fixed (unknown_value x)) _ _ (λ own. own) same
  constant_fits (constant.Histogram s) same fit = snapshot_fits s None _ _ (λ own. own) same fit
  constant_fits (constant.GaugeHistogram s) same fit = gauge_snapshot_fits s _ _ (λ own. own) same fit

-- the type that a number or a constant declares is its own
pub scalar_declares : (x : Scalar) (t : MetricType) → scalars.types x t → t ≡ scalar_type x
scalar_declares (scalar.Counter x) t is = is
scalar_declares (scalar.FixedCounter x) t is = is
scalar_declares (scalar.Gauge x) t is = is
scalar_declares (scalar.FixedGauge x) t is = is

pub constant_declares : (x : Constant) (t : MetricType) → constants.types x t → t ≡ constant_type x
constant_declares (constant.Info x) t is = is
constant_declares (constant.Counter x) t is = is
constant_declares (constant.FixedCounter x) t is = is
constant_declares (constant.Gauge x) t is = is
constant_declares (constant.FixedGauge x) t is = is
constant_declares (constant.Unknown x) t is = is
constant_declares (constant.FixedUnknown x) t is = is
constant_declares (constant.Histogram s) t is = is
constant_declares (constant.GaugeHistogram s) t is = is

-- the points of a member of a family: those of one counter, one gauge or one histogram
pub counter_points : (V : Type 0) (In : V → Type 0) (value : V → Value) (created : Option ℕ) (points : List Point) → (v : V) × In v × (points ≡ CounterPoint (value v ∷ []) [] created ∷ []) → ArePlain type.Counter points
counter_points V In value created points told = one_plain V In (λ v. CounterPoint (value v ∷ []) [] created) type.Counter (λ v. refl) (λ v within. ((value v, refl), inl refl)) points told

pub gauge_points : (V : Type 0) (In : V → Type 0) (value : V → Value) (points : List Point) → (v : V) × In v × (points ≡ GaugePoint (value v ∷ []) ∷ []) → ArePlain type.Gauge points
gauge_points V In value points told = one_plain V In (λ v. GaugePoint (value v ∷ [])) type.Gauge (λ v. refl) (λ v within. (value v, refl)) points told

pub histogram_points : (taken : ℤ → Bool) (created : Option ℕ) (points : List Point) → (s : Histogram) × CountsTaken taken s × (points ≡ point_of s created ∷ []) → ArePlain type.Histogram points
histogram_points taken created points told = one_plain Histogram (CountsTaken taken) (λ s. point_of s created) type.Histogram (λ s. refl) (λ s counts. plain_point s created (few_counted taken s counts)) points told

pub gauge_histogram_points : (taken : ℤ → Bool) (points : List Point) → (s : Histogram) × CountsTaken taken s × (points ≡ gauge_point_of s ∷ []) → ArePlain type.GaugeHistogram points
gauge_histogram_points taken points told = one_plain Histogram (CountsTaken taken) gauge_point_of type.GaugeHistogram (λ s. refl) (λ s counts. plain_gauge_point s (few_counted taken s counts)) points told

-- members of a family by names have labels of these names
all_named : {M : Type 0} (names : List Text) (pairs : List (List Text × M)) → AllByRecursion (λ pair. length pair.0 ≡ length names) pairs → AllByRecursion (λ pair. HasNames names (named_labels names pair.0)) pairs
all_named names [] long = tt
all_named names (pair ∷ pairs) long = ((pair.0, long.0, refl), all_named names pairs long.1)

module _ (k : EncodeError) (name : Text) (labels : List Label) (are : AreLabels labels) (t : MetricType) where
  -- a family by names that fit, whose members offer plain points
  pub vec_fits : {M : Type 0} (own : MetricType) (names : List Text) (Points : M → List Point → Type 0) (Stamps : Option ℕ → Type 0) (MayFault : Type 0) → ¬ MayFault → t ≡ own → AreFree own labels → NamesFit own labels names → ((m : M) (points : List Point) → Points m points → ArePlain own points)
      → ¬ (MetricHasFault k (λ stamp. OffersNamed names Points) Stamps MayFault name t labels)
  vec_fits {M} own names Points Stamps MayFault never same free fit plain =
      subst (λ (x : MetricType). ¬ (MetricHasFault k (λ stamp. OffersNamed names Points) Stamps MayFault name x labels)) (sym same)
      (family_faultless k names (λ stamp. OffersNamed names Points) Stamps MayFault name own labels are free never fit
      (λ stamp ms (pairs, different, long, offered). offers_named own names (named_labels names) Points plain pairs ms (all_named names pairs long) offered))

  -- a state set whose printed name is no constant label's
  pub states_fits : (Value : Type 0) (In : Value → Type 0) (states : Value → List (Text × Bool)) (Stamps : Option ℕ → Type 0) (MayFault : Type 0) → ¬ MayFault → t ≡ type.StateSet → ¬ (Contains (label_names labels) name) → ¬ (MetricHasFault k (λ stamp ms. (value : Value) × In value × (ms ≡ bare (StateSetPoint (states value)) ∷ [])) Stamps MayFault name t labels)
  states_fits Value In states Stamps MayFault never same fresh =
      subst (λ (x : MetricType). ¬ (MetricHasFault k (λ stamp ms. (value : Value) × In value × (ms ≡ bare (StateSetPoint (states value)) ∷ [])) Stamps MayFault name x labels)) (sym same)
      (one_states_faultless k Value In states Stamps MayFault name labels are never fresh)
