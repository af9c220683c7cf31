-- Metrics without fault: what they offer is valid under the constant labels of their registry.
use Rattle.std.proofs.Common.{◌≡◌, ℕ, Bool, List, [], ◌∷◌, ◌++◌, length, Option, inl, inr, refl, sym, ap, subst, ◌∙◌, append-nil, Contains}
use Rattle.std.specs.List.{AllByRecursion}
use Rattle.fm_grammar.specs.declared.MetricType.{MetricType}
use Rattle.fm_grammar.specs.declared.MetricType.TheVariants.{StateSet, Info}
use Rattle.fm_grammar.specs.Exposition.{Text, Label}
use Rattle.fm_grammar.specs.WellFormed.{AreLabels}
use Rattle.fm_grammar.specs.LabelPairs.{labels_with}
use Rattle.fm_grammar.proofs.Runs.{all_append}
use Rattle.fm_raw.specs.declared.encode_error.EncodeError.{EncodeError}
use Rattle.fm_labels.specs.Labels.{EmittedLabel, label_names, LabelsValid, all_written, emitted_again}
use Rattle.fm_labels.specs.inside.FittingNames.{NamesFit}
use Rattle.fm_labels.specs.inside.FreeLabels.{AreFree}
use Rattle.fm_labels.proofs.LabelsLemmas.{written_again}
use Rattle.fm_labels.proofs.FittingLemmas.{LabelsValid-fitting, LabelsValid-both, all_free, constants_fit, names_with}
use Rattle.fm_encoder.specs.Points.{Point, UnknownPoint, GaugePoint, CounterPoint, StateSetPoint, InfoPoint, HistogramPoint, GaugeHistogramPoint, SummaryPoint, Member, Setting, PartsValid, MembersFault, type_of}
use Rattle.fm_encoder.specs.Offers.{MetricHasFault, context_at}
use Rattle.fm_encoder.specs.Emits.{members_of, OffersOf}
use Rattle.fm_encoder.specs.inside.Plain.{IsPlain, IsNamed}
use Rattle.fm_encoder.proofs.ValidLemmas.{member_valid}

-- a plain point's parts are valid
plain_parts : (setting : Setting) (common : List Label) (point : Point) → IsPlain point → PartsValid setting common point
plain_parts setting common (UnknownPoint numbers) plain = plain
plain_parts setting common (GaugePoint numbers) plain = plain
plain_parts setting common (CounterPoint numbers exemplars created) plain = plain
plain_parts setting common (StateSetPoint states) plain = absurd plain
plain_parts setting common (InfoPoint labels) plain = absurd plain
plain_parts setting common (HistogramPoint buckets slots count sum created) plain = plain
plain_parts setting common (GaugeHistogramPoint buckets slots count sum) plain = plain
plain_parts setting common (SummaryPoint quantiles sum count created) plain = tt

-- a member without labels, in the context of a family
abbrev pub bare : Point → Member
bare point = record { labels = []; point = point }

module _ (k : EncodeError) (name : Text) (type : MetricType) (constants : List Label) (are : AreLabels constants) (free : AreFree type constants) where
  -- members with labels of the same names, and plain points
  pub named_faultless : (names : List Text) (stamp : Option ℕ) (ms : List Member) → NamesFit type constants names → AllByRecursion (IsNamed type names) ms → ¬ (MembersFault k (context_at name type constants stamp) ms)
  named_faultless names stamp [] fit all fault = fault
  named_faultless names stamp (m ∷ ms) fit all (inr fault) = named_faultless names stamp ms fit all.1 fault
  named_faultless names stamp (m ∷ ms) fit all (inl fault) =
      let named = all.0 in
      let own : label_names (labels_with names named.values) ≡ names = names_with names named.values named.many in
      let labels = LabelsValid-both type constants (labels_with names named.values) (constants_fit type constants are free) (subst (NamesFit type constants) (sym own) fit) in
      member_valid k (context_at name type constants stamp) m
      (subst (λ (ls : List EmittedLabel). LabelsValid type [] (emitted_again constants ++ ls)) (sym named.labels) labels)
      named.same_type (plain_parts (context_at name type constants stamp).setting _ m.point named.plain) fault

  -- one member without labels: labels of no names
  pub plain_faultless : (point : Point) (stamp : Option ℕ) → type_of point ≡ type → IsPlain point → ¬ (MembersFault k (context_at name type constants stamp) (bare point ∷ []))
  plain_faultless point stamp same plain =
      named_faultless [] stamp (bare point ∷ []) (record { each = tt; different = tt })
      (record { values = []; many = refl; labels = refl; same_type = same; plain = plain }, tt)

  -- one member without labels has just the constant ones
  bare_faultless : (point : Point) (stamp : Option ℕ) → type_of point ≡ type → PartsValid (context_at name type constants stamp).setting constants point → ¬ (MembersFault k (context_at name type constants stamp) (bare point ∷ []))
  bare_faultless point stamp same parts (inr fault) = fault
  bare_faultless point stamp same parts (inl fault) =
      let alone : emitted_again constants ++ [] ≡ emitted_again constants = append-nil (emitted_again constants) in
      let valid = LabelsValid-fitting type [] constants (constants_fit type constants are free) in
      member_valid k (context_at name type constants stamp) (bare point)
      (subst (λ (ls : List EmittedLabel). LabelsValid type [] ls) (sym alone) valid) same
      (subst (λ (ls : List Label). PartsValid (context_at name type constants stamp).setting ls point) (sym (ap all_written alone ∙ written_again constants)) parts)
      fault

module _ (k : EncodeError) (name : Text) (constants : List Label) (are : AreLabels constants) where
  -- an info whose labels may follow the constant ones
  pub info_faultless : (labels : List EmittedLabel) (stamp : Option ℕ) → LabelsValid Info constants labels → ¬ (MembersFault k (context_at name Info constants stamp) (bare (InfoPoint labels) ∷ []))
  info_faultless labels stamp valid = bare_faultless k name Info constants are (all_free Info constants refl) (InfoPoint labels) stamp refl valid

  -- a state set whose printed name is no name of the constant labels
  pub states_faultless : (states : List (Text × Bool)) (stamp : Option ℕ) → ¬ (Contains (label_names constants) name) → ¬ (MembersFault k (context_at name StateSet constants stamp) (bare (StateSetPoint states) ∷ []))
  states_faultless states stamp fresh = bare_faultless k name StateSet constants are (all_free StateSet constants refl) (StateSetPoint states) stamp refl (inr fresh)

-- a metric that declares no error of its own, and offers only what has no fault
pub metric_faultless : (k : EncodeError) (Offers : Option ℕ → List Member → Type 0) (Stamps : Option ℕ → Type 0) (MayFault : Type 0) (name : Text) (type : MetricType) (constants : List Label) → ¬ MayFault → ((stamp : Option ℕ) (ms : List Member) → Stamps stamp → Offers stamp ms → ¬ (MembersFault k (context_at name type constants stamp) ms)) → ¬ (MetricHasFault k Offers Stamps MayFault name type constants)
metric_faultless k Offers Stamps MayFault name type constants never each (inl (is, own)) = never own
metric_faultless k Offers Stamps MayFault name type constants never each (inr (ms, stamp, stamped, offered, fault)) = each stamp ms stamped offered fault

-- such a metric that offers one member without labels: a plain point of some value
pub one_faultless : (k : EncodeError) (Value : Type 0) (In : Value → Type 0) (point : Value → Point) (Stamps : Option ℕ → Type 0) (MayFault : Type 0) (name : Text) (type : MetricType) (constants : List Label) → AreLabels constants → AreFree type constants → ¬ MayFault → ((value : Value) → type_of (point value) ≡ type) → ((value : Value) → In value → IsPlain (point value)) → ¬ (MetricHasFault k (λ stamp ms. (value : Value) × In value × (ms ≡ bare (point value) ∷ [])) Stamps MayFault name type constants)
one_faultless k Value In point Stamps MayFault name type constants are free never same plain =
    metric_faultless k (λ stamp ms. (value : Value) × In value × (ms ≡ bare (point value) ∷ [])) Stamps MayFault name type constants never
    (λ stamp ms stamped offered. subst (λ (xs : List Member). ¬ (MembersFault k (context_at name type constants stamp) xs)) (sym offered.2)
    (plain_faultless k name type constants are free (point offered.0) stamp (same offered.0) (plain offered.0 offered.1)))

-- or that of one fixed value
pub fixed_faultless : (k : EncodeError) (point : Point) (Stamps : Option ℕ → Type 0) (MayFault : Type 0) (name : Text) (type : MetricType) (constants : List Label) → AreLabels constants → AreFree type constants → ¬ MayFault → type_of point ≡ type → IsPlain point → ¬ (MetricHasFault k (λ stamp ms. ms ≡ bare point ∷ []) Stamps MayFault name type constants)
fixed_faultless k point Stamps MayFault name type constants are free never same plain =
    metric_faultless k (λ stamp ms. ms ≡ bare point ∷ []) Stamps MayFault name type constants never
    (λ stamp ms stamped offered. subst (λ (xs : List Member). ¬ (MembersFault k (context_at name type constants stamp) xs)) (sym offered) (plain_faultless k name type constants are free point stamp same plain))

-- the same of a state set whose printed name is no name of the constant labels
pub one_states_faultless : (k : EncodeError) (Value : Type 0) (In : Value → Type 0) (states : Value → List (Text × Bool)) (Stamps : Option ℕ → Type 0) (MayFault : Type 0) (name : Text) (constants : List Label) → AreLabels constants → ¬ MayFault → ¬ (Contains (label_names constants) name) → ¬ (MetricHasFault k (λ stamp ms. (value : Value) × In value × (ms ≡ bare (StateSetPoint (states value)) ∷ [])) Stamps MayFault name StateSet constants)
one_states_faultless k Value In states Stamps MayFault name constants are never fresh =
    metric_faultless k (λ stamp ms. (value : Value) × In value × (ms ≡ bare (StateSetPoint (states value)) ∷ [])) Stamps MayFault name StateSet constants never
    (λ stamp ms stamped offered. subst (λ (xs : List Member). ¬ (MembersFault k (context_at name StateSet constants stamp) xs)) (sym offered.2) (states_faultless k name constants are (states offered.0) stamp fresh))

pub fixed_states_faultless : (k : EncodeError) (states : List (Text × Bool)) (Stamps : Option ℕ → Type 0) (MayFault : Type 0) (name : Text) (constants : List Label) → AreLabels constants → ¬ MayFault → ¬ (Contains (label_names constants) name) → ¬ (MetricHasFault k (λ stamp ms. ms ≡ bare (StateSetPoint states) ∷ []) Stamps MayFault name StateSet constants)
fixed_states_faultless k states Stamps MayFault name constants are never fresh =
    metric_faultless k (λ stamp ms. ms ≡ bare (StateSetPoint states) ∷ []) Stamps MayFault name StateSet constants never
    (λ stamp ms stamped offered. subst (λ (xs : List Member). ¬ (MembersFault k (context_at name StateSet constants stamp) xs)) (sym offered) (states_faultless k name constants are states stamp fresh))

-- labels of these names, with some values
abbrev pub HasNames : List Text → List EmittedLabel → Type 0
HasNames names labels = (values : List Text) × (length values ≡ length names) × (labels ≡ emitted_again (labels_with names values))

-- plain points of a type
abbrev pub ArePlain : MetricType → List Point → Type 0
ArePlain type points = AllByRecursion (λ p. (type_of p ≡ type) × IsPlain p) points

-- one of some value
pub one_plain : (Value : Type 0) (In : Value → Type 0) (point : Value → Point) (type : MetricType) → ((value : Value) → type_of (point value) ≡ type) → ((value : Value) → In value → IsPlain (point value)) → (points : List Point) → (value : Value) × In value × (points ≡ point value ∷ []) → ArePlain type points
one_plain Value In point type same plain points told = subst (ArePlain type) (sym told.2) ((same told.0, plain told.0 told.1), tt)

members_named : (type : MetricType) (names : List Text) (labels : List EmittedLabel) (points : List Point) → HasNames names labels → ArePlain type points → AllByRecursion (IsNamed type names) (members_of labels points)
members_named type names labels [] has plain = tt
members_named type names labels (p ∷ points) has plain =
    (record { values = has.0; many = has.1; labels = has.2; same_type = plain.0.0; plain = plain.0.1 }, members_named type names labels points has plain.1)

-- pairs of such labels and of a source of such points offer such members
pub offers_named : {S M : Type 0} (type : MetricType) (names : List Text) (labels : S → List EmittedLabel) (Points : M → List Point → Type 0) → ((m : M) (points : List Point) → Points m points → ArePlain type points)
    → (pairs : List (S × M)) (ms : List Member) → AllByRecursion (λ pair. HasNames names (labels pair.0)) pairs → OffersOf labels Points pairs ms → AllByRecursion (IsNamed type names) ms
offers_named type names labels Points plain [] ms has offered = subst (AllByRecursion (IsNamed type names)) (sym offered) tt
offers_named type names labels Points plain (pair ∷ pairs) ms has (own, rest, (points, told, are), offered, is) =
    (let first = subst (AllByRecursion (IsNamed type names)) (sym are) (members_named type names (labels pair.0) points has.0 (plain pair.1 points told)) in
    subst (AllByRecursion (IsNamed type names)) (sym is) (all_append (IsNamed type names) own rest first (offers_named type names labels Points plain pairs rest has.1 offered)))

-- a family that offers members with labels of the same names, and plain points
pub family_faultless : (k : EncodeError) (names : List Text) (Offers : Option ℕ → List Member → Type 0) (Stamps : Option ℕ → Type 0) (MayFault : Type 0) (name : Text) (type : MetricType) (constants : List Label) → AreLabels constants → AreFree type constants → ¬ MayFault → NamesFit type constants names → ((stamp : Option ℕ) (ms : List Member) → Offers stamp ms → AllByRecursion (IsNamed type names) ms) → ¬ (MetricHasFault k Offers Stamps MayFault name type constants)
family_faultless k names Offers Stamps MayFault name type constants are free never fit named =
    metric_faultless k Offers Stamps MayFault name type constants never
    (λ stamp ms stamped offered. named_faultless k name type constants are free names stamp ms fit (named stamp ms offered))
