-- Buckets, one after the other.
use Rattle.std.proofs.Common.{◌≡◌, ◌<◌, ◌≤◌, ◌+◌, ◌^◌, ℕ, ℤ, pos, zero, suc, List, [], ◌∷◌, ◌++◌, length, get_or, take, map, Contains, ◌⊎◌, inl, inr, refl, Option, Some, None, Result, Ok, Err, sym, ap, subst, ◌∙◌, arith, append-nil, append_assoc, codes}
use Rattle.std.specs.List.{AllByRecursion}
use Rattle.std.specs.Borrow.{Bor}
use Rattle.std.specs.Option.{option_map, IfSome}
use Rattle.fm_grammar.specs.declared.MetricType.{MetricType}
use Rattle.fm_grammar.specs.declared.MetricType.TheVariants.{Unknown, Gauge, Counter, StateSet, Info, Histogram, GaugeHistogram, Summary}
use Rattle.fm_grammar.specs.Exposition.{Label, Value, Whole, Fixed, Sample}
use Rattle.fm_grammar.specs.declared.SampleKind.{SampleKind}
use Rattle.fm_grammar.specs.declared.SampleKind.TheVariants.{Bucket as BucketKind}
use Rattle.fm_grammar.specs.WellFormed.{ValueFits, IsSample, AreLabels, AreMillis, IsExemplar, kinds_of}
use Rattle.fm_grammar.specs.Names.{IsLabelName}
use Rattle.fm_exposition.specs.declared.exposition.Exemplar.{Exemplar}
use Rattle.fm_exposition.specs.Samples.{exemplar_of}
use Rattle.fm_raw.specs.declared.bucket.bound.Bucket.{Bucket}
use Rattle.fm_writer.specs.Output.{Output, appended}
use Rattle.fm_writer.proofs.OutputLemmas.{appended-append}
use Rattle.fm_labels.specs.Labels.{IsReserved}
use Rattle.fm_grammar.proofs.Runs.{all_append}
use Rattle.fm_raw.specs.declared.encode_error.EncodeError.{EncodeError}
use Rattle.fm_encoder.specs.Points.{PartsFault, EmittedExemplar, Setting, Point, ExemplarValid, values_in, BucketsValid, BucketsFault, PartsValid, type_of, point_samples, bucket_sample, bucket_samples}
use Rattle.fm_encoder.specs.inside.Samples.{bucket_line}
use Rattle.fm_encoder.specs.Gathered.{GatheredPoints}
use Rattle.fm_labels.specs.Refusals.{OwnRefusal, result_of}
use Rattle.fm_encoder.specs.Emits.{SameContext, EmitsPoints, points_samples}
use Rattle.fm_encoder.specs.inside.Steps.{BeginsPoint, FitsType, PushesSample, PushesSamples}
use Rattle.fm_encoder.specs.Buckets.{slots_of}
use Rattle.fm_encoder.specs.inside.BucketSteps.{HasBuckets, HasTotals, BeginsBuckets, PushesBucket, PushesBuckets}
use Rattle.std.proofs.lemmas.List.{take_more, length-map}
use Rattle.std.proofs.lemmas.List.Sums.{sum_by-append, sum_by-cons, sum_by_more_le}
use Rattle.std.proofs.lemmas.List.Elements.{Contains-get_or}

-- metrics with buckets reserve the name of the bounds' label
pub le_is_reserved : (type : MetricType) → HasBuckets type → IsReserved type (codes "le")
le_is_reserved Unknown has = absurd has
le_is_reserved Gauge has = absurd has
le_is_reserved Counter has = absurd has
le_is_reserved StateSet has = absurd has
le_is_reserved Info has = absurd has
le_is_reserved Histogram has = refl
le_is_reserved GaugeHistogram has = refl
le_is_reserved Summary has = absurd has

pub le_is_label_name : IsLabelName (codes "le")
le_is_label_name = (inl (omega arith, omega arith), (inl (inl (omega arith, omega arith)), tt))

has_bucket : (type : MetricType) → HasBuckets type → Contains (kinds_of type) BucketKind
has_bucket Unknown has = absurd has
has_bucket Gauge has = absurd has
has_bucket Counter has = absurd has
has_bucket StateSet has = absurd has
has_bucket Info has = absurd has
has_bucket Histogram has = (0, omega arith, refl)
has_bucket GaugeHistogram has = (0, omega arith, refl)
has_bucket Summary has = absurd has

-- the sample of a bucket is well formed
pub IsSample-bucket : (type : MetricType) (labels : List Label) (values : ℕ) (time : Option ℕ) (exemplar : Option Exemplar) → HasBuckets type → AreLabels labels → values < 2 ^ 64 → IfSome time AreMillis → IfSome exemplar (λ x. IsExemplar (exemplar_of x))
    → IsSample type (record { kind = BucketKind; labels = labels; value = Whole (pos values); time = time; exemplar = option_map exemplar_of exemplar })
IsSample-bucket type labels values time None has are fits millis is = record { kind = has_bucket type has; labels = are; suits = tt; value = fits; time = millis; allowed = tt; exemplar = tt }
IsSample-bucket type labels values time (Some x) has are fits millis is = record { kind = has_bucket type has; labels = are; suits = tt; value = fits; time = millis; allowed = tt; exemplar = is }

-- one bucket and its slot more
pub bucket_samples-push : (setting : Setting) (common : List Label) (before buckets : List Bucket) (slots : List (List EmittedExemplar)) (bucket : Bucket) (exemplars : List EmittedExemplar) → length slots ≡ length buckets → bucket_samples setting common before (buckets ++ bucket ∷ []) (slots ++ exemplars ∷ []) ≡ bucket_samples setting common before buckets slots ++ bucket_sample setting common (before ++ buckets) bucket exemplars ∷ []
bucket_samples-push setting common before [] [] bucket exemplars same =
    ap (λ (front : List Bucket). bucket_sample setting common front bucket exemplars ∷ []) (sym (append-nil before))
bucket_samples-push setting common before (b ∷ buckets) (x ∷ slots) bucket exemplars same =
    ap (λ (more : List Sample). bucket_sample setting common before b x ∷ more)
    (bucket_samples-push setting common (before ++ b ∷ []) buckets slots bucket exemplars (omega arith)
    ∙ ap (λ (front : List Bucket). bucket_samples setting common (before ++ b ∷ []) buckets slots ++ bucket_sample setting common front bucket exemplars ∷ []) (append_assoc before (b ∷ []) buckets))
bucket_samples-push setting common before [] (x ∷ slots) bucket exemplars same = absurd (omega arith)
bucket_samples-push setting common before (b ∷ buckets) [] bucket exemplars same = absurd (omega arith)

pub all_valid-push : (slots : List (List EmittedExemplar)) (exemplars : List EmittedExemplar) → AllByRecursion ExemplarValid slots → ExemplarValid exemplars → AllByRecursion ExemplarValid (slots ++ exemplars ∷ [])
all_valid-push [] exemplars h valid = (valid, tt)
all_valid-push (x ∷ slots) exemplars h valid = (h.0, all_valid-push slots exemplars h.1 valid)

-- the samples of the first buckets are there, which have this number of values
pub record PushedFirst {S : Type 0} (f : S → List EmittedExemplar) (buckets : List Bucket) (slots : List S) (i values : ℕ) (old new : GatheredPoints) : Type 0 where
  pub same : SameContext old new
  pub accepting : new.refused ≡ None
  pub values_are : values ≡ values_in (take i buckets)
  pub fits : values < 2 ^ 64
  pub valid : AllByRecursion ExemplarValid (map f (take i slots))
  pub output : new.output ≡ appended old.setting.name old.output (bucket_samples old.setting old.common [] (take i buckets) (map f (take i slots)))
  pub formed : AllByRecursion (IsSample old.setting.metric_type) (bucket_samples old.setting old.common [] (take i buckets) (map f (take i slots)))

pub SameContext-then : (old mid new : GatheredPoints) → SameContext old mid → SameContext mid new → SameContext old new
SameContext-then old mid new a b = record { setting = b.setting ∙ a.setting; common = b.common ∙ a.common; deferred = b.deferred ∙ a.deferred }

map-push : {S T : Type 0} (f : S → T) (xs : List S) (x : S) → map f (xs ++ x ∷ []) ≡ map f xs ++ f x ∷ []
map-push f [] x = refl
map-push f (y ∷ xs) x = ap (λ (zs : List _). f y ∷ zs) (map-push f xs x)

same_length : {S T : Type 0} (f : S → T) (buckets : List Bucket) (slots : List S) (i : ℕ) → length slots ≡ length buckets → length (map f (take i slots)) ≡ length (take i buckets)
same_length f [] [] zero same = refl
same_length f [] [] (suc i) same = refl
same_length f (b ∷ buckets) (s ∷ slots) zero same = refl
same_length f (b ∷ buckets) (s ∷ slots) (suc i) same = ap suc (same_length f buckets slots i (omega arith))
same_length f [] (s ∷ slots) i same = absurd (omega arith)
same_length f (b ∷ buckets) [] i same = absurd (omega arith)

values_in-push : (buckets : List Bucket) (b : Bucket) → values_in (buckets ++ b ∷ []) ≡ values_in buckets + b.count
values_in-push buckets b =
    let split : values_in (buckets ++ b ∷ []) ≡ values_in buckets + values_in (b ∷ []) = sum_by-append (λ (x : Bucket). x.count) buckets (b ∷ []) in
    let one : values_in (b ∷ []) ≡ b.count + 0 = sum_by-cons (λ (x : Bucket). x.count) b [] in
    omega arith

Contains-map : {S T : Type 0} (f : S → T) (xs : List S) (x : S) → Contains xs x → Contains (map f xs) (f x)
Contains-map f [] x (i, within, is) = absurd (omega arith)
Contains-map f (y ∷ xs) x (zero, within, is) = (zero, omega arith, ap f is)
Contains-map f (y ∷ xs) x (suc i, within, is) =
    (let there = Contains-map f xs x (i, omega arith, is) in (suc there.0, omega arith, there.2))

-- the next bucket's sample is there too
pub PushedFirst-more : {S : Type 0} (f : S → List EmittedExemplar) (F : Type 0) (buckets : List Bucket) (slots : List S) (i before values : ℕ) (b : Bucket) (s : S) (old mid new : GatheredPoints) (r : Result ℕ EncodeError) → i < length buckets → length slots ≡ length buckets → b ≡ get_or buckets i b → s ≡ get_or slots i s → PushedFirst f buckets slots i before old mid → PushesBucket before b (f s) F mid new r → r ≡ Ok values → PushedFirst f buckets slots (i + 1) values old new
PushedFirst-more f F buckets slots i before values b s old mid new r within same b_is s_is first push ok =
    let more_buckets : take (i + 1) buckets ≡ take i buckets ++ b ∷ [] = take_more buckets i b within ∙ ap (λ (x : Bucket). take i buckets ++ x ∷ []) (sym b_is) in
    let more_slots : take (i + 1) slots ≡ take i slots ++ s ∷ [] = take_more slots i s (omega arith) ∙ ap (λ (x : _). take i slots ++ x ∷ []) (sym s_is) in
    let mapped : map f (take (i + 1) slots) ≡ map f (take i slots) ++ f s ∷ [] = ap (map f) more_slots ∙ map-push f (take i slots) s in
    let pushed = rw ok at push.returned in
    let line = bucket_sample old.setting old.common (take i buckets) b (f s) in
    let pushed_all = bucket_samples-push old.setting old.common [] (take i buckets) (map f (take i slots)) b (f s) (same_length f buckets slots i same) in
    let values_are : values ≡ values_in (take i buckets ++ b ∷ []) = pushed.0 ∙ ap (λ (n : ℕ). n + b.count) first.values_are ∙ sym (values_in-push (take i buckets) b) in
    let placed =
    (λ j. appended (first.same.setting j).name mid.output (bucket_line (first.same.setting j) (first.same.common j) b.upper_bound (values_are j) (f s) ∷ []))
    ∙ (ap (λ (front : Output). appended old.setting.name front (line ∷ [])) first.output
    ∙ (sym (appended-append old.setting.name old.output (bucket_samples old.setting old.common [] (take i buckets) (map f (take i slots))) (line ∷ []))
    ∙ ap (λ (more : List Sample). appended old.setting.name old.output more) (sym pushed_all)))
    in
    let line_at = λ (g : Setting) (common : List Label) (n : ℕ). bucket_line g common b.upper_bound n (f s) in
    let formed_here = subst (λ (g : Setting). IsSample g.metric_type (line_at g mid.common values)) first.same.setting pushed.5 in
    let formed_under = subst (λ (ls : List Label). IsSample old.setting.metric_type (line_at old.setting ls values)) first.same.common formed_here in
    let formed_line : IsSample old.setting.metric_type line = subst (λ (n : ℕ). IsSample old.setting.metric_type (line_at old.setting old.common n)) values_are formed_under in
    let formed_all = subst (λ (ss : List Sample). AllByRecursion (IsSample old.setting.metric_type) ss) (sym pushed_all) (all_append (IsSample old.setting.metric_type) (bucket_samples old.setting old.common [] (take i buckets) (map f (take i slots))) (line ∷ []) first.formed (formed_line, tt)) in
    record {
      same = SameContext-then old mid new first.same push.same;
      accepting = pushed.2;
      values_are = values_are ∙ ap values_in (sym more_buckets);
      fits = pushed.1;
      valid = rw mapped (all_valid-push (map f (take i slots)) (f s) first.valid pushed.3);
      output = rw (more_buckets, mapped) (pushed.4 ∙ placed);
      formed = rw (more_buckets, mapped) formed_all;
    }

-- the next bucket is refused
pub PushesBuckets-refused : {S : Type 0} (f : S → List EmittedExemplar) (F : S → Type 0) (buckets : List Bucket) (slots : List S) (i before : ℕ) (k : EncodeError) (b : Bucket) (s : S) (old mid new : GatheredPoints) (r : Result ℕ EncodeError) → i < length buckets → length slots ≡ length buckets → b ≡ get_or buckets i b → s ≡ get_or slots i s → PushedFirst f buckets slots i before old mid → PushesBucket before b (f s) (F s) mid new r → r ≡ Err k → PushesBuckets buckets (map f slots) ((slot : S) × Contains slots slot × F slot) old new
PushesBuckets-refused {S} f F buckets slots i before k b s old mid new r within same b_is s_is first push err =
    let pushed = rw err at push.returned in
    let there : Contains slots s = subst (Contains slots) (sym s_is) (Contains-get_or slots i s (omega arith)) in
    let most = sum_by_more_le (λ (x : Bucket). x.count) buckets i b within in
    let so_far : before + b.count ≤ values_in buckets = subst (λ (x : Bucket). before + x.count ≤ values_in buckets) (sym b_is) (subst (λ (n : ℕ). n + (get_or buckets i b).count ≤ values_in buckets) (sym first.values_are) most) in
    let fault : OwnRefusal ((slot : S) × Contains slots slot × F slot) k ⊎ BucketsFault k buckets (map f slots) = elim pushed.1 [
      | inl (inl memory) ↦ inl (inl memory)
      | inl (inr (is, own)) ↦ inl (inr (is, (s, there, own)))
      | inr (inl (is, over)) ↦ inr (inl (is, omega arith))
      | inr (inr exemplar) ↦ inr (inr (f s, Contains-map f slots s there, exemplar))
    ] in
    record {
      same = SameContext-then old mid new first.same push.same;
      fits = λ none. absurd cc;
      valid = λ none. absurd cc;
      output = λ none. absurd cc;
      formed = λ none. absurd cc;
      refused = λ j is. (let equal : k ≡ j = cc in subst (λ (e : EncodeError). OwnRefusal ((slot : S) × Contains slots slot × F slot) e ⊎ BucketsFault e buckets (map f slots)) equal fault);
    }

-- if no slot may return an error of its own
pub PushesBuckets-never : {F : Type 0} (buckets : List Bucket) (slots : List (List EmittedExemplar)) (old new : GatheredPoints) → ¬ F → PushesBuckets buckets slots F old new → PushesBuckets buckets slots ⊥ old new
PushesBuckets-never buckets slots old new never a = record {
  same = a.same;
  fits = a.fits;
  valid = a.valid;
  output = a.output;
  formed = a.formed;
  refused = λ k is. elim (a.refused k is) [
    | inl (inl memory) ↦ inl (inl memory)
    | inl (inr own) ↦ absurd (never own.1)
    | inr fault ↦ inr fault
  ];
}

pub length-slots_of : {E : Type 0} (exemplars : E → List EmittedExemplar) (slots : List (Option (Bor E))) → length (slots_of exemplars slots) ≡ length slots
length-slots_of exemplars slots = length-map slots _

-- a sample, and then others
pub PushesSamples-after : (f : Setting → List Label → Sample) (fs : Setting → List Label → List Sample) (sample : Sample) (old mid new : GatheredPoints) → PushesSample sample old mid → mid.refused ≡ None → PushesSamples (fs mid.setting mid.common) mid new → sample ≡ f old.setting old.common → PushesSamples (f old.setting old.common ∷ fs old.setting old.common) old new
PushesSamples-after f fs sample old mid new one accepting more is = record {
  same = SameContext-then old mid new one.same more.same;
  formed = λ none. (
    subst (IsSample old.setting.metric_type) is (one.formed accepting),
    subst (λ (ls : List Label). AllByRecursion (IsSample old.setting.metric_type) (fs old.setting ls)) one.same.common
        (subst (λ (s : Setting). AllByRecursion (IsSample s.metric_type) (fs s mid.common)) one.same.setting (more.formed none)),
  );
  output = λ none. more.output none
      ∙ ((λ i. appended (one.same.setting i).name (one.output accepting i) (fs (one.same.setting i) (one.same.common i)))
      ∙ ((λ i. appended old.setting.name (appended old.setting.name old.output (is i ∷ [])) (fs old.setting old.common))
      ∙ sym (appended-append old.setting.name old.output (f old.setting old.common ∷ []) (fs old.setting old.common))));
  refused = more.refused;
}

-- samples, and then one more
pub PushesSamples-push : (f : Setting → List Label → Sample) (xs : List Sample) (old mid new : GatheredPoints) → PushesSamples xs old mid → mid.refused ≡ None → PushesSample (f mid.setting mid.common) mid new → PushesSamples (xs ++ f old.setting old.common ∷ []) old new
PushesSamples-push f xs old mid new before accepting one = record {
  same = SameContext-then old mid new before.same one.same;
  formed = λ none. all_append (IsSample old.setting.metric_type) xs (f old.setting old.common ∷ []) (before.formed accepting) (
    subst (λ (ls : List Label). IsSample old.setting.metric_type (f old.setting ls)) before.same.common
        (subst (λ (s : Setting). IsSample s.metric_type (f s mid.common)) before.same.setting (one.formed none)),
    tt,
  );
  output = λ none. one.output none
      ∙ ((λ i. appended (before.same.setting i).name (before.output accepting i) (f (before.same.setting i) (before.same.common i) ∷ []))
      ∙ sym (appended-append old.setting.name old.output xs (f old.setting old.common ∷ [])));
  refused = one.refused;
}

-- the first samples of a loop, and then the next one's
pub PushesSamples-more : {T : Type 0} (f : Setting → List Label → T → Sample) (xs : List T) (i : ℕ) (x : T) (old mid new : GatheredPoints) → i < length xs → x ≡ get_or xs i x → PushesSamples (map (f old.setting old.common) (take i xs)) old mid → mid.refused ≡ None → PushesSample (f mid.setting mid.common x) mid new → PushesSamples (map (f old.setting old.common) (take (i + 1) xs)) old new
PushesSamples-more {T} f xs i x old mid new within is before accepting one =
    let g = f old.setting old.common in
    let longer : take (i + 1) xs ≡ take i xs ++ x ∷ [] = take_more xs i x within ∙ ap (λ (y : T). take i xs ++ y ∷ []) (sym is) in
    let mapped : map g (take (i + 1) xs) ≡ map g (take i xs) ++ g x ∷ [] = ap (map g) longer ∙ map-push g (take i xs) x in
    subst (λ (ss : List Sample). PushesSamples ss old new) (sym mapped) (PushesSamples-push (λ s ls. f s ls x) (map g (take i xs)) old mid new before accepting one)

-- the same of items that are seen as others
pub PushesSamples-seen : {S T : Type 0} (view : S → T) (f : Setting → List Label → T → Sample) (xs : List S) (i : ℕ) (d : S) (old mid new : GatheredPoints) → i < length xs → PushesSamples (map (f old.setting old.common) (map view (take i xs))) old mid → mid.refused ≡ None → PushesSample (f mid.setting mid.common (view (get_or xs i d))) mid new → PushesSamples (map (f old.setting old.common) (map view (take (i + 1) xs))) old new
PushesSamples-seen view f xs i d old mid new within before accepting one =
    let g = f old.setting old.common in
    let x = get_or xs i d in
    let seen : map view (take (i + 1) xs) ≡ map view (take i xs) ++ view x ∷ [] = ap (map view) (take_more xs i d within) ∙ map-push view (take i xs) x in
    let mapped : map g (map view (take (i + 1) xs)) ≡ map g (map view (take i xs)) ++ g (view x) ∷ [] = ap (map g) seen ∙ map-push g (map view (take i xs)) (view x) in
    subst (λ (ss : List Sample). PushesSamples ss old new) (sym mapped) (PushesSamples-push (λ s ls. f s ls (view x)) (map g (map view (take i xs))) old mid new before accepting one)

-- samples, and then others
pub PushesSamples-then : (xs : List Sample) (ys : Setting → List Label → List Sample) (old mid new : GatheredPoints) → PushesSamples xs old mid → mid.refused ≡ None → PushesSamples (ys mid.setting mid.common) mid new → PushesSamples (xs ++ ys old.setting old.common) old new
PushesSamples-then xs ys old mid new before accepting more = record {
  same = SameContext-then old mid new before.same more.same;
  formed = λ none. all_append (IsSample old.setting.metric_type) xs (ys old.setting old.common) (before.formed accepting) (
      subst (λ (ls : List Label). AllByRecursion (IsSample old.setting.metric_type) (ys old.setting ls)) before.same.common
      (subst (λ (s : Setting). AllByRecursion (IsSample s.metric_type) (ys s mid.common)) before.same.setting (more.formed none))
      );
  output = λ none. more.output none
      ∙ ((λ i. appended (before.same.setting i).name (before.output accepting i) (ys (before.same.setting i) (before.same.common i)))
      ∙ sym (appended-append old.setting.name old.output xs (ys old.setting old.common)));
  refused = more.refused;
}

-- one sample alone
pub PushesSamples-one : (wanted sample : Sample) (old new : GatheredPoints) → PushesSample sample old new → sample ≡ wanted → PushesSamples (wanted ∷ []) old new
PushesSamples-one wanted sample old new one is = subst (λ (s : Sample). PushesSamples (s ∷ []) old new) is (record {
  same = one.same;
  formed = λ none. (one.formed none, tt);
  output = one.output;
  refused = one.refused;
})

-- the samples of buckets are there
PushesSamples-buckets : (buckets : List Bucket) (slots : List (List EmittedExemplar)) (F : Type 0) (old new : GatheredPoints) → PushesBuckets buckets slots F old new → new.refused ≡ None → PushesSamples (bucket_samples old.setting old.common [] buckets slots) old new
PushesSamples-buckets buckets slots F old new push none = record {
  same = push.same;
  formed = push.formed;
  output = push.output;
  refused = λ k is. absurd cc;
}

-- a point whose first tests passed, and the samples that it has then
pub EmitsPoints-made : (point : Point) (xs : Setting → List Label → List Sample) (F : Type 0) (old begun new : GatheredPoints) → SameContext old begun → begun.output ≡ old.output → ((k : EncodeError) → old.refused ≡ Some k → begun ≡ old) → begun.refused ≡ None → type_of point ≡ old.setting.metric_type → old.deferred ≡ None → PartsValid old.setting old.common point → point_samples old.setting old.common point ≡ xs old.setting old.common → PushesSamples (xs begun.setting begun.common) begun new → EmitsPoints (λ ps. ps ≡ point ∷ []) F old new (result_of new.refused)
EmitsPoints-made point xs F old begun new same output kept begun_none type deferred parts is push =
    let name = old.setting.name in
    let never : (k : EncodeError) → ¬ (old.refused ≡ Some k) = λ k e. (let same : begun ≡ old = kept k e in cc) in
    let put : new.refused ≡ None → new.output ≡ appended name old.output (points_samples old (point ∷ [])) = λ none.
    push.output none
    ∙ ((λ i. appended (same.setting i).name (output i) (xs (same.setting i) (same.common i)))
    ∙ ap (λ (more : List Sample). appended name old.output more) (sym (append-nil (point_samples old.setting old.common point) ∙ is)))
    in
    let formed = λ (none : new.refused ≡ None). subst (AllByRecursion (IsSample old.setting.metric_type)) (sym is)
    (subst (λ (ls : List Label). AllByRecursion (IsSample old.setting.metric_type) (xs old.setting ls)) same.common
    (subst (λ (s : Setting). AllByRecursion (IsSample s.metric_type) (xs s begun.common)) same.setting (push.formed none)))
    in
    record {
      same = SameContext-then old begun new same push.same;
      kept = λ k e. absurd (never k e);
      emitted = λ o none r. (point ∷ [], refl, ((deferred, record { type = type; parts = parts; formed = formed none }, tt)), put none);
      own = λ e none r. (let not : Ok tt ≡ Err e = rw none at r in absurd cc);
      refused = λ k o e. inl (inl (push.refused k e));
    }

-- a point whose first tests passed, and what refuses it then
pub EmitsPoints-refused : (point : Point) (F : Type 0) (old begun new : GatheredPoints) (k : EncodeError) → BeginsPoint (type_of point) old begun → begun.refused ≡ None → new ≡ record begun { refused = Some k } → OwnRefusal F k ⊎ PartsFault k old.setting old.common point → EmitsPoints (λ ps. ps ≡ point ∷ []) F old new (Err k)
EmitsPoints-refused point F old begun new k begins begun_none is fault = record {
  same = subst (SameContext old) (sym is) (record { setting = begins.same.setting; common = begins.same.common; deferred = begins.same.deferred });
  kept = λ j e. (let same : begun ≡ old = begins.kept j e in absurd cc);
  emitted = λ o none r. absurd cc;
  own = λ e none r. (let refused : new.refused ≡ Some k = ap (λ (g : GatheredPoints). g.refused) is in absurd cc);
  refused = λ j o e.
      (let refused : new.refused ≡ Some k = ap (λ (g : GatheredPoints). g.refused) is in
      let same : k ≡ j = cc in
      elim fault [
        | inl own ↦ inl (subst (OwnRefusal F) same own)
        | inr parts ↦ inr (point ∷ [], refl, inl (inr (inr (begins.no_deferred begun_none, subst (λ (l : EncodeError). PartsFault l old.setting old.common point) same parts))))
      ]);
}

-- a point with buckets: its first tests, its buckets, and the totals after them
pub EmitsPoints-buckets : (point : Point) (totals : Setting → List Label → List Sample) (buckets : List Bucket) (slots : List (List EmittedExemplar)) (F : Type 0) (n : ℕ) (old begun pushed new : GatheredPoints) → ((common : List Label) → BucketsValid buckets slots → PartsValid old.setting common point) → ((common : List Label) → point_samples old.setting common point ≡ bucket_samples old.setting common [] buckets slots ++ totals old.setting common) → length slots ≡ n → BeginsBuckets (type_of point) (length buckets) n old begun → begun.refused ≡ None → PushesBuckets buckets slots F begun pushed → pushed.refused ≡ None → PushesSamples (totals pushed.setting pushed.common) pushed new → EmitsPoints (λ ps. ps ≡ point ∷ []) F old new (result_of new.refused)
EmitsPoints-buckets point totals buckets slots F n old begun pushed new valid is same_number begins begun_none push pushed_none added =
    let all = PushesSamples-then (bucket_samples begun.setting begun.common [] buckets slots) totals begun pushed new (PushesSamples-buckets buckets slots F begun pushed push pushed_none) pushed_none added in
    let parts = valid old.common (same_number ∙ begins.same_number begun_none, push.fits pushed_none, push.valid pushed_none) in
    EmitsPoints-made point (λ s common. bucket_samples s common [] buckets slots ++ totals s common) F old begun new begins.same begins.output begins.kept begun_none (begins.same_type begun_none) (begins.no_deferred begun_none) parts (is old.common) all

-- a count and a sum are values of a point's totals
pub FitsType-count : (type : MetricType) (of_count of_sum : SampleKind) (v : Value) (count : ℕ) → HasTotals type of_count of_sum → v ≡ Whole (pos count) → ValueFits (Whole (pos count)) → FitsType type of_count v None
FitsType-count type of_count of_sum v count (inl (inl is, counts, sums)) value fits = rw (is, counts, value) (record { kind = (1, omega arith, refl); suits = tt; value = fits; allowed = refl; exemplar = tt })
FitsType-count type of_count of_sum v count (inl (inr is, counts, sums)) value fits = rw (is, counts, value) (record { kind = (1, omega arith, refl); suits = tt; value = fits; allowed = refl; exemplar = tt })
FitsType-count type of_count of_sum v count (inr (is, counts, sums)) value fits = rw (is, counts, value) (record { kind = (1, omega arith, refl); suits = tt; value = fits; allowed = refl; exemplar = tt })

pub FitsType-sum : (type : MetricType) (of_count of_sum : SampleKind) (v : Value) (sum : ℤ) → HasTotals type of_count of_sum → v ≡ Fixed sum → ValueFits (Fixed sum) → FitsType type of_sum v None
FitsType-sum type of_count of_sum v sum (inl (inl is, counts, sums)) value fits = rw (is, sums, value) (record { kind = (2, omega arith, refl); suits = tt; value = fits; allowed = refl; exemplar = tt })
FitsType-sum type of_count of_sum v sum (inl (inr is, counts, sums)) value fits = rw (is, sums, value) (record { kind = (2, omega arith, refl); suits = tt; value = fits; allowed = refl; exemplar = tt })
FitsType-sum type of_count of_sum v sum (inr (is, counts, sums)) value fits = rw (is, sums, value) (record { kind = (2, omega arith, refl); suits = tt; value = fits; allowed = refl; exemplar = tt })

-- the name of a quantile's label is a label name
pub quantile_is_label_name : IsLabelName (codes "quantile")
quantile_is_label_name = (
  inl (omega arith, omega arith),
  (
    inl (inl (omega arith, omega arith)),
    (
      inl (inl (omega arith, omega arith)),
      (inl (inl (omega arith, omega arith)), (inl (inl (omega arith, omega arith)), (inl (inl (omega arith, omega arith)), (inl (inl (omega arith, omega arith)), (inl (inl (omega arith, omega arith)), tt))))),
    ),
  ),
)
