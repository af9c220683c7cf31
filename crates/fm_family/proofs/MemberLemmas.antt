-- What a label set's clone does to a look-up.
use Rattle.std.proofs.Common.{◌≡◌, ℕ, ◌<◌, Bool, true, List, [], ◌∷◌, ◌++◌, length, Option, None, Some, is_some, refl, sym, ap, ◌∙◌, arith, length-append}
use Rattle.std.proofs.Common.{zero, suc, take, slice_get, Any, ◌+◌}
use Rattle.std.proofs.lemmas.Option.{slice_get_within, get_or_from_slice_get}
use Rattle.std.specs.Cmp.{IsEquivalence}
use Rattle.std.specs.List.{IsDistinct}
use Rattle.std.specs.Map.{keys_of, values_of, lookup}
use Rattle.std.proofs.Common.{IsSome, ◌⊎◌, true≢false}
use Rattle.fm_raw.specs.declared.error.MetricError.TheVariants.{Memory}
use Rattle.std.proofs.Common.{Result, Ok, Err, MatchOption}
use Rattle.fm_raw.specs.declared.error.MetricError.{MetricError}
use Rattle.fm_family.specs.Members.{OffersFirst, OffersDifferent, GetsOrAdds, MayFault}
use denote.Ref.{Bor}
use Rattle.std.specs.Fn.{Once, FnOnceReturnsAt}
use Rattle.fm_family.specs.MemberCalls.{CallsMember}
use Rattle.fm_family.specs.inside.Indexed.{HoldsMetric}
use Rattle.std.proofs.Math.Seq.{take-append_seam}
use Rattle.fm_raw.specs.declared.encode_error.EncodeError.{EncodeError}
use Rattle.fm_labels.specs.Labels.{EmittedLabel}
use Rattle.fm_encoder.specs.Points.{Point, Member}
use Rattle.fm_encoder.specs.Gathered.{GatheredMembers}
use Rattle.fm_labels.specs.Refusals.{result_of}
use Rattle.fm_encoder.specs.Emits.{EmitsMembers, OffersOf, MembersOf}
use Rattle.fm_encoder.proofs.MemberLemmas.{EmitsMembers-then, EmitsMembers-weaker, EmitsMembers-more, OffersOf-push}
use Rattle.indexmap.specs.IndexMap.{IndexMap, get, get_by, insert_entry}
use Rattle.indexmap.proofs.MapLemmas.{distinct-take}
use Rattle.indexmap.proofs.CallerLemmas.{insert_entry-new}

module _ {K X S : Type 0} (eq : K → K → Bool) (laws : IsEquivalence eq) (m : IndexMap K X S) (k c : K) (same : eq k c ≡ true) where
  -- a look-up by a key and by one that equals it give the same
  pub get-equal : get eq m c ≡ get eq m k
  get-equal = let test : eq c ≡ eq k = λ i z. sym (laws.congr k c z same) i in ap (λ t. get_by t m) test

  -- a key that equals an absent one goes last
  pub insert_entry-equal : get eq m k ≡ None → (v : X) → insert_entry eq m.entries c v ≡ m.entries ++ (c, v) ∷ []
  insert_entry-equal none v = insert_entry-new eq m c v (get-equal ∙ none)

-- what is not there by its flag is `None`
pub none_from_flags : {A B : Type 0} (a : Option A) (b : Option B) → is_some a ≡ is_some b → a ≡ None → b ≡ None
none_from_flags a None e n = refl
none_from_flags a (Some x) e n = cc (ap is_some n)

-- the index of the last of a list
pub last_index : {X : Type 0} (xs ys : List X) (x : X) (i : ℕ) → i ≡ length xs → ys ≡ xs ++ x ∷ [] → i < length ys
last_index {X} xs ys x i h e = omega (arith, simp length-append at (ap length e))

-- the keys at the beginning
pub keys_of-take : {L M : Type 0} (n : ℕ) (es : List (L × M)) → keys_of (take n es) ≡ take n (keys_of es)
keys_of-take zero es = refl
keys_of-take (suc n) [] = refl
keys_of-take (suc n) (e ∷ es) = ap (λ t. e.0 ∷ t) (keys_of-take n es)

-- one pair more was offered
pub offers_next : {L M : Type 0} {F : Type 0} (labels : L → List EmittedLabel) (Points : M → List Point → Type 0) (pairs : List (L × M)) (pair : L × M) (old mid new : GatheredMembers) (r : Result (Unit {0}) EncodeError) → EmitsMembers (OffersOf labels Points pairs) F old mid (Ok tt) → (old.refused ≡ None → mid.refused ≡ None) → EmitsMembers (MembersOf (labels pair.0) (Points pair.1)) F mid new r → EmitsMembers (OffersOf labels Points (pairs ++ pair ∷ [])) F old new r
offers_next labels Points pairs pair old mid new r before accepted one =
    EmitsMembers-weaker old new r (OffersOf-push labels Points pairs pair) (λ fault. fault) (EmitsMembers-then old mid new (Ok tt) r before refl accepted one)

-- the member at an index was offered after those before it
pub offers_member : {L M : Type 0} (labels : L → List EmittedLabel) (Points : M → List Point → Type 0) (label_faults : L → Type 0) (metric_faults : M → Type 0) (all : List (L × M)) (i : ℕ) (key : L) (metric : M) (old mid new : GatheredMembers) (r : Result (Unit {0}) EncodeError) → slice_get all i ≡ Some (key, metric)
    → EmitsMembers (OffersOf labels Points (take i all)) (Any (MayFault label_faults metric_faults) all) old mid (Ok tt) → (old.refused ≡ None → mid.refused ≡ None) → EmitsMembers (MembersOf (labels key) (Points metric)) (label_faults key ⊎ metric_faults metric) mid new r
    → EmitsMembers (OffersOf labels Points (take (i + 1) all)) (Any (MayFault label_faults metric_faults) all) old new r
offers_member {L} {M} labels Points label_faults metric_faults all i key metric old mid new r there before accepted one =
    let pair : L × M = (key, metric) in
    let within = slice_get_within all i pair there in
    let read = get_or_from_slice_get all i pair pair there in
    let wider = EmitsMembers-weaker {G = Any (MayFault label_faults metric_faults) all} mid new r (λ ms m. m) (λ (fault : label_faults key ⊎ metric_faults metric). (i, pair, within, read, fault)) one in
    EmitsMembers-more labels Points all i pair within (sym read) old mid new r before accepted wider

-- the pairs up to this one are the first of all
pub offers_first : {L M : Type 0} (labels : L → List EmittedLabel) (Points : M → List Point → Type 0) (all pairs rest : List (L × M)) → all ≡ pairs ++ rest → (ms : List Member) → OffersOf labels Points pairs ms → OffersFirst labels Points all ms
offers_first labels Points all pairs rest is ms offered = (length pairs, rw (is, take-append_seam pairs rest) offered)

-- the first of pairs with different label sets have different label sets
pub first_different : {L M : Type 0} (eq : L → L → Bool) → IsEquivalence eq → (labels : L → List EmittedLabel) (Points : M → List Point → Type 0) (pairs : List (L × M)) → IsDistinct eq (keys_of pairs) → (ms : List Member) → OffersFirst labels Points pairs ms → OffersDifferent eq labels Points ms
first_different eq laws labels Points pairs different ms (n, offered) = (take n pairs, rw keys_of-take (distinct-take laws n (keys_of pairs) different), offered)

-- the encoder accepted if it returns `Ok`
pub accepted : (refused : Option EncodeError) (r : Result (Unit {0}) EncodeError) → r ≡ Ok tt → r ≡ result_of refused → refused ≡ None
accepted None r ok is = refl
accepted (Some k) r ok is = absurd cc

-- the last value
pub last_value : {L M : Type 0} (es : List (L × M)) (k : L) (m : M) → slice_get (values_of (es ++ (k, m) ∷ [])) (length es) ≡ Some m
last_value [] k m = refl
last_value (e ∷ es) k m = last_value es k m

-- if a metric is there
pub gets_there : {L M A : Type 0} (is_clone : L → L → Type 0) (eq : L → L → Bool) (promises : Result M MetricError → Type 0) (labels : L) (old new : List (L × M)) (tells : A → M → Type 0) (a : A) (m : M)
    → lookup (eq labels) old ≡ Some m → new ≡ old → tells a m → GetsOrAdds is_clone eq promises labels old new tells (Ok a)
gets_there is_clone eq promises labels old new tells a m there same told = rw there (same, told)

-- if none is there, and one was added
pub gets_added : {L M A : Type 0} (is_clone : L → L → Type 0) (eq : L → L → Bool) (promises : Result M MetricError → Type 0) (labels k : L) (old new : List (L × M)) (tells : A → M → Type 0) (a : A) (m : M)
    → lookup (eq labels) old ≡ None → is_clone labels k → eq labels k ≡ true → promises (Ok m) → new ≡ old ++ (k, m) ∷ [] → tells a m → GetsOrAdds is_clone eq promises labels old new tells (Ok a)
gets_added is_clone eq promises labels k old new tells a m gone cloned same kept added told = rw gone (k, m, cloned, same, kept, added, told)

-- the same look-up, in another form
pub gets_told : {L M A B : Type 0} (is_clone : L → L → Type 0) (eq : L → L → Bool) (promises : Result M MetricError → Type 0) (labels : L) (old new : List (L × M)) (tells : A → M → Type 0) (says : B → M → Type 0) (a : A) (b : B)
    → ((m : M) → tells a m → says b m) → GetsOrAdds is_clone eq promises labels old new tells (Ok a) → GetsOrAdds is_clone eq promises labels old new says (Ok b)
gets_told {L} {M} is_clone eq promises labels old new tells says a b from h = by (lookup (eq labels) old) h
  where
    by : (o : Option M) → MatchOption o ((k : L) × (m : M) × is_clone labels k × (eq labels k ≡ true) × promises (Ok m) × (new ≡ old ++ (k, m) ∷ []) × tells a m) (λ m. (new ≡ old) × tells a m)
        → MatchOption o ((k : L) × (m : M) × is_clone labels k × (eq labels k ≡ true) × promises (Ok m) × (new ≡ old ++ (k, m) ∷ []) × says b m) (λ m. (new ≡ old) × says b m)
    by None h = (h.0, h.1, h.2, h.3, h.4, h.5, from h.1 h.6)
    by (Some m) h = (h.0, from m h.1)

-- a refusal of a look-up whose result is of another kind
pub gets_refused : {L M A B : Type 0} (is_clone : L → L → Type 0) (eq : L → L → Bool) (promises : Result M MetricError → Type 0) (labels : L) (old new : List (L × M)) (tells : A → M → Type 0) (says : B → M → Type 0) (e : MetricError)
    → GetsOrAdds {A = A} is_clone eq promises labels old new tells (Err e) → GetsOrAdds {A = B} is_clone eq promises labels old new says (Err e)
gets_refused is_clone eq promises labels old new tells says e h = h

-- the index of the last pair has its metric
pub holds_last : {L M : Type 0} (old new : List (L × M)) (k : L) (m : M) (index : ℕ) → index ≡ length old → new ≡ old ++ (k, m) ∷ [] → HoldsMetric new index m
holds_last old new k m index at added = rw (at, added) (last_value old k m)

-- only a label set that is absent is refused
pub refused_absent : {L M A : Type 0} (is_clone : L → L → Type 0) (eq : L → L → Bool) (promises : Result M MetricError → Type 0) (labels : L) (old new : List (L × M)) (tells : A → M → Type 0) (e : MetricError)
    → GetsOrAdds {A = A} is_clone eq promises labels old new tells (Err e) → IsSome (lookup (eq labels) old) → ⊥
refused_absent {L} {M} is_clone eq promises labels old new tells e h = by (lookup (eq labels) old) h
  where
    by : (o : Option M) → MatchOption o ((new ≡ old) × ((e ≡ Memory) ⊎ promises (Err e))) (λ m. (new ≡ old) × ⊥) → IsSome o → ⊥
    by None h some = true≢false (sym some)
    by (Some m) h some = h.1

-- a look-up whose result tells something else of the metric
module _ {L M A B : Type 0} (is_clone : L → L → Type 0) (eq : L → L → Bool) (promises : Result M MetricError → Type 0) (labels : L) (old new : List (L × M)) (tells : A → M → Type 0) (tells' : B → M → Type 0) where
  gets_by : (found : Option M) (a : A) (b : B) → ((m : M) → tells a m → tells' b m)
      → MatchOption found ((k : L) × (m : M) × is_clone labels k × (eq labels k ≡ true) × promises (Ok m) × (new ≡ old ++ (k, m) ∷ []) × tells a m) (λ m. (new ≡ old) × tells a m)
      → MatchOption found ((k : L) × (m : M) × is_clone labels k × (eq labels k ≡ true) × promises (Ok m) × (new ≡ old ++ (k, m) ∷ []) × tells' b m) (λ m. (new ≡ old) × tells' b m)
  gets_by None a b so h = (h.0, h.1, h.2, h.3, h.4, h.5, so h.1 h.6)
  gets_by (Some m) a b so h = (h.0, so m h.1)

  pub GetsOrAdds-tells : (a : A) (b : B) → ((m : M) → tells a m → tells' b m) → GetsOrAdds is_clone eq promises labels old new tells (Ok a) → GetsOrAdds is_clone eq promises labels old new tells' (Ok b)
  GetsOrAdds-tells a b so h = gets_by (lookup (eq labels) old) a b so h

-- a metric that is there
pub GetsOrAdds-found : {L M A : Type 0} (is_clone : L → L → Type 0) (eq : L → L → Bool) (promises : Result M MetricError → Type 0) (labels : L) (old : List (L × M)) (tells : A → M → Type 0) (a : A) (m : M) → Some m ≡ lookup (eq labels) old → tells a m → GetsOrAdds is_clone eq promises labels old old tells (Ok a)
GetsOrAdds-found is_clone eq promises labels old tells a m is told = rw (← is) (refl, told)

-- a closure that is called at a metric that is there
pub CallsMember-found : {F L M R : Type 0} (g : Once F (Bor M × Unit {0}) R) (f : F) (test : L → Bool) (members : List (L × M)) (r : R) (m : M) → Some m ≡ lookup test members → FnOnceReturnsAt g f m r → CallsMember g f test members (Some r)
CallsMember-found g f test members r m is called = rw (← is) called
