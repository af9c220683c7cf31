-- The members of a family by label names in two lists: those that a scrape may read, and young ones.
use Rattle.std.proofs.Common.{◌≡◌, ℕ, ◌<◌, ◌≤◌, ◌+◌, Bool, true, false, cond, if◌then◌else◌, List, [], ◌∷◌, ◌++◌, length, take, get_or, slice_get, refl, sym, ap, ◌∙◌, subst, arith, length-append, append_assoc, reverse, Option, None, Some, is_some, Result, Ok, Err, MatchResult, ◌⊎◌, inl, inr}
use Rattle.std.proofs.lemmas.List.{take_more, reverse-append}
use Rattle.std.proofs.lemmas.Option.{slice_get_within, get_or_from_slice_get}
use Rattle.std.proofs.lemmas.Map.{lookup-none, none_passes_from_lookup}
use Rattle.std.proofs.lemmas.Map.Keys.{IsDistinct-head, IsDistinct-tail, IsDistinct-cons}
use Rattle.std.specs.List.{AllByRecursion, IsDistinct, items_where_true}
use Rattle.std.specs.List.Retain.{ReturnsInTurn, IsFiltered}
use Rattle.std.specs.Map.{keys_of, lookup, remove_entry}
use Rattle.indexmap.specs.IndexMap.{IndexMap, insert_entry}
use Rattle.indexmap.proofs.MapLemmas.{absent_before}
use Rattle.indexmap.proofs.CallerLemmas.{insert_entry-new}
use Rattle.fm_raw.specs.declared.error.MetricError.{MetricError}
use Rattle.fm_raw.specs.declared.error.MetricError.TheVariants.{Memory, TooManyMembers}
use Rattle.fm_grammar.specs.Exposition.{Text}
use Rattle.fm_grammar.proofs.Runs.{all_append}
use Rattle.fm_labels.specs.LabelValues.{values_eq}
use Rattle.fm_family.specs.MemberCalls.{Removes}
use Rattle.fm_family.specs.VecMembers.{VecState, AreVecMembers, FindsOrAdds}
use Rattle.fm_family.specs.inside.Young.{with_member, joined, AreBeside, HasRoomBeside, FiltersTo}
use Rattle.fm_family.proofs.VecLemmas.{values_laws}

-- ---- look-ups in members and then in others

module _ {K X : Type 0} (test : K → Bool) where
  pub lookup_there : (es fs : List (K × X)) (m : X) → lookup test es ≡ Some m → lookup test (es ++ fs) ≡ Some m
  lookup_there [] fs m is = absurd cc
  lookup_there (e ∷ es) fs m is = elim (test e.0) as (λ b. cond b (Some e.1) (lookup test es) ≡ Some m → cond b (Some e.1) (lookup test (es ++ fs)) ≡ Some m) [ true ↦ λ h. h | false ↦ λ h. lookup_there es fs m h ] is

  pub lookup_beyond : (es fs : List (K × X)) → lookup test es ≡ None → lookup test (es ++ fs) ≡ lookup test fs
  lookup_beyond [] fs none = refl
  lookup_beyond (e ∷ es) fs none = elim (test e.0) as (λ b. cond b (Some e.1) (lookup test es) ≡ None → cond b (Some e.1) (lookup test (es ++ fs)) ≡ lookup test fs) [ true ↦ λ h. absurd cc | false ↦ λ h. lookup_beyond es fs h ] none

  remove_there : (es fs : List (K × X)) (m : X) → lookup test es ≡ Some m → remove_entry test (es ++ fs) ≡ remove_entry test es ++ fs
  remove_there [] fs m is = absurd cc
  remove_there (e ∷ es) fs m is = elim (test e.0) as (λ b. cond b (Some e.1) (lookup test es) ≡ Some m → cond b (es ++ fs) (e ∷ remove_entry test (es ++ fs)) ≡ cond b es (e ∷ remove_entry test es) ++ fs) [ true ↦ λ h. refl | false ↦ λ h. ap (λ t. e ∷ t) (remove_there es fs m h) ] is

  remove_beyond : (es fs : List (K × X)) → lookup test es ≡ None → remove_entry test (es ++ fs) ≡ remove_entry test es ++ remove_entry test fs
  remove_beyond [] fs none = refl
  remove_beyond (e ∷ es) fs none = elim (test e.0) as (λ b. cond b (Some e.1) (lookup test es) ≡ None → cond b (es ++ fs) (e ∷ remove_entry test (es ++ fs)) ≡ cond b es (e ∷ remove_entry test es) ++ remove_entry test fs) [ true ↦ λ h. absurd cc | false ↦ λ h. ap (λ t. e ∷ t) (remove_beyond es fs h) ] none

  removes_by : (o : Option X) (es fs : List (K × X)) → lookup test es ≡ o → is_some o ≡ true → Removes test (es ++ fs) (remove_entry test es ++ fs) true
  removes_by None es fs is some = absurd cc
  removes_by (Some m) es fs is some = record { found = sym (ap is_some (lookup_there es fs m is)); removed = sym (remove_there es fs m is) }

  -- a member that is one of the first
  pub removes_there : (es fs : List (K × X)) → true ≡ is_some (lookup test es) → Removes test (es ++ fs) (remove_entry test es ++ fs) true
  removes_there es fs some = removes_by (lookup test es) es fs refl (sym some)

  beyond_by : (o : Option X) (es fs : List (K × X)) (r : Bool) → lookup test es ≡ o → is_some o ≡ false → r ≡ is_some (lookup test fs) → Removes test (es ++ fs) (remove_entry test es ++ remove_entry test fs) r
  beyond_by None es fs r is none found = record { found = found ∙ sym (ap is_some (lookup_beyond es fs is)); removed = sym (remove_beyond es fs is) }
  beyond_by (Some m) es fs r is none found = absurd cc

  -- a member that is none of the first
  pub removes_beyond : (es fs : List (K × X)) (r : Bool) → false ≡ is_some (lookup test es) → r ≡ is_some (lookup test fs) → Removes test (es ++ fs) (remove_entry test es ++ remove_entry test fs) r
  removes_beyond es fs r none found = beyond_by (lookup test es) es fs r refl (sym none) found

-- what is not there by its flag
pub none_from_false : {A : Type 0} (o : Option A) → is_some o ≡ false → o ≡ None
none_from_false None h = refl
none_from_false (Some x) h = absurd cc

-- what is no value, as a result shows it, is `None`
pub none_unless : {A B : Type 0} (copied : Option A → Option B) (r : Option A) (o : Option B) → copied None ≡ None → copied r ≡ o → ((x : A) → r ≡ Some x → ⊥) → o ≡ None
none_unless copied None o nothing is never = sym is ∙ nothing
none_unless copied (Some x) o nothing is never = absurd (never x refl)

-- ---- what holds of the first elements

-- of one element more
pub all_more : {X : Type 0} (P : X → Type 0) (xs : List X) (i : ℕ) (x : X) → slice_get xs i ≡ Some x → AllByRecursion P (take i xs) → P x → AllByRecursion P (take (i + 1) xs)
all_more P xs i x read all one =
    let is : get_or xs i x ≡ x = get_or_from_slice_get xs i x x read in
    subst (AllByRecursion P) (sym (take_more xs i x (slice_get_within xs i x read))) (all_append P (take i xs) _ all (subst P (sym is) one, tt))

-- ---- members that differ

module _ {M : Type 0} where
  head_apart : (k : List Text) (es fs : List (List Text × M)) → AllByRecursion (λ y. values_eq k y ≡ false) (keys_of es) → AllByRecursion (λ f. values_eq f.0 k ≡ false) fs → AllByRecursion (λ y. values_eq k y ≡ false) (keys_of (es ++ fs))
  head_apart k [] [] a b = tt
  head_apart k [] (f ∷ fs) a b = (values_laws.symm k f.0 ∙ b.0, head_apart k [] fs a b.1)
  head_apart k (e ∷ es) fs a b = (a.0, head_apart k es fs a.1 b)

  none_heads : (e : List Text × M) (es fs : List (List Text × M)) → AllByRecursion (λ f. lookup (values_eq f.0) (e ∷ es) ≡ None) fs → AllByRecursion (λ f. values_eq f.0 e.0 ≡ false) fs
  none_heads e es [] a = tt
  none_heads e es (f ∷ fs) a = let none = none_passes_from_lookup (values_eq f.0) (e ∷ es) a.0 in (none.0, none_heads e es fs a.1)

  none_tails : (e : List Text × M) (es fs : List (List Text × M)) → AllByRecursion (λ f. lookup (values_eq f.0) (e ∷ es) ≡ None) fs → AllByRecursion (λ f. lookup (values_eq f.0) es ≡ None) fs
  none_tails e es [] a = tt
  none_tails e es (f ∷ fs) a = let none = none_passes_from_lookup (values_eq f.0) (e ∷ es) a.0 in (lookup-none (values_eq f.0) es none.1, none_tails e es fs a.1)

  -- members, and others whose values none of them has
  pub distinct_append : (es fs : List (List Text × M)) → IsDistinct values_eq (keys_of es) → IsDistinct values_eq (keys_of fs) → AllByRecursion (λ f. lookup (values_eq f.0) es ≡ None) fs → IsDistinct values_eq (keys_of (es ++ fs))
  distinct_append [] fs d ds apart = ds
  distinct_append (e ∷ es) fs d ds apart = IsDistinct-cons values_eq e.0 (keys_of (es ++ fs))
      (head_apart e.0 es fs (IsDistinct-head values_eq e.0 (keys_of es) d) (none_heads e es fs apart))
      (distinct_append es fs (IsDistinct-tail values_eq e.0 (keys_of es) d) ds (none_tails e es fs apart))

  distinct_one : (e : List Text × M) → IsDistinct values_eq (keys_of (e ∷ []))
  unfolding IsDistinct
  distinct_one e = (tt, tt)

  -- ---- members, and young ones that are looked up after them

  added_by : (o : Option M) (es : List (List Text × M)) (e : List Text × M) → o ≡ None → (if is_some o then es else es ++ e ∷ []) ≡ es ++ e ∷ []
  added_by o es e none = ap (λ r. if is_some r then es else es ++ e ∷ []) none

  joined_push : (es ys : List (List Text × M)) (e : List Text × M) → lookup (values_eq e.0) (joined es ys) ≡ None → joined es (ys ++ e ∷ []) ≡ joined es ys ++ e ∷ []
  joined_push es [] e none = added_by (lookup (values_eq e.0) es) es e none
  joined_push es (y ∷ ys) e none = joined_push (with_member es y) ys e none

  member_none : (test : List Text → Bool) (es : List (List Text × M)) (e : List Text × M) → lookup test es ≡ None → test e.0 ≡ false → lookup test (with_member es e) ≡ None
  member_none test es e none other = elim (is_some (lookup (values_eq e.0) es)) as (λ b. lookup test (if b then es else es ++ e ∷ []) ≡ None) [
    | true ↦ none
    | false ↦ lookup_beyond test es (e ∷ []) none ∙ ap (λ b. cond b (Some e.1) None) other
  ]

  joined_none : (test : List Text → Bool) (es ys : List (List Text × M)) → lookup test es ≡ None → lookup test ys ≡ None → lookup test (joined es ys) ≡ None
  joined_none test es [] a b = a
  joined_none test es (y ∷ ys) a b =
      let none = none_passes_from_lookup test (y ∷ ys) b in
      joined_none test (with_member es y) ys (member_none test es y a none.0) (lookup-none test ys none.1)

  member_length : (es : List (List Text × M)) (e : List Text × M) → length (with_member es e) ≤ length es + 1
  member_length es e = elim (is_some (lookup (values_eq e.0) es)) as (λ b. length (if b then es else es ++ e ∷ []) ≤ length es + 1) [ true ↦ omega arith | false ↦ simp length-append (omega arith) ]

  joined_length : (es ys : List (List Text × M)) → length (joined es ys) ≤ length es + length ys
  joined_length es [] = omega arith
  joined_length es (y ∷ ys) = let rest = joined_length (with_member es y) ys in let one = member_length es y in omega arith

  member_all : (P : List Text × M → Type 0) (es : List (List Text × M)) (e : List Text × M) → AllByRecursion P es → P e → AllByRecursion P (with_member es e)
  member_all P es e all one = elim (is_some (lookup (values_eq e.0) es)) as (λ b. AllByRecursion P (if b then es else es ++ e ∷ [])) [ true ↦ all | false ↦ all_append P es (e ∷ []) all (one, tt) ]

  joined_all : (P : List Text × M → Type 0) (es ys : List (List Text × M)) → AllByRecursion P es → AllByRecursion P ys → AllByRecursion P (joined es ys)
  joined_all P es [] a b = a
  joined_all P es (y ∷ ys) a b = joined_all P (with_member es y) ys (member_all P es y a b.0) b.1

  member_distinct : (es : List (List Text × M)) (e : List Text × M) → IsDistinct values_eq (keys_of es) → IsDistinct values_eq (keys_of (with_member es e))
  member_distinct es e d = by (lookup (values_eq e.0) es) refl
    where
      by : (o : Option M) → lookup (values_eq e.0) es ≡ o → IsDistinct values_eq (keys_of (if is_some o then es else es ++ e ∷ []))
      by None none = distinct_append es (e ∷ []) d (distinct_one e) (none, tt)
      by (Some m) is = d

  joined_distinct : (es ys : List (List Text × M)) → IsDistinct values_eq (keys_of es) → IsDistinct values_eq (keys_of (joined es ys))
  joined_distinct es [] d = d
  joined_distinct es (y ∷ ys) d = joined_distinct (with_member es y) ys (member_distinct es y d)

  module _ (others young : VecState M) (sound : AreVecMembers others) (young_sound : AreVecMembers young) where
    -- young members whose values no other has
    pub beside : young.count ≡ others.count → length others.entries + length young.entries ≤ others.limit → AllByRecursion (λ f. lookup (values_eq f.0) others.entries ≡ None) young.entries → AreBeside others young
    beside count room apart =
        let P = λ (e : List Text × M). length e.0 ≡ others.count in
        record {
          count = count;
          members = record {
            different = distinct_append others.entries young.entries sound.different young_sound.different apart;
            values = all_append P others.entries young.entries sound.values (subst (λ n. AllByRecursion (λ (e : List Text × M). length e.0 ≡ n) young.entries) count young_sound.values);
            within = simp length-append room;
          };
        }

    -- the members of a family whose young ones are looked up after the others
    pub joined_sound : (count : ℕ) → HasRoomBeside others young count → AreVecMembers (record others { entries = joined others.entries young.entries })
    joined_sound count has =
        let P = λ (e : List Text × M). length e.0 ≡ others.count in
        let long = joined_length others.entries young.entries in let room = has.room in
        record {
          different = joined_distinct others.entries young.entries sound.different;
          values = joined_all P others.entries young.entries sound.values (subst (λ n. AllByRecursion (λ (e : List Text × M). length e.0 ≡ n) young.entries) (has.young_count ∙ sym has.others_count) young_sound.values);
          within = omega arith;
        }

  -- what adds a young member adds it to the family
  module _ {A : Type 0} (promises : Result M MetricError → Type 0) (limit young_limit : ℕ) (values : List Text) (es ys new : List (List Text × M)) (tells : A → M → Type 0) (none : lookup (values_eq values) es ≡ None) (young_none : lookup (values_eq values) ys ≡ None) (same_limit : young_limit ≡ limit) (room : length es + length ys < limit) where
    gone : lookup (values_eq values) (joined es ys) ≡ None
    gone = joined_none (values_eq values) es ys none young_none

    adds_by : (r : Result A MetricError)
        → MatchResult r (λ a. (m : M) × promises (Ok m) × (length ys < young_limit) × (new ≡ ys ++ (values, m) ∷ []) × tells a m) (λ e. (new ≡ ys) × ((e ≡ Memory) ⊎ (((e ≡ TooManyMembers) × (young_limit ≤ length ys)) ⊎ promises (Err e))))
        → MatchResult r (λ a. (m : M) × promises (Ok m) × (length (joined es ys) < limit) × (joined es new ≡ joined es ys ++ (values, m) ∷ []) × tells a m) (λ e. (joined es new ≡ joined es ys) × ((e ≡ Memory) ⊎ (((e ≡ TooManyMembers) × (limit ≤ length (joined es ys))) ⊎ promises (Err e))))
    adds_by (Ok a) h = (h.0, h.1, (let long = joined_length es ys in omega arith), ap (joined es) h.3 ∙ joined_push es ys (values, h.0) gone, h.4)
    adds_by (Err e) h = (
      ap (joined es) h.0,
      elim h.1 [
        | inl memory ↦ inl memory
        | inr rest ↦ elim rest [ inl full ↦ absurd (let bound = full.1 in omega arith) | inr promised ↦ inr (inr promised) ]
      ],
    )

    pub young_adds : (r : Result A MetricError) → FindsOrAdds promises young_limit values ys new tells r → FindsOrAdds promises limit values (joined es ys) (joined es new) tells r
    young_adds r h = rw gone (adds_by r (rw young_none at h))

  -- there is no memory for a member that is in neither list
  pub lacks_memory : {A : Type 0} (promises : Result M MetricError → Type 0) (limit : ℕ) (values : List Text) (es ys : List (List Text × M)) (tells : A → M → Type 0) → lookup (values_eq values) es ≡ None → lookup (values_eq values) ys ≡ None → FindsOrAdds promises limit values (es ++ ys) (es ++ ys) tells (Err Memory)
  lacks_memory promises limit values es ys tells none young_none = rw (lookup_beyond (values_eq values) es ys none ∙ young_none) (refl, inl refl)

-- ---- a closure that is called at two lists

module _ {X P : Type 0} (R : P → X → Bool → P → Type 0) where
  turns_both : (p q r : P) (bs cs : List Bool) (xs ys : List X) → length bs ≡ length xs → ReturnsInTurn R p bs xs q → ReturnsInTurn R q cs ys r → ReturnsInTurn R p (bs ++ cs) (xs ++ ys) r
  turns_both p q r [] cs [] ys count first more = subst (λ s. ReturnsInTurn R s cs ys r) (sym first) more
  turns_both p q r [] cs (x ∷ xs) ys count first more = absurd (omega (arith, count))
  turns_both p q r (b ∷ bs) cs [] ys count first more = absurd first
  turns_both p q r (b ∷ bs) cs (x ∷ xs) ys count first more = (first.0, first.1, turns_both first.0 q r bs cs xs ys (omega (arith, count)) first.2 more)

  items_both : (bs cs : List Bool) (xs ys : List X) → length bs ≡ length xs → items_where_true (bs ++ cs) (xs ++ ys) ≡ items_where_true bs xs ++ items_where_true cs ys
  items_both [] cs [] ys count = refl
  items_both [] cs (x ∷ xs) ys count = absurd (omega (arith, count))
  items_both (b ∷ bs) cs [] ys count = absurd (omega (arith, count))
  items_both (true ∷ bs) cs (x ∷ xs) ys count = ap (λ t. x ∷ t) (items_both bs cs xs ys (omega (arith, count)))
  items_both (false ∷ bs) cs (x ∷ xs) ys count = items_both bs cs xs ys (omega (arith, count))

  pub filters_both : (p q r : P) (xs ys kept more : List X) → FiltersTo R p q xs kept → FiltersTo R q r ys more → IsFiltered R p (xs ++ ys) (kept ++ more)
  filters_both p q r xs ys kept more first last =
      let bs = first.0 in let cs = last.0 in let count = first.1 in let rest = last.1 in (
        bs ++ cs,
        r,
        simp length-append (omega (arith, count, rest)),
        turns_both p q r bs cs xs ys count first.2 last.2,
        (λ j. first.3 j ++ last.3 j) ∙ sym (items_both bs cs xs ys count),
      )

  pub filters_one : (p q : P) (xs kept : List X) → FiltersTo R p q xs kept → IsFiltered R p xs kept
  filters_one p q xs kept done = (done.0, q, done.1, done.2, done.3)

-- ---- members that are moved after others, of which the first is moved first

module _ {M S : Type 0} where
  pub moved_one : (es fs : List (List Text × M)) (old new : IndexMap (List Text) M S) (from rest : List (List Text × M)) (values : List Text) (metric : M) → IsDistinct values_eq (keys_of (es ++ fs)) → old.entries ++ reverse from ≡ es ++ fs → from ≡ rest ++ (values, metric) ∷ []
      → new.entries ≡ insert_entry values_eq old.entries values metric → new.entries ++ reverse rest ≡ es ++ fs
  moved_one es fs old new from rest values metric different whole last inserted =
      let pair : List Text × M = (values, metric) in
      let turned : reverse from ≡ pair ∷ reverse rest = ap reverse last ∙ reverse-append rest (pair ∷ []) in
      let parts : old.entries ++ pair ∷ reverse rest ≡ es ++ fs = ap (λ t. old.entries ++ t) (sym turned) ∙ whole in
      let gone : lookup (values_eq values) old.entries ≡ None = absent_before values_laws old.entries (reverse rest) pair (subst (λ t. IsDistinct values_eq (keys_of t)) (sym parts) different) in
      ap (λ t. t ++ reverse rest) (inserted ∙ insert_entry-new values_eq old values metric gone) ∙ append_assoc old.entries (pair ∷ []) (reverse rest) ∙ parts

pub moved_room : {X : Type 0} (from rest : List X) (x : X) (old_spare new_spare : ℕ) → from ≡ rest ++ x ∷ [] → length from ≤ old_spare → old_spare ≤ new_spare + 1 → length rest ≤ new_spare
moved_room from rest x old_spare new_spare last room spare = let long = simp length-append at (ap length last) in omega (arith, long, room, spare)
