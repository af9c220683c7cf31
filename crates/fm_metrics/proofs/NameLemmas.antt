-- The names of a state set: what is found among them, and what it shows, since no two of them are equal.
use Rattle.std.proofs.Common.{◌≡◌, ℕ, ◌+◌, ◌<◌, ◌≤◌, Bool, true, false, ◌||◌, cond, List, [], ◌∷◌, ◌++◌, map, length, take, get_or, fold, if◌then◌else◌, Contains, Some, string_bytes, String, refl, sym, ap, subst, ◌∙◌, true≢false, arith, length-append}
use Rattle.std.specs.Borrow.{Bor}
use Rattle.std.specs.declared.alloc.Global.{Global}
use Rattle.std.specs.List.{list_any, IsDistinct}
use Rattle.std.specs.Str.{bytes_eq}
use Rattle.std.specs.Cmp.{partial_equiv_from_equiv}
use Rattle.std.specs.Cmp.Lexicographic.{bytes_decides, nat_list_eq_equiv}
use Rattle.std.proofs.lemmas.List.Sums.{fold_more}
use Rattle.std.proofs.lemmas.List.Folds.{Any-from_list_any, list_any-append, list_any_at, list_any_more}
use Rattle.std.proofs.lemmas.List.{get_or-map, length-map, map-append, take-map}
use Rattle.std.proofs.lemmas.Map.Keys.{IsDistinct-push, apart_from_distinct}
use Rattle.std.proofs.lemmas.Option.{get_or_from_slice_get, slice_get_within, slice_get-get_or}
use Rattle.fm_grammar.specs.Exposition.{Text}
use Rattle.fm_metrics.specs.StateSets.{AreDifferent}
use Rattle.fm_metrics.specs.NamedStates.{add_once, each_once, named_states, ShowsOne}
use Rattle.fm_metrics.proofs.StateLemmas.{one_state}

-- more texts leave those that are there
length-add_once : (texts : List Text) (text : Text) → length texts ≤ length (add_once texts text)
length-add_once texts text =
    elim (list_any (bytes_eq text) texts) as (λ c. length texts ≤ length (cond c texts (texts ++ text ∷ [])))
    [ true ↦ omega arith | false ↦ omega (arith, length-append texts (text ∷ [])) ]

length-fold_once : (texts more : List Text) → length texts ≤ length (fold add_once texts more)
length-fold_once texts [] = omega arith
length-fold_once texts (text ∷ more) =
    omega (arith, length-add_once texts text, length-fold_once (add_once texts text) more)

-- one name more, of names that are borrowed
pub copies-more : (names : List (Bor Text)) (i : ℕ) (d : Bor Text) (copies more : List Text) → i < length names → copies ≡ each_once (take i (map (λ name. name.now) names))
    → more ≡ add_once copies (get_or names i d).now → more ≡ each_once (take (i + 1) (map (λ name. name.now) names))
copies-more names i d copies more within before after =
    let texts : List Text = map (λ name. name.now) names in
    let next : get_or texts i d.now ≡ (get_or names i d).now = get_or-map (λ (name : Bor Text). name.now) names i d d.now within in
    let step : each_once (take (i + 1) texts) ≡ add_once (each_once (take i texts)) (get_or texts i d.now) =
    fold_more add_once [] texts i d.now (rw (length-map names (λ name. name.now)) within) in
    after ∙ (λ k. add_once (before k) (sym next k)) ∙ sym step

-- what is among the texts that are each there once is among the texts
or_none : (b : Bool) → b ≡ (b || false)
or_none true = refl
or_none false = refl

or_joined : (a b c : Bool) → ((a || b) || c) ≡ (a || (b || c))
or_joined true b c = refl
or_joined false b c = refl

among_added : (text : Text) (kept : List Text) (other : Text) → list_any (bytes_eq text) (add_once kept other) ≡ (list_any (bytes_eq text) kept || bytes_eq text other)
among_added text kept other =
    elim (list_any (bytes_eq other) kept) as (λ c. list_any (bytes_eq other) kept ≡ c → list_any (bytes_eq text) (cond c kept (kept ++ other ∷ [])) ≡ (list_any (bytes_eq text) kept || bytes_eq text other)) [
      | true ↦ λ there. elim (bytes_eq text other) as (λ d. bytes_eq text other ≡ d → list_any (bytes_eq text) kept ≡ (list_any (bytes_eq text) kept || d)) [
        | true ↦ λ same. let is : list_any (bytes_eq text) kept ≡ true = ap (λ t. list_any (bytes_eq t) kept) ((bytes_decides text other).0 same) ∙ there in rw is refl
        | false ↦ λ _. or_none (list_any (bytes_eq text) kept)
      ] refl
      | false ↦ λ _. list_any-append (bytes_eq text) kept (other ∷ []) ∙ ap (λ b. list_any (bytes_eq text) kept || b) (sym (or_none (bytes_eq text other)))
    ] refl

among_once : (text : Text) (kept texts : List Text) → list_any (bytes_eq text) (fold add_once kept texts) ≡ (list_any (bytes_eq text) kept || list_any (bytes_eq text) texts)
among_once text kept [] = or_none (list_any (bytes_eq text) kept)
among_once text kept (other ∷ texts) =
    among_once text (add_once kept other) texts ∙ ap (λ b. b || list_any (bytes_eq text) texts) (among_added text kept other)
    ∙ or_joined (list_any (bytes_eq text) kept) (bytes_eq text other) (list_any (bytes_eq text) texts)

-- one text more adds one, unless it was there
length-added : (kept : List Text) (text : Text) → length (add_once kept text) ≡ (if list_any (bytes_eq text) kept then length kept else length kept + 1)
length-added kept text =
    elim (list_any (bytes_eq text) kept) as (λ c. length (cond c kept (kept ++ text ∷ [])) ≡ (if c then length kept else length kept + 1))
    [ true ↦ refl | false ↦ length-append kept (text ∷ []) ]

among_texts : (text : Text) (names : List (Bor Text)) → list_any (λ x. bytes_eq text x.now) names ≡ list_any (bytes_eq text) (map (λ name. name.now) names)
among_texts text [] = refl
among_texts text (name ∷ names) = ap (λ b. bytes_eq text name.now || b) (among_texts text names)

pub count-more : (names : List (Bor Text)) (i : ℕ) (d : Bor Text) (count : ℕ) (there : Bool) → i < length names → count ≡ length (each_once (take i (map (λ name. name.now) names)))
    → there ≡ list_any (λ x. bytes_eq (get_or names i d).now x.now) (take i names) → (if there then count else count + 1) ≡ length (each_once (take (i + 1) (map (λ name. name.now) names)))
count-more names i d count there within before is =
    let texts : List Text = map (λ name. name.now) names in
    let name : Text = (get_or names i d).now in
    let among : there ≡ list_any (bytes_eq name) (each_once (take i texts)) =
    is ∙ among_texts name (take i names) ∙ ap (list_any (bytes_eq name)) (sym (take-map (λ x. x.now) i names)) ∙ sym (among_once name [] (take i texts)) in
    let more : length (each_once (take (i + 1) texts)) ≡ length (add_once (each_once (take i texts)) name) =
    ap length (sym (copies-more names i d (each_once (take i texts)) (add_once (each_once (take i texts)) name) within refl refl)) in
    (λ k. if among k then before k else before k + 1) ∙ sym (length-added (each_once (take i texts)) name) ∙ sym more

-- of no names no two are equal, and none equals one that wasn't among them
pub none_equal : IsDistinct bytes_eq []
unfolding IsDistinct
none_equal = tt

pub IsDistinct-copy : (xs : List (String Global)) (x : String Global) (name : Text) → string_bytes x ≡ name → list_any (bytes_eq name) (map string_bytes xs) ≡ false
    → IsDistinct bytes_eq (map string_bytes xs) → IsDistinct bytes_eq (map string_bytes (xs ++ x ∷ []))
IsDistinct-copy xs x name is none apart =
    rw (map-append string_bytes xs (x ∷ []))
    (IsDistinct-push nat_list_eq_equiv (map string_bytes xs) (string_bytes x) apart (ap (λ t. list_any (bytes_eq t) (map string_bytes xs)) is ∙ none))

-- the name at an index
at_index : (xs : List (String Global)) (i : ℕ) (x : String Global) → i < length xs → x ≡ get_or xs i x → get_or (map string_bytes xs) i (string_bytes x) ≡ string_bytes x
at_index xs i x within at = get_or-map string_bytes xs i x (string_bytes x) within ∙ ap string_bytes (sym at)

-- what a search for a name tells where it is, and one place further
pub found : (name : Text) (xs : List (String Global)) (i : ℕ) (x : String Global) → i < length xs → x ≡ get_or xs i x → bytes_eq name (string_bytes x) ≡ true
    → list_any (bytes_eq name) (map string_bytes xs) ≡ true
found name xs i x within at same =
    list_any_at (bytes_eq name) (map string_bytes xs) i (string_bytes x) (rw (length-map xs string_bytes) within) (ap (bytes_eq name) (at_index xs i x within at) ∙ same)

pub missing-more : (name : Text) (xs : List (String Global)) (i : ℕ) (x : String Global) → i < length xs → x ≡ get_or xs i x → bytes_eq name (string_bytes x) ≡ false
    → list_any (bytes_eq name) (take i (map string_bytes xs)) ≡ false → list_any (bytes_eq name) (take (i + 1) (map string_bytes xs)) ≡ false
missing-more name xs i x within at other none =
    list_any_more (bytes_eq name) (map string_bytes xs) i (string_bytes x) (rw (length-map xs string_bytes) within)
    ∙ (λ k. none k || bytes_eq name (at_index xs i x within at k)) ∙ other

-- the test of a name among names, and that it is there
pub Contains-from_test : (names : List Text) (name : Text) → list_any (bytes_eq name) names ≡ true → Contains names name
Contains-from_test names name e =
    let (k, x, within, at, same) = Any-from_list_any (bytes_eq name) names e in
    let P : Text → Type 0 = λ y. get_or names k y ≡ y in
    (k, within, subst P (sym ((bytes_decides name x).0 same)) at)

pub absent : (names : List Text) (name : Text) → list_any (bytes_eq name) names ≡ false → ¬ (Contains names name)
absent names name e = λ (k, within, at).
    true≢false (sym (list_any_at (bytes_eq name) names k name within ((bytes_decides name (get_or names k name)).1 (sym at))) ∙ e)

-- no state set with a name has no states
pub some_once : (texts : List Text) → 0 < length texts → 0 < length (each_once texts)
some_once [] h = absurd (omega (arith, h))
some_once (text ∷ texts) h = omega (arith, length-fold_once (text ∷ []) texts)

-- no two names are equal
differ : (names : List Text) → IsDistinct bytes_eq names → AreDifferent bytes_eq names
differ names apart i j x y before xat yat =
    let e = apart_from_distinct bytes_eq names i j x apart before (slice_get_within names j y yat) in
    let xis : get_or names i x ≡ x = get_or_from_slice_get names i x x xat in
    let yis : get_or names j x ≡ y = get_or_from_slice_get names j y x yat in
    rw (← xis, ← yis) e

-- what a state set shows of names no two of which are equal
pub shows_one : (names : List Text) (current : Text) (states : List (Text × Bool)) → IsDistinct bytes_eq names → Contains names current → states ≡ named_states names current → ShowsOne names states
shows_one names current states apart known each =
    let (k, within, at) = known in
    record {
      current = current;
      known = known;
      each = each;
      one = rw each (one_state bytes_eq (partial_equiv_from_equiv nat_list_eq_equiv) names (λ name. name) current
          (k, current, slice_get-get_or names k current within ∙ ap Some at, (bytes_decides current current).1 refl) (differ names apart));
    }
