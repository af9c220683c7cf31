-- Sets of names that differ.
use Rattle.std.proofs.Common.{◌≡◌, ◌≢◌, ℕ, zero, suc, ◌+◌, ◌<◌, not, Bool, true, false, cond, List, [], ◌∷◌, ◌++◌, length, take, get_or, refl, sym, ap, subst, ◌∙◌, arith, map, Bor}
use Rattle.std.specs.List.{AllByRecursion, list_any}
use Rattle.std.specs.BTreeSet.{BTreeSet, contains_by, Updates}
use Rattle.std.specs.BTreeMap.{is_at}
use Rattle.std.proofs.lemmas.List.{take_more}
use Rattle.std.specs.Ordering.{nat_cmp}
use Rattle.std.specs.Cmp.Lexicographic.{slice_cmp}
use Rattle.std.specs.Str.{bytes_eq}
use Rattle.std.proofs.lemmas.Bool.{true≢false}
use Rattle.std.proofs.lemmas.Slice.Eq.{bytes_eq-Decides}
use Rattle.std.proofs.lemmas.Map.Text.{is_eq-slice_cmp}
use Rattle.std.specs.Prelude.{slice_get, Option, Some, None}
use Rattle.fm_grammar.specs.Exposition.{Text, Label}
use Rattle.fm_grammar.specs.Names.{AllDifferent}
use Rattle.fm_grammar.proofs.Runs.{all_append, all_middle}

-- the name is in the set
abbrev pub has : BTreeSet (Bor Text) → Text → Bool
has names q = contains_by (λ k. slice_cmp nat_cmp q k.now) names

abbrev pub IsFresh : Text → List Text → Type 0
IsFresh q texts = AllByRecursion (λ other. other ≢ q) texts

all_last : (q : Text) (texts : List Text) (last : Text) → IsFresh q (texts ++ (last ∷ [])) → last ≢ q
all_last q texts last h = all_middle (λ other. other ≢ q) texts last [] h

-- the set has these names
abbrev pub Holds : BTreeSet (Bor Text) → List Text → Type 0
Holds names texts = (q : Text) → (has names q ≡ false → IsFresh q texts) × (has names q ≡ true → IsFresh q texts → ⊥)

pub holds_none : (names : BTreeSet (Bor Text)) → names.keys ≡ [] → Holds names []
holds_none names e q = (λ h. tt, λ h f. true≢false (sym h ∙ ap (list_any (is_at (λ k. slice_cmp nat_cmp q k.now))) e))

-- a text as the set's keys are seen
lent : Text → Bor Text
lent q = record { ref_ptr = (0, 0); now = q }

has_insert : (old new : BTreeSet (Bor Text)) (key : Bor Text) → Updates (λ x y. slice_cmp nat_cmp x.now y.now) old new key true → (q : Text) → has new q ≡ cond (bytes_eq key.now q) true (has old q)
unfolding lent
has_insert old new key h q = h.0 (lent q) ∙ ap (λ b. cond b true (has old q)) (is_eq-slice_cmp key.now q)

fresh_front : (q : Text) (a b : List Text) → IsFresh q (a ++ b) → IsFresh q a
fresh_front q [] b h = tt
fresh_front q (x ∷ a) b h = (h.0, fresh_front q a b h.1)

-- one more name is in the set
pub holds_more : (old new : BTreeSet (Bor Text)) (key : Bor Text) (texts : List Text) → Updates (λ x y. slice_cmp nat_cmp x.now y.now) old new key true → Holds old texts → Holds new (texts ++ (key.now ∷ []))
holds_more old new key texts h holds q = by (bytes_eq key.now q) refl
  where
    by : (b : Bool) → bytes_eq key.now q ≡ b → (has new q ≡ false → IsFresh q (texts ++ (key.now ∷ []))) × (has new q ≡ true → IsFresh q (texts ++ (key.now ∷ [])) → ⊥)
    by true e = (
      λ n. absurd (true≢false (sym (has_insert old new key h q ∙ ap (λ c. cond c true (has old q)) e) ∙ n)),
      λ n f. all_last q texts key.now f ((bytes_eq-Decides key.now q).0 e),
    )
    by false e =
        let same : has new q ≡ has old q = has_insert old new key h q ∙ ap (λ c. cond c true (has old q)) e in (
          λ n. all_append (λ other. other ≢ q) texts (key.now ∷ []) ((holds q).0 (sym same ∙ n)) ((λ k. true≢false (sym ((bytes_eq-Decides key.now q).1 k) ∙ e)), tt),
          λ n f. (holds q).1 (sym same ∙ n) (fresh_front q texts (key.now ∷ []) f),
        )

-- names that differ

pub different_push : (texts : List Text) (last : Text) → AllDifferent texts → IsFresh last texts → AllDifferent (texts ++ (last ∷ []))
different_push [] last d f = (tt, tt)
different_push (x ∷ texts) last d f = (all_append (λ other. other ≢ x) texts (last ∷ []) d.0 ((λ e. f.0 (sym e)), tt), different_push texts last d.1 f.1)

pub different_more : (texts : List Text) (i : ℕ) (d : Text) → i < length texts → AllDifferent (take i texts) → IsFresh (get_or texts i d) (take i texts) → AllDifferent (take (i + 1) texts)
different_more texts i d within h f = subst AllDifferent (sym (take_more texts i d within)) (different_push (take i texts) (get_or texts i d) h f)

all_at : (x : Text) (texts : List Text) (i : ℕ) (d : Text) → i < length texts → AllByRecursion (λ other. other ≢ x) texts → get_or texts i d ≢ x
all_at x [] i d within h = absurd (omega arith)
all_at x (y ∷ texts) zero d within h = h.0
all_at x (y ∷ texts) (suc i) d within h = all_at x texts i d (omega arith) h.1

-- if all names differ, each is new to the ones before it
pub different_at : (texts : List Text) (i : ℕ) (d : Text) → i < length texts → AllDifferent texts → IsFresh (get_or texts i d) (take i texts)
different_at [] i d within h = absurd (omega arith)
different_at (x ∷ texts) zero d within h = tt
different_at (x ∷ texts) (suc i) d within h = ((λ e. all_at x texts i d (omega arith) h.0 (sym e)), different_at texts i d (omega arith) h.1)

-- the names of labels

abbrev pub names_of : List Label → List Text
names_of labels = map (λ label. label.name) labels

pub names_at : (labels : List Label) (i : ℕ) (d : Text) (label : Label) → slice_get labels i ≡ Some label → get_or (names_of labels) i d ≡ label.name
names_at [] i d label is = absurd (Prim.cc)
names_at (x ∷ labels) zero d label is = let same : x ≡ label = cc in ap (λ l. l.name) same
names_at (x ∷ labels) (suc i) d label is = names_at labels i d label is

pub names_length : (labels : List Label) → length (names_of labels) ≡ length labels
names_length [] = refl
names_length (x ∷ labels) = omega (arith, names_length labels)

not_false : (b : Bool) → not b ≡ false → b ≡ true
not_false true e = refl
not_false false e = absurd (true≢false e)

not_true : (b : Bool) → not b ≡ true → b ≡ false
not_true true e = absurd (true≢false (sym e))
not_true false e = refl

-- a name that the set has comes twice,
pub name_twice : (names : BTreeSet (Bor Text)) (key : Bor Text) (texts : List Text) (i : ℕ) (d : Text) (b : Bool) → b ≡ not (has names key.now) → b ≡ false → Holds names (take i texts) → i < length texts → get_or texts i d ≡ key.now → AllDifferent texts → ⊥
name_twice names key texts i d b added e holds within same all =
    (holds key.now).1 (not_false (has names key.now) (sym added ∙ e)) (subst (λ q. IsFresh q (take i texts)) same (different_at texts i d within all))

-- and one that it didn't have is new
pub name_new : (names : BTreeSet (Bor Text)) (key : Bor Text) (texts : List Text) (i : ℕ) (d : Text) (b : Bool) → b ≡ not (has names key.now) → b ≡ true → Holds names (take i texts) → i < length texts → get_or texts i d ≡ key.now → AllDifferent (take i texts) → AllDifferent (take (i + 1) texts)
name_new names key texts i d b added e holds within same all =
    different_more texts i d within all (subst (λ q. IsFresh q (take i texts)) (sym same) ((holds key.now).0 (not_true (has names key.now) (sym added ∙ e))))

pub name_held : (old new : BTreeSet (Bor Text)) (key : Bor Text) (texts : List Text) (i : ℕ) (d : Text) → Updates (λ x y. slice_cmp nat_cmp x.now y.now) old new key true → Holds old (take i texts) → i < length texts → get_or texts i d ≡ key.now → Holds new (take (i + 1) texts)
name_held old new key texts i d updates holds within same =
    subst (Holds new) (sym (take_more texts i d within ∙ ap (λ x. take i texts ++ (x ∷ [])) same)) (holds_more old new key (take i texts) updates holds)

-- one name among others

pub not_fresh : (q : Text) (texts : List Text) (n i : ℕ) → i < n → i < length texts → get_or texts i [] ≡ q → IsFresh q (take n texts) → ⊥
not_fresh q [] n i before within is fresh = absurd (omega arith)
not_fresh q (x ∷ texts) zero i before within is fresh = absurd (omega arith)
not_fresh q (x ∷ texts) (suc n) zero before within is fresh = fresh.0 is
not_fresh q (x ∷ texts) (suc n) (suc i) before within is fresh = not_fresh q texts n i (omega arith) (omega arith) is fresh.1

pub fresh_more : (q : Text) (texts : List Text) (i : ℕ) → i < length texts → get_or texts i [] ≢ q → IsFresh q (take i texts) → IsFresh q (take (i + 1) texts)
fresh_more q texts i within other fresh =
    subst (IsFresh q) (sym (take_more texts i [] within)) (all_append (λ name. name ≢ q) (take i texts) (get_or texts i [] ∷ []) fresh (other, tt))
