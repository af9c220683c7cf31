-- Label lists that are merged, and labels by index.
use Rattle.std.proofs.Common.{◌≡◌, ◌≢◌, ℕ, ◌+◌, ◌<◌, suc, Bool, true, false, not, List, [], ◌∷◌, ◌++◌, map, None, Some, length, slice_get, slice_set, if◌then◌else◌, refl, sym, ap, subst, ◌∙◌, true≢false, arith}
use Rattle.std.specs.List.{position_from, AllByRecursion}
use Rattle.std.specs.Str.{bytes_eq}
use Rattle.fm_grammar.specs.Names.{IsLabelName, AllDifferent}
use Rattle.fm_grammar.specs.NameTests.{is_label_name}
use Rattle.fm_grammar.specs.WellFormed.{AreLabels}
use Rattle.fm_registry_rules.specs.Texts.{Text, Label, Labels, set_label, merge_labels}
use Rattle.fm_registry_rules.specs.Answer.{InvalidLabelName, first_bad_label}
use Rattle.fm_registry_rules.proofs.TextLemmas.{same_text, bytes_eq-refl}
use Rattle.fm_raw.proofs.NameLemmas.{label_name_decides}

-- one later label more
pub merge_labels-more : (labels xs : Labels) (x : Label) → merge_labels labels (xs ++ x ∷ []) ≡ set_label (merge_labels labels xs) x
merge_labels-more labels [] x = refl
merge_labels-more labels (y ∷ xs) x = merge_labels-more (set_label labels y) xs x

-- what holds of each name holds with a further label
names-set_label : (P : Text → Type 0) (labels : Labels) (new : Label) → AllByRecursion P (map (λ l. l.name) labels) → P new.name → AllByRecursion P (map (λ l. l.name) (set_label labels new))
names-set_label P [] new h k = (k, tt)
names-set_label P (label ∷ labels) new h k =
    elim (bytes_eq label.name new.name) as (λ c. AllByRecursion P (map (λ l. l.name) (if c then new ∷ labels else label ∷ set_label labels new)))
    [ true ↦ (k, h.1) | false ↦ (h.0, names-set_label P labels new h.1 k) ]

different-set_label : (labels : Labels) (new : Label) → AllDifferent (map (λ l. l.name) labels) → AllDifferent (map (λ l. l.name) (set_label labels new))
different-set_label [] new h = (tt, tt)
different-set_label (label ∷ labels) new h =
    elim (bytes_eq label.name new.name) as (λ c. bytes_eq label.name new.name ≡ c → AllDifferent (map (λ l. l.name) (if c then new ∷ labels else label ∷ set_label labels new))) [
      | true ↦ λ e. subst (λ n. AllDifferent (n ∷ map (λ l. l.name) labels)) (same_text label.name new.name e) h
      | false ↦ λ e. (names-set_label (λ other. other ≢ label.name) labels new h.0 (λ same. true≢false (sym (bytes_eq-refl label.name) ∙ ap (λ n. bytes_eq label.name n) (sym same) ∙ e)), different-set_label labels new h.1)
    ] refl

valid-set_label : (labels : Labels) (new : Label) → AllByRecursion (λ l. IsLabelName l.name) labels → IsLabelName new.name → AllByRecursion (λ l. IsLabelName l.name) (set_label labels new)
valid-set_label [] new h k = (k, tt)
valid-set_label (label ∷ labels) new h k =
    elim (bytes_eq label.name new.name) as (λ c. AllByRecursion (λ l. IsLabelName l.name) (if c then new ∷ labels else label ∷ set_label labels new))
    [ true ↦ (k, h.1) | false ↦ (h.0, valid-set_label labels new h.1 k) ]

-- a label more, with a valid name
pub AreLabels-set_label : (labels : Labels) (new : Label) → AreLabels labels → IsLabelName new.name → AreLabels (set_label labels new)
AreLabels-set_label labels new h k = record { names = valid-set_label labels new h.names k; different = different-set_label labels new h.different }

-- labels that are not refused go into a list of labels
pub AreLabels-merge_labels : (labels later : Labels) → AreLabels labels → first_bad_label later ≡ None → AreLabels (merge_labels labels later)
AreLabels-merge_labels labels [] h good = h
AreLabels-merge_labels labels (l ∷ later) h good =
    elim (is_label_name l.name) as (λ c. is_label_name l.name ≡ c → (if c then first_bad_label later else Some (InvalidLabelName l.name)) ≡ None → AreLabels (merge_labels (set_label labels l) later)) [
      | true ↦ λ e g. AreLabels-merge_labels (set_label labels l) later (AreLabels-set_label labels l h ((label_name_decides l.name).0 e)) g
      | false ↦ λ e g. absurd (some_not_none g)
    ] refl good
  where
    some_not_none : Some (InvalidLabelName l.name) ≡ None → ⊥
    some_not_none e = cc

-- two lists of labels that are not refused
pub first_bad_label-++ : (xs ys : Labels) → first_bad_label xs ≡ None → first_bad_label ys ≡ None → first_bad_label (xs ++ ys) ≡ None
first_bad_label-++ [] ys h k = k
first_bad_label-++ (x ∷ xs) ys h k =
    elim (is_label_name x.name) as (λ c. (if c then first_bad_label xs else Some (InvalidLabelName x.name)) ≡ None → (if c then first_bad_label (xs ++ ys) else Some (InvalidLabelName x.name)) ≡ None)
    [ true ↦ λ g. first_bad_label-++ xs ys g k | false ↦ λ g. g ] h

some_not_none : {k : ℕ} → Some k ≡ None → ⊥
some_not_none h = cc

none_not_some : {k : ℕ} → None ≡ Some k → ⊥
none_not_some h = cc

-- labels as a program keeps them
module _ {A : Type 0} (seen : A → Label) where
  -- no label with the name: the new one goes last
  pub set_label-absent : (ls : List A) (l : A) (k : ℕ) → position_from (λ x. bytes_eq (seen x).name (seen l).name) k ls ≡ None → set_label (map seen ls) (seen l) ≡ map seen (ls ++ l ∷ [])
  set_label-absent [] l k h = refl
  set_label-absent (x ∷ ls) l k h =
      elim (bytes_eq (seen x).name (seen l).name) as (λ c. (if c then Some k else position_from (λ y. bytes_eq (seen y).name (seen l).name) (k + 1) ls) ≡ None → (if c then seen l ∷ map seen ls else seen x ∷ set_label (map seen ls) (seen l)) ≡ seen x ∷ map seen (ls ++ l ∷ []))
      [ true ↦ λ e. absurd (some_not_none e) | false ↦ λ e. ap (λ ys. seen x ∷ ys) (set_label-absent ls l (k + 1) e) ] h

  set_from : (ls : List A) (l : A) (k j : ℕ) → position_from (λ x. bytes_eq (seen x).name (seen l).name) k ls ≡ Some j → (i : ℕ) × (j ≡ k + i) × (set_label (map seen ls) (seen l) ≡ map seen (slice_set ls i l))
  set_from [] l k j h = absurd (none_not_some h)
  set_from (x ∷ ls) l k j h =
      elim (bytes_eq (seen x).name (seen l).name) as (λ c. (if c then Some k else position_from (λ y. bytes_eq (seen y).name (seen l).name) (k + 1) ls) ≡ Some j → (i : ℕ) × (j ≡ k + i) × ((if c then seen l ∷ map seen ls else seen x ∷ set_label (map seen ls) (seen l)) ≡ map seen (slice_set (x ∷ ls) i l))) [
        | true ↦ λ e. (0, let same : k ≡ j = cc in sym same ∙ omega arith, refl)
        | false ↦ λ e. let later = set_from ls l (k + 1) j e in (suc later.0, omega (arith, later.1), ap (λ ys. seen x ∷ ys) later.2)
      ] h

  -- the label with the name gives way
  pub set_label-there : (ls : List A) (l : A) (j : ℕ) → position_from (λ x. bytes_eq (seen x).name (seen l).name) 0 ls ≡ Some j → set_label (map seen ls) (seen l) ≡ map seen (slice_set ls j l)
  set_label-there ls l j h = let at = set_from ls l 0 j h in at.2 ∙ ap (λ i. map seen (slice_set ls i l)) (omega (arith, at.1))

  -- no label is refused
  pub all_good : (ls : List A) (k : ℕ) → position_from (λ x. not (is_label_name (seen x).name)) k ls ≡ None → first_bad_label (map seen ls) ≡ None
  all_good [] k h = refl
  all_good (x ∷ ls) k h =
      elim (is_label_name (seen x).name) as (λ c. (if not c then Some k else position_from (λ y. not (is_label_name (seen y).name)) (k + 1) ls) ≡ None → (if c then first_bad_label (map seen ls) else Some (InvalidLabelName (seen x).name)) ≡ None)
      [ true ↦ λ e. all_good ls (k + 1) e | false ↦ λ e. absurd (some_not_none e) ] h

  bad_from : (ls : List A) (k j : ℕ) → position_from (λ x. not (is_label_name (seen x).name)) k ls ≡ Some j → (i : ℕ) × (j ≡ k + i) × ((l : A) → slice_get ls i ≡ Some l → first_bad_label (map seen ls) ≡ Some (InvalidLabelName (seen l).name))
  bad_from [] k j h = absurd (none_not_some h)
  bad_from (x ∷ ls) k j h =
      elim (is_label_name (seen x).name) as (λ c. (if not c then Some k else position_from (λ y. not (is_label_name (seen y).name)) (k + 1) ls) ≡ Some j → (i : ℕ) × (j ≡ k + i) × ((l : A) → slice_get (x ∷ ls) i ≡ Some l → (if c then first_bad_label (map seen ls) else Some (InvalidLabelName (seen x).name)) ≡ Some (InvalidLabelName (seen l).name))) [
        | true ↦ λ e. let later = bad_from ls (k + 1) j e in (suc later.0, omega (arith, later.1), later.2)
        | false ↦ λ e. (0, let same : k ≡ j = cc in sym same ∙ omega arith, λ l got. let one : x ≡ l = cc in ap (λ y. Some (InvalidLabelName (seen y).name)) one)
      ] h

  -- the first label that is refused
  pub bad_at : (ls : List A) (j : ℕ) (l : A) → position_from (λ x. not (is_label_name (seen x).name)) 0 ls ≡ Some j → slice_get ls j ≡ Some l → first_bad_label (map seen ls) ≡ Some (InvalidLabelName (seen l).name)
  bad_at ls j l h got = let at = bad_from ls 0 j h in at.2 l (ap (λ i. slice_get ls i) (omega (arith, at.1)) ∙ got)

-- an index that is found is within the list
pub index_within : {A : Type 0} (test : A → Bool) (ls : List A) (k j : ℕ) → position_from test k ls ≡ Some j → j < k + length ls
index_within test [] k j h = absurd (none_not_some h)
index_within test (x ∷ ls) k j h =
    elim (test x) as (λ c. (if c then Some k else position_from test (k + 1) ls) ≡ Some j → j < k + length (x ∷ ls))
    [ true ↦ λ e. let same : k ≡ j = cc in omega (arith, same) | false ↦ λ e. omega (arith, index_within test ls (k + 1) j e) ] h
