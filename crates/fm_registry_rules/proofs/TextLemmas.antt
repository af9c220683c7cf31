-- Texts, paths and lists of names that are tested for equality.
use Rattle.std.proofs.Common.{◌≡◌, Bool, true, false, ◌&&◌, not, List, [], ◌∷◌, ◌++◌, if◌then◌else◌, refl, sym, ap, ◌∙◌, true≢false}
use Rattle.std.specs.Str.{bytes_eq}
use Rattle.std.specs.Cmp.Lexicographic.{bytes_decides}
use Rattle.fm_registry_rules.specs.Texts.{Text, Path, path_eq, has_text}
use Rattle.fm_registry_rules.specs.inside.Once.{is_once}

-- what the test of two texts tells
pub bytes_eq-refl : (n : Text) → bytes_eq n n ≡ true
bytes_eq-refl n = (bytes_decides n n).1 refl

pub same_text : (n m : Text) → bytes_eq n m ≡ true → n ≡ m
same_text n m e = (bytes_decides n m).0 e

pub other_text : (n m : Text) → bytes_eq n m ≡ false → bytes_eq m n ≡ false
other_text n m e =
    elim (bytes_eq m n) as (λ c. bytes_eq m n ≡ c → c ≡ false)
    [ true ↦ λ h. sym (bytes_eq-refl n) ∙ ap (λ k. bytes_eq n k) (sym (same_text m n h)) ∙ e | false ↦ λ h. refl ] refl

-- both of two tests
pub both_true : (c d : Bool) → (c && d) ≡ true → (c ≡ true) × (d ≡ true)
both_true true d h = (refl, h)
both_true false d h = absurd (true≢false (sym h))

pub both_once : (c d : Bool) → (not c && d) ≡ true → (c ≡ false) × (d ≡ true)
both_once true d h = absurd (true≢false (sym h))
both_once false d h = (refl, h)

-- what the test of two paths tells
pub same_path : (p q : Path) → path_eq p q ≡ true → p ≡ q
same_path [] [] e = refl
same_path [] (m ∷ q) e = absurd (true≢false (sym e))
same_path (n ∷ p) [] e = absurd (true≢false (sym e))
same_path (n ∷ p) (m ∷ q) e =
    let h = both_true (bytes_eq n m) (path_eq p q) e in
    λ i. same_text n m h.0 i ∷ same_path p q h.1 i

pub path_eq-refl : (p : Path) → path_eq p p ≡ true
path_eq-refl [] = refl
path_eq-refl (n ∷ p) = rw (bytes_eq-refl n) (path_eq-refl p)

-- one name more
pub has_text-push : (ns : List Text) (n m : Text) → bytes_eq n m ≡ false → has_text (ns ++ n ∷ []) m ≡ has_text ns m
has_text-push [] n m e = rw e refl
has_text-push (k ∷ ns) n m e = ap (λ c. if bytes_eq k m then true else c) (has_text-push ns n m e)

pub has_text-last : (ns : List Text) (n : Text) → has_text (ns ++ n ∷ []) n ≡ true
has_text-last [] n = rw (bytes_eq-refl n) refl
has_text-last (m ∷ ns) n = elim (bytes_eq m n) as (λ c. (if c then true else has_text (ns ++ n ∷ []) n) ≡ true) [ true ↦ refl | false ↦ has_text-last ns n ]

-- a name that is not there may be added
pub is_once-push : (ns : List Text) (n : Text) → is_once ns ≡ true → has_text ns n ≡ false → is_once (ns ++ n ∷ []) ≡ true
is_once-push [] n once absent = refl
is_once-push (m ∷ ns) n once absent =
    elim (bytes_eq m n) as (λ c. bytes_eq m n ≡ c → (if c then true else has_text ns n) ≡ false → is_once (m ∷ (ns ++ n ∷ [])) ≡ true) [
      | true ↦ λ e h. absurd (true≢false h)
      | false ↦ λ e h. ap (λ c. not c && is_once (ns ++ n ∷ [])) (has_text-push ns n m (other_text m n e)) ∙ by (has_text ns m) (is_once ns) once (λ rest. is_once-push ns n rest h)
    ] refl absent
  where
    by : (c d : Bool) → (not c && d) ≡ true → (d ≡ true → is_once (ns ++ n ∷ []) ≡ true) → (not c && is_once (ns ++ n ∷ [])) ≡ true
    by true d e f = absurd (true≢false (sym e))
    by false d e f = f e
