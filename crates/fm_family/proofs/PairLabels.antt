-- For families whose label sets are pairs: clones of such label sets equal them, as `with_or_new` requires.
use Rattle.std.proofs.Common.{◌≡◌, ◌&&◌, Bool, true, List, [], ◌∷◌, refl, sym, String, Global}
use Rattle.std.specs.List.{AllZip}
use Rattle.std.specs.String.{string_bytes, string_eq}
use Rattle.std.specs.Cmp.Lexicographic.{pointwise}
use Rattle.std.specs.Cmp.Derive.{both_true}
use Rattle.std.proofs.lemmas.Slice.Eq.{bytes_eq-Decides}
use Rattle.fm_family.specs.Members.{ClonesEqual}

-- lists are equal if their items are, index by index
pointwise_zip : {A : Type 0} (R : A → A → Type 0) (eq : A → A → Bool) → ClonesEqual R eq → (xs ys : List A) → AllZip R xs ys → pointwise eq xs ys ≡ true
pointwise_zip R eq so [] [] h = refl
pointwise_zip R eq so [] (y ∷ ys) h = absurd h
pointwise_zip R eq so (x ∷ xs) [] h = absurd h
pointwise_zip R eq so (x ∷ xs) (y ∷ ys) h = both_true (so x y h.0) (pointwise_zip R eq so xs ys h.1)

-- clones of lists of pairs of a name and a value equal them, if clones of the names and of the values do
pub all_pairs_equal : {A B : Type 0} (R : A → A → Type 0) (eq : A → A → Bool) (S : B → B → Type 0) (same : B → B → Bool) → ClonesEqual R eq → ClonesEqual S same
    → (xs ys : List (A × B)) → AllZip (λ p q. R p.0 q.0 × S p.1 q.1) xs ys → pointwise (λ p q. eq p.0 q.0 && same p.1 q.1) xs ys ≡ true
all_pairs_equal R eq S same names values = pointwise_zip _ _ (λ p q h. both_true (names p.0 q.0 h.0) (values p.1 q.1 h.1))

-- a text is a clone of another if it has its bytes
abbrev pub IsTextClone : String Global → String Global → Type 0
IsTextClone s t = string_bytes t ≡ string_bytes s

text_clones_equal : ClonesEqual IsTextClone string_eq
text_clones_equal s t h = (bytes_eq-Decides (string_bytes s) (string_bytes t)).1 (sym h)

-- clones of lists of pairs of texts equal them
pub pairs_clones_equal : (xs ys : List (String Global × String Global)) → AllZip (λ p q. IsTextClone p.0 q.0 × IsTextClone p.1 q.1) xs ys → pointwise (λ p q. string_eq p.0 q.0 && string_eq p.1 q.1) xs ys ≡ true
pairs_clones_equal = all_pairs_equal _ _ _ _ text_clones_equal text_clones_equal
