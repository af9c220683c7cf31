-- Forests, by index and by name.
use Rattle.std.proofs.Common.{◌≡◌, ℕ, suc, ◌+◌, true, false, None, Some, IsSome, if◌then◌else◌, refl, sym, ap, subst, ◌∙◌, arith}
use Rattle.std.specs.Str.{bytes_eq}
use Rattle.fm_registry_rules.specs.Texts.{Text}
use Rattle.fm_registry_rules.specs.Tree.{Forest, Leaf, Child, Tree, find_child}
use Rattle.fm_registry_rules.specs.Steps.{with_named}
use Rattle.fm_registry_rules.specs.inside.Forests.{nth_in, nth_name, with_nth, index_from, index_in}
use Rattle.fm_registry_rules.proofs.TextLemmas.{same_text}

module _ {M : Type 0} where
  -- a registry that is found by name is found by its index, and replaced by its index
  pub record IsIndex (f : Forest M) (n : Text) (i : ℕ) : Type 0 where
    pub found : find_child f n ≡ nth_in f i
    pub there : IsSome (nth_in f i)
    pub name : nth_name f i ≡ Some n
    pub replaced : (m : Text) (w : Tree M) → with_nth f i m w ≡ with_named f n m w

  is_index : (f : Forest M) (n : Text) (k j : ℕ) → index_from k f n ≡ Some j → (i : ℕ) × (j ≡ k + i) × IsIndex f n i
  is_index Leaf n k j h = absurd (none_not_some h)
    where
      none_not_some : None ≡ Some j → ⊥
      none_not_some e = cc
  is_index (Child name facts below rest) n k j h =
      elim (bytes_eq name n) as (λ c. bytes_eq name n ≡ c → (if c then Some k else index_from (k + 1) rest n) ≡ Some j → (i : ℕ) × (j ≡ k + i) × IsIndex (Child name facts below rest) n i) [
        | true ↦ λ e s.
            let same : k ≡ j = cc in
            (0, sym same ∙ omega arith, record { found = rw e refl; there = refl; name = ap Some (same_text name n e); replaced = λ m w. rw e refl })
        | false ↦ λ e s.
            let later = is_index rest n (k + 1) j s in
            (suc later.0, omega (arith, later.1), record { found = rw e later.2.found; there = later.2.there; name = later.2.name; replaced = λ m w. rw e (ap (λ r. Child name facts below r) (later.2.replaced m w)) })
      ] refl h

  pub index_in-IsIndex : (f : Forest M) (n : Text) (i : ℕ) → index_in f n ≡ Some i → IsIndex f n i
  index_in-IsIndex f n i h =
      let p = is_index f n 0 i h in
      subst (λ k. IsIndex f n k) (omega (arith, p.1)) p.2
