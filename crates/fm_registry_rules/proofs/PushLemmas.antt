-- A subsystem that a call creates exists, or is added as the last.
use Rattle.std.proofs.Common.{◌≡◌, ℕ, ◌+◌, true, false, Option, None, Some, IsSome, length, if◌then◌else◌, refl, sym, ap, subst, ◌∙◌, true≢false, arith}
use Rattle.std.specs.Str.{bytes_eq}
use Rattle.fm_registry_rules.specs.Texts.{Text, Labels}
use Rattle.fm_registry_rules.specs.Tree.{Facts, Forest, Leaf, Child, Tree, find_child, names_in}
use Rattle.fm_registry_rules.specs.Steps.{add_child, new_facts, added_unless, with_subsystem}
use Rattle.fm_registry_rules.specs.inside.Forests.{index_from, index_in}
use Rattle.fm_registry_rules.proofs.TextLemmas.{bytes_eq-refl}
use Rattle.fm_registry_rules.proofs.ForestLemmas.{index_in-IsIndex}

module _ {M : Type 0} where
  -- the wanted subsystem exists
  pub added_unless-some : (o : Option (Tree M)) (t : Tree M) (n : Text) (labels : Labels) → IsSome o → added_unless o t n labels ≡ t
  added_unless-some None t n labels h = absurd (true≢false (sym h))
  added_unless-some (Some c) t n labels h = refl

  pub with_subsystem-there : (t : Tree M) (n : Text) (labels : Labels) (i : ℕ) → index_in t.children n ≡ Some i → t ≡ with_subsystem t n labels
  with_subsystem-there t n labels i h =
      let index = index_in-IsIndex t.children n i h in
      sym (added_unless-some (find_child t.children n) t n labels (subst (λ o. IsSome o) (sym index.found) index.there))

  pub find_child-none : (f : Forest M) (n : Text) (k : ℕ) → index_from k f n ≡ None → find_child f n ≡ None
  find_child-none Leaf n k h = refl
  find_child-none (Child m facts below rest) n k h =
      elim (bytes_eq m n) as (λ c. (if c then Some k else index_from (k + 1) rest n) ≡ None → (if c then Some (record { facts = facts; children = below }) else find_child rest n) ≡ None)
      [ true ↦ λ e. absurd (some_not_none e) | false ↦ λ e. find_child-none rest n (k + 1) e ] h
    where
      some_not_none : Some k ≡ None → ⊥
      some_not_none e = cc

  -- an index that does not exist, after adding a subsystem, is the last one
  pub index_from-add_child : (f : Forest M) (n : Text) (facts : Facts M) (k : ℕ) → index_from k f n ≡ None → index_from k (add_child f n facts) n ≡ Some (k + length (names_in f))
  index_from-add_child Leaf n facts k h = rw (bytes_eq-refl n) (ap Some (omega arith))
  index_from-add_child (Child m own below rest) n facts k h =
      elim (bytes_eq m n) as (λ c. (if c then Some k else index_from (k + 1) rest n) ≡ None → (if c then Some k else index_from (k + 1) (add_child rest n facts) n) ≡ Some (k + length (names_in (Child m own below rest))))
      [ true ↦ λ e. absurd (some_not_none e) | false ↦ λ e. index_from-add_child rest n facts (k + 1) e ∙ ap Some (omega arith) ] h
    where
      some_not_none : Some k ≡ None → ⊥
      some_not_none e = cc

  -- the wanted subsystem is new
  pub with_subsystem-absent : (t : Tree M) (n : Text) (labels : Labels) → index_in t.children n ≡ None → with_subsystem t n labels ≡ record t { children = add_child t.children n (new_facts t.facts n labels) }
  with_subsystem-absent t n labels none = ap (λ o. added_unless o t n labels) (find_child-none t.children n 0 none)
