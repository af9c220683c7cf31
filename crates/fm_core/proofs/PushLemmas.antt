-- A new subsystem goes last.
use Rattle.std.proofs.Common.{◌≡◌, ℕ, ◌+◌, true, false, List, [], ◌∷◌, ◌++◌, None, Some, Result, Ok, Err, OnOk, IfOk, length, if◌then◌else◌, sym, ap, ◌∙◌, arith}
use Rattle.std.specs.Str.{bytes_eq}
use Rattle.std.specs.String.{string_bytes}
use Rattle.fm_registry_rules.specs.Texts.{Text, Labels}
use Rattle.fm_registry_rules.specs.Tree.{Facts, Leaf, Child, Tree, find_child}
use Rattle.fm_registry_rules.specs.Steps.{add_child, new_facts, added_unless, with_subsystem}
use Rattle.fm_registry_rules.specs.inside.Forests.{new_tree, index_from, index_in}
use Rattle.fm_core.specs.inside.TreeView.{forest_of}
use Rattle.fm_core.specs.declared.registry.tree.Subsystem.{Subsystem}
use Rattle.fm_registry_rules.specs.declared.error.RegistryError.{RegistryError}
use Rattle.fm_registry_rules.proofs.TextLemmas.{bytes_eq-refl}
use Rattle.fm_registry_rules.proofs.PushLemmas.{find_child-none}

module _ {M : Type 0} where
  index_from-pushed : (ss : List (Subsystem M)) (s : Subsystem M) (n : Text) (k : ℕ) → string_bytes s.name ≡ n → index_from k (forest_of ss) n ≡ None → index_from k (forest_of (ss ++ s ∷ [])) n ≡ Some (k + length ss)
  index_from-pushed [] s n k named h = rw (named, bytes_eq-refl n) (ap Some (omega arith))
  index_from-pushed (x ∷ ss) s n k named h =
      elim (bytes_eq (string_bytes x.name) n) as (λ c. (if c then Some k else index_from (k + 1) (forest_of ss) n) ≡ None → (if c then Some k else index_from (k + 1) (forest_of (ss ++ s ∷ [])) n) ≡ Some (k + length (x ∷ ss)))
      [ true ↦ λ e. absurd (some_not_none e) | false ↦ λ e. index_from-pushed ss s n (k + 1) named e ∙ ap Some (omega arith) ] h
    where
      some_not_none : Some k ≡ None → ⊥
      some_not_none e = cc

  add_child-forest_of : (ss : List (Subsystem M)) (s : Subsystem M) (n : Text) (f : Facts M) → string_bytes s.name ≡ n → s.registry ≡ record { facts = f; children = Leaf } → forest_of (ss ++ s ∷ []) ≡ add_child (forest_of ss) n f
  add_child-forest_of [] s n f named new = λ i. Child (named i) (new i).facts (new i).children Leaf
  add_child-forest_of (x ∷ ss) s n f named new = ap (λ g. Child (string_bytes x.name) x.registry.facts x.registry.children g) (add_child-forest_of ss s n f named new)

  pub pushed-index : (r : Result ℕ RegistryError) (olds news : List (Subsystem M)) (s : Subsystem M) (n : Text) → string_bytes s.name ≡ n → index_in (forest_of olds) n ≡ None → IfOk r (λ p. p ≡ length olds) → OnOk r (news ≡ olds ++ s ∷ []) → IfOk r (λ p. index_in (forest_of news) n ≡ Some p)
  pushed-index (Ok p) olds news s n named none at new = ap (λ ss. index_in (forest_of ss) n) new ∙ index_from-pushed olds s n 0 named none ∙ ap Some (omega (arith, at))
  pushed-index (Err e) olds news s n named none at new = tt

  pub pushed-tree : (r : Result ℕ RegistryError) (t : Tree M) (olds news : List (Subsystem M)) (s : Subsystem M) (n : Text) (labels : Labels) → t.children ≡ forest_of olds → string_bytes s.name ≡ n → s.registry ≡ new_tree t.facts n labels → index_in (forest_of olds) n ≡ None → OnOk r (news ≡ olds ++ s ∷ [])
      → OnOk r (record { facts = t.facts; children = forest_of news } ≡ with_subsystem t n labels)
  pushed-tree (Err e) t olds news s n labels same named registry none new = tt
  pushed-tree (Ok p) t olds news s n labels same named registry none new =
      let absent : find_child t.children n ≡ None = ap (λ f. find_child f n) same ∙ find_child-none (forest_of olds) n 0 none in
      ap (λ f. record { facts = t.facts; children = f }) (ap forest_of new ∙ add_child-forest_of olds s n (new_facts t.facts n labels) named registry ∙ ap (λ f. add_child f n (new_facts t.facts n labels)) (sym same))
      ∙ ap (λ o. added_unless o t n labels) (sym absent)
