-- What a root was tested for, and that a new root reads its history.
use Rattle.std.proofs.Common.{◌≡◌, ◌≢◌, ◌+◌, arith, length, IfSome, Bool, true, false, List, [], ◌∷◌, ◌++◌, map, Option, None, Some, if◌then◌else◌, refl, sym, ap, ◌∙◌, append-nil, append_assoc, true≢false}
use Rattle.std.specs.List.{AllByRecursion}
use Rattle.std.specs.Str.{bytes_eq}
use Rattle.fm_grammar.specs.Names.{IsSnakeCase, IsLabelName, AllDifferent}
use Rattle.fm_grammar.specs.WellFormed.{AreLabels}
use Rattle.fm_grammar.proofs.Runs.{all_weaker}
use Rattle.fm_registry_rules.specs.History.{root_history, labels_at, namespace_at}
use Rattle.fm_registry_rules.specs.Tree.{Tree, Leaf, Reads, subtree_from, metrics_of, children_of}
use Rattle.fm_registry_rules.specs.Texts.{Text, Path, Labels, has_text}
use Rattle.fm_registry_rules.specs.Answer.{Refusal, namespace_refusal, label_refusal_after, labels_refusal_after, root_labels_refusal, or_then}
use Rattle.fm_registry_rules.proofs.TextLemmas.{bytes_eq-refl}
use Rattle.fm_raw.proofs.NameLemmas.{snake_case_is, label_name_decides}
use Rattle.fm_registry_rules.proofs.AcceptedLemmas.{IsHistory-root_history}
use Rattle.fm_registry_rules.proofs.AnswerLemmas.{or_then-none, namespace_passed, label_passed}

-- a namespace that is not refused
pub namespace_valid : (namespace : Text) → namespace_refusal namespace ≡ None → IsSnakeCase namespace
namespace_valid namespace h = snake_case_is namespace (namespace_passed namespace h)

-- a name that is not among others is not among fewer, and is not the last of them
absent_before : (before : List Text) (n m : Text) → has_text (before ++ n ∷ []) m ≡ false → (has_text before m ≡ false) × (m ≢ n)
absent_before [] n m h = (refl, λ same. true≢false (sym (bytes_eq-refl n) ∙ ap (λ k. bytes_eq n k) (sym same) ∙ by (bytes_eq n m) h))
  where
    by : (c : Bool) → (if c then true else false) ≡ false → c ≡ false
    by true e = absurd (true≢false e)
    by false e = refl
absent_before (k ∷ before) n m h =
    elim (bytes_eq k m) as (λ c. (if c then true else has_text (before ++ n ∷ []) m) ≡ false → ((if c then true else has_text before m) ≡ false) × (m ≢ n))
    [ true ↦ λ e. absurd (true≢false e) | false ↦ λ e. absent_before before n m e ] h

-- names that are neither refused nor among those before
record AreNew (before : List Text) (labels : Labels) : Type 0 where
  absent : AllByRecursion (λ name. has_text before name ≡ false) (map (λ l. l.name) labels)
  names : AllByRecursion (λ label. IsLabelName label.name) labels
  different : AllDifferent (map (λ l. l.name) labels)

are_new : (before : List Text) (labels : Labels) → labels_refusal_after before labels ≡ None → AreNew before labels
are_new before [] h = record { absent = tt; names = tt; different = tt }
are_new before (label ∷ labels) h =
    let parts = or_then-none (label_refusal_after before label.name) (labels_refusal_after (before ++ label.name ∷ []) labels) h in
    let passed = label_passed before label.name parts.0 in
    let rest = are_new (before ++ label.name ∷ []) labels parts.1 in
    record {
      absent = (passed.1, all_weaker (λ name. has_text (before ++ label.name ∷ []) name ≡ false) (λ name. has_text before name ≡ false) (λ name e. (absent_before before label.name name e).0) (map (λ l. l.name) labels) rest.absent);
      names = ((label_name_decides label.name).0 passed.0, rest.names);
      different = (all_weaker (λ name. has_text (before ++ label.name ∷ []) name ≡ false) (λ name. name ≢ label.name) (λ name e. (absent_before before label.name name e).1) (map (λ l. l.name) labels) rest.absent, rest.different);
    }

-- labels of a root that are not refused
pub root_labels_valid : (labels : Labels) → root_labels_refusal labels ≡ None → AreLabels labels
root_labels_valid labels h =
    let new = are_new [] labels h in
    record { names = new.names; different = new.different }

-- labels in turn: if the first ones pass, the others decide
pub labels_refusal_after-++ : (before : List Text) (xs ys : Labels) → labels_refusal_after before xs ≡ None → labels_refusal_after before (xs ++ ys) ≡ labels_refusal_after (before ++ map (λ l. l.name) xs) ys
labels_refusal_after-++ before [] ys h = ap (λ ns. labels_refusal_after ns ys) (sym (append-nil before))
labels_refusal_after-++ before (x ∷ xs) ys h =
    let parts = or_then-none (label_refusal_after before x.name) (labels_refusal_after (before ++ x.name ∷ []) xs) h in
    ap (λ o. or_then o (labels_refusal_after (before ++ x.name ∷ []) (xs ++ ys))) parts.0
    ∙ labels_refusal_after-++ (before ++ x.name ∷ []) xs ys parts.1
    ∙ ap (λ ns. labels_refusal_after ns ys) (append_assoc before (x.name ∷ []) (map (λ l. l.name) xs))

-- and a refusal stays, whatever follows
pub labels_refusal_after-stays : (before : List Text) (xs ys : Labels) (why : Refusal) → labels_refusal_after before xs ≡ Some why → labels_refusal_after before (xs ++ ys) ≡ Some why
labels_refusal_after-stays before [] ys why h = absurd (none_not_some h)
  where
    none_not_some : None ≡ Some why → ⊥
    none_not_some e = cc
labels_refusal_after-stays before (x ∷ xs) ys why h = by (label_refusal_after before x.name) h (λ e. labels_refusal_after-stays (before ++ x.name ∷ []) xs ys why e)
  where
    by : (o : Option Refusal) → or_then o (labels_refusal_after (before ++ x.name ∷ []) xs) ≡ Some why
        → (labels_refusal_after (before ++ x.name ∷ []) xs ≡ Some why → labels_refusal_after (before ++ x.name ∷ []) (xs ++ ys) ≡ Some why)
        → or_then o (labels_refusal_after (before ++ x.name ∷ []) (xs ++ ys)) ≡ Some why
    by None e later = later e
    by (Some r) e later = e

module _ {M : Type 0} where
  -- a new root reads its history
  pub reads-root_history : (namespace : Option Text) (labels : Labels) → IfSome namespace IsSnakeCase → AreLabels labels
      → Reads {M = M} (record { facts = record { namespace = namespace; labels = labels; depth = 0; metrics = [] }; children = Leaf }) (root_history namespace labels)
  reads-root_history namespace labels valid are = record {
    shows = record { metrics = metrics; children = children; namespace = namespaces; labels = all_labels; depth = depths };
    history = IsHistory-root_history namespace labels valid are;
  }
    where
      root : Tree M
      root = record { facts = record { namespace = namespace; labels = labels; depth = 0; metrics = [] }; children = Leaf }

      metrics : (p : Path) → metrics_of (subtree_from (Some root) p) ≡ []
      metrics [] = refl
      metrics (n ∷ p) = refl

      children : (p : Path) → children_of (subtree_from (Some root) p) ≡ []
      children [] = refl
      children (n ∷ p) = refl

      namespaces : (p : Path) → IfSome (subtree_from (Some root) p) (λ c. c.facts.namespace ≡ namespace_at (root_history {M = M} namespace labels) p)
      namespaces [] = refl
      namespaces (n ∷ p) = tt

      all_labels : (p : Path) → IfSome (subtree_from (Some root) p) (λ c. c.facts.labels ≡ labels_at (root_history {M = M} namespace labels) p)
      all_labels [] = refl
      all_labels (n ∷ p) = tt

      depths : (p : Path) → IfSome (subtree_from (Some root) p) (λ c. c.facts.depth ≡ 0 + length p)
      depths [] = omega arith
      depths (n ∷ p) = tt
