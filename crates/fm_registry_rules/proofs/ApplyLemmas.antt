-- A call that goes down a path.
use Rattle.std.proofs.Common.{◌≡◌, ℕ, ◌+◌, true, false, Option, None, Some, Result, Ok, Err, OnOk, OnErr, if◌then◌else◌, refl, sym, ap, subst, inr, ◌∙◌}
use Rattle.std.specs.Str.{bytes_eq}
use Rattle.fm_registry_rules.specs.Texts.{Text, has_text}
use Rattle.fm_registry_rules.specs.History.{Call, History, in_front}
use Rattle.fm_registry_rules.specs.Tree.{Forest, Leaf, Child, Tree, Reads, find_child, names_in}
use Rattle.fm_registry_rules.specs.Steps.{with_named, with_child}
use Rattle.fm_registry_rules.specs.inside.Forests.{nth_in, nth_name, with_nth, index_from, index_in}
use Rattle.fm_registry_rules.specs.Answer.{Refusal, NoSuchSubsystem, after, refusal_of}
use Rattle.fm_registry_rules.specs.Running.{IsReply}
use Rattle.fm_registry_rules.specs.declared.error.RegistryError.{RegistryError}
use Rattle.fm_registry_rules.proofs.TreeLemmas.{reads_root, with_named-itself}
use Rattle.fm_registry_rules.proofs.ForestLemmas.{index_in-IsIndex}
use Rattle.fm_registry_rules.proofs.AnswerLemmas.{missing-answer}
use Rattle.fm_registry_rules.proofs.CallLemmas.{down-reads, down-reply}

module _ {M : Type 0} where
  pub absent_from_index : (f : Forest M) (n : Text) (k : ℕ) → index_from k f n ≡ None → has_text (names_in f) n ≡ false
  absent_from_index Leaf n k e = refl
  absent_from_index (Child m facts below rest) n k e =
      elim (bytes_eq m n) as (λ c. (if c then Some k else index_from (k + 1) rest n) ≡ None → (if c then true else has_text (names_in rest) n) ≡ false)
      [ true ↦ λ h. absurd (some_not_none h) | false ↦ λ h. absent_from_index rest n (k + 1) h ] e
    where
      some_not_none : Some k ≡ None → ⊥
      some_not_none h = cc

  pub there_from_index : (f : Forest M) (n : Text) (k i : ℕ) → index_from k f n ≡ Some i → has_text (names_in f) n ≡ true
  there_from_index Leaf n k i e = absurd (none_not_some e)
    where
      none_not_some : None ≡ Some i → ⊥
      none_not_some h = cc
  there_from_index (Child m facts below rest) n k i e =
      elim (bytes_eq m n) as (λ c. (if c then Some k else index_from (k + 1) rest n) ≡ Some i → (if c then true else has_text (names_in rest) n) ≡ true)
      [ true ↦ λ h. refl | false ↦ λ h. there_from_index rest n (k + 1) i h ] e

  -- a name that is not there
  pub apply-missing : (t : Tree M) (n : Text) (call : Call M) → index_in t.children n ≡ None → (b : History M) → Reads t b → IsReply (Some (NoSuchSubsystem n)) b (in_front n call)
  apply-missing t n call none b reads =
      let missing = missing-answer b n call (ap (λ ns. has_text ns n) (sym (reads_root t b reads).children) ∙ absent_from_index t.children n 0 none) in
      record { returned = inr (sym missing); there = λ nothing. sym missing }

  module _ (t : Tree M) (n : Text) (i : ℕ) (index : index_in t.children n ≡ Some i) (child now : Tree M) (value : nth_in t.children i ≡ Some child) (shows : now ≡ child) (whole call : Call M) (front : whole ≡ in_front n call) where
    found : find_child t.children n ≡ Some now
    found = (index_in-IsIndex t.children n i index).found ∙ value ∙ ap Some (sym shows)

    pub apply-reply : (got : Option Refusal) → ((b : History M) → Reads now b → IsReply got b call) → (b : History M) → Reads t b → IsReply got b whole
    apply-reply got said b reads = subst (λ c. IsReply got b c) (sym front) (down-reply t now n call got found said b reads)

    module _ (m : Text) (name : nth_name t.children i ≡ Some m) (w : Tree M) where
      same_name : m ≡ n
      same_name =
          let both : Some m ≡ Some n = sym name ∙ (index_in-IsIndex t.children n i index).name in cc

      written : record { facts = t.facts; children = with_nth t.children i m w } ≡ with_child t n w
      written = ap (λ f. record { facts = t.facts; children = f }) ((index_in-IsIndex t.children n i index).replaced m w ∙ ap (λ k. with_named t.children n k w) same_name)

      pub apply-ok : (r : Result (Unit {0}) RegistryError) → ((b : History M) → Reads now b → IsReply (refusal_of r) b call) → OnOk r ((b : History M) → Reads now b → Reads w (after b call))
          → OnOk r ((b : History M) → Reads t b → Reads (record { facts = t.facts; children = with_nth t.children i m w }) (after b whole))
      apply-ok r said reads = subst (λ c. OnOk r ((b : History M) → Reads t b → Reads (record { facts = t.facts; children = with_nth t.children i m w }) (after b c))) (sym front)
          (down-reads t (record { facts = t.facts; children = with_nth t.children i m w }) now w n call r found written (λ b h. (said b h).returned) reads)

      pub apply-err : (r : Result (Unit {0}) RegistryError) → OnErr r (w ≡ now) → OnErr r (record { facts = t.facts; children = with_nth t.children i m w } ≡ t)
      apply-err (Ok x) same = tt
      apply-err (Err e) same = written ∙ ap (λ v. with_child t n v) same ∙ ap (λ f. record { facts = t.facts; children = f }) (with_named-itself t.children n now found)
