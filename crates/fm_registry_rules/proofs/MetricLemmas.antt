-- When two metrics are the same, and what a list of metrics has under one tail.
use Rattle.std.proofs.Common.{◌≡◌, ◌≢◌, ℕ, zero, suc, Bool, true, false, ◌&&◌, List, [], ◌∷◌, Option, None, Some, slice_get, if◌then◌else◌, refl, sym, ap, subst, ◌∙◌, true≢false}
use Rattle.std.specs.List.{AllByRecursion}
use Rattle.std.specs.Str.{bytes_eq}
use Rattle.fm_grammar.specs.Names.{AllDifferent}
use Rattle.fm_grammar.specs.Kinds.{type_word}
use Rattle.fm_grammar.specs.declared.MetricType.{MetricType}
use Rattle.fm_grammar.specs.contracts.MetricTypePartialEq.TheImpl as types
use Rattle.fm_grammar.specs.contracts.MetricType.{the_type}
use Rattle.fm_grammar.proofs.Words.{one_type_word}
use denote.Enum.Bare.{same_true, true_same}
use Rattle.std.proofs.lemmas.Bool.Decides.{same_from_decides}
use Rattle.std.specs.Cmp.Lexicographic.{bytes_decides}
use Rattle.fm_registry_rules.specs.Texts.{Text, has_text, suffixed_name}
use Rattle.fm_registry_rules.specs.Registration.{Registration, SeenUnit, printed_unit, is_same_metric, same_type, same_bool, same_unit}
use Rattle.fm_registry_rules.specs.Taken.{tail_of, tails_of}
use Rattle.fm_registry_rules.specs.Answer.{has_metric}
use Rattle.fm_registry_rules.proofs.TextLemmas.{bytes_eq-refl, same_text}

-- types are compared as their derived equality does
pub same_type-eq : (s t : MetricType) → same_type s t ≡ types.ghosts.eq s t
same_type-eq s t =
    same_from_decides {P = s ≡ t} (same_type s t) (types.ghosts.eq s t)
    (λ h. one_type_word s t ((bytes_decides (type_word s) (type_word t)).0 h), λ e. (bytes_decides (type_word s) (type_word t)).1 (ap type_word e))
    (same_true the_type tt s t, true_same the_type s t)

both : (a b : Bool) → (a && b) ≡ true → (a ≡ true) × (b ≡ true)
both true b h = (refl, h)
both false b h = absurd (true≢false (sym h))

same_printed : (u v : Option SeenUnit) → same_unit u v ≡ true → printed_unit u ≡ printed_unit v
same_printed None None h = refl
same_printed None (Some v) h = absurd (true≢false (sym h))
same_printed (Some u) None h = absurd (true≢false (sym h))
same_printed (Some u) (Some v) h = ap Some (same_text u.text v.text (both (same_bool u.own v.own) (bytes_eq u.text v.text) h).1)

module _ {M : Type 0} where
  -- one metric has one tail
  same_tail : (r s : Registration M) → is_same_metric r s ≡ true → tail_of r ≡ tail_of s
  same_tail r s h =
      let parts = both (bytes_eq r.name s.name) (same_type r.metric_type s.metric_type && same_unit r.unit s.unit) h in
      let units = same_printed r.unit s.unit (both (same_type r.metric_type s.metric_type) (same_unit r.unit s.unit) parts.1).1 in
      λ i. suffixed_name (same_text r.name s.name parts.0 i) (units i)

  -- a metric that has a tail of its own is not there
  none_same : (rs : List (Registration M)) (r : Registration M) → AllByRecursion (λ other. other ≢ tail_of r) (tails_of rs) → has_metric rs r ≡ false
  none_same [] r h = refl
  none_same (s ∷ rs) r h =
      elim (is_same_metric r s) as (λ c. is_same_metric r s ≡ c → (if c then true else has_metric rs r) ≡ false)
      [ true ↦ λ e. absurd (h.0 (sym (same_tail r s e))) | false ↦ λ e. none_same rs r h.1 ] refl

  -- if none has its tail
  pub absent_under_tail : (rs : List (Registration M)) (r : Registration M) → has_text (tails_of rs) (tail_of r) ≡ false → has_metric rs r ≡ false
  absent_under_tail [] r h = refl
  absent_under_tail (s ∷ rs) r h =
      elim (bytes_eq (tail_of s) (tail_of r)) as (λ c. bytes_eq (tail_of s) (tail_of r) ≡ c → (if c then true else has_text (tails_of rs) (tail_of r)) ≡ false → (if is_same_metric r s then true else has_metric rs r) ≡ false) [
        | true ↦ λ e k. absurd (true≢false k)
        | false ↦ λ e k.
            elim (is_same_metric r s) as (λ d. is_same_metric r s ≡ d → (if d then true else has_metric rs r) ≡ false)
            [ true ↦ λ f. absurd (true≢false (sym (bytes_eq-refl (tail_of r)) ∙ ap (λ t. bytes_eq t (tail_of r)) (same_tail r s f) ∙ e)) | false ↦ λ f. absent_under_tail rs r k ] refl
      ] refl h

  all_at : (P : Text → Type 0) (rs : List (Registration M)) (s : Registration M) (i : ℕ) → AllByRecursion P (tails_of rs) → slice_get rs i ≡ Some s → P (tail_of s)
  all_at P [] s i h at = absurd (nothing at)
    where
      nothing : None ≡ Some s → ⊥
      nothing e = cc
  all_at P (x ∷ rs) s zero h at = subst (λ (y : Registration M). P (tail_of y)) (one at) h.0
    where
      one : Some x ≡ Some s → x ≡ s
      one e = cc
  all_at P (x ∷ rs) s (suc i) h at = all_at P rs s i h.1 at

  -- of metrics whose tails differ, the one that has the tail decides whether a metric is there
  pub one_under_tail : (rs : List (Registration M)) (r s : Registration M) (i : ℕ) → AllDifferent (tails_of rs) → slice_get rs i ≡ Some s → tail_of s ≡ tail_of r → has_metric rs r ≡ is_same_metric r s
  one_under_tail [] r s i d at same = absurd (nothing at)
    where
      nothing : None ≡ Some s → ⊥
      nothing e = cc
  one_under_tail (x ∷ rs) r s zero d at same =
      let here : x ≡ s = one at in
      let others : AllByRecursion (λ other. other ≢ tail_of r) (tails_of rs) = subst (λ t. AllByRecursion (λ other. other ≢ t) (tails_of rs)) (ap tail_of here ∙ same) d.0 in
      subst (λ (y : Registration M). (if is_same_metric r y then true else has_metric rs r) ≡ is_same_metric r s) (sym here)
      (elim (is_same_metric r s) as (λ c. (if c then true else has_metric rs r) ≡ c) [ true ↦ refl | false ↦ none_same rs r others ])
    where
      one : Some x ≡ Some s → x ≡ s
      one e = cc
  one_under_tail (x ∷ rs) r s (suc i) d at same =
      elim (is_same_metric r x) as (λ c. is_same_metric r x ≡ c → (if c then true else has_metric rs r) ≡ is_same_metric r s)
      [ true ↦ λ e. absurd (all_at (λ other. other ≢ tail_of x) rs s i d.0 at (same ∙ same_tail r x e)) | false ↦ λ e. one_under_tail rs r s i d.1 at same ] refl
