-- The warnings of one metric more.
use Rattle.std.proofs.Common.{◌≡◌, ℕ, ◌+◌, ◌<◌, List, [], ◌∷◌, ◌++◌, Option, Some, Bor, length, get_or, slice_get, take, sym, ap, ◌∙◌, append_assoc, append-nil}
use Rattle.std.specs.List.{flat_map}
use Rattle.std.proofs.lemmas.Grind.{flat_map-append}
use Rattle.fm_grammar.specs.Exposition.{Text}
use Rattle.fm_grammar.specs.declared.MetricType.{MetricType}
use Rattle.fm_registry_rules.specs.Registration.{printed_unit}
use Rattle.fm_registry_rules.specs.Tree.{Tree}
use Rattle.fm_registry_rules.specs.Listing.{Listed, listed_name, own_metrics}
use Rattle.fm_core.specs.Seen.{listed_in}
use Rattle.fm_core.specs.Lint.{all_advice, warnings_among, warnings_of}
use Rattle.fm_core.proofs.CollectLemmas.{take_at, listed_in-next}

-- the warnings under a heading are those of the metric that has it
pub warnings-listed : {M : Type 0} (l : Listed M) (name : Text) (t : MetricType) (u : Option Text) (help : Text) → name ≡ listed_name l → t ≡ l.registration.metric_type → u ≡ printed_unit l.registration.unit → help ≡ l.registration.help
    → warnings_among all_advice name t u help ≡ warnings_of l
warnings-listed l name t u help names types units helps = λ i. warnings_among all_advice (names i) (types i) (units i) (helps i)

-- a list that grew by what the next element gives
pub grown-next : {A B : Type 0} (f : A → List B) (xs : List A) (i : ℕ) (x : A) (old before after : List B) → slice_get xs i ≡ Some x → before ≡ old ++ flat_map f (take i xs) → after ≡ before ++ f x → after ≡ old ++ flat_map f (take (i + 1) xs)
grown-next f xs i x old before after at is more =
    let longer = ap (flat_map f) (take_at xs i x at) ∙ flat_map-append f (take i xs) (x ∷ []) ∙ ap (λ ys. flat_map f (take i xs) ++ ys) (append-nil (f x)) in
    more ∙ ap (λ ys. ys ++ f x) is ∙ append_assoc old (flat_map f (take i xs)) (f x) ∙ ap (λ ys. old ++ ys) (sym longer)

-- the same by the own metrics of the next registry
pub grown-registry : {M : Type 0} {B : Type 0} (f : Listed M → List B) (registries : List (Bor (Tree M))) (i : ℕ) (r : Bor (Tree M)) (before after : List B) → i < length registries → r ≡ get_or registries i r
    → before ≡ flat_map f (listed_in (take i registries)) → after ≡ before ++ flat_map f (own_metrics r.now.facts) → after ≡ flat_map f (listed_in (take (i + 1) registries))
grown-registry f registries i r before after within at is more =
    more ∙ ap (λ ys. ys ++ flat_map f (own_metrics r.now.facts)) is ∙ sym (flat_map-append f (listed_in (take i registries)) (own_metrics r.now.facts))
    ∙ ap (flat_map f) (sym (listed_in-next registries i r within at))
