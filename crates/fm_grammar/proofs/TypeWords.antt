-- The search for the type with a word.
use Rattle.std.proofs.Common.{◌≡◌, ◌≢◌, ℕ, ◌<◌, ◌+◌, ◌≤◌, Bool, true≢false, true, false, List, ◌∷◌, length, take, get_or, refl, sym, subst, ◌∙◌, arith, Option, None}
use Rattle.std.specs.List.{All, Contains}
use Rattle.std.proofs.lemmas.List.{take_all}
use Rattle.std.proofs.lemmas.List.Elements.{All-more, All-contains}
use Rattle.fm_grammar.specs.declared.MetricType.{MetricType}
use Rattle.fm_grammar.specs.declared.MetricType.TheVariants.{Unknown, Gauge, Counter, StateSet, Info, Histogram, GaugeHistogram, Summary}
use Rattle.fm_grammar.specs.Exposition.{Text}
use Rattle.fm_grammar.specs.Kinds.{type_word, all_types, FoundWord}

-- each type is among them
pub is_a_type : (m : MetricType) → Contains all_types m
is_a_type Unknown = (0, omega arith, refl)
is_a_type Gauge = (1, omega arith, refl)
is_a_type Counter = (2, omega arith, refl)
is_a_type StateSet = (3, omega arith, refl)
is_a_type Info = (4, omega arith, refl)
is_a_type Histogram = (5, omega arith, refl)
is_a_type GaugeHistogram = (6, omega arith, refl)
is_a_type Summary = (7, omega arith, refl)

-- one more type hasn't the word
pub type_more : (word : Text) (types : List MetricType) (i : ℕ) (d : MetricType) (b : Bool) → i < length types → (b ≡ true → word ≡ type_word (get_or types i d)) × (word ≡ type_word (get_or types i d) → b ≡ true) → b ≡ false → All (λ m. word ≢ type_word m) (take i types) → All (λ m. word ≢ type_word m) (take (i + 1) types)
type_more word types i d b within h isnt so_far = All-more (λ m. word ≢ type_word m) types i d within so_far (λ e. true≢false (sym (h.1 e) ∙ isnt))

pub no_type : (word : Text) (types : List MetricType) (i : ℕ) → types ≡ all_types → length types ≤ i → All (λ m. word ≢ type_word m) (take i types) → FoundWord word None
no_type word types i are past so_far = λ m e. All-contains (λ k. word ≢ type_word k) types m (subst (All (λ k. word ≢ type_word k)) (take_all i types past) so_far) (subst (λ ts. Contains ts m) (sym are) (is_a_type m)) e
