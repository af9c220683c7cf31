-- The tests decide equality.
use Rattle.std.proofs.Common.{◌≡◌, ℕ, Bool, true, false, List, Option, Some, None, refl, sym, ap, ◌∙◌, true≢false}
use Rattle.std.specs.Prelude.{nat_eq, ◌==◌, is_some}
use Rattle.std.proofs.Math.IntN.{ℤ, pos}
use Rattle.std.specs.Bool.{Decides}
use Rattle.std.specs.Option.{option_eq}
use Rattle.std.specs.Cmp.{IsPartialEquivalence, IsEquivalence, decided, on_equiv, partial_equiv_from_equiv}
use Rattle.std.specs.Cmp.Lexicographic.{pointwise, pointwise_decides, bytes_decides}
use Rattle.std.specs.Ordering.{on}
use Rattle.std.proofs.lemmas.Bool.Decides.{Decides-eqb, Decides-int_eq, Decides-and, Decides-like}
use Rattle.fm_grammar.specs.declared.MetricType.{MetricType}
use Rattle.fm_grammar.specs.declared.SampleKind.{SampleKind}
use Rattle.fm_grammar.specs.Numbering.{type_number, type_at, type_back, kind_number, kind_at, kind_back}
use Rattle.fm_grammar.specs.Exposition.{Text, Label, Value, Whole, Fixed, Millis, Exemplar, Sample, Family, Exposition}
use Rattle.fm_exposition.specs.Same.{same_text, same_label, same_value, same_exemplar, same_sample, same_family, same_exposition}

-- a test that decides equality is an equivalence, also on how contracts see values
pub view_equivalence : {J K : Type 0} (view : J → K) (E : K → K → Bool) → ((x y : K) → Decides (E x y) (x ≡ y)) → IsEquivalence (on view E)
view_equivalence view E decides = on_equiv view (decided E decides)

pub view_laws : {J K : Type 0} (view : J → K) (E : K → K → Bool) → ((x y : K) → Decides (E x y) (x ≡ y)) → IsPartialEquivalence (on view E)
view_laws view E decides = partial_equiv_from_equiv (view_equivalence view E decides)

abbrev option_or : {X : Type 0} → X → Option X → X
option_or x None = x
option_or x (Some y) = y

-- the test of two options
pub option_decides : {X : Type 0} (E : X → X → Bool) → ((x y : X) → Decides (E x y) (x ≡ y)) → (a b : Option X) → Decides (option_eq E a b) (a ≡ b)
option_decides E decides None None = (λ _. refl, λ _. refl)
option_decides E decides None (Some y) = (λ e. absurd (true≢false (sym e)), λ e. absurd (true≢false (sym (ap is_some e))))
option_decides E decides (Some x) None = (λ e. absurd (true≢false (sym e)), λ e. absurd (true≢false (ap is_some e)))
option_decides E decides (Some x) (Some y) = Decides-like (E x y) (ap (λ z. Some z)) (ap (option_or x)) (decides x y)

pub same_text_decides : (a b : Text) → Decides (same_text a b) (a ≡ b)
same_text_decides a b = bytes_decides a b

time_decides : (a b : Option ℕ) → Decides (option_eq nat_eq a b) (a ≡ b)
time_decides = option_decides nat_eq Decides-eqb

-- the number of a type or a kind determines it

pub type_decides : (a b : MetricType) → Decides (type_number a == type_number b) (a ≡ b)
type_decides a b = Decides-like _ (λ e. sym (type_back a) ∙ ap type_at e ∙ type_back b) (ap type_number) (Decides-eqb (type_number a) (type_number b))

pub kind_decides : (a b : SampleKind) → Decides (kind_number a == kind_number b) (a ≡ b)
kind_decides a b = Decides-like _ (λ e. sym (kind_back a) ∙ ap kind_at e ∙ kind_back b) (ap kind_number) (Decides-eqb (kind_number a) (kind_number b))

pub same_label_decides : (a b : Label) → Decides (same_label a b) (a ≡ b)
same_label_decides a b =
    Decides-like (same_label a b)
    (λ h. λ i. record { name = h.0 i; value = h.1 i })
    (λ e. (ap (λ (l : Label). l.name) e, ap (λ (l : Label). l.value) e))
    (Decides-and _ _ (same_text_decides a.name b.name) (same_text_decides a.value b.value))

-- the number of a value, and whether it is whole or in milliseconds

abbrev whole_of : Value → ℤ
whole_of (Whole z) = z
whole_of (Fixed z) = z
whole_of (Millis t) = pos t

abbrev millis_of : Value → ℕ
millis_of (Millis t) = t
millis_of _ = 0

abbrev is_whole : Value → Bool
is_whole (Whole z) = true
is_whole _ = false

abbrev is_millis : Value → Bool
is_millis (Millis t) = true
is_millis _ = false

-- a test of values that differ
differ : (a b : Value) (test : Value → Bool) → test a ≡ true → test b ≡ false → Decides false (a ≡ b)
differ a b test one other = (λ e. absurd (true≢false (sym e)), λ e. absurd (true≢false (sym one ∙ ap test e ∙ other)))

differ_back : (a b : Value) (test : Value → Bool) → test a ≡ false → test b ≡ true → Decides false (a ≡ b)
differ_back a b test one other = (λ e. absurd (true≢false (sym e)), λ e. absurd (true≢false (sym other ∙ sym (ap test e) ∙ one)))

pub same_value_decides : (a b : Value) → Decides (same_value a b) (a ≡ b)
same_value_decides (Whole a) (Whole b) = Decides-like _ (ap (λ z. Whole z)) (ap whole_of) (Decides-int_eq a b)
same_value_decides (Fixed a) (Fixed b) = Decides-like _ (ap (λ z. Fixed z)) (ap whole_of) (Decides-int_eq a b)
same_value_decides (Millis a) (Millis b) = Decides-like _ (ap (λ z. Millis z)) (ap millis_of) (Decides-eqb a b)
same_value_decides (Whole a) (Fixed b) = differ (Whole a) (Fixed b) is_whole refl refl
same_value_decides (Whole a) (Millis b) = differ (Whole a) (Millis b) is_whole refl refl
same_value_decides (Fixed a) (Whole b) = differ_back (Fixed a) (Whole b) is_whole refl refl
same_value_decides (Fixed a) (Millis b) = differ_back (Fixed a) (Millis b) is_millis refl refl
same_value_decides (Millis a) (Whole b) = differ (Millis a) (Whole b) is_millis refl refl
same_value_decides (Millis a) (Fixed b) = differ (Millis a) (Fixed b) is_millis refl refl

pub same_labels_decides : (a b : List Label) → Decides (pointwise same_label a b) (a ≡ b)
same_labels_decides a b = pointwise_decides same_label_decides a b

pub same_exemplar_decides : (a b : Exemplar) → Decides (same_exemplar a b) (a ≡ b)
same_exemplar_decides a b =
    Decides-like (same_exemplar a b)
    (λ h. λ i. record { labels = h.0 i; value = h.1.0 i; time = h.1.1 i })
    (λ e. (ap (λ (x : Exemplar). x.labels) e, (ap (λ (x : Exemplar). x.value) e, ap (λ (x : Exemplar). x.time) e)))
    (Decides-and _ _ (same_labels_decides a.labels b.labels) (Decides-and _ _ (Decides-int_eq a.value b.value) (time_decides a.time b.time)))

pub same_sample_decides : (a b : Sample) → Decides (same_sample a b) (a ≡ b)
same_sample_decides a b =
    Decides-like (same_sample a b)
    (λ h. λ i. record { kind = h.0 i; labels = h.1.0 i; value = h.1.1.0 i; time = h.1.1.1.0 i; exemplar = h.1.1.1.1 i })
    (λ e. (ap (λ (x : Sample). x.kind) e, (ap (λ (x : Sample). x.labels) e, (ap (λ (x : Sample). x.value) e, (ap (λ (x : Sample). x.time) e, ap (λ (x : Sample). x.exemplar) e)))))
    (Decides-and _ _ (kind_decides a.kind b.kind)
    (Decides-and _ _ (same_labels_decides a.labels b.labels)
    (Decides-and _ _ (same_value_decides a.value b.value)
    (Decides-and _ _ (time_decides a.time b.time) (option_decides same_exemplar same_exemplar_decides a.exemplar b.exemplar)))))

pub same_family_decides : (a b : Family) → Decides (same_family a b) (a ≡ b)
same_family_decides a b =
    Decides-like (same_family a b)
    (λ h. λ i. record { name = h.0 i; metric_type = h.1.0 i; help = h.1.1.0 i; unit = h.1.1.1.0 i; samples = h.1.1.1.1 i })
    (λ e. (ap (λ (x : Family). x.name) e, (ap (λ (x : Family). x.metric_type) e, (ap (λ (x : Family). x.help) e, (ap (λ (x : Family). x.unit) e, ap (λ (x : Family). x.samples) e)))))
    (Decides-and _ _ (same_text_decides a.name b.name)
    (Decides-and _ _ (type_decides a.metric_type b.metric_type)
    (Decides-and _ _ (same_text_decides a.help b.help)
    (Decides-and _ _ (option_decides same_text same_text_decides a.unit b.unit) (pointwise_decides same_sample_decides a.samples b.samples)))))

pub same_exposition_decides : (a b : Exposition) → Decides (same_exposition a b) (a ≡ b)
same_exposition_decides a b = pointwise_decides same_family_decides a b

pub family_equivalence : IsEquivalence same_family
family_equivalence = decided same_family same_family_decides

pub family_laws : IsPartialEquivalence same_family
family_laws = partial_equiv_from_equiv family_equivalence

pub exposition_equivalence : IsEquivalence same_exposition
exposition_equivalence = decided same_exposition same_exposition_decides

pub exposition_laws : IsPartialEquivalence same_exposition
exposition_laws = partial_equiv_from_equiv exposition_equivalence
