-- Tokens between spaces: values and timestamps.
use Rattle.std.proofs.Common.{◌≡◌, ◌≢◌, ℕ, ◌^◌, ◌<◌, inl, inr, ℤ, [], ◌∷◌, ◌++◌, length, get_or, refl, sym, ap, subst, ◌∙◌, append-nil, arith, Option, Some, None, IfSome, Bor, FitsSigned, pos, negsuc}
use Rattle.std.specs.Int.{w64, w128}
use mir.Val.{to_z, of_z}
use Rattle.std.proofs.lemmas.Int.{to_z-of_z}
use Rattle.std.specs.List.{AllByRecursion}
use Rattle.fm_grammar.specs.declared.SampleKind.{SampleKind}
use Rattle.fm_grammar.specs.declared.SampleKind.TheVariants.{Created}
use Rattle.fm_grammar.specs.Exposition.{Text, Value, Whole, Fixed, Millis, Exemplar}
use Rattle.fm_grammar.specs.Numbers.{millis_text, fixed_text}
use Rattle.fm_grammar.specs.Spelling.{value_text, time_text, exemplar_text}
use Rattle.fm_grammar.specs.WellFormed.{AreMillis, IsBetween, ValueSuits, ValueFits}
use Rattle.fm_grammar.proofs.Runs.{Stops, one_run, all_weaker}
use Rattle.fm_grammar.proofs.NumberTexts.{IsUnsignedByte, IsNumberByte, one_fixed, one_millis, millis_bytes, first_of_millis, fixed_bytes}
use Rattle.fm_grammar.proofs.Values.{value_bytes, is_spellable}
use Rattle.fm_reader.specs.inside.Numbers.{FoundWhole, FoundMillis, FoundFixed}
use Rattle.fm_reader.proofs.LabelNames.{all_from}
use Rattle.fm_reader.specs.inside.Parts.{tail_text, IsToken, FoundValue, FoundNumber, HasNoMillis, EndsTime, IsTimeFront, FoundSmall}

-- no space is in the text
abbrev pub IsUnspaced : Text → Type 0
IsUnspaced text = AllByRecursion (λ byte. byte ≢ 32) text

-- the text is empty or begins with a space
abbrev pub Spaced : Text → Type 0
Spaced text = Stops (λ byte. byte ≢ 32) text

pub tail_spaced : (tail : Option (Bor Text)) → Spaced (tail_text tail)
tail_spaced None = tt
tail_spaced (Some rest) = λ d. d refl

pub token_cut : (text token rest : Text) → (text ≡ token ++ (32 ∷ rest)) × ((i : ℕ) → i < length token → get_or token i 0 ≢ 32) → IsToken text token (32 ∷ rest)
token_cut text token rest split = record { is = split.0; unspaced = all_from (λ byte. byte ≢ 32) token split.1 }

pub token_whole : (text : Text) → ((i : ℕ) → i < length text → get_or text i 0 ≢ 32) → IsToken text text []
token_whole text lacks = record { is = sym (append-nil text); unspaced = all_from (λ byte. byte ≢ 32) text lacks }

-- a text without spaces in front is the token
pub one_token : (text token : Text) (tail : Option (Bor Text)) (word rest : Text) → IsToken text token (tail_text tail) → IsUnspaced word → Spaced rest → text ≡ word ++ rest → (token ≡ word) × (tail_text tail ≡ rest)
one_token text token tail word rest h u s e = one_run (λ byte. byte ≢ 32) token word (tail_text tail) rest h.unspaced u (tail_spaced tail) s (sym h.is ∙ e)

number_unspaced : (text : Text) → AllByRecursion IsNumberByte text → IsUnspaced text
number_unspaced text h = all_weaker IsNumberByte (λ byte. byte ≢ 32) (λ b c e. grind arith) text h

pub value_unspaced : (value : Value) → ValueFits value → IsUnspaced (value_text value)
value_unspaced value h = number_unspaced (value_text value) (value_bytes value h)

pub millis_unspaced : (t : ℕ) → AreMillis t → IsUnspaced (millis_text t)
millis_unspaced t h = all_weaker IsUnsignedByte (λ byte. byte ≢ 32) (λ b c e. grind arith) (millis_text t) (millis_bytes t (omega arith))

pub small_unspaced : (z : ℤ) → IsBetween (2 ^ 63) (2 ^ 63) z → IsUnspaced (fixed_text z)
small_unspaced z h = number_unspaced (fixed_text z) (fixed_bytes z (is_spellable (2 ^ 63) (2 ^ 63) z (omega arith) (omega arith) h))

pub time_spaced : (time : Option ℕ) (rest : Text) → Spaced rest → Spaced (time_text time ++ rest)
time_spaced None rest h = h
time_spaced (Some t) rest h = λ d. d refl

-- a number that no `i64` holds is no exemplar's

fits_64 : (z : ℤ) → IsBetween (2 ^ 63) (2 ^ 63) z → FitsSigned w64 z
fits_64 (pos n) h = omega (arith, h)
fits_64 (negsuc n) h = omega (arith, h)

fits_128 : (z : ℤ) → IsBetween (2 ^ 63) (2 ^ 63) z → FitsSigned w128 z
fits_128 (pos n) h = omega (arith, h)
fits_128 (negsuc n) h = omega (arith, h)

pub small_out : (text : Text) (number : ℤ) → FoundFixed text (Some number) → (FitsSigned w64 (to_z w128 (of_z w128 number)) → ⊥) → FoundSmall text None
small_out text number found out z h e =
    let same : number ≡ z = one_fixed number z (is_spellable (2 ^ 127) (2 ^ 127) number (omega arith) (omega arith) found.0) (is_spellable (2 ^ 63) (2 ^ 63) z (omega arith) (omega arith) h) (sym found.1 ∙ e) in
    out (subst (FitsSigned w64) (sym (ap (λ n. to_z w128 (of_z w128 n)) same ∙ to_z-of_z w128 z (fits_128 z h))) (fits_64 z h))

-- values

pub value_of_millis : (text : Text) (t : ℕ) → FoundMillis text (Some t) → FoundValue Created text (Some (Millis t))
value_of_millis text t h = (tt, h.0, h.1)

pub no_millis_value : (text : Text) → FoundMillis text None → FoundValue Created text None
no_millis_value text h (Whole z) suits fits e = suits
no_millis_value text h (Fixed z) suits fits e = suits
no_millis_value text h (Millis t) suits fits e = h t fits e

suits_number : (kind : SampleKind) → kind ≢ Created → (value : Value) → ValueSuits kind value → HasNoMillis value
suits_number kind other (Whole z) s = tt
suits_number kind other (Fixed z) s = tt
suits_number Created other (Millis t) s = other refl
suits_number _ other (Millis t) s = s

number_suits : (kind : SampleKind) → kind ≢ Created → (value : Value) → HasNoMillis value → ValueSuits kind value
number_suits kind other (Millis t) n = absurd n
number_suits Created other value n = absurd (other refl)
number_suits _ other (Whole z) n = tt
number_suits _ other (Fixed z) n = tt

-- a number is the value of a sample of another kind
pub number_value : (kind : SampleKind) → kind ≢ Created → (text : Text) (found : Option Value) → FoundNumber text found → FoundValue kind text found
number_value kind other text None h = λ value suits fits e. h value (suits_number kind other value suits) fits e
number_value kind other text (Some value) h = (number_suits kind other value h.0, h.1, h.2)

pub no_number : (text : Text) → FoundWhole text None → FoundFixed text None → FoundNumber text None
no_number text w f (Whole z) n fits e = w z fits e
no_number text w f (Fixed z) n fits e = f z fits e
no_number text w f (Millis t) n fits e = n

-- timestamps

pub exemplar_ends : (exemplar : Option Exemplar) → EndsTime (exemplar_text exemplar)
exemplar_ends None = inl refl
exemplar_ends (Some x) = inr (_, refl)

pub ends_spaced : (text : Text) → EndsTime text → Spaced text
ends_spaced text (inl e) = subst Spaced (sym e) tt
ends_spaced text (inr (rest, e)) = subst Spaced (sym e) (λ d. d refl)

no_time : (t : ℕ) (text rest : Text) → AreMillis t → EndsTime text → text ≡ 32 ∷ (millis_text t ++ rest) → ⊥
no_time t text rest h (inl e) f = let k = sym e ∙ f in cc
no_time t text rest h (inr (after, e)) f =
    let k : 35 ∷ after ≡ millis_text t ++ rest = let q = sym e ∙ f in cc in
    let d = first_of_millis t 35 rest after (omega arith) (sym k) in
    grind arith

-- one timestamp, or none, is at the start
pub one_time_front : (text : Text) (t u : Option ℕ) (tail : Option (Bor Text)) (r : Text) → IsTimeFront text (Some (t, tail)) → IfSome u AreMillis → EndsTime r → text ≡ time_text u ++ r → (t ≡ u) × (tail_text tail ≡ r)
one_time_front text None None tail r h q ends e = (refl, sym h.2 ∙ e)
one_time_front text None (Some u) tail r h q ends e = absurd (no_time u (tail_text tail) r q h.1 (sym h.2 ∙ e))
one_time_front text (Some t) None tail r h q ends e = absurd (no_time t r (tail_text tail) h.0 ends (sym e ∙ h.2))
one_time_front text (Some t) (Some u) tail r h q ends e =
    let k : millis_text t ++ tail_text tail ≡ millis_text u ++ r = let z = sym h.2 ∙ e in cc in
    let o = one_run (λ byte. byte ≢ 32) (millis_text t) (millis_text u) (tail_text tail) r (millis_unspaced t h.0) (millis_unspaced u q) (tail_spaced tail) (ends_spaced r ends) k in
    (ap Some (one_millis t u (omega (arith, h.0)) (omega (arith, q)) o.0), o.1)

first_is : (text : Text) (byte : ℕ) → byte ≢ 0 → get_or text 0 0 ≡ byte → (rest : Text) × (text ≡ byte ∷ rest)
first_is [] byte some e = absurd (some (sym e))
first_is (x ∷ text) byte some e = (text, ap (λ b. b ∷ text) e)

-- a hash instead of a timestamp
pub hash_front : (rest : Bor Text) → get_or rest.now 0 0 ≡ 35 → IsTimeFront (32 ∷ rest.now) (Some (None, Some rest))
hash_front rest e = let k = first_is rest.now 35 (λ z. omega arith) e in (tt, inr (k.0, ap (λ t. 32 ∷ t) k.1), refl)

pub time_front : (rest token : Text) (tail : Option (Bor Text)) (t : ℕ) → IsToken rest token (tail_text tail) → FoundMillis token (Some t) → IsTimeFront (32 ∷ rest) (Some (Some t, tail))
time_front rest token tail t h f = (f.0, tt, ap (λ z. 32 ∷ z) (h.is ∙ ap (λ z. z ++ tail_text tail) f.1))

pub no_time_front : (rest token : Text) (tail : Option (Bor Text)) → get_or rest 0 0 ≢ 35 → IsToken rest token (tail_text tail) → FoundMillis token None → IsTimeFront (32 ∷ rest) None
no_time_front rest token tail hash h f None r q (inl e) p = let k = p ∙ e in cc
no_time_front rest token tail hash h f None r q (inr (after, e)) p = let k = p ∙ e in let same : rest ≡ 35 ∷ after = cc in hash (ap (λ t. get_or t 0 0) same)
no_time_front rest token tail hash h f (Some u) r q ends p =
    let k : rest ≡ millis_text u ++ r = cc in
    f u q (one_token rest token tail (millis_text u) r h (millis_unspaced u q) (ends_spaced r ends) k).0
