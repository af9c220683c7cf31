-- What the texts of numbers are read as.
use Rattle.std.proofs.Common.{◌≡◌, ◌≢◌, ℕ, zero, suc, ◌+◌, ◌/◌, ◌%◌, ◌^◌, ◌<◌, ◌≤◌, List, [], ◌∷◌, ◌++◌, length, get_or, drop, refl, sym, ap, subst, ◌∙◌, arith, ℤ, pos, negsuc, neg_ℤ, ◌+ℤ◌, ◌-ℤ◌, Option, Some, None, Result, Ok, Err, OkIff, SomeIff, FitsSigned}
use Rattle.std.specs.Fmt.{decimal, signed_decimal}
use Rattle.std.specs.Int.{w128}
use mir.Val.{to_z, of_z}
use Rattle.std.proofs.lemmas.Int.{to_z-of_z}
use Rattle.std.proofs.Math.IntN.{+ℤ_idl}
use Rattle.std.specs.List.{AllByRecursion}
use Rattle.std.specs.Str.Parse.{AllDigits, digits_value, ParsesUnsigned, ParsesSigned}
use Rattle.std.proofs.lemmas.Fmt.{decimal_is_IsNumeral_wide, decimal-digits_value}
use Rattle.std.proofs.lemmas.Str.Parse.{IsNumeralModel, numerals_by_value, tells_digits, parse_gives, parse_plain, parse_signed_digits, parse_signed_minus}
use Rattle.std.proofs.lemmas.Bool.Decides.{nat_tests}
use Rattle.fm_grammar.specs.Exposition.{Text}
use Rattle.fm_grammar.specs.Names.{IsDigit}
use Rattle.fm_grammar.specs.Numbers.{three_digits, six_digits, zero_cut, without_last_zeros, shortened, millionths_text, fixed_text, millis_text}
use Rattle.fm_grammar.proofs.Runs.{one_run, all_weaker, not_in_run}
use Rattle.fm_grammar.proofs.NumberTexts.{decimal_digits}
use Rattle.fm_grammar.specs.WellFormed.{IsBetween}
use Rattle.fm_reader.specs.inside.Numbers.{places_3, places_6}

-- zeros that are cut off are read as zeros

zero_cut_get : (x : ℕ) (a : List ℕ) (i : ℕ) → get_or (zero_cut x a) i 48 ≡ get_or (x ∷ a) i 48
zero_cut_get x [] zero = grind (arith, nat_tests)
zero_cut_get x [] (suc i) = grind (arith, nat_tests)
zero_cut_get x (y ∷ a) i = refl

without_last_zeros_get : (s : List ℕ) (i : ℕ) → get_or (without_last_zeros s) i 48 ≡ get_or s i 48
without_last_zeros_get [] i = refl
without_last_zeros_get (x ∷ s) zero = zero_cut_get x (without_last_zeros s) zero
without_last_zeros_get (x ∷ s) (suc i) = zero_cut_get x (without_last_zeros s) (suc i) ∙ without_last_zeros_get s i

shortened_get : (s : List ℕ) (i : ℕ) → get_or (shortened s) i 48 ≡ get_or s i 48
shortened_get [] i = refl
shortened_get (x ∷ s) zero = refl
shortened_get (x ∷ s) (suc i) = without_last_zeros_get s i

pub six_places : (r : ℕ) → r < 1000000 → places_6 (shortened (six_digits r)) ≡ r
six_places r h =
    let s = six_digits r in
    let a = shortened_get s 0 in
    let b = shortened_get s 1 in
    let c = shortened_get s 2 in
    let d = shortened_get s 3 in
    let e = shortened_get s 4 in
    let f = shortened_get s 5 in
    omega (arith, a, b, c, d, e, f)

pub three_places : (r : ℕ) → r < 1000 → places_3 (three_digits r) ≡ r
three_places r h = omega arith

-- whole numbers

abbrev digits_model : IsNumeralModel (AllDigits 10) (digits_value 10)
digits_model = numerals_by_value (AllDigits 10) tells_digits

ok_of : {T E : Type 0} (r : Result T E) (P : Type 0) (v : T) → OkIff r P v → P → r ≡ Ok v
ok_of (Ok x) P v h p = ap Ok h.1
ok_of (Err e) P v h p = absurd (h p)

pub parsed : {E : Type 0} (k n : ℕ) (text : Text) (r : Result ℕ E) → n < 2 ^ k → n < 10 ^ 64 → ParsesUnsigned k 10 text r → text ≡ decimal n → r ≡ Ok n
parsed k n text r small short h e =
    let d = decimal_is_IsNumeral_wide n short in
    let value : digits_value 10 text ≡ n = ap (digits_value 10) e ∙ d.1 in
    let some : 0 < length text = subst (λ t. 0 < length t) (sym e) d.0.0 in
    parse_gives digits_model k text r h (subst (AllDigits 10) (sym e) d.0.1) some (subst (λ v. v < 2 ^ k) (sym value) small) ∙ ap Ok value

pub parsed_signed : {E : Type 0} (z : ℤ) (text : Text) (r : Result ℤ E) → FitsSigned w128 z → ParsesSigned w128 10 text r → text ≡ signed_decimal z → r ≡ Ok z
parsed_signed (pos n) text r fits h e =
    let d = decimal_is_IsNumeral_wide n (omega arith) in
    let value : digits_value 10 text ≡ n = ap (digits_value 10) e ∙ d.1 in
    let some : 0 < length text = subst (λ t. 0 < length t) (sym e) d.0.0 in
    ok_of r _ _ (parse_signed_digits digits_model w128 text r h (subst (AllDigits 10) (sym e) d.0.1)) (some, omega (arith, value)) ∙ ap (λ v. Ok (pos v)) value
parsed_signed (negsuc n) text r fits h e =
    let d = decimal_is_IsNumeral_wide (suc n) (omega arith) in
    let after : drop 1 text ≡ decimal (suc n) = ap (drop 1) e in
    let value : digits_value 10 (drop 1 text) ≡ suc n = ap (digits_value 10) after ∙ d.1 in
    let some : 0 < length (drop 1 text) = subst (λ t. 0 < length t) (sym after) d.0.0 in
    ok_of r _ _ (parse_signed_minus digits_model w128 text r h (ap (λ t. get_or t 0 0) e)) (subst (AllDigits 10) (sym after) d.0.1, some, omega (arith, value)) ∙ ap (λ v. Ok (neg_ℤ (pos v))) value

-- numbers with a point

IsNoPoint : ℕ → Type 0
IsNoPoint byte = byte ≢ 46

no_point_in_digits : (text : Text) → AllByRecursion IsDigit text → AllByRecursion IsNoPoint text
unfolding IsNoPoint
no_point_in_digits text h = all_weaker IsDigit IsNoPoint (λ b d e. omega arith) text h

-- where a point cuts a text
pub pointed_cut : (whole decimals digits after : Text) → AllByRecursion (λ b. b ≢ 46) whole → AllByRecursion IsDigit digits → whole ++ (46 ∷ decimals) ≡ digits ++ (46 ∷ after) → (whole ≡ digits) × (decimals ≡ after)
unfolding IsNoPoint
pointed_cut whole decimals digits after lacks d e =
    let r = one_run IsNoPoint whole digits (46 ∷ decimals) (46 ∷ after) lacks (no_point_in_digits digits d) (λ h. h refl) (λ h. h refl) e in
    let k = r.1 in
    (r.0, cc)

pub millis_cut : (text whole decimals : Text) (t : ℕ) → t < 10 ^ 64 → text ≡ whole ++ (46 ∷ decimals) → AllByRecursion (λ b. b ≢ 46) whole → text ≡ millis_text t → (whole ≡ decimal (t / 1000)) × (decimals ≡ three_digits (t % 1000))
unfolding millis_text
millis_cut text whole decimals t small cut lacks e = pointed_cut whole decimals (decimal (t / 1000)) (three_digits (t % 1000)) lacks (decimal_digits (t / 1000) (omega arith)) (sym cut ∙ e)

pub millionths_cut : (text whole decimals : Text) (n : ℕ) → n < 10 ^ 64 → text ≡ whole ++ (46 ∷ decimals) → AllByRecursion (λ b. b ≢ 46) whole → text ≡ millionths_text n → (whole ≡ decimal (n / 1000000)) × (decimals ≡ shortened (six_digits (n % 1000000)))
unfolding millionths_text
millionths_cut text whole decimals n small cut lacks e = pointed_cut whole decimals (decimal (n / 1000000)) (shortened (six_digits (n % 1000000))) lacks (decimal_digits (n / 1000000) (omega arith)) (sym cut ∙ e)

abbrev pub LacksPoint : Text → Type 0
LacksPoint text = (i : ℕ) → i < length text → get_or text i 0 ≢ 46

pub lacks_all : (text : Text) → LacksPoint text → AllByRecursion (λ b. b ≢ 46) text
lacks_all [] h = tt
lacks_all (x ∷ text) h = (h 0 (omega arith), lacks_all text (λ k l. h (suc k) (omega arith)))

-- a text with no point is no such number's
pub no_point : (text digits after : Text) → ((i : ℕ) → i < length text → get_or text i 0 ≢ 46) → text ≡ digits ++ (46 ∷ after) → ⊥
no_point text digits after lacks e = not_in_run (λ b. b ≢ 46) text digits 46 after (lacks_all text lacks) e refl

-- milliseconds

pub millis_no_point : (text : Text) → LacksPoint text → (t : ℕ) → text ≡ millis_text t → ⊥
unfolding millis_text
millis_no_point text lacks t e = no_point text (decimal (t / 1000)) (three_digits (t % 1000)) lacks e

pub millis_seconds : {E : Type 0} (text whole decimals : Text) (r : Result ℕ E) → (text ≡ whole ++ (46 ∷ decimals)) × LacksPoint whole → ParsesUnsigned 64 10 whole r → (t : ℕ) → t ≤ 18446744073709551615999 → text ≡ millis_text t → (r ≡ Ok (t / 1000)) × (places_3 decimals ≡ t % 1000)
millis_seconds text whole decimals r cut h t small e =
    let k = millis_cut text whole decimals t (omega arith) cut.0 (lacks_all whole cut.1) e in
    (parsed 64 (t / 1000) whole r (omega arith) (omega arith) h k.0, ap places_3 k.1 ∙ three_places (t % 1000) (omega arith))

-- millionths

pub millionths_no_point : (text : Text) → LacksPoint text → (n : ℕ) → text ≡ millionths_text n → ⊥
unfolding millionths_text
millionths_no_point text lacks n e = no_point text (decimal (n / 1000000)) (shortened (six_digits (n % 1000000))) lacks e

pub millionths_whole : {E : Type 0} (text whole decimals : Text) (r : Result ℕ E) → (text ≡ whole ++ (46 ∷ decimals)) × LacksPoint whole → ParsesUnsigned 128 10 whole r → (n : ℕ) → n ≤ 2 ^ 127 → text ≡ millionths_text n → (r ≡ Ok (n / 1000000)) × (places_6 decimals ≡ n % 1000000)
millionths_whole text whole decimals r cut h n small e =
    let k = millionths_cut text whole decimals n (omega arith) cut.0 (lacks_all whole cut.1) e in
    (parsed 128 (n / 1000000) whole r (omega arith) (omega arith) h k.0, ap places_6 k.1 ∙ six_places (n % 1000000) (omega arith))

-- results

pub err_not_ok : {T E : Type 0} {e : E} {v : T} → Err e ≡ Ok v → ⊥
err_not_ok p = cc

pub ok_is : {T E : Type 0} {v w : T} → ◌≡◌ {A = Result T E} (Ok v) (Ok w) → v ≡ w
ok_is p = cc

pub some_of : {T : Type 0} (r : Option T) (P : Type 0) (v : T) → SomeIff r P v → P → r ≡ Some v
some_of (Some x) P v h p = ap Some h.1
some_of None P v h p = absurd (h p)

first_not_sign : (a s t : Text) → AllByRecursion IsDigit a → a ++ s ≡ 45 ∷ t → s ≡ 45 ∷ t
first_not_sign [] s t d e = e
first_not_sign (x ∷ a) s t d e = let k : x ≡ 45 = cc in absurd (omega (arith, d.0))

-- a first byte that is a digit is no sign
pub millionths_unsigned : (n : ℕ) (text : Text) → n < 10 ^ 64 → millionths_text n ≡ 45 ∷ text → ⊥
unfolding millionths_text
millionths_unsigned n text small e = let k = first_not_sign (decimal (n / 1000000)) (46 ∷ shortened (six_digits (n % 1000000))) text (decimal_digits (n / 1000000) (omega arith)) e in let h : ◌≡◌ {A = ℕ} 46 45 = cc in omega arith

-- the sign

pub fixed_plain : (text : Text) (r : Option ℕ) → ((rest : Text) → text ≢ 45 ∷ rest) → ((n : ℕ) → n ≤ 2 ^ 127 → text ≡ millionths_text n → r ≡ Some n)
    → (z : ℤ) → IsBetween (2 ^ 127) (2 ^ 127) z → text ≡ fixed_text z → (n : ℕ) × (z ≡ pos n) × (r ≡ Some n) × (n < 2 ^ 127)
fixed_plain text r plain reads (pos n) h e = (n, refl, reads n (omega arith) e, h)
fixed_plain text r plain reads (negsuc n) h e = absurd (plain (millionths_text (n + 1)) e)

pub fixed_minus : (text rest : Text) (r : Option ℕ) → text ≡ 45 ∷ rest → ((n : ℕ) → n ≤ 2 ^ 127 → rest ≡ millionths_text n → r ≡ Some n)
    → (z : ℤ) → IsBetween (2 ^ 127) (2 ^ 127) z → text ≡ fixed_text z → (n : ℕ) × (z ≡ negsuc n) × (r ≡ Some (n + 1)) × (n < 2 ^ 127)
fixed_minus text rest r minus reads (pos n) h e = absurd (millionths_unsigned n rest (omega arith) (sym e ∙ minus))
fixed_minus text rest r minus reads (negsuc n) h e = let k : rest ≡ millionths_text (n + 1) = let q = sym minus ∙ e in cc in (n, refl, reads (n + 1) (omega arith) k, h)

pub some_is : {T : Type 0} {v w : T} → ◌≡◌ {A = Option T} (Some v) (Some w) → v ≡ w
some_is p = cc

pub none_not_some : {T : Type 0} {v : T} → ◌≡◌ {A = Option T} None (Some v) → ⊥
none_not_some p = cc

pub plain_sum : (m n : ℕ) (z : ℤ) → m ≡ n → z ≡ pos n → n < 2 ^ 127 → FitsSigned w128 (pos 0 +ℤ pos m) × (pos 0 +ℤ pos m ≡ z)
plain_sum m n z p q h =
    let k : pos 0 +ℤ pos m ≡ pos n = +ℤ_idl (pos m) ∙ ap pos p in
    (subst (FitsSigned w128) (sym k) (omega (arith, h)), k ∙ sym q)

pub minus_sum : (m n : ℕ) (z : ℤ) → m ≡ n + 1 → z ≡ negsuc n → n < 2 ^ 127 → FitsSigned w128 (pos 0 -ℤ pos m) × (pos 0 -ℤ pos m ≡ z)
minus_sum m n z p q h =
    let next : m ≡ suc n = omega (arith, p) in
    let k : pos 0 -ℤ pos m ≡ negsuc n = rw next (+ℤ_idl (negsuc n)) in
    (subst (FitsSigned w128) (sym k) (omega (arith, h)), k ∙ sym q)

pub stored : (number z : ℤ) → number ≡ z → FitsSigned w128 z → to_z w128 (of_z w128 number) ≡ z
stored number z e h = ap (λ n. to_z w128 (of_z w128 n)) e ∙ to_z-of_z w128 z h

pub whole_fits : (z : ℤ) → IsBetween (2 ^ 63) (2 ^ 64) z → FitsSigned w128 z
whole_fits (pos n) h = omega (arith, h)
whole_fits (negsuc n) h = omega (arith, h)

-- digits that don't begin with a zero are the text of the number that they are parsed as
pub unsigned_text : (text : Text) (n : ℕ) → ParsesUnsigned {E = ℕ} 64 10 text (Ok n) → 48 ≤ get_or text 0 0 → (get_or text 0 0 ≡ 48 → length text ≤ 1) → text ≡ decimal n
unsigned_text text n parses least single =
    let h = parse_plain digits_model {E = ℕ} 64 text (Ok n) parses (λ plus. omega arith) in
    let is : n ≡ digits_value 10 text = h.1 in
    let some : 0 < length text = h.0.1 in
    sym (decimal-digits_value digits_model text h.0.0 some (λ zero. let few = single zero in omega arith) h.0.2) ∙ ap decimal (sym is)
