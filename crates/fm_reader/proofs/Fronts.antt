-- An escaped text at the front of a text.
use Rattle.std.proofs.Common.{◌≡◌, ◌≢◌, ℕ, ◌<◌, ◌≤◌, ◌⊎◌, inl, inr, ⊎_elim, [], ◌∷◌, ◌++◌, refl, sym, ap, ◌∙◌, append_assoc, arith, ltb, true, false, length}
use Rattle.std.proofs.Math.Utf8.{encode}
use Rattle.std.specs.List.{AllByRecursion}
use Rattle.std.proofs.lemmas.Str.{encode_ascii}
use Rattle.std.proofs.lemmas.Bool.{cases_lt}
use Rattle.std.proofs.lemmas.Bool.Decides.{nat_tests}
use Rattle.fm_grammar.specs.Exposition.{Text}
use Rattle.fm_grammar.specs.Spelling.{escape, escaped}
use Rattle.fm_grammar.proofs.Runs.{all_weaker}
use Rattle.fm_grammar.proofs.Escapes.{Writing, feed, quoted, doubled, plain, writing, escape-feed, escape-quoted, escape-doubled, escape-plain, one_escape}
use Rattle.fm_reader.specs.inside.Fronts.{EndsEscaped}

-- what is appended to a value is appended to its text
pub escaped_append : (v w : Text) → escaped (v ++ w) ≡ escaped v ++ escaped w
escaped_append [] w = refl
escaped_append (x ∷ v) w = ap (λ z. escape x ++ z) (escaped_append v w) ∙ sym (append_assoc (escape x) (escaped v) (escaped w))

-- no escape begins what may come after an escaped text
escape_not_end : (byte : ℕ) (s r : Text) → EndsEscaped r → escape byte ++ s ≡ r → ⊥
escape_not_end byte s [] h e = by (writing byte)
  where
    by : Writing byte → ⊥
    by (feed p) = cc (ap (λ z. z ++ s) (escape-feed byte p))
    by (quoted p) = cc (ap (λ z. z ++ s) (escape-quoted byte p))
    by (doubled p) = cc (ap (λ z. z ++ s) (escape-doubled byte p))
    by (plain f q d) = cc (ap (λ z. z ++ s) (escape-plain byte f q d))
escape_not_end byte s (x ∷ r) h e = by (writing byte)
  where
    by : Writing byte → ⊥
    by (feed p) = let k : 92 ≡ x = cc (ap (λ z. z ++ s) (escape-feed byte p)) in grind arith
    by (quoted p) = let k : 92 ≡ x = cc (ap (λ z. z ++ s) (escape-quoted byte p)) in grind arith
    by (doubled p) = let k : 92 ≡ x = cc (ap (λ z. z ++ s) (escape-doubled byte p)) in grind arith
    by (plain f q d) = let k : byte ≡ x = cc (ap (λ z. z ++ s) (escape-plain byte f q d)) in grind arith

-- a value read so far begins each value whose text is at the front
pub read_so_far : (v w u r : Text) → EndsEscaped r → escaped v ++ u ≡ escaped w ++ r → (more : Text) × (u ≡ escaped more ++ r)
read_so_far [] w u r h e = (w, e)
read_so_far (x ∷ v) [] u r h e = absurd (escape_not_end x (escaped v ++ u) r h (sym (append_assoc (escape x) (escaped v) u) ∙ e))
read_so_far (x ∷ v) (y ∷ w) u r h e =
    let k = one_escape x y (escaped v ++ u) (escaped w ++ r) (sym (append_assoc (escape x) (escaped v) u) ∙ e ∙ append_assoc (escape y) (escaped w) r) in
    read_so_far v w u r h k.1

-- after a backslash comes an n, a quote or a backslash
pub after_backslash : (s w r : Text) → EndsEscaped r → 92 ∷ s ≡ escaped w ++ r → (byte : ℕ) × (t : Text) × ((byte ≡ 110) ⊎ ((byte ≡ 34) ⊎ (byte ≡ 92))) × (s ≡ byte ∷ t)
after_backslash s [] [] h e = absurd (cc)
after_backslash s [] (x ∷ r) h e = let k : 92 ≡ x = cc in absurd (grind arith)
after_backslash s (y ∷ w) r h e = by (writing y)
  where
    spelled : 92 ∷ s ≡ escape y ++ (escaped w ++ r)
    spelled = e ∙ append_assoc (escape y) (escaped w) r

    by : Writing y → (byte : ℕ) × (t : Text) × ((byte ≡ 110) ⊎ ((byte ≡ 34) ⊎ (byte ≡ 92))) × (s ≡ byte ∷ t)
    by (feed p) = (110, escaped w ++ r, inl refl, let k = spelled in cc (ap (λ z. z ++ (escaped w ++ r)) (escape-feed y p)))
    by (quoted p) = (34, escaped w ++ r, inr (inl refl), let k = spelled in cc (ap (λ z. z ++ (escaped w ++ r)) (escape-quoted y p)))
    by (doubled p) = (92, escaped w ++ r, inr (inr refl), let k = spelled in cc (ap (λ z. z ++ (escaped w ++ r)) (escape-doubled y p)))
    by (plain f q d) = let k = spelled in let n : y ≡ 92 = cc (ap (λ z. z ++ (escaped w ++ r)) (escape-plain y f q d)) in absurd (d n)

-- bytes that are written as they are
IsPlain : ℕ → Type 0
IsPlain byte = (byte ≢ 10) × (byte ≢ 34) × (byte ≢ 92)

escaped_plain : (text : Text) → AllByRecursion IsPlain text → escaped text ≡ text
unfolding IsPlain
escaped_plain [] h = refl
escaped_plain (x ∷ text) h = ap (λ z. escape x ++ z) (escaped_plain text h.1) ∙ ap (λ z. z ++ text) (escape-plain x h.0.0 h.0.1 h.0.2)

-- a character from 128 on has bytes from 128 on
record IsWide (text : Text) : Type 0 where
  some : 0 < length text
  bytes : AllByRecursion (λ b. 128 ≤ b) text

encode_wide : (c : ℕ) → 128 ≤ c → IsWide (encode c)
unfolding encode
encode_wide c h =
    let a : ltb c 128 ≡ false = grind (arith, nat_tests) in
    ⊎_elim
    (λ b. let p : ltb c 2048 ≡ true = grind (arith, nat_tests) in rw (a, p) (record { some = omega arith; bytes = (omega arith, (omega arith, tt)) }))
    (λ b. let p : ltb c 2048 ≡ false = grind (arith, nat_tests) in
    ⊎_elim
    (λ d. let q : ltb c 65536 ≡ true = grind (arith, nat_tests) in rw (a, p, q) (record { some = omega arith; bytes = (omega arith, (omega arith, (omega arith, tt))) }))
    (λ d. let q : ltb c 65536 ≡ false = grind (arith, nat_tests) in rw (a, p, q) (record { some = omega arith; bytes = (omega arith, (omega arith, (omega arith, (omega arith, tt)))) }))
    (cases_lt c 65536))
    (cases_lt c 2048)

first_wide : (text : Text) (byte : ℕ) (s t : Text) → IsWide text → text ++ s ≡ byte ∷ t → 128 ≤ byte
first_wide [] byte s t h e = absurd (omega (arith, h.some))
first_wide (x ∷ text) byte s t h e = let k : x ≡ byte = cc in omega (arith, h.bytes.0)

-- a character that is none of the three
pub escaped_character : (c : ℕ) → c ≢ 10 → c ≢ 34 → c ≢ 92 → escaped (encode c) ≡ encode c
unfolding IsPlain
escaped_character c f q d = ⊎_elim
    (λ low. rw (encode_ascii c low) (escaped_plain (c ∷ []) ((f, q, d), tt)))
    (λ high. escaped_plain (encode c) (all_weaker (λ b. 128 ≤ b) IsPlain (λ b h. (λ e. omega arith, λ e. omega arith, λ e. omega arith)) (encode c) (encode_wide c high).bytes))
    (cases_lt c 128)

-- one more character of a value is read
pub read_more : (text v rest e after w new : Text) → text ≡ escaped v ++ rest → rest ≡ e ++ after → e ≡ escaped w → new ≡ v ++ w → text ≡ escaped new ++ after
read_more text v rest e after w new h r s n =
    h ∙ ap (λ z. escaped v ++ z) (r ∙ ap (λ z. z ++ after) s) ∙ sym (append_assoc (escaped v) (escaped w) after) ∙ ap (λ z. z ++ after) (sym (escaped_append v w) ∙ ap escaped (sym n))

-- the escape of a character after a backslash
abbrev pub IsEscapeOf : ℕ → ℕ → Type 0
IsEscapeOf e n = ((e ≡ 110) × (n ≡ 10)) ⊎ (((e ≡ 34) ⊎ (e ≡ 92)) × (n ≡ e))

-- it is read with the backslash
pair_text : (e n : ℕ) → IsEscapeOf e n → encode 92 ++ encode e ≡ escaped (encode n)
unfolding encode escape
pair_text e n (inl (p, q)) = rw (p, q)
pair_text e n (inr (inl p, q)) = rw (q, p)
pair_text e n (inr (inr p, q)) = rw (q, p)

pub read_pair : (text v rest first one two after new : Text) (c e n : ℕ) → text ≡ escaped v ++ rest → first ≡ rest → first ≡ encode c ++ one → c ≡ 92 → one ≡ encode e ++ two → IsEscapeOf e n → after ≡ two → new ≡ v ++ encode n → text ≡ escaped new ++ after
read_pair text v rest first one two after new c e n h f a b o k d m =
    let spelled : rest ≡ (encode 92 ++ encode e) ++ after = sym f ∙ a ∙ ap (λ z. encode z ++ one) b ∙ ap (λ z. encode 92 ++ z) (o ∙ ap (λ z. encode e ++ z) (sym d)) ∙ sym (append_assoc (encode 92) (encode e) after) in
    read_more text v rest (encode 92 ++ encode e) after (encode n) new h spelled (pair_text e n k) m

pub read_single : (text v rest first one after new : Text) (c : ℕ) → text ≡ escaped v ++ rest → first ≡ rest → first ≡ encode c ++ one → c ≢ 10 → c ≢ 34 → c ≢ 92 → after ≡ one → new ≡ v ++ encode c → text ≡ escaped new ++ after
read_single text v rest first one after new c h f a p q r d m =
    read_more text v rest (encode c) after (encode c) new h (sym f ∙ a ∙ ap (λ z. encode c ++ z) (sym d)) (sym (escaped_character c p q r)) m

-- a backslash with nothing that belongs to it after it
pub no_escape : (text v rest first one : Text) (c : ℕ) → text ≡ escaped v ++ rest → first ≡ rest → first ≡ encode c ++ one → c ≡ 92 → ((byte : ℕ) (t : Text) → (byte ≡ 110) ⊎ ((byte ≡ 34) ⊎ (byte ≡ 92)) → one ≡ byte ∷ t → ⊥)
    → (w r : Text) → EndsEscaped r → text ≡ escaped w ++ r → ⊥
no_escape text v rest first one c h f a b never w r ends e =
    let k = read_so_far v w rest r ends (sym h ∙ e) in
    let spelled : rest ≡ 92 ∷ one = sym f ∙ a ∙ ap (λ z. encode z ++ one) b ∙ ap (λ z. z ++ one) (encode_ascii 92 (omega arith)) in
    let q = after_backslash one k.0 r ends (sym spelled ∙ k.1) in
    never q.0 q.1 q.2 q.3

pub no_such_escape : (e : ℕ) (two : Text) → e ≢ 110 → e ≢ 34 → e ≢ 92 → (byte : ℕ) (t : Text) → (byte ≡ 110) ⊎ ((byte ≡ 34) ⊎ (byte ≡ 92)) → encode e ++ two ≡ byte ∷ t → ⊥
no_such_escape e two p q r byte t k h = ⊎_elim
    (λ low. let same : e ≡ byte = cc (ap (λ z. z ++ two) (encode_ascii e low)) in grind arith)
    (λ high. let wide = first_wide (encode e) byte two t (encode_wide e high) h in grind arith)
    (cases_lt e 128)

pub empty_is : (text : Text) → length text ≡ 0 → {byte : ℕ} {t : Text} → text ≡ byte ∷ t → ⊥
empty_is [] l e = cc
empty_is (x ∷ text) l e = omega arith

-- two values at the front of one text are the same
pub one_escaped_front : (v w s t : Text) → EndsEscaped s → EndsEscaped t → escaped v ++ s ≡ escaped w ++ t → (v ≡ w) × (s ≡ t)
one_escaped_front [] [] s t p q e = (refl, e)
one_escaped_front [] (y ∷ w) s t p q e = absurd (escape_not_end y (escaped w ++ t) s p (sym (e ∙ append_assoc (escape y) (escaped w) t)))
one_escaped_front (x ∷ v) [] s t p q e = absurd (escape_not_end x (escaped v ++ s) t q (sym (append_assoc (escape x) (escaped v) s) ∙ e))
one_escaped_front (x ∷ v) (y ∷ w) s t p q e =
    let h = one_escape x y (escaped v ++ s) (escaped w ++ t) (sym (append_assoc (escape x) (escaped v) s) ∙ e ∙ append_assoc (escape y) (escaped w) t) in
    let r = one_escaped_front v w s t p q h.1 in
    let first = h.0 in
    let rest = r.0 in
    (cc, r.1)
