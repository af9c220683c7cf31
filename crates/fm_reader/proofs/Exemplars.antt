-- Exemplars, and what comes after a sample's labels.
use Rattle.std.proofs.Common.{◌≡◌, ◌≢◌, ℕ, ◌≤◌, true, false, inl, ℤ, List, [], ◌∷◌, ◌++◌, refl, sym, ap, subst, ◌∙◌, append-nil, codes, Option, Some, None, Bor}
use Rattle.std.specs.Option.{is_some}
use Rattle.std.proofs.lemmas.Bool.{true≢false}
use Rattle.fm_grammar.specs.declared.SampleKind.{SampleKind}
use Rattle.fm_grammar.specs.declared.SampleKind.TheVariants.{Plain, Total, Created, Bucket, Count, Sum, GCount, GSum, Info}
use Rattle.fm_grammar.specs.Exposition.{Text, Label, Value, Exemplar}
use Rattle.fm_grammar.specs.Numbers.{fixed_text}
use Rattle.fm_grammar.specs.WellFormed.{ExemplarAllowed, IsExemplar, label_code_points}
use Rattle.fm_grammar.specs.Spelling.{label_list_text, value_text, time_text, exemplar_text}
use Rattle.fm_grammar.proofs.Labels.{braces_then}
use Rattle.fm_grammar.specs.Kinds.{takes_exemplar}
use Rattle.fm_reader.specs.inside.Parts.{tail_text, IsToken, IsBracesFront, IsTimeFront, FoundSmall, FoundBody, body_text, FoundExemplar, FoundValue, Shown, shown_text, MayShow, FoundShown}
use Rattle.fm_reader.proofs.Tokens.{one_token, small_unspaced, value_unspaced, time_spaced, exemplar_ends, ends_spaced, one_time_front}
use Rattle.fm_reader.proofs.Blocks.{one_braces_front}

-- exemplars after their opening brace

pub body_no_braces : (text : Text) → IsBracesFront text None → FoundBody text None
body_no_braces text none = λ x is e. none x.labels _ is.labels e

pub body_long : (text : Text) (labels : List Label) (rest : Text) → IsBracesFront text (Some (labels, rest)) → (label_code_points labels ≤ 128 → ⊥) → FoundBody text None
body_long text labels rest found long = λ x is e.
    long (subst (λ ls. label_code_points ls ≤ 128) (sym (one_braces_front text labels x.labels rest _ found is.labels e).0) is.short)

body_rest : (text : Text) (labels : List Label) (rest : Text) (x : Exemplar) → IsBracesFront text (Some (labels, rest)) → IsExemplar x → text ≡ body_text x → rest ≡ fixed_text x.value ++ time_text x.time
body_rest text labels rest x found is e = (one_braces_front text labels x.labels rest _ found is.labels e).1

spaced_time : (time : Option ℕ) → time_text time ≡ time_text time ++ []
spaced_time time = sym (append-nil (time_text time))

body_tail : (text : Text) (labels : List Label) (rest token : Text) (tail : Option (Bor Text)) (x : Exemplar) → IsBracesFront text (Some (labels, rest)) → IsToken rest token (tail_text tail) → IsExemplar x → text ≡ body_text x → (token ≡ fixed_text x.value) × (tail_text tail ≡ time_text x.time ++ [])
body_tail text labels rest token tail x found cut is e =
    one_token rest token tail (fixed_text x.value) (time_text x.time ++ []) cut (small_unspaced x.value is.value) (time_spaced x.time [] tt) (body_rest text labels rest x found is e ∙ ap (λ z. fixed_text x.value ++ z) (spaced_time x.time))

pub body_no_value : (text : Text) (labels : List Label) (rest token : Text) (tail : Option (Bor Text)) → IsBracesFront text (Some (labels, rest)) → IsToken rest token (tail_text tail) → FoundSmall token None → FoundBody text None
body_no_value text labels rest token tail found cut none = λ x is e. none x.value is.value (body_tail text labels rest token tail x found cut is e).0

pub body_no_time : (text : Text) (labels : List Label) (rest token : Text) (tail : Option (Bor Text)) → IsBracesFront text (Some (labels, rest)) → IsToken rest token (tail_text tail) → IsTimeFront (tail_text tail) None → FoundBody text None
body_no_time text labels rest token tail found cut none = λ x is e. none x.time [] is.time (inl refl) (body_tail text labels rest token tail x found cut is e).1

pub body_more : (text : Text) (labels : List Label) (rest token : Text) (tail after : Option (Bor Text)) (time : Option ℕ) → IsBracesFront text (Some (labels, rest)) → IsToken rest token (tail_text tail) → IsTimeFront (tail_text tail) (Some (time, after)) → (tail_text after ≡ [] → ⊥) → FoundBody text None
body_more text labels rest token tail after time found cut front more = λ x is e.
    more (one_time_front (tail_text tail) time x.time after [] front is.time (inl refl) (body_tail text labels rest token tail x found cut is e).1).1

pub body_found : (text : Text) (labels : List Label) (rest token : Text) (tail after : Option (Bor Text)) (time : Option ℕ) (value : ℤ) (x : Exemplar) → IsBracesFront text (Some (labels, rest)) → label_code_points labels ≤ 128 → IsToken rest token (tail_text tail) → FoundSmall token (Some value) → IsTimeFront (tail_text tail) (Some (time, after)) → tail_text after ≡ []
    → x ≡ record { labels = labels; value = value; time = time } → FoundBody text (Some x)
body_found text labels rest token tail after time value x found short cut number front none is =
    let whole : rest ≡ fixed_text value ++ time_text time = cut.is ∙ (λ i. number.1 i ++ (front.2 ∙ ap (λ z. time_text time ++ z) none ∙ append-nil (time_text time)) i) in
    subst (λ y. FoundBody text (Some y)) (sym is)
    (record { labels = found.0; short = short; value = number.0; time = front.0 }, found.1 ∙ ap (λ z. label_list_text labels ++ (125 ∷ 32 ∷ z)) whole)

pub tail_some : (tail : Option (Bor Text)) → true ≡ is_some tail → tail_text tail ≡ [] → ⊥
tail_some None e n = true≢false e
tail_some (Some rest) e n = cc

-- exemplars, or none

exemplar_is : (x : Exemplar) → exemplar_text (Some x) ≡ 32 ∷ (codes "# {" ++ body_text x)
exemplar_is x = ap (λ z. 32 ∷ 35 ∷ 32 ∷ z) (braces_then x.labels (32 ∷ (fixed_text x.value ++ time_text x.time)))

pub no_exemplar : (kind : SampleKind) → FoundExemplar kind [] (Some None)
no_exemplar Plain = (refl, tt, refl)
no_exemplar Total = (tt, tt, refl)
no_exemplar Created = (refl, tt, refl)
no_exemplar Bucket = (tt, tt, refl)
no_exemplar Count = (refl, tt, refl)
no_exemplar Sum = (refl, tt, refl)
no_exemplar GCount = (refl, tt, refl)
no_exemplar GSum = (refl, tt, refl)
no_exemplar Info = (refl, tt, refl)

pub other_exemplar : (kind : SampleKind) (text : Text) → ((rest : Text) → text ≢ codes "# {" ++ rest) → FoundExemplar kind (32 ∷ text) None
other_exemplar kind text none None allowed is e = cc
other_exemplar kind text none (Some x) allowed is e = let k = e ∙ exemplar_is x in let h : text ≡ codes "# {" ++ body_text x = cc in none _ h

not_allowed : (kind : SampleKind) (x : Exemplar) → takes_exemplar kind ≡ false → ExemplarAllowed kind (Some x) → ⊥
not_allowed Total x e h = true≢false e
not_allowed Bucket x e h = true≢false e
not_allowed _ x e h = true≢false h

allowed : (kind : SampleKind) (x : Exemplar) → takes_exemplar kind ≡ true → ExemplarAllowed kind (Some x)
allowed Total x e = tt
allowed Bucket x e = tt
allowed _ x e = cc

pub exemplar_refused : (kind : SampleKind) (text : Text) → takes_exemplar kind ≡ false → (rest : Text) → text ≡ codes "# {" ++ rest → FoundExemplar kind (32 ∷ text) None
exemplar_refused kind text not rest cut None a is e = cc
exemplar_refused kind text not rest cut (Some x) a is e = not_allowed kind x not a

pub no_body : (kind : SampleKind) (text body : Text) → text ≡ codes "# {" ++ body → FoundBody body None → FoundExemplar kind (32 ∷ text) None
no_body kind text body cut none None a is e = cc
no_body kind text body cut none (Some x) a is e =
    let k = e ∙ exemplar_is x in
    let h : text ≡ codes "# {" ++ body_text x = cc in
    let q = sym cut ∙ h in
    let same : body ≡ body_text x = cc in
    none x is same

pub exemplar_found : (kind : SampleKind) (text body : Text) (x : Exemplar) → takes_exemplar kind ≡ true → text ≡ codes "# {" ++ body → FoundBody body (Some x) → FoundExemplar kind (32 ∷ text) (Some (Some x))
exemplar_found kind text body x takes cut found = (allowed kind x takes, found.0, ap (λ z. 32 ∷ z) (cut ∙ ap (λ z. codes "# {" ++ z) found.1) ∙ sym (exemplar_is x))

-- what comes after the labels

shown_tail : (kind : SampleKind) (text token : Text) (tail : Option (Bor Text)) (shown : Shown) → IsToken text token (tail_text tail) → MayShow kind shown → text ≡ shown_text shown → (token ≡ value_text shown.value) × (tail_text tail ≡ time_text shown.time ++ exemplar_text shown.exemplar)
shown_tail kind text token tail shown cut may e =
    one_token text token tail (value_text shown.value) (time_text shown.time ++ exemplar_text shown.exemplar) cut (value_unspaced shown.value may.value) (time_spaced shown.time (exemplar_text shown.exemplar) (ends_spaced (exemplar_text shown.exemplar) (exemplar_ends shown.exemplar))) e

pub shown_no_value : (kind : SampleKind) (text token : Text) (tail : Option (Bor Text)) → IsToken text token (tail_text tail) → FoundValue kind token None → FoundShown kind text None
shown_no_value kind text token tail cut none = λ shown may e. none shown.value may.suits may.value (shown_tail kind text token tail shown cut may e).0

pub shown_no_time : (kind : SampleKind) (text token : Text) (tail : Option (Bor Text)) → IsToken text token (tail_text tail) → IsTimeFront (tail_text tail) None → FoundShown kind text None
shown_no_time kind text token tail cut none = λ shown may e. none shown.time (exemplar_text shown.exemplar) may.time (exemplar_ends shown.exemplar) (shown_tail kind text token tail shown cut may e).1

pub shown_no_exemplar : (kind : SampleKind) (text token : Text) (tail after : Option (Bor Text)) (time : Option ℕ) → IsToken text token (tail_text tail) → IsTimeFront (tail_text tail) (Some (time, after)) → FoundExemplar kind (tail_text after) None → FoundShown kind text None
shown_no_exemplar kind text token tail after time cut front none = λ shown may e.
    none shown.exemplar may.allowed may.exemplar (one_time_front (tail_text tail) time shown.time after (exemplar_text shown.exemplar) front may.time (exemplar_ends shown.exemplar) (shown_tail kind text token tail shown cut may e).1).1

pub shown_found : (kind : SampleKind) (text token : Text) (tail after : Option (Bor Text)) (value : Value) (time : Option ℕ) (exemplar : Option Exemplar) → IsToken text token (tail_text tail) → FoundValue kind token (Some value) → IsTimeFront (tail_text tail) (Some (time, after)) → FoundExemplar kind (tail_text after) (Some exemplar)
    → FoundShown kind text (Some (record { value = value; time = time; exemplar = exemplar }))
shown_found kind text token tail after value time exemplar cut number front found = (
  record { suits = number.0; value = number.1; time = front.0; allowed = found.0; exemplar = found.1 },
  cut.is ∙ (λ i. number.2 i ++ (front.2 ∙ ap (λ z. time_text time ++ z) found.2) i),
)
