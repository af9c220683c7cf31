-- Help lines.
use Rattle.std.proofs.Common.{◌≡◌, ◌≢◌, ℕ, ◌+◌, [], ◌∷◌, ◌++◌, length, drop, refl, sym, ap, subst, ◌∙◌, append-nil, codes, Option, Some, None, MatchOption, Bor, true, false, ◌==◌, arith}
use Rattle.std.proofs.lemmas.Bool.Decides.{nat_tests}
use Rattle.std.specs.Str.Pattern.{FindsTextPrefix}
use Rattle.std.proofs.lemmas.List.{append_cancel_left}
use Rattle.fm_grammar.specs.Exposition.{Text}
use Rattle.fm_grammar.specs.Spelling.{escaped, help_line}
use Rattle.fm_grammar.specs.Document.{IsHelpLine}
use Rattle.fm_grammar.proofs.Escapes.{escaped_text}
use Rattle.fm_grammar.proofs.Spellings.{is_help_line}
use Rattle.fm_reader.specs.inside.Fronts.{IsEscapedFront}
use Rattle.fm_reader.proofs.Fronts.{one_escaped_front}

-- `strip_prefix` at a text
pub strip_prefix_text : (n s : Text) (r : Option (Bor Text)) → MatchOption r (FindsTextPrefix n s None) (λ x. (k : ℕ) × FindsTextPrefix n s (Some k) × (x.now ≡ drop k s) × (length x.now + k ≡ length s)) → MatchOption r ((rest : Text) → s ≢ n ++ rest) (λ x. s ≡ n ++ x.now)
strip_prefix_text n s None h = λ rest e. h rest e
strip_prefix_text n s (Some x) h = h.1.1 ∙ ap (λ l. n ++ l) (sym h.2)

-- what comes after the words of a help line
help_is : (line name help : Text) → IsHelpLine line name help → line ≡ codes "# HELP " ++ (name ++ (32 ∷ escaped help))
help_is line name help (text, p, e) = e ∙ ap (λ z. codes "# HELP " ++ (name ++ (32 ∷ z))) (escaped_text p)

pub help_none : (line name : Text) → ((rest : Text) → line ≢ codes "# HELP " ++ rest) → (help : Text) → IsHelpLine line name help → ⊥
help_none line name none help h = none _ (help_is line name help h)

after_help : (line name after help : Text) → line ≡ codes "# HELP " ++ after → IsHelpLine line name help → after ≡ name ++ (32 ∷ escaped help)
after_help line name after help cut h = append_cancel_left (codes "# HELP ") after (name ++ (32 ∷ escaped help)) (sym cut ∙ help_is line name help h)

pub help_other : (line name after : Text) → line ≡ codes "# HELP " ++ after → ((rest : Text) → after ≢ name ++ rest) → (help : Text) → IsHelpLine line name help → ⊥
help_other line name after cut none help h = none _ (after_help line name after help cut h)

help_spaced : (line name after spaced help : Text) → line ≡ codes "# HELP " ++ after → after ≡ name ++ spaced → IsHelpLine line name help → spaced ≡ 32 ∷ escaped help
help_spaced line name after spaced help cut named h = append_cancel_left name spaced (32 ∷ escaped help) (sym named ∙ after_help line name after help cut h)

pub help_no_space : (line name after spaced : Text) → line ≡ codes "# HELP " ++ after → after ≡ name ++ spaced → ((rest : Text) → spaced ≢ 32 ∷ rest) → (help : Text) → IsHelpLine line name help → ⊥
help_no_space line name after spaced cut named none help h = none _ (help_spaced line name after spaced help cut named h)

help_text : (line name after spaced text help : Text) → line ≡ codes "# HELP " ++ after → after ≡ name ++ spaced → spaced ≡ 32 ∷ text → IsHelpLine line name help → text ≡ escaped help ++ []
help_text line name after spaced text help cut named space h = let k = sym space ∙ help_spaced line name after spaced help cut named h in let same : text ≡ escaped help = cc in same ∙ sym (append-nil (escaped help))

pub help_not_escaped : (line name after spaced text : Text) → line ≡ codes "# HELP " ++ after → after ≡ name ++ spaced → spaced ≡ 32 ∷ text → IsEscapedFront text None → (help : Text) → IsHelpLine line name help → ⊥
help_not_escaped line name after spaced text cut named space none help h = none help [] tt (help_text line name after spaced text help cut named space h)

pub help_more : (line name after spaced text value rest : Text) → line ≡ codes "# HELP " ++ after → after ≡ name ++ spaced → spaced ≡ 32 ∷ text → IsEscapedFront text (Some (value, rest)) → (rest ≡ [] → ⊥) → (help : Text) → IsHelpLine line name help → ⊥
help_more line name after spaced text value rest cut named space found more help h =
    more (one_escaped_front value help rest [] found.0 tt (sym found.1 ∙ help_text line name after spaced text help cut named space h)).1

pub help_found : (line name after spaced text value rest : Text) → line ≡ codes "# HELP " ++ after → after ≡ name ++ spaced → spaced ≡ 32 ∷ text → IsEscapedFront text (Some (value, rest)) → rest ≡ [] → IsHelpLine line name value
unfolding help_line
help_found line name after spaced text value rest cut named space found none =
    let whole : line ≡ help_line name value = cut ∙ ap (λ z. codes "# HELP " ++ z) (named ∙ ap (λ z. name ++ z) (space ∙ ap (λ z. 32 ∷ z) (found.1 ∙ ap (λ z. escaped value ++ z) none ∙ append-nil (escaped value)))) in
    subst (λ l. IsHelpLine l name value) (sym whole) (is_help_line name value)

-- what the test of an empty text says
pub empty_text : (text : Text) → true ≡ (length text == 0) → text ≡ []
empty_text [] e = refl
empty_text (byte ∷ text) e = absurd (grind (arith, nat_tests))

pub not_empty_text : (text : Text) → false ≡ (length text == 0) → text ≡ [] → ⊥
not_empty_text [] e n = cc
not_empty_text (byte ∷ text) e n = cc
