-- The texts of `/proc`: what follows from the clauses of `rsplit_once`, `split` and `parse`.
use Rattle.std.proofs.Common.{◌≡◌, ℕ, ◌∷◌, ◌++◌, take, Option, Result, Ok, Err, IfSome, sym, ap, ◌∙◌, lit<}
use Rattle.std.specs.Result.{result_ok}
use Rattle.std.specs.Str.Parse.{ParsesUnsigned}
use Rattle.std.specs.Str.Pattern.{RFindsChar, SplitsAroundMatch}
use Rattle.std.proofs.lemmas.List.{get_or_default, take-append-drop}
use Rattle.std.proofs.lemmas.Str.Pattern.{NoCharPasses-char, drop_at_char}
use Rattle.fm_grammar.specs.Exposition.{Text}
use Rattle.fastmetrics.specs.inside.ProcessTexts.{IsAfterName, IsDecimal}

-- what comes after the last parenthesis
pub after_parenthesis : (stat front back : Text) → SplitsAroundMatch (RFindsChar 41) stat front back → IsAfterName stat back
after_parenthesis stat front back (i, j, finds, is_front, is_back, _, _, _) =
    record {
      before = take i stat;
      whole = sym (take-append-drop i stat) ∙ ap (λ t. take i stat ++ t) (drop_at_char 41 stat i j finds.1 (lit< tt) ∙ ap (λ t. 41 ∷ t) (sym is_back));
      last = λ (k, within, at). NoCharPasses-char 41 back k (rw (← is_back) at finds.0) (lit< tt) within (get_or_default back k 0 41 within ∙ at);
    }

-- the number that `parse` returns of digits
pub parsed : {E : Type 0} (digits : Text) (r : Result ℕ E) (o : Option ℕ) → ParsesUnsigned 64 10 digits r → o ≡ result_ok r → IfSome o (IsDecimal digits)
parsed digits (Ok n) o parses is = rw is (record { is_numeral = parses.0.0; value = parses.1 })
parsed digits (Err e) o parses is = rw is tt
