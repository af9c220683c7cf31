-- The test of a name and an underscore, in two steps.
use Rattle.std.proofs.Common.{◌≡◌, Bool, true, false, ◌++◌, codes, refl, sym, ap, ◌∙◌}
use Rattle.std.specs.Prelude.{eqb}
use Rattle.std.specs.List.{starts_with}
use Rattle.std.proofs.lemmas.Slice.Eq.{starts_is}
use Rattle.std.proofs.lemmas.Bool.Decides.{Decides-eqb}
use Rattle.std.proofs.lemmas.List.{append_cancel_left}
use Rattle.fm_registry_rules.specs.Texts.{Text}
use Rattle.fm_registry_rules.specs.Taken.{is_below}
use Rattle.fm_registry_rules.proofs.NameLemmas.{is_below-true, is_below-is}

-- after the name, the text continues with an underscore
pub below_after : (name text rest : Text) (r : Bool) → text ≡ name ++ rest → r ≡ starts_with eqb rest (codes "_") → r ≡ is_below name text
below_after name text rest true is goes_on =
    let front = (starts_is Decides-eqb rest (codes "_") true goes_on).0 refl in
    sym (is_below-is name text (record { rest = _; is = is ∙ ap (λ t. name ++ t) front }))
below_after name text rest false is goes_on = by (is_below name text) refl
  where
    by : (c : Bool) → is_below name text ≡ c → false ≡ c
    by false e = refl
    by true e =
        let below = is_below-true name text e in
        let same = append_cancel_left name rest (codes "_" ++ below.rest) (sym is ∙ below.is) in
        (starts_is Decides-eqb rest (codes "_") false goes_on).1 below.rest same

-- a text that does not begin with the name
pub not_after : (name text : Text) → ((rest : Text) → text ≡ name ++ rest → ⊥) → false ≡ is_below name text
not_after name text other = by (is_below name text) refl
  where
    by : (c : Bool) → is_below name text ≡ c → false ≡ c
    by false e = refl
    by true e = let below = is_below-true name text e in absurd (other (codes "_" ++ below.rest) below.is)
