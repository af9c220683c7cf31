-- How the members of a family by label names are stored, and what holds of them.
use Rattle.std.specs.Prelude.{◌≡◌, ◌≤◌, ℕ, List, length, refl}
use Rattle.std.specs.List.{AllByRecursion}
use Rattle.std.specs.Coded.{Coded, code_by, coded×, coded_ℕ, coded_list}
use Rattle.fm_grammar.specs.Exposition.{Text}
use Rattle.fm_family.specs.VecMembers.{VecState}

-- the code of the counts, and that of the pairs
abbrev pub vec_code : {M : Type 0} → Coded M → Coded (VecState M)
vec_code {M} code = code_by (ℕ × (ℕ × List (List Text × M))) (coded× coded_ℕ (coded× coded_ℕ (coded_list (coded× (coded_list (coded_list coded_ℕ)) code))))
    (λ v. (v.count, (v.limit, v.entries))) (λ p. record { count = p.0; limit = p.1.0; entries = p.1.1 }) (λ _. refl)

-- each member has so many values, and there are no more members than the limit allows
pub record AreCounted {M : Type 0} (count limit : ℕ) (entries : List (List Text × M)) : Type 0 where
  pub values : AllByRecursion (λ entry. length entry.0 ≡ count) entries
  pub within : length entries ≤ limit
