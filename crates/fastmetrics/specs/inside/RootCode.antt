-- How a root is stored.
use Rattle.std.specs.Prelude.{ℕ, refl}
use Rattle.std.specs.Coded.{Coded, code_by, coded×, coded_ℕ, coded_list}
use Rattle.fm_registry_rules.specs.Texts.{Path}
use Rattle.fm_registry_rules.specs.Tree.{Tree}
use Rattle.fm_registry_rules.specs.inside.TreeCode.{tree_code}
use Rattle.fastmetrics.specs.Roots.{RootState, SeenRoot}

-- the code of its tree, and that of its path
abbrev pub root_code : {M : Type 0} → Coded M → Coded (RootState M)
root_code {M} code = code_by (Tree M × Path) (coded× (tree_code code) (coded_list (coded_list coded_ℕ))) (λ r. (r.tree, r.path)) (λ p. record { tree = p.0; path = p.1 }) (λ _. refl)

-- the code of its registry, of its base, and of its handle
abbrev pub seen_root_code : {H M : Type 0} → Coded H → Coded M → Coded (SeenRoot H M)
seen_root_code {H} {M} handle code =
    code_by (RootState M × (ℕ × H)) (coded× (root_code code) (coded× coded_ℕ handle)) (λ r. (r.at, (r.base, r.wait))) (λ p. record { at = p.0; base = p.1.0; wait = p.1.1 }) (λ _. refl)
