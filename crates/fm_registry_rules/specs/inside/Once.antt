-- Texts that come once.
use Rattle.std.specs.Prelude.{Bool, true, ◌&&◌, not, List, [], ◌∷◌}
use Rattle.fm_grammar.specs.Exposition.{Text}
use Rattle.fm_registry_rules.specs.Texts.{has_text}

-- whether no name comes twice
abbrev pub is_once : List Text → Bool
is_once [] = true
is_once (name ∷ names) = not (has_text names name) && is_once names
