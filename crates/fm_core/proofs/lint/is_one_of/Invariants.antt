use Rattle.std.proofs.Common.{◌≡◌, drop, map}
use Rattle.fm_registry_rules.specs.Texts.{has_text}
use Rattle.fm_core.proofs.lint.is_one_of.Given as goal

abbrev pub invariant-loop-other : goal.invariant-loop-other
invariant-loop-other l = has_text (map (λ other. other.now) (drop l.other-index l.words)) l.word ≡ has_text (map (λ other. other.now) l.words) l.word
