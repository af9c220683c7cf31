-- The label names of a family, which its clones share.
use Rattle.std.specs.Prelude.{List}
use Rattle.std.specs.Arc.{arc_value}
use Rattle.fm_grammar.specs.Exposition.{Text}
use Rattle.fm_family.specs.declared.vec.metric_vec.MetricVec.{MetricVec}

-- the names, in order
abbrev pub vec_names : {M MF H : Type 0} → MetricVec M MF H → List Text
vec_names v = (arc_value v.shared).names

-- the factory that makes its members
abbrev pub vec_factory : {M MF H : Type 0} → MetricVec M MF H → MF
vec_factory v = (arc_value v.shared).factory
