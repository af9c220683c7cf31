use Rattle.std.proofs.Common.{◌↔◌, IsTrue, List, rules, subst}
use Rattle.std.specs.List.{Any}
use Rattle.fm_grammar.specs.declared.MetricType.{MetricType}
use Rattle.fm_labels.specs.inside.FreeLabels.{HasReserved}
use Rattle.fm_labels.proofs.names.has_any_reserved.Goals as goal

pub returns : goal.returns
returns c =
    subst (λ (types : List MetricType). IsTrue c.any.result ↔ Any (λ type. HasReserved type c.args.labels.now.labels) types) c.all.ensures (search rules)
