use Rattle.std.proofs.Common.{sym, ap, ◌∙◌}
use Rattle.std.specs.Str.{bytes_eq}
use Rattle.fm_metrics.proofs.NameLemmas.{found, missing-more}
use Rattle.fm_metrics.proofs.named_states.index_of_name.Goals as goal

pub returns-then-eq : goal.returns-then-eq
returns-then-eq c =
    found c.args.name.now _ _ _ c.loop-i-test.true c.index-names-i.is (ap (bytes_eq c.args.name.now) (sym c.as_str.ensures.value) ∙ sym c.eq.ensures ∙ c.if-eq.true)

pub loop-i-preserved : goal.loop-i-preserved
loop-i-preserved c =
    missing-more c.args.name.now _ _ _ c.loop-i-test.true c.index-names-i.is (ap (bytes_eq c.args.name.now) (sym c.as_str.ensures.value) ∙ sym c.eq.ensures ∙ c.if-eq.false)
    c.loop-i.invariant
