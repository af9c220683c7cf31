use Rattle.std.proofs.Common.{◌≡◌, [], None, Result, Ok, Err, MatchResult, pos, inl, inr, refl, subst, ap, ◌∙◌, codes}
use Rattle.std.specs.Fmt.{digits}
use Rattle.fm_grammar.specs.Spelling.{type_line, help_line, sample_line, escape}
use Rattle.fm_grammar.specs.declared.MetricType.{MetricType}
use Rattle.fm_grammar.specs.declared.MetricType.TheVariants.{Gauge}
use Rattle.fastmetrics.specs.Texts.{Path}
use Rattle.fastmetrics.specs.History.{History, Register, root_history}
use Rattle.fastmetrics.specs.Answer.{after}
use Rattle.fastmetrics.specs.Tree.{Reads}
use Rattle.fastmetrics.specs.Named.{named_metric}
use Rattle.fastmetrics.specs.declared.registry.kinds.constant.Constant.TheVariants as constant
use Rattle.fastmetrics.specs.declared.registry.kinds.Metric.TheVariants as metric
use Rattle.calling.proofs.roots.version_page.Goals as goal

never : {T E : Type 0} {x : T} {e : E} → Ok x ≡ Err e → ⊥
never {T} {E} same = subst (λ (r : Result T E). MatchResult r (λ _. Unit {0}) (λ _. ⊥)) same tt

pub returns : goal.returns
unfolding type_line help_line sample_line escape digits
returns g c =
    let root = c.in_ok-root.root in
    let tree = c.register.new.self.at.tree in
    let version = metric.Constant (constant.Gauge (record { value = pos 3 })) in
    let registered : Path → _ → MetricType → History _ = λ path m type. after (root_history None []) (Register path (named_metric (codes "version") (codes "Version of the protocol") None m type)) in
    let (converted, converts, adds) = c.in_ok-register.ensures in
    elim adds [
      | inl none ↦ absurd (never none.0)
      | inr (inl refused) ↦ absurd (never refused.is)
      | inr (inr (fits, added)) ↦
          let is_version = converts ∙ ap (λ v. metric.Constant (constant.Gauge (record { value = v }))) c.new-2.ensures in
          let is_gauge : added.registers.metric_type ≡ Gauge = rw is_version at added.registers.declared in
          let known = ap (λ path. registered path converted added.registers.metric_type) c.in_ok-root.ensures.path.0
          ∙ ap (λ m. registered [] m added.registers.metric_type) is_version ∙ ap (λ type. registered [] version type) is_gauge in
          let reads = subst (λ (b : History _). Reads tree b) known (added.registers.ok (root_history None []) c.in_ok-root.ensures.tree.reads) in
          c.shows_its_constants.ensures (registered [] version Gauge) c.in_ok-document.field-0.items reads.shows c.in_ok-document.ensures.document ((constant.Gauge (record { value = pos 3 }), refl), tt)
    ]
