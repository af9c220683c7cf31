use Rattle.std.proofs.Common.{sym, ◌∙◌, subst, []}
use Rattle.fm_grammar.specs.declared.MetricType.{MetricType}
use Rattle.fm_grammar.specs.WellFormed.{AreLabels}
use Rattle.fm_labels.specs.inside.FreeLabels.{AreFree}
use Rattle.fm_labels.proofs.NameLemmas.{AreLabels-written, AreFree-written}
use Rattle.fm_encoder.proofs.point.PointEncoder.begin_member.Goals as goal

pub invariant_of-self : goal.invariant_of-self
invariant_of-self g c =
    let read = c.in-Ok.ensures in
    let type = c.self.inside.labels.metric_type in
    let labels = c.followed_by.new.encoder.labels in
    record {
      name = λ state_set. c.self.invariant.name (sym read.same_type ∙ state_set);
      labels = subst AreLabels (sym read.gathered.1) (AreLabels-written type _ read.gathered.0);
      free = subst (λ (t : MetricType). AreFree t labels) (sym read.same_type) (subst (AreFree type) (sym read.gathered.1) (AreFree-written type [] _ read.gathered.0));
      shared = rw c.unshare.ensures tt;
      time = c.self.invariant.time;
      none = c.self.invariant.none;
    }
