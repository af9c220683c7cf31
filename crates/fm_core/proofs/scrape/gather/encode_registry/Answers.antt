use Rattle.std.proofs.Common.{◌≤◌, length, arith, inl, inr, refl, sym, ◌∙◌}
use Rattle.fm_registry_rules.specs.Listing.{own_metrics, IsListable}
use Rattle.fm_core.specs.Seen.{seen_listed}
use Rattle.fm_core.specs.inside.Collected.{collected}
use Rattle.fm_core.proofs.CollectLemmas.{all_at, labels_at, own_labels, none_past, one-at, on_ok}
use Rattle.fm_core.proofs.CollectedLemmas.{Adds-next}
use Rattle.fm_core.proofs.scrape.gather.encode_registry.Goals.{in-Some+in_default-encode_listed, in_default-metric_at}
use Rattle.fm_core.proofs.scrape.gather.encode_registry.Goals as goal

pub enter-requires : goal.enter-requires
enter-requires g c = own_labels c.args.registry.now.facts c.requires.listable (λ none. c.if-metric_count-eq0.false (c.metric_count.ensures ∙ none))

pub encode_listed-requires-clause-listable : goal.encode_listed-requires-clause-listable
encode_listed-requires-clause-listable g c κs within =
    all_at IsListable (own_metrics c.args.registry.now.facts) c.loop-index.index (seen_listed c.in-Some.listed) (sym c.in-Some.ensures) c.requires.listable

pub encode_listed-requires-clause-labels : goal.encode_listed-requires-clause-labels
encode_listed-requires-clause-labels g c κs within =
    c.loop-index.invariant.labels ∙ sym (labels_at c.args.registry.now.facts c.loop-index.index (seen_listed c.in-Some.listed) (sym c.in-Some.ensures))

pub returns-in-Err-encode_listed-clause-stopped : goal.returns-in-Err-encode_listed-clause-stopped
returns-in-Err-encode_listed-clause-stopped g c = elim (rw c.in-Err-encode_listed.is at c.encode_listed.ensures.refused) [
  | inl memory ↦ inl memory
  | inr fault ↦ inr (one-at _ (own_metrics c.args.registry.now.facts) c.loop-index.index (seen_listed c.in-Some.listed) (sym c.in-Some.ensures) (refl, fault))
]

pub loop-index-preserved : goal.loop-index-preserved
loop-index-preserved g c = elim c.match-metric_at.branch [
  | in-Some+in_default-encode_listed w ↦ rw w.encoder-is (record {
    added = Adds-next g.M.EncodeMetric (own_metrics c.args.registry.now.facts) c.loop-index.index (seen_listed w.in-Some.listed) (collected c.args.encoder.now) (collected c.loop-index.encoder) (collected w.encode_listed.new.self)
        (sym w.in-Some.ensures) c.loop-index.invariant.added (on_ok w.encode_listed.result w.in_default-encode_listed.not-Err w.encode_listed.ensures.added);
    labels = w.encode_listed.ensures.labels ∙ c.loop-index.invariant.labels;
    accepting = on_ok w.encode_listed.result w.in_default-encode_listed.not-Err w.encode_listed.ensures.accepting;
  })
  | in_default-metric_at w ↦
      let past : length (own_metrics c.args.registry.now.facts) ≤ c.loop-index.index = none_past seen_listed (own_metrics c.args.registry.now.facts) c.loop-index.index c.metric_at.result c.metric_at.ensures w.in_default-metric_at.not-Some in
      absurd (omega (arith, c.loop-index-test.true, c.metric_count-index-end.ensures, past))
]
