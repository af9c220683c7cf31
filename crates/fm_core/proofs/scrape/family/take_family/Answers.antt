use Rattle.std.proofs.Common.{◌≡◌, None, sym, subst, rules}
use Rattle.fm_writer.specs.Output.{with_lines}
use Rattle.fm_encoder.specs.Offers.{context_at}
use Rattle.fm_core.specs.inside.Offered.{rows_before}
use Rattle.fm_core.proofs.OfferedLemmas.{offered_made}
use Rattle.fm_core.proofs.scrape.family.take_family.Goals as goal

pub returns-clause-taken : goal.returns-clause-taken
returns-clause-taken g c =
    let declared = g.M.EncodeMetric in
    let stamps = declared.stamps c.args.metric.now in
    let stamped = subst stamps (sym c.whole_millis-time.ensures.value) c.timestamp.ensures in
    let told = rw c.in_ok-begin_family.was at c.begin_family.ensures.begun in
    let name = c.args.name.now in
    let metadata = c.args.metadata.now in
    let constants = c.args.encoder.now.context.constants in
    let begun : c.begin_family.new.encoder ≡ record {
      context = context_at name metadata.metric_type constants c.whole_millis-time.result;
      output = with_lines c.args.encoder.now.output (rows_before name metadata);
      refused = None;
    } = search (rules, told) in
    offered_made (declared.offers c.args.metric.now) stamps _ name metadata.metric_type constants c.whole_millis-time.result _ c.begin_family.new.encoder _ _ _ begun stamped c.encode-visited.ensures c.outcome.ensures
