use Rattle.std.proofs.Common.{List, subst}
use Rattle.std.proofs.lemmas.Result.{IfErr-weaker}
use Rattle.fm_grammar.proofs.ResultLemmas.{on_ok_more}
use Rattle.fm_registry_rules.specs.Listing.{Listed, listed_tree}
use Rattle.fm_registry_rules.proofs.OrderLemmas.{shown-order, listed_tree-fits}
use Rattle.fm_core.specs.Admits.{Admits, FaultNamed, HasFaultNamed}
use Rattle.fm_core.proofs.CollectLemmas.{names_differ}
use Rattle.fm_core.proofs.CollectedLemmas.{exposition_of}
use Rattle.fm_core.proofs.StopLemmas.{StopsAt-wider}
use Rattle.fm_core.proofs.scrape.gather.gather.Goals as goal

pub encode_tree-requires-clause-listable : goal.encode_tree-requires-clause-listable
encode_tree-requires-clause-listable g c κs within = listed_tree-fits c.args.registry.now c.requires.history.history c.requires.history.reads

pub returns-clause-gathered : goal.returns-clause-gathered
returns-clause-gathered g c =
    let tree = c.args.registry.now in
    let history = c.requires.history in
    let names = names_differ tree history.history (listed_tree tree) history.reads (shown-order tree history.history history.history history.reads history.reads.shows) in
    on_ok_more c.encode_tree.result _ _ (λ added. (
      added.0,
      (λ b shows. subst (λ (ls : List (Listed _)). Admits g.M.EncodeMetric ls added.0) (shown-order tree history.history b history.reads shows) added.1),
      exposition_of g.M.EncodeMetric (listed_tree tree) added.0 added.1 added.2 names,
      added.3,
    )) c.encode_tree.ensures.added

pub returns-clause-stopped : goal.returns-clause-stopped
returns-clause-stopped g c =
    let tree = c.args.registry.now in
    let history = c.requires.history in
    IfErr-weaker c.encode_tree.result _ _ (λ stop stops. StopsAt-wider (λ name k. FaultNamed g.M.EncodeMetric name k (listed_tree tree)) (λ name k. HasFaultNamed g.M.EncodeMetric name k tree) stop
    (λ name k fault b shows. subst (λ (ls : List (Listed _)). FaultNamed g.M.EncodeMetric name k ls) (shown-order tree history.history b history.reads shows) fault)
    stops) c.encode_tree.ensures.stopped
