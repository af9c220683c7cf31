use Rattle.std.proofs.Common.{◌≡◌, ◌≢◌, ◌<◌, ◌++◌, List, Option, None, Some, refl, length, take, arith, sym, ap, subst, ◌∙◌, append-nil}
use Rattle.std.specs.List.{AllByRecursion}
use Rattle.std.proofs.lemmas.List.{take_all}
use Rattle.std.proofs.lemmas.Result.{err_from_is_err_and}
use Rattle.fm_registry_rules.specs.Lists.{items_of}
use Rattle.fm_registry_rules.specs.Tree.{Forest}
use Rattle.fm_registry_rules.specs.Listing.{Listed, own_metrics, listed_forest, listed_tree, listed_name, IsListable}
use Rattle.fm_core.specs.Admits.{FaultOf, FaultNamed}
use Rattle.fm_core.specs.inside.TreeView.{forest_of}
use Rattle.fm_core.specs.inside.Collected.{collected, Adds}
use Rattle.fm_core.proofs.CollectLemmas.{all_left, one-left, one-below, IsListable-below}
use Rattle.fm_core.proofs.CollectedLemmas.{Adds-below}
use Rattle.fm_core.proofs.StopLemmas.{StopsAt-wider}
use Rattle.fm_core.proofs.scrape.gather.+encode_tree.Goals.{in-Some+else-loop-subsystem-test, in_default}
use Rattle.fm_core.proofs.scrape.gather.+encode_tree.Goals as goal

none_default : {A : Type 0} (o : Option A) → ((x : A) → o ≢ Some x) → o ≡ None
none_default None none = refl
none_default (Some x) none = absurd (none x refl)

pub encode_registry-requires-clause-listable : goal.encode_registry-requires-clause-listable
encode_registry-requires-clause-listable g t c κs within =
    all_left IsListable (own_metrics c.args.registry.now.facts) (listed_forest c.args.registry.now.children) c.requires.listable

pub returns-in_err-encode_registry-clause-stopped : goal.returns-in_err-encode_registry-clause-stopped
returns-in_err-encode_registry-clause-stopped g t c =
    let exit = err_from_is_err_and c.from_residual.result c.from_residual.ensures.1 in
    let tree = c.args.registry.now in
    let own = own_metrics tree.facts in
    rw (exit.1, exit.2) (StopsAt-wider (λ name k. FaultNamed g.M.EncodeMetric name k own) (λ name k. FaultNamed g.M.EncodeMetric name k (listed_tree tree)) c.in_err-encode_registry.field-0.0
    (λ name k fault. one-left (λ l. (name ≡ listed_name l) × FaultOf g.M.EncodeMetric k l) own (listed_forest tree.children) fault)
    (rw c.in_err-encode_registry.was at c.encode_registry.ensures.stopped))

pub encode_tree-requires-clause-listable : goal.encode_tree-requires-clause-listable
encode_tree-requires-clause-listable g t c κs r =
    let items = c.deref-subsystem-items.result.now in
    let within : c.loop-subsystem.subsystem-index < length items = omega arith in
    let children = ap forest_of c.deref-subsystem-items.ensures.value ∙ ap (λ o. forest_of (items_of o)) (sym c.in-Some.is) ∙ ap (λ t. t.children) c.registry.view_is in
    let own = own_metrics c.args.registry.now.facts in
    IsListable-below own items c.loop-subsystem.subsystem-index c.subsystem-item.result within c.subsystem-item.is
    (subst (λ (f : Forest _). AllByRecursion IsListable (own ++ listed_forest f)) (sym children) c.requires.listable)

pub returns-in_err-encode_tree-clause-stopped : goal.returns-in_err-encode_tree-clause-stopped
returns-in_err-encode_tree-clause-stopped g t c =
    let items = c.deref-subsystem-items.result.now in
    let within : c.loop-subsystem.subsystem-index < length items = omega arith in
    let children = ap forest_of c.deref-subsystem-items.ensures.value ∙ ap (λ o. forest_of (items_of o)) (sym c.in-Some.is) ∙ ap (λ t. t.children) c.registry.view_is in
    let exit = err_from_is_err_and c.from_residual-in_err-encode_tree.result c.from_residual-in_err-encode_tree.ensures.1 in
    let own = own_metrics c.args.registry.now.facts in
    let below = listed_tree c.subsystem-item.result.registry in
    rw (exit.1, exit.2) (StopsAt-wider (λ name k. FaultNamed g.M.EncodeMetric name k below) (λ name k. FaultNamed g.M.EncodeMetric name k (listed_tree c.args.registry.now)) c.in_err-encode_tree.field-0.0
    (λ name k fault. subst (λ (f : Forest _). FaultNamed g.M.EncodeMetric name k (own ++ listed_forest f)) children
    (one-below (λ l. (name ≡ listed_name l) × FaultOf g.M.EncodeMetric k l) own items c.loop-subsystem.subsystem-index c.subsystem-item.result within c.subsystem-item.is fault))
    (rw c.in_err-encode_tree.was at c.encode_tree.ensures.stopped))

pub loop-subsystem-preserved : goal.loop-subsystem-preserved
loop-subsystem-preserved g t c =
    let items = c.deref-subsystem-items.result.now in
    let within : c.loop-subsystem.subsystem-index < length items = omega arith in
    record {
      added = Adds-below g.M.EncodeMetric (own_metrics c.args.registry.now.facts) items c.loop-subsystem.subsystem-index c.subsystem-item.result
          (collected c.args.encoder.now) (collected c.loop-subsystem.encoder) (collected c.encode_tree.new.encoder) within c.subsystem-item.is
          c.loop-subsystem.invariant.added (rw c.in_ok-encode_tree.was at c.encode_tree.ensures.added);
      accepting = rw c.in_ok-encode_tree.was at c.encode_tree.ensures.accepting;
    }

pub returns-clause-added : goal.returns-clause-added
returns-clause-added g t c =
    let own = own_metrics c.args.registry.now.facts in
    let start = collected c.args.encoder.now in
    elim c.match-registry.branch [
      | in-Some+else-loop-subsystem-test w ↦
          let items = w.deref-subsystem-items.result.now in
          let all = take_all w.loop-subsystem.subsystem-index items w.loop-subsystem-test.false in
          let children = ap forest_of w.deref-subsystem-items.ensures.value ∙ ap (λ o. forest_of (items_of o)) (sym w.in-Some.is) ∙ ap (λ t. t.children) c.registry.view_is in
          rw w.encoder-is (subst (λ (f : Forest _). Adds g.M.EncodeMetric (own ++ listed_forest f) start (collected w.loop-subsystem.encoder)) (ap forest_of all ∙ children) w.loop-subsystem.invariant.added)
      | in_default w ↦
          let none = none_default c.registry.inside.subsystems w.in_default.not-Some in
          let children = ap (λ o. forest_of (items_of o)) (sym none) ∙ ap (λ t. t.children) c.registry.view_is in
          let added = rw c.in_ok-encode_registry.was at c.encode_registry.ensures.added in
          let there = collected c.encode_registry.new.encoder in
          rw w.encoder-is (subst (λ (f : Forest _). Adds g.M.EncodeMetric (own ++ listed_forest f) start there) children
          (subst (λ (ms : List (Listed _)). Adds g.M.EncodeMetric ms start there) (sym (append-nil own)) added))
    ]
