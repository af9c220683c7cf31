-- The reply to a registration, by the tests of its name and its unit, and then by what is in the registry.
use Rattle.std.proofs.Common.{◌≡◌, [], Option, None, Some, String, Global, sym, subst, inr}
use Rattle.std.specs.Option.{option_map}
use Rattle.std.specs.String.{string_bytes}
use Rattle.fm_grammar.specs.declared.MetricType.{MetricType}
use Rattle.fm_raw.specs.Units.{seen_unit}
use Rattle.fm_raw.specs.declared.metadata.Metadata.{Metadata}
use Rattle.fm_raw.specs.declared.metadata.Unit as unit
use Rattle.fm_registry_rules.specs.Registration.{Registration}
use Rattle.fm_registry_rules.specs.History.{History, Register}
use Rattle.fm_registry_rules.specs.Tree.{Tree, Reads, names_in}
use Rattle.fm_registry_rules.specs.Answer.{Refusal, IsReturned, metric_refusal, answer}
use Rattle.fm_registry_rules.specs.inside.Refusals.{name_refusal, standing_refusal}
use Rattle.fm_registry_rules.proofs.AnswerLemmas.{metric_refusal-named, metric_refusal-refused}
use Rattle.fm_registry_rules.proofs.TreeLemmas.{reads_root}
use Rattle.fm_core.specs.View.{asked, seen_metric}

module _ {M : Type 0} (t : Tree M) where
  module _ (name help : String Global) (type : MetricType) (u : Option unit.Unit) (x : M) where
    -- the name and the unit pass
    pub asked-named : (d : Metadata) (got : Option Refusal) → None ≡ name_refusal (string_bytes name) type (option_map seen_unit u) → d ≡ asked name help type u
        → IsReturned got (standing_refusal t.facts.metrics (names_in t.children) (seen_metric d x)) → IsReturned got (metric_refusal t.facts.metrics (names_in t.children) (seen_metric (asked name help type u) x))
    asked-named d got passes is said =
        subst (λ o. IsReturned got o) (sym (metric_refusal-named t.facts.metrics (names_in t.children) (seen_metric (asked name help type u) x) passes))
        (subst (λ e. IsReturned got (standing_refusal t.facts.metrics (names_in t.children) (seen_metric e x))) is said)

    -- they are refused
    pub asked-refused : (why : Refusal) → Some why ≡ name_refusal (string_bytes name) type (option_map seen_unit u) → IsReturned (Some why) (metric_refusal t.facts.metrics (names_in t.children) (seen_metric (asked name help type u) x))
    asked-refused why refused = inr (sym (metric_refusal-refused t.facts.metrics (names_in t.children) (seen_metric (asked name help type u) x) why refused))

  -- the reply is that of each history that the registry reads
  pub asked-returned : (r : Registration M) (got : Option Refusal) → IsReturned got (metric_refusal t.facts.metrics (names_in t.children) r) → (b : History M) → Reads t b → IsReturned got (answer b (Register [] r))
  asked-returned r got said b reads = subst (λ o. IsReturned got o) (λ i. metric_refusal ((reads_root t b reads).metrics i) ((reads_root t b reads).children i) r) said
