use Rattle.std.proofs.Common.{◌≡◌, ℕ, suc, ◌+◌, take, None, Some, true, false, refl, sym, ap, ◌∙◌, subst, arith, inr}
use Rattle.std.specs.String.{string_bytes}
use Rattle.fm_registry_rules.specs.Texts.{Text, has_text}
use Rattle.fm_registry_rules.specs.Answer.{DuplicateLabel}
use Rattle.fm_grammar.specs.LabelPairs.{labels_of}
use Rattle.fastmetrics.specs.Roots.{constants_refusal}
use Rattle.fastmetrics.proofs.ConstantsLemmas.{refused_there, none_there}
use Rattle.fastmetrics.proofs.registry.fitting.test_constants.Goals as goal

pub returns-then-has : goal.returns-then-has
returns-then-has c =
    let names = c.args.names.now in let pair = c.label-item.result in
    let there : has_text names (string_bytes pair.0) ≡ true = subst (λ (t : Text). has_text names t ≡ true) c.as_str.ensures.value (sym c.has.ensures ∙ c.if-has.true) in
    let refused = refused_there c.args.labels.now names c.loop-label.label-index pair (omega arith) c.label-item.is c.loop-label.invariant there in
    inr (sym (refused ∙ ap (λ t. Some (DuplicateLabel t)) (sym (c.in_ok-name.ensures.ok ∙ c.as_str-then-has.ensures.value))))

pub loop-label-preserved : goal.loop-label-preserved
loop-label-preserved c =
    let names = c.args.names.now in let pair = c.label-item.result in
    let gone : has_text names (string_bytes pair.0) ≡ false = subst (λ (t : Text). has_text names t ≡ false) c.as_str.ensures.value (sym c.has.ensures ∙ c.if-has.false) in
    let i = c.loop-label.label-index in
    let next : suc i ≡ i + 1 = omega arith in
    subst (λ (n : ℕ). constants_refusal (labels_of (take n c.args.labels.now)) names ≡ None) next (none_there c.args.labels.now names i pair (omega arith) c.label-item.is c.loop-label.invariant gone)
