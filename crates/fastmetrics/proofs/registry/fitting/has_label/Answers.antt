use Rattle.std.proofs.Common.{◌≡◌, ℕ, ◌+◌, suc, true, false, map, take, sym, subst, ◌∙◌, arith}
use Rattle.std.specs.Str.{bytes_eq}
use Rattle.std.specs.String.{string_bytes}
use Rattle.fm_grammar.specs.LabelPairs.{labels_of}
use Rattle.fm_registry_rules.specs.Texts.{Text, has_text}
use Rattle.fastmetrics.proofs.ConstantsLemmas.{label_there, no_label_there}
use Rattle.fastmetrics.proofs.registry.fitting.has_label.Goals as goal

pub returns-then-eq : goal.returns-then-eq
returns-then-eq c =
    let name = c.args.name.now in let pair = c.label-item.result in
    let same : bytes_eq (string_bytes pair.0) name ≡ true = subst (λ (t : Text). bytes_eq t name ≡ true) c.as_str.ensures.value (sym c.eq.ensures ∙ c.if-eq.true) in
    sym (label_there c.args.labels.now name c.loop-label.label-index pair (omega arith) c.label-item.is same)

pub loop-label-preserved : goal.loop-label-preserved
loop-label-preserved c =
    let name = c.args.name.now in let pair = c.label-item.result in let i = c.loop-label.label-index in
    let other : bytes_eq (string_bytes pair.0) name ≡ false = subst (λ (t : Text). bytes_eq t name ≡ false) c.as_str.ensures.value (sym c.eq.ensures ∙ c.if-eq.false) in
    let next : suc i ≡ i + 1 = omega arith in
    subst (λ (n : ℕ). has_text (map (λ label. label.name) (labels_of (take n c.args.labels.now))) name ≡ false) next (no_label_there c.args.labels.now name i pair (omega arith) c.label-item.is c.loop-label.invariant other)
