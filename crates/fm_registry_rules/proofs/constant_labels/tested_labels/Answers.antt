use Rattle.std.proofs.Common.{◌≡◌, ◌∙◌, ◌<◌, Some, sym, not, refl, length, arith}
use Rattle.std.specs.List.{position_from}
use Rattle.std.proofs.lemmas.Option.{slice_get_read}
use Rattle.fm_grammar.specs.LabelPairs.{label_of}
use Rattle.fm_grammar.specs.NameTests.{is_label_name}
use Rattle.fm_registry_rules.proofs.LabelLemmas.{all_good, bad_at, index_within}
use Rattle.fm_registry_rules.proofs.constant_labels.tested_labels.Goals as goal

pub swap_remove-name-requires : goal.swap_remove-name-requires
swap_remove-name-requires c =
    let at : position_from (λ x. not (is_label_name (label_of x).name)) 0 c.args.labels.items ≡ Some c.in-Some.index =
    (λ i. position_from (λ x. not (is_label_name (label_of x).name)) 0 (sym c.deref.ensures.value i)) ∙ sym c.bad_index.ensures ∙ c.in-Some.is in
    omega (arith, index_within (λ x. not (is_label_name (label_of x).name)) c.args.labels.items 0 c.in-Some.index at)

pub returns-in-None-clause-answer : goal.returns-in-None-clause-answer
returns-in-None-clause-answer c =
    sym (all_good label_of c.args.labels.items 0 ((λ i. position_from (λ x. not (is_label_name (label_of x).name)) 0 (sym c.deref.ensures.value i)) ∙ sym c.bad_index.ensures ∙ c.in-None.is))

pub returns-in-Some-clause-answer : goal.returns-in-Some-clause-answer
returns-in-Some-clause-answer c =
    let at : position_from (λ x. not (is_label_name (label_of x).name)) 0 c.args.labels.items ≡ Some c.in-Some.index =
    (λ i. position_from (λ x. not (is_label_name (label_of x).name)) 0 (sym c.deref.ensures.value i)) ∙ sym c.bad_index.ensures ∙ c.in-Some.is in
    let within : c.in-Some.index < length c.args.labels.items = omega (arith, index_within (λ x. not (is_label_name (label_of x).name)) c.args.labels.items 0 c.in-Some.index at) in
    sym (bad_at label_of c.args.labels.items c.in-Some.index c.swap_remove-name.result at (slice_get_read c.args.labels.items (length c.args.labels.items) c.in-Some.index c.swap_remove-name.result refl within c.swap_remove-name.ensures.value))
