use Rattle.std.proofs.Common.{◌≡◌, ◌∙◌, None, Some, ap, sym, arith}
use Rattle.std.specs.List.{position_from}
use Rattle.std.specs.Str.{bytes_eq}
use Rattle.std.specs.String.{string_bytes}
use Rattle.fm_grammar.specs.LabelPairs.{label_of, labels_of}
use Rattle.fm_registry_rules.proofs.LabelLemmas.{set_label-there, set_label-absent, index_within}
use Rattle.fm_registry_rules.proofs.constant_labels.set_label.Goals.{in-Ok, in-Err}
use Rattle.fm_registry_rules.proofs.constant_labels.set_label.Goals as goal

pub index_mut-requires : goal.index_mut-requires
index_mut-requires c =
    let at : position_from (λ x. bytes_eq (label_of x).name (string_bytes c.args.label.0)) 0 c.args.labels.now.items ≡ Some c.in-Some.index =
    (λ i. position_from (λ x. bytes_eq (label_of x).name (sym c.as_str.ensures.value i)) 0 (sym c.deref.ensures.value i)) ∙ sym c.index_of_label.ensures ∙ c.in-Some.is in
    omega (arith, index_within (λ x. bytes_eq (label_of x).name (string_bytes c.args.label.0)) c.args.labels.now.items 0 c.in-Some.index at)

pub returns-in-Some : goal.returns-in-Some
returns-in-Some c =
    let at : position_from (λ x. bytes_eq (label_of x).name (string_bytes c.args.label.0)) 0 c.args.labels.now.items ≡ Some c.in-Some.index =
    (λ i. position_from (λ x. bytes_eq (label_of x).name (sym c.as_str.ensures.value i)) 0 (sym c.deref.ensures.value i)) ∙ sym c.index_of_label.ensures ∙ c.in-Some.is in
    sym (set_label-there label_of c.args.labels.now.items c.args.label c.in-Some.index at)

pub returns-after-push : goal.returns-after-push
returns-after-push c =
    let none : position_from (λ x. bytes_eq (label_of x).name (string_bytes c.args.label.0)) 0 c.args.labels.now.items ≡ None =
    (λ i. position_from (λ x. bytes_eq (label_of x).name (sym c.as_str.ensures.value i)) 0 (sym c.deref.ensures.value i)) ∙ sym c.index_of_label.ensures ∙ c.in-None.is in
    elim c.match-push.branch [
      | in-Ok w ↦ rw w.result-is (ap labels_of w.in-Ok.ensures.items ∙ sym (set_label-absent label_of c.args.labels.now.items c.args.label 0 none))
      | in-Err w ↦ rw w.result-is tt
    ]
