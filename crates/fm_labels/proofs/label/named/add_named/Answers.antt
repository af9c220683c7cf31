use Rattle.std.proofs.Common.{◌≡◌, ◌<◌, ◌++◌, ◌∷◌, [], List, map, take, drop, get_or, length, arith, refl, sym, ap, ◌∙◌, append-nil, append_assoc, drop_of_length-le}
use Rattle.std.proofs.lemmas.List.{length-map}
use Rattle.std.proofs.lemmas.Bool.Decides.{nat_tests}
use Rattle.std.proofs.Math.ListN.{get_or-map}
use Rattle.std.specs.Str.{IsUtf8}
use Rattle.std.specs.String.{string_bytes}
use Rattle.fm_grammar.specs.Exposition.{Text, Label}
use Rattle.fm_grammar.specs.LabelPairs.{labels_with}
use Rattle.fm_labels.specs.LabelValues.{joined}
use Rattle.fm_labels.proofs.LabelValueLemmas.{only_value, joined_rest, next_left, text_left}
use Rattle.fm_labels.proofs.NamedLemmas.{labels_with-more, labels_with-values_end, labels_with-names_end}
use Rattle.fm_labels.proofs.label.named.add_named.Goals as goal

pub loop-i-init : goal.loop-i-init
loop-i-init c = record { name = c.requires.idle.0; value = c.requires.idle.1; rest = c.as_bytes-rest.ensures.values; joined = ap joined c.as_bytes-rest.ensures.values ∙ sym c.as_bytes-rest.ensures.joined; added = sym (append-nil _) }

pub next_value-requires : goal.next_value-requires
next_value-requires c last = only_value c.args.values.now c.loop-i.rest.now c.loop-i.i (grind (arith, nat_tests, c.requires.count, last)) c.loop-i.invariant.rest c.loop-i.invariant.joined

pub returns-in_default-clause-idle : goal.returns-in_default-clause-idle
returns-in_default-clause-idle c = (c.loop-i.invariant.name, c.loop-i.invariant.value)

pub returns-in_default-clause-added : goal.returns-in_default-clause-added
returns-in_default-clause-added c =
    let ns = map string_bytes c.args.names.now in
    c.loop-i.invariant.added ∙ ap (λ ls. c.args.labels.now.labels ++ ls) (sym (labels_with-values_end ns c.args.values.now c.loop-i.i (sym c.loop-i.invariant.rest ∙ c.in_default.ensures)))

pub add-requires-clause-idle : goal.add-requires-clause-idle
add-requires-clause-idle c = (c.loop-i.invariant.name, c.loop-i.invariant.value)

pub add-requires-clause-text : goal.add-requires-clause-text
add-requires-clause-text c = text_left IsUtf8 c.args.values.now _ c.loop-i.i _ c.as_bytes-rest.ensures.texts (sym c.loop-i.invariant.rest ∙ c.in-Some.ensures.1)

pub returns-in_err-add-clause-idle : goal.returns-in_err-add-clause-idle
returns-in_err-add-clause-idle c = (ap (λ s. s.name) c.in_err-add.ensures.kept ∙ c.loop-i.invariant.name, ap (λ s. s.value) c.in_err-add.ensures.kept ∙ c.loop-i.invariant.value)

pub loop-i-preserved : goal.loop-i-preserved
loop-i-preserved c =
    let ns = map string_bytes c.args.names.now in let vs = c.args.values.now in let i = c.loop-i.i in
    let next = sym c.loop-i.invariant.rest ∙ c.in-Some.ensures.1 in
    let within : i < length ns = simp length-map (omega arith) in
    let name = c.as_str.ensures.value ∙ ap string_bytes c.index-names-i.is ∙ sym (get_or-map string_bytes c.args.names.now i c.index-names-i.result) in
    let more = labels_with-more ns vs _ i c.in-Some.value.now (string_bytes c.index-names-i.result) within next in
    let label : Text → Label = λ n. record { name = n; value = c.in-Some.value.now } in
    let added = c.in_ok-add.ensures.added in
    record {
      name = ap (λ s. s.name) added ∙ c.loop-i.invariant.name;
      value = ap (λ s. s.value) added ∙ c.loop-i.invariant.value;
      rest = sym (next_left vs _ i _ next);
      joined = joined_rest c.loop-i.rest.now c.in-Some.value.now c.in-Some.after.now c.in-Some.ensures.0 c.in-Some.ensures.1 c.loop-i.invariant.joined;
      added = ap (λ s. s.labels) added ∙ (λ j. c.loop-i.invariant.added j ++ label (name j) ∷ []) ∙ append_assoc c.args.labels.now.labels (labels_with (take i ns) (take i vs)) _ ∙ ap (λ ls. c.args.labels.now.labels ++ ls) (sym more);
    }

pub returns-clause-idle : goal.returns-clause-idle
returns-clause-idle c = (c.loop-i.invariant.name, c.loop-i.invariant.value)

pub returns-clause-added : goal.returns-clause-added
returns-clause-added c =
    let ns = map string_bytes c.args.names.now in
    let none : drop c.loop-i.i ns ≡ [] = drop_of_length-le ns (simp length-map (omega arith)) in
    c.loop-i.invariant.added ∙ ap (λ ls. c.args.labels.now.labels ++ ls) (sym (labels_with-names_end ns c.args.values.now c.loop-i.i none))
