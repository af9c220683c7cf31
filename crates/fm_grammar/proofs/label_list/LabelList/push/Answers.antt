use Rattle.std.proofs.Common.{rules, ◌≡◌, List, ◌++◌, ◌∷◌, [], ◌∙◌, length, string_bytes, ap}
use Rattle.fm_grammar.specs.Exposition.{Text, Label}
use Rattle.fm_grammar.specs.inside.LabelLists.{labels_in}
use Rattle.fm_grammar.proofs.LabelListLemmas.{all_grown, labels_grown, all_pushed, labels_pushed}
use Rattle.fm_grammar.proofs.ResultLemmas.{on_err}
use Rattle.fm_grammar.proofs.label_list.LabelList.push.Goals as goal

pub invariant_of-self-in_err-push_str-2 : goal.invariant_of-self-in_err-push_str-2
invariant_of-self-in_err-push_str-2 c =
    let named : string_bytes c.push_str-2.new.self ≡ string_bytes c.self.inside.text ++ c.args.name.now = search rules in
    rw named (all_grown _ _ _ c.utf8.name c.self.invariant)

pub returns-in_err-push_str-2-clause-kept : goal.returns-in_err-push_str-2-clause-kept
returns-in_err-push_str-2-clause-kept c =
    let named : string_bytes c.push_str-2.new.self ≡ string_bytes c.self.inside.text ++ c.args.name.now = search rules in
    on_err _ _ (ap (λ (t : Text). labels_in t c.self.inside.bounds.items) named ∙ (labels_grown _ _ _ c.self.invariant ∙ c.self.view_is))

pub invariant_of-self-in_err-push : goal.invariant_of-self-in_err-push
invariant_of-self-in_err-push c =
    let all : string_bytes c.push_str-2.new.self ≡ (string_bytes c.self.inside.text ++ c.args.name.now) ++ c.args.value.now = search rules in
    let same : c.push.new.self.items ≡ c.self.inside.bounds.items = search rules in
    rw (all, same) (all_grown _ _ _ c.utf8.value (all_grown _ _ _ c.utf8.name c.self.invariant))

pub returns-in_err-push-clause-kept : goal.returns-in_err-push-clause-kept
returns-in_err-push-clause-kept c =
    let all : string_bytes c.push_str-2.new.self ≡ (string_bytes c.self.inside.text ++ c.args.name.now) ++ c.args.value.now = search rules in
    let same : c.push.new.self.items ≡ c.self.inside.bounds.items = search rules in
    let before = labels_grown _ _ _ (all_grown _ _ _ c.utf8.name c.self.invariant) ∙ (labels_grown _ _ _ c.self.invariant ∙ c.self.view_is) in
    on_err _ _ (ap (λ (t : Text). labels_in t c.push.new.self.items) all ∙ (ap (labels_in _) same ∙ before))

pub invariant_of-self-2 : goal.invariant_of-self-2
invariant_of-self-2 c =
    let text = string_bytes c.self.inside.text in
    let all : string_bytes c.push_str-2.new.self ≡ (text ++ c.args.name.now) ++ c.args.value.now = search rules in
    let start : c.len-start.result ≡ length text = search rules in
    let name_end : c.len-name_end.result ≡ length (text ++ c.args.name.now) = search rules in
    let end : c.len-end.result ≡ length ((text ++ c.args.name.now) ++ c.args.value.now) = search rules in
    let more : c.push.new.self.items ≡ c.self.inside.bounds.items ++ record { start = c.len-start.result; name_end = c.len-name_end.result; end = c.len-end.result } ∷ [] = search rules in
    rw (all, more, start, name_end, end) (all_pushed text c.args.name.now c.args.value.now c.self.inside.bounds.items c.utf8.name c.utf8.value c.self.invariant)

pub returns-clause-pushed : goal.returns-clause-pushed
returns-clause-pushed c =
    let text = string_bytes c.self.inside.text in
    let all : string_bytes c.push_str-2.new.self ≡ (text ++ c.args.name.now) ++ c.args.value.now = search rules in
    let start : c.len-start.result ≡ length text = search rules in
    let name_end : c.len-name_end.result ≡ length (text ++ c.args.name.now) = search rules in
    let end : c.len-end.result ≡ length ((text ++ c.args.name.now) ++ c.args.value.now) = search rules in
    let more : c.push.new.self.items ≡ c.self.inside.bounds.items ++ record { start = c.len-start.result; name_end = c.len-name_end.result; end = c.len-end.result } ∷ [] = search rules in
    rw (all, more, start, name_end, end) (labels_pushed text c.args.name.now c.args.value.now c.self.inside.bounds.items c.utf8.name c.self.invariant ∙ ap (λ (ls : List Label). ls ++ record { name = c.args.name.now; value = c.args.value.now } ∷ []) c.self.view_is)
