use Rattle.std.proofs.Common.{◌≡◌, ◌++◌, codes, ap, refl, ◌∙◌, append_assoc}
use Rattle.fm_grammar.specs.Exposition.{Text}
use Rattle.fm_grammar.specs.Spelling.{label_list_text}
use Rattle.fm_grammar.proofs.ResultLemmas.{on_ok_more}
use Rattle.fm_text.proofs.label_text.LabelText.append_named_row.Goals as goal

pieces_are : (old name suffix list end : Text) → ((old ++ (name ++ (suffix ++ codes "{"))) ++ list) ++ end ≡ old ++ (name ++ (suffix ++ (codes "{" ++ (list ++ end))))
pieces_are old name suffix list end = simp append_assoc

pub returns-then-not-self : goal.returns-then-not-self
returns-then-not-self c =
    let list = label_list_text c.args.self.now.labels in
    let end = codes "} " ++ (c.args.value.now ++ codes "\n") in
    let listed = (rw (c.at.ensures.labels) at c.in_ok-append_labels_at.ensures).grows c.put_three.new.self refl in
    on_ok_more c.put_three-then-not-self.result _ _ (λ grown. record {
      bytes = grown.bytes ∙ ap (λ (t : Text). t ++ end) (listed ∙ ap (λ (t : Text). t ++ list) c.in_ok-put_three.ensures.grown.bytes) ∙ pieces_are c.args.text.now c.args.name.now c.args.suffix.now list end;
    }) c.put_three-then-not-self.ensures.grown
