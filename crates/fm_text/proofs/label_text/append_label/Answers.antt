use Rattle.std.proofs.Common.{◌-◌, length, ap, refl}
use Rattle.fm_grammar.specs.Exposition.{Text}
use Rattle.fm_text.proofs.AddedLemmas.{label_added}
use Rattle.fm_text.proofs.label_text.append_label.Goals as goal

pub returns-clause-appended : goal.returns-clause-appended
returns-clause-appended c =
    let name = c.as_bytes-name.ensures.value in
    let name_end = length c.as_slice-end.result.now - length c.args.value.now - 2 in
    label_added c.args.text.now c.put_label.new.self c.args.is_first c.args.name.now c.args.value.now _ _ _ _ (rw name at c.in_ok-put_label.ensures.grown) (rw name at c.as_bytes-name.ensures.utf8) c.requires (ap length c.as_slice-end.ensures) refl refl (ap (λ (t : Text). name_end - length t) name)
