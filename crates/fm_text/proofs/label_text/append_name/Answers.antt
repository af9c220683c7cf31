use Rattle.fm_text.proofs.LabelTextLemmas.{part_of_listed_name}
use Rattle.std.proofs.Common.{◌-◌, length, ap}
use Rattle.fm_grammar.specs.Exposition.{Text}
use Rattle.fm_text.proofs.label_text.append_name.Goals as goal

pub returns-clause-part : goal.returns-clause-part
returns-clause-part c =
    part_of_listed_name _ c.append_listed_name.new.text c.args.is_first c.args.name.now _ _ c.in_ok-append_listed_name.ensures.grown (rw c.as_bytes.ensures.value at c.as_bytes.ensures.utf8) (ap (λ (t : Text). length t - 2) c.as_slice.ensures) (ap (λ (t : Text). length c.as_slice.result.now - 2 - length t) c.as_bytes.ensures.value)
