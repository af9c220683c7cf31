use Rattle.std.proofs.Common.{◌++◌, sym, ap, ◌∙◌}
use Rattle.fm_labels.specs.LabelValues.{shown_texts, values_eq}
use Rattle.fm_family.proofs.YoungLemmas.{removes_there, removes_beyond}
use Rattle.fm_family.proofs.vec.members.VecMembers.remove_of_both.Goals as goal

pub returns-then-remove : goal.returns-then-remove
returns-then-remove g c =
    let core = c.args.self.now in let young = c.keep_beside.new.self in
    record {
      old = record core { entries = core.entries ++ young.entries };
      new = record core { entries = c.remove.new.self.entries ++ young.entries };
      sound = c.keep_beside.ensures.members;
      is_done = rw (c.if-remove.true, ap (λ v. v.entries) c.remove.ensures.removed) (removes_there (values_eq (shown_texts c.args.values.now)) core.entries young.entries (sym c.if-remove.true ∙ c.remove.ensures.found));
    }

pub returns-else-remove : goal.returns-else-remove
returns-else-remove g c =
    let core = c.args.self.now in let young = c.keep_beside.new.self in
    record {
      old = record core { entries = core.entries ++ young.entries };
      new = record core { entries = c.remove.new.self.entries ++ c.remove-else-remove.new.self.entries };
      sound = c.keep_beside.ensures.members;
      is_done = rw (ap (λ v. v.entries) c.remove.ensures.removed, ap (λ v. v.entries) c.remove-else-remove.ensures.removed) (removes_beyond (values_eq (shown_texts c.args.values.now)) core.entries young.entries c.remove-else-remove.result (sym c.if-remove.false ∙ c.remove.ensures.found) c.remove-else-remove.ensures.found);
    }
