use Rattle.std.proofs.Common.{◌++◌}
use Rattle.fm_family.specs.Members.{CalledAtMember}
use Rattle.fm_family.proofs.YoungLemmas.{filters_both}
use Rattle.fm_family.proofs.vec.members.VecMembers.retain_both.Goals as goal

pub returns : goal.returns
returns g c =
    let core = c.args.self.now in let young = c.keep_beside.new.self in
    let kept = c.retain_by.new.self.entries in let more = c.retain_by-2.new.self.entries in
    record {
      old = record core { entries = core.entries ++ young.entries };
      new = record core { entries = kept ++ more };
      sound = c.keep_beside.ensures.members;
      is_done = filters_both (CalledAtMember g.F.FnMut) c.args.keep c.retain_by.new.keep c.retain_by-2.new.keep core.entries young.entries kept more c.retain_by.ensures.retained c.retain_by-2.ensures.retained;
    }
