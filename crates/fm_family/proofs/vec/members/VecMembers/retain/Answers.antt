use Rattle.fm_family.specs.Members.{CalledAtMember}
use Rattle.fm_family.proofs.YoungLemmas.{filters_one}
use Rattle.fm_family.proofs.vec.members.VecMembers.retain.Goals as goal

pub returns-clause-retained : goal.returns-clause-retained
returns-clause-retained g c = filters_one (CalledAtMember g.F.FnMut) c.args.keep c.retain_by.new.keep c.args.self.now.entries c.retain_by.new.self.entries c.retain_by.ensures.retained
