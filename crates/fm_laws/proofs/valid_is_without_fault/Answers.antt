use Rattle.std.proofs.Common.{List, ◌⊎◌, inl, inr}
use Rattle.fm_grammar.specs.Names.{IsSnakeCase}
use Rattle.fm_grammar.proofs.Runs.{all_weaker}
use Rattle.fm_encoder.specs.Points.{Context, Member, MembersValid, MembersFault}
use Rattle.fm_laws.specs.Ranges.{PointNumbersFit, NumbersFit}
use Rattle.fm_encoder.proofs.ValidLemmas.{members_valid}
use Rattle.fm_laws.proofs.FaultLemmas.{SomeFault, MemberForms, members_or_fault}
use Rattle.fm_laws.proofs.FormedLemmas.{member_forms}
use Rattle.fm_laws.proofs.valid_is_without_fault.Goals as goal

either : (context : Context) (members : List Member) → IsSnakeCase context.setting.name → NumbersFit context members → MembersValid context members ⊎ SomeFault (λ k. MembersFault k context members)
either context members name fit = members_or_fault context members (all_weaker (λ member. PointNumbersFit member.point) (MemberForms context) (member_forms context name fit.time) members fit.points)

pub returns-clause-faultless : goal.returns-clause-faultless
returns-clause-faultless c context members valid k fault = members_valid k context members valid fault

pub returns-clause-exact : goal.returns-clause-exact
returns-clause-exact c context members name fit = (
  λ valid k fault. members_valid k context members valid fault,
  λ none. elim (either context members name fit) [ inl valid ↦ valid | inr (k, fault) ↦ absurd (none k fault) ],
)

pub returns-clause-either : goal.returns-clause-either
returns-clause-either c = either
