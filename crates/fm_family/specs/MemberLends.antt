-- What a list of members is once a reference into it has ended.
use Rattle.std.specs.Prelude.{Result, ⊤}
use Rattle.std.specs.Borrow.{Fml, RattleType, Bor, MutBor, follows_so}
use Rattle.std.specs.HashMap.Lent.{HashMembers}
use Rattle.std.specs.declared.hash.Hasher as hasher
use Rattle.std.specs.declared.hash.BuildHasher as builder
use mathlib.Core.Option.{none}
use Rattle.fm_raw.specs.declared.error.MetricError.{MetricError}
use Rattle.fm_labels.specs.declared.label_set.EncodeLabelSet as set
use Rattle.fm_family.specs.Members.{GetsOrAdds, ShowsMetric}
use Rattle.indexmap.specs.IndexMap.{IndexMap}
use Rattle.fm_family.specs.contracts.members.FamilyCore.{the_row}

module _ (L M S H : RattleType) (set : set.Ghosts L.Denot) (key : HashMembers L.Denot) (build : builder.Ghosts S.Denot H.Denot) (hash : hasher.Ghosts H.Denot) where
  -- the list's type in the logic
  abbrev pub core_row : RattleType
  core_row = the_row L M S H set (record { eq = key.eq }) (record { hash_input = key.hash_input }) build hash

  -- it is as `GetsOrAdds` says
  abbrev pub ends_with_member : MutBor (IndexMap L.Denot M.Denot S.Denot) → L.Denot → (L.Denot → L.Denot → Type 0) → (Result M.Denot MetricError → Type 0) → Result (Bor M.Denot) MetricError → Fml
  ends_with_member core labels is_clone promises answer = follows_so core_row core_row core.ghost_name none (λ _ _. ⊤)
      (λ n. GetsOrAdds is_clone key.eq promises labels core.now.entries n.entries ShowsMetric answer)
