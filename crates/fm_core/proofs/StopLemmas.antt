-- Where a scrape stops.
use Rattle.std.proofs.Common.{◌≡◌, [], Option, None, Some, MatchOption, ◌⊎◌, inl, inr}
use Rattle.fm_grammar.specs.Exposition.{Text}
use Rattle.fm_raw.specs.declared.encode_error.EncodeError.{EncodeError}
use Rattle.fm_raw.specs.declared.encode_error.EncodeError.TheVariants.{Memory}
use Rattle.fm_exposition.specs.Written.{IsWritersFault}
use Rattle.fm_registry_rules.specs.Tree.{Tree}
use Rattle.fm_registry_rules.specs.Listing.{order, listed_name}
use Rattle.fm_encoder.specs.declared.metric.EncodeMetric.{Ghosts}
use Rattle.fm_core.specs.Seen.{seen_listed}
use Rattle.fm_core.specs.HasHistory.{HasHistory}
use Rattle.fm_core.specs.Admits.{FaultOf, HasFault, HasFaultNamed}
use Rattle.fm_core.specs.declared.registry.listed.ListedMetric.{ListedMetric}
use Rattle.fm_core.specs.declared.scrape.gather.Stop.{Stop}
use Rattle.fm_core.specs.inside.Stops.{StopsAt}
use Rattle.fm_core.proofs.CollectLemmas.{one-weaker, refusal-not_writing}

module _ {M : Type 0} where
  -- a fault in a part is one in the whole
  pub StopsAt-wider : (P Q : Text → EncodeError → Type 0) (stop : Stop M) → ((name : Text) (k : EncodeError) → P name k → Q name k) → StopsAt P stop → StopsAt Q stop
  StopsAt-wider P Q stop wider h = by stop.listed h
    where
      by : (listed : Option (ListedMetric M)) → MatchOption listed (stop.error ≡ Memory) (λ l. (stop.error ≡ Memory) ⊎ P (listed_name (seen_listed l)) stop.error)
          → MatchOption listed (stop.error ≡ Memory) (λ l. (stop.error ≡ Memory) ⊎ Q (listed_name (seen_listed l)) stop.error)
      by None memory = memory
      by (Some l) (inl memory) = inl memory
      by (Some l) (inr fault) = inr (wider (listed_name (seen_listed l)) stop.error fault)

  -- the error is for want of memory, or a fault that the tree has
  pub StopsAt-fault : (declared : Ghosts M) (t : Tree M) (stop : Stop M) → StopsAt (λ name k. HasFaultNamed declared name k t) stop → (stop.error ≡ Memory) ⊎ HasFault declared stop.error t
  StopsAt-fault declared t stop h = by stop.listed h
    where
      by : (listed : Option (ListedMetric M)) → MatchOption listed (stop.error ≡ Memory) (λ l. (stop.error ≡ Memory) ⊎ HasFaultNamed declared (listed_name (seen_listed l)) stop.error t)
          → (stop.error ≡ Memory) ⊎ HasFault declared stop.error t
      by None memory = inl memory
      by (Some l) (inl memory) = inl memory
      by (Some l) (inr fault) = inr (λ b shows. one-weaker _ (FaultOf declared stop.error) (λ m named. named.1) (order b) (fault b shows))

  -- it is not the writer's
  pub fault-not_writing : (declared : Ghosts M) (t : Tree M) (k : EncodeError) → HasHistory t → (k ≡ Memory) ⊎ HasFault declared k t → ¬ (IsWritersFault k)
  fault-not_writing declared t k history (inl memory) = refusal-not_writing declared k [] (inl memory)
  fault-not_writing declared t k history (inr fault) = refusal-not_writing declared k (order history.history) (inr (fault history.history history.reads.shows))
