-- Where a scrape stops.
use Rattle.std.specs.Prelude.{◌≡◌, MatchOption, ◌⊎◌}
use Rattle.fm_grammar.specs.Exposition.{Text}
use Rattle.fm_raw.specs.declared.encode_error.EncodeError.{EncodeError}
use Rattle.fm_raw.specs.declared.encode_error.EncodeError.TheVariants.{Memory}
use Rattle.fm_registry_rules.specs.Listing.{listed_name}
use Rattle.fm_core.specs.Seen.{seen_listed}
use Rattle.fm_core.specs.declared.scrape.gather.Stop.{Stop}

-- for want of memory, or at a metric of whose printed name and of whose error this holds
abbrev pub StopsAt : {M : Type 0} → (Text → EncodeError → Type 0) → Stop M → Type 0
StopsAt IsFault stop =
    MatchOption stop.listed (stop.error ≡ Memory) (λ listed. (stop.error ≡ Memory) ⊎ IsFault (listed_name (seen_listed listed)) stop.error)
