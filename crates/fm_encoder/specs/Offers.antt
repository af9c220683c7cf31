-- What a metric admits, as samples under its registration, and which faults it can have.
use Rattle.std.specs.Prelude.{◌≡◌, ℕ, List, Option, ◌⊎◌}
use Rattle.fm_grammar.specs.Exposition.{Sample}
use Rattle.fm_grammar.specs.declared.MetricType.{MetricType}
use Rattle.fm_grammar.specs.Exposition.{Text, Label}
use Rattle.fm_raw.specs.declared.encode_error.EncodeError.{EncodeError}
use Rattle.fm_raw.specs.declared.encode_error.EncodeError.TheVariants.{MetricFault}
use Rattle.fm_encoder.specs.Points.{Member, Context, MembersValid, MembersFault, members_samples}

-- the context of a family's members: its printed name, type, constant labels and timestamp
abbrev pub context_at : Text → MetricType → List Label → Option ℕ → Context
context_at n type labels stamp = record { setting = record { name = n; metric_type = type; time = stamp }; constants = labels }

-- the samples are those of a valid offer that the metric admits under a timestamp that it admits
abbrev pub AdmitsSamples : (Option ℕ → List Member → Type 0) → (Option ℕ → Type 0) → Text → MetricType → List Label → List Sample → Type 0
AdmitsSamples Offers Stamps name type constants samples =
    (members : List Member) × (stamp : Option ℕ) × Stamps stamp × Offers stamp members
    × MembersValid (context_at name type constants stamp) members
    × (samples ≡ members_samples (context_at name type constants stamp) members)

-- The fault is in an offer that the metric admits, or the metric declares that it may return an error of its own.
abbrev pub MetricHasFault : EncodeError → (Option ℕ → List Member → Type 0) → (Option ℕ → Type 0) → Type 0 → Text → MetricType → List Label → Type 0
MetricHasFault k Offers Stamps MayFault name type constants = ((k ≡ MetricFault) × MayFault)
    ⊎ ((members : List Member) × (stamp : Option ℕ) × Stamps stamp × Offers stamp members × MembersFault k (context_at name type constants stamp) members)
