-- What an encoder of families has gathered, and what it does with one metric more.
use Rattle.std.specs.Prelude.{◌≡◌, Option, Some, None, ◌⊎◌}
use Rattle.fm_grammar.specs.Exposition.{Exposition}
use Rattle.fm_raw.specs.declared.metadata.Metadata.{Metadata}
use Rattle.fm_raw.specs.declared.encode_error.EncodeError.{EncodeError}
use Rattle.fm_raw.specs.declared.encode_error.EncodeError.TheVariants.{Memory}
use Rattle.fm_registry_rules.specs.Texts.{Text, Labels}
use Rattle.fm_registry_rules.specs.Listing.{Listed}
use Rattle.fm_encoder.specs.declared.metric.EncodeMetric.{Ghosts}
use Rattle.fm_core.specs.View.{seen_metric}
use Rattle.fm_core.specs.Admits.{AdmitsNext, FaultOf}

-- the namespace and the labels of the current registry, the families so far or, where none are kept, their lines, and the refusal
pub record GatheredFamilies : Type 0 where
  pub namespace : Option Text
  pub labels : Labels
  pub families : Exposition
  pub lines : Option Text
  pub refused : Option EncodeError

module _ {M : Type 0} where
  -- a metric with this metadata in a registry with this namespace and these labels
  abbrev pub listed_under : Option Text → Labels → Metadata → M → Listed M
  listed_under namespace labels metadata metric = record { namespace = namespace; labels = labels; registration = seen_metric metadata metric }

  -- the same in the current registry
  abbrev pub next_listed : GatheredFamilies → Metadata → M → Listed M
  next_listed gathered metadata metric = listed_under gathered.namespace gathered.labels metadata metric

-- An encoder that had refused does not change. Otherwise it adds the family of the metric, unless the metric is empty, or refuses
-- for want of memory or for a fault in the metric.
pub record EncodesFamily {M : Type 0} (declared : Ghosts M) (listed : Listed M) (old new : GatheredFamilies) : Type 0 where
  pub same_namespace : new.namespace ≡ old.namespace
  pub same_labels : new.labels ≡ old.labels
  pub kept : (k : EncodeError) → old.refused ≡ Some k → new ≡ old
  pub added : old.lines ≡ None → old.refused ≡ None → new.refused ≡ None → AdmitsNext declared listed old.families new.families
  pub refused : (k : EncodeError) → old.refused ≡ None → new.refused ≡ Some k → (k ≡ Memory) ⊎ FaultOf declared k listed
