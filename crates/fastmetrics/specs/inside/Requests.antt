-- Calls that are made of texts.
use Rattle.std.specs.Prelude.{◌≡◌, Option, String, Vec}
use Rattle.std.specs.declared.alloc.Global.{Global}
use Rattle.std.specs.String.{string_bytes}
use Rattle.fm_grammar.specs.LabelPairs.{labels_of}
use Rattle.fm_raw.specs.declared.metadata.Unit as unit
use Rattle.fm_registry_rules.specs.Texts.{Text, Path, Labels}
use Rattle.fm_core.specs.Calls.{seen_path}
use Rattle.fm_core.specs.declared.registry.tree.registry_call.RegistryCall as given

module _ {M : Type 0} where
  -- the call registers the metric at this path, by this name and this help
  pub record Registering (path : Path) (name help : Text) (u : Option unit.Unit) (metric : M) (call : given.RegistryCall M) : Type 0 where
    pub names : Vec (String Global) Global
    pub own_name : String Global
    pub own_help : String Global
    pub is : call ≡ given.TheVariants.Register names own_name own_help u metric
    pub is_path : seen_path names.items ≡ path
    pub is_name : string_bytes own_name ≡ name
    pub is_help : string_bytes own_help ≡ help

  -- the call asks for the subsystem at this path, with this name and these labels
  pub record Asking (path : Path) (name : Text) (labels : Labels) (call : given.RegistryCall M) : Type 0 where
    pub names : Vec (String Global) Global
    pub own_name : String Global
    pub own_labels : Vec (String Global × String Global) Global
    pub is : call ≡ given.TheVariants.Subsystem names own_name own_labels
    pub is_path : seen_path names.items ≡ path
    pub is_name : string_bytes own_name ≡ name
    pub is_labels : labels_of own_labels.items ≡ labels
