use Rattle.std.specs.Option.{option_map}
use Rattle.std.specs.String.{string_bytes}
use Rattle.fm_registry_rules.specs.Lists.{seen_labels}
use Rattle.fm_core.proofs.RootLemmas.{built_root}
use Rattle.fm_core.proofs.registry.tree.builder.RegistryBuilder.build_root.Goals as goal

pub returns : goal.returns
returns g c = built_root (option_map string_bytes c.args.self.namespace) (seen_labels c.args.self.const_labels) c.args.self.namespace_taken c.args.self.labels_taken
