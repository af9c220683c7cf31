use Rattle.std.proofs.Common.{◌++◌, ◌∷◌, [], ap, ◌∙◌}
use Rattle.std.specs.String.{string_bytes}
use Rattle.fm_core.specs.Calls.{seen_path}
use Rattle.fastmetrics.proofs.RootLemmas.{path-cloned, path-pushed}
use Rattle.fastmetrics.proofs.registry.calls.path_below.Goals as goal

pub returns : goal.returns
returns c =
    ap seen_path c.in_ok-push.ensures.items ∙ path-pushed c.in_ok-below.below.items c.in_ok-from_str.field-0
    ∙ ap (λ names. names ++ string_bytes c.in_ok-from_str.field-0 ∷ []) (path-cloned _ _ c.in_ok-below.ensures.cases.0)
    ∙ ap (λ name. seen_path c.args.path.now.items ++ name ∷ []) c.in_ok-from_str.ensures.ok
