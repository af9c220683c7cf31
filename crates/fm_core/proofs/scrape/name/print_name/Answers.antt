use Rattle.std.proofs.Common.{◌≡◌, OnOk, subst, string_bytes}
use Rattle.fm_core.proofs.CollectedLemmas.{listed-tail}
use Rattle.fm_core.proofs.scrape.name.print_name.Goals as goal

pub returns : goal.returns
returns g c = subst (λ t. OnOk c.join_name.result (string_bytes c.join_name.new.text ≡ t)) (listed-tail c.args.listed.now) c.join_name.ensures
