use Rattle.fm_registry_rules.proofs.NameLemmas.{names_separate, printed_names-different}
use Rattle.fm_laws.proofs.names_are_different.Goals as goal

pub returns-clause-rules : goal.returns-clause-rules
returns-clause-rules g c = names_separate

pub returns-clause-names : goal.returns-clause-names
returns-clause-names g c = printed_names-different
