use Rattle.std.specs.String.{string_bytes}
use Rattle.fm_grammar.specs.LabelPairs.{labels_of}
use Rattle.fm_registry_rules.specs.Answer.{refusal_of}
use Rattle.fm_registry_rules.proofs.CallLemmas.{subsystem-reply, subsystem-reads}
use Rattle.fm_core.proofs.registry.tree.Registry.ask_subsystem.Goals as goal

pub returns-clause-reply : goal.returns-clause-reply
returns-clause-reply g c = subsystem-reply c.args.self.now (string_bytes c.args.name) (labels_of c.args.labels.items) (refusal_of c.ask_here.result) c.ask_here.ensures.answer c.ask_here.ensures.there

pub returns-clause-ok : goal.returns-clause-ok
returns-clause-ok g c = subsystem-reads c.args.self.now c.ask_here.new.self (string_bytes c.args.name) (labels_of c.args.labels.items) c.ask_here.result c.ask_here.ensures.answer c.ask_here.ensures.ok
