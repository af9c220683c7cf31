use Rattle.std.proofs.Common.{None, Some, codes, sym, subst}
use Rattle.fm_exposition.specs.Samples.{exemplar_of}
use Rattle.fm_reader.specs.inside.Parts.{tail_text, FoundExemplar}
use Rattle.fm_reader.proofs.HelpLines.{strip_prefix_text}
use Rattle.fm_reader.proofs.Exemplars.{other_exemplar, no_body, exemplar_found}
use Rattle.fm_reader.proofs.lines.exemplar.read_exemplar.Goals as goal

pub returns-in_default-strip_prefix : goal.returns-in_default-strip_prefix
returns-in_default-strip_prefix c =
    subst (λ t. FoundExemplar c.args.kind (tail_text t) None) (sym c.in-Some.is) (other_exemplar c.args.kind c.in-Some.text.now (strip_prefix_text (codes "# {") _ None c.in_default-strip_prefix.ensures.cases))

pub returns-in_default-2 : goal.returns-in_default-2
returns-in_default-2 c =
    subst (λ t. FoundExemplar c.args.kind (tail_text t) None) (sym c.in-Some.is)
    (no_body c.args.kind c.in-Some.text.now c.in-Some-strip_prefix.body.now (strip_prefix_text (codes "# {") _ (Some c.in-Some-strip_prefix.body) c.in-Some-strip_prefix.ensures.cases) (rw c.in_default-2.is at c.in_ok-exemplar.ensures))

pub returns : goal.returns
returns c =
    subst (λ t. FoundExemplar c.args.kind (tail_text t) (Some (Some (exemplar_of c.in-Some-2.exemplar)))) (sym c.in-Some.is)
    (exemplar_found c.args.kind c.in-Some.text.now c.in-Some-strip_prefix.body.now (exemplar_of c.in-Some-2.exemplar) (sym c.if-not-takes_exemplar.ensures) (strip_prefix_text (codes "# {") _ (Some c.in-Some-strip_prefix.body) c.in-Some-strip_prefix.ensures.cases) (rw c.in-Some-2.is at c.in_ok-exemplar.ensures))
