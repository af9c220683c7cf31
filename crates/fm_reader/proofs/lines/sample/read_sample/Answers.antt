use Rattle.std.proofs.Common.{Some}
use Rattle.fm_reader.specs.inside.Samples.{shown_of}
use Rattle.fm_reader.specs.inside.Shared.{all_labels}
use Rattle.fm_reader.proofs.HelpLines.{strip_prefix_text}
use Rattle.fm_reader.proofs.SampleLines.{other_block, other_values, sample_found}
use Rattle.fm_reader.proofs.lines.sample.read_sample.Goals as goal

pub returns-in_default-2 : goal.returns-in_default-2
returns-in_default-2 c =
    other_block _ c.args.name.now c.in-Some.after.now c.in-Some-read_kind.block.now c.args.metric_type c.in-Some-read_kind.kind (strip_prefix_text c.args.name.now _ (Some c.in-Some.after) c.in-Some.ensures.cases) c.in-Some-read_kind.ensures (rw c.in_default-2.is at c.in_ok-labels.ensures)

pub returns-in_default-3 : goal.returns-in_default-3
returns-in_default-3 c =
    other_values _ c.args.name.now c.in-Some.after.now c.in-Some-read_kind.block.now c.in-Some-2.text.now c.args.metric_type c.in-Some-read_kind.kind (all_labels c.args.before.now.common c.in-Some-2.labels) (strip_prefix_text c.args.name.now _ (Some c.in-Some.after) c.in-Some.ensures.cases) c.in-Some-read_kind.ensures (rw c.in-Some-2.is at c.in_ok-labels.ensures)
    (rw c.in_default-3.is at c.in_ok-values.ensures)

pub returns : goal.returns
returns c =
    sample_found _ c.args.name.now c.in-Some.after.now c.in-Some-read_kind.block.now c.in-Some-2.text.now c.args.metric_type c.in-Some-read_kind.kind (all_labels c.args.before.now.common c.in-Some-2.labels) (shown_of c.in-Some-3.values) (strip_prefix_text c.args.name.now _ (Some c.in-Some.after) c.in-Some.ensures.cases) c.in-Some-read_kind.ensures
    (rw c.in-Some-2.is at c.in_ok-labels.ensures) (rw c.in-Some-3.is at c.in_ok-values.ensures)
