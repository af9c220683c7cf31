use Rattle.std.proofs.Common.{Some, lit<}
use Rattle.std.proofs.lemmas.Str.Pattern.{strip_prefix_char}
use Rattle.fm_reader.proofs.SharedLabels.{parted_front}
use Rattle.fm_reader.proofs.lines.shared.read_parted.Goals as goal

pub returns : goal.returns
returns c = λ before.
    parted_front c.args.text.now c.in-Some.inner.now c.in-Some-2.more.now c.in-Some-3.rest.now c.in-Some-2.common c.labels.result.now c.in-Some-3.own (strip_prefix_char 123 _ (Some c.in-Some.inner) c.in-Some.ensures.cases (lit< tt))
    (rw c.in-Some-2.is at c.in_ok-common.ensures) c.labels.ensures (rw c.in-Some-3.is at c.in_ok-own.ensures)
