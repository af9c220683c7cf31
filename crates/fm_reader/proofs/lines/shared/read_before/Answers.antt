use Rattle.std.proofs.Common.{Some, lit<, rules}
use Rattle.std.proofs.lemmas.Str.Pattern.{strip_prefix_char}
use Rattle.fm_reader.proofs.LabelLists.{labels_named, labels_more, start_named, start_text}
use Rattle.fm_reader.proofs.SharedLabels.{named_front}
use Rattle.fm_reader.proofs.lines.shared.read_before.Goals as goal

pub loop-labels-init : goal.loop-labels-init
loop-labels-init c = record {
  is_text = search rules;
  named = start_named _ c.in_ok-labels.ensures;
  so_far = start_text _ _ c.in_ok-labels.ensures;
}

pub returns-then-starts_with : goal.returns-then-starts_with
returns-then-starts_with c =
    let found = rw c.in-Some.is at c.in_ok-after.ensures in
    named_front c.args.text.now c.loop-labels.rest.now c.loop-labels.labels c.read_label.new.labels found.0 c.in-Some.after.now c.in-Some-strip_prefix.more.now c.loop-labels.invariant.named c.loop-labels.invariant.so_far found.1
    (strip_prefix_char 44 _ (Some c.in-Some-strip_prefix.more) c.in-Some-strip_prefix.ensures.cases (lit< tt)) found.2

pub loop-labels-preserved : goal.loop-labels-preserved
loop-labels-preserved c =
    let found = rw c.in-Some.is at c.in_ok-after.ensures in
    record {
      is_text = search rules;
      named = labels_named c.loop-labels.rest.now c.loop-labels.labels _ found.0 c.in-Some.after.now c.loop-labels.invariant.named found.1 found.2;
      so_far = labels_more c.args.text.now c.loop-labels.rest.now c.loop-labels.labels _ found.0 c.in-Some.after.now c.in-Some-strip_prefix.more.now c.loop-labels.invariant.so_far found.1
          (strip_prefix_char 44 _ (Some c.in-Some-strip_prefix.more) c.in-Some-strip_prefix.ensures.cases (lit< tt)) found.2;
    }
