use Rattle.std.proofs.Common.{Some, None, lit<, rules}
use Rattle.std.proofs.lemmas.Str.Pattern.{strip_prefix_char}
use Rattle.fm_reader.proofs.LabelLists.{no_label, no_end, labels_end, labels_named, labels_more, start_named, start_text}
use Rattle.fm_reader.proofs.parts.labels.read_labels.Goals as goal

pub loop-labels-init : goal.loop-labels-init
loop-labels-init c = record {
  is_text = search rules;
  named = start_named _ c.in_ok-labels.ensures;
  so_far = start_text _ _ c.in_ok-labels.ensures;
  some = strip_prefix_char 125 _ None c.in_default.ensures.cases (lit< tt);
}

pub returns-in_default-2 : goal.returns-in_default-2
returns-in_default-2 c = no_label _ _ _ c.loop-labels.invariant.named c.loop-labels.invariant.so_far c.loop-labels.invariant.some (rw c.in_default-2.is at c.in_ok-after.ensures)

pub returns-in-Some-strip_prefix : goal.returns-in-Some-strip_prefix
returns-in-Some-strip_prefix c =
    let found = rw c.in-Some-2.is at c.in_ok-after.ensures in
    labels_end c.args.text.now c.loop-labels.rest.now c.loop-labels.labels c.read_label.new.labels found.0 c.in-Some-2.after.now c.in-Some-strip_prefix.last.now
    c.loop-labels.invariant.named c.loop-labels.invariant.so_far found.1 (strip_prefix_char 125 _ (Some c.in-Some-strip_prefix.last) c.in-Some-strip_prefix.ensures.cases (lit< tt)) found.2

pub returns-in_default-strip_prefix-2 : goal.returns-in_default-strip_prefix-2
returns-in_default-strip_prefix-2 c =
    let found = rw c.in-Some-2.is at c.in_ok-after.ensures in
    no_end _ _ _ found.0 c.in-Some-2.after.now c.loop-labels.invariant.named c.loop-labels.invariant.so_far c.loop-labels.invariant.some found.1
    (strip_prefix_char 125 _ None c.in_default-strip_prefix.ensures.cases (lit< tt)) (strip_prefix_char 44 _ None c.in_default-strip_prefix-2.ensures.cases (lit< tt))

pub loop-labels-preserved : goal.loop-labels-preserved
loop-labels-preserved c =
    let found = rw c.in-Some-2.is at c.in_ok-after.ensures in
    record {
      is_text = search rules;
      named = labels_named c.loop-labels.rest.now c.loop-labels.labels _ found.0 c.in-Some-2.after.now c.loop-labels.invariant.named found.1 found.2;
      so_far = labels_more c.args.text.now c.loop-labels.rest.now c.loop-labels.labels _ found.0 c.in-Some-2.after.now c.in-Some-strip_prefix-2.more.now c.loop-labels.invariant.so_far found.1
          (strip_prefix_char 44 _ (Some c.in-Some-strip_prefix-2.more) c.in-Some-strip_prefix-2.ensures.cases (lit< tt)) found.2;
      some = c.loop-labels.invariant.some;
    }
