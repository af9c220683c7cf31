use Rattle.std.proofs.Common.{◌≡◌, ◌++◌, map, take, drop, None}
use Rattle.std.specs.String.{string_bytes}
use Rattle.fm_grammar.specs.LabelPairs.{labels_with}
use Rattle.fm_labels.specs.LabelValues.{joined, values_in}
use Rattle.fm_labels.proofs.label.named.add_named.Given as goal

abbrev pub invariant-loop-i : goal.invariant-loop-i
invariant-loop-i l = record {
  name : l.labels.name ≡ None;
  value : l.labels.value ≡ None;
  rest : values_in l.rest ≡ drop l.i l.values;
  joined : joined (values_in l.rest) ≡ l.rest;
  added : l.labels.labels ≡ l.initial.labels.labels ++ labels_with (take l.i (map string_bytes l.names)) (take l.i l.values);
}
