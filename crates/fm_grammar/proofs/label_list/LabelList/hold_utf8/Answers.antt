use Rattle.std.proofs.Common.{subst}
use Rattle.std.proofs.lemmas.Str.{IsUtf8-string_bytes}
use Rattle.fm_grammar.specs.inside.LabelLists.{AreUtf8Labels}
use Rattle.fm_grammar.proofs.LabelListLemmas.{labels_utf8}
use Rattle.fm_grammar.proofs.label_list.LabelList.hold_utf8.Goals as goal

pub returns : goal.returns
returns c = subst AreUtf8Labels c.self.view_is (labels_utf8 _ _ (IsUtf8-string_bytes c.self.inside.text) c.self.invariant)
