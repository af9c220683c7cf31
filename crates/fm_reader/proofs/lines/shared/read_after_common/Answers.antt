use Rattle.std.proofs.Common.{List, Some, IfOk, IfSome, codes, lit<, subst}
use Rattle.std.proofs.lemmas.Str.Pattern.{strip_prefix_char}
use Rattle.fm_grammar.specs.Exposition.{Label}
use Rattle.fm_reader.specs.inside.Shared.{IsOwnLabel}
use Rattle.fm_reader.proofs.HelpLines.{strip_prefix_text, not_empty_text}
use Rattle.fm_reader.proofs.SharedLabels.{only_common, own_front}
use Rattle.fm_reader.proofs.lines.shared.read_after_common.Goals as goal

pub returns-in-Some-strip_prefix-2 : goal.returns-in-Some-strip_prefix-2
returns-in-Some-strip_prefix-2 c =
    only_common c.args.text.now c.in-Some.inner.now c.in-Some-strip_prefix.after.now c.in-Some-strip_prefix-2.rest.now c.common_text-common.result.now c.args.before.now.common c.new.result c.common_text-common.ensures (not_empty_text _ c.if-is_empty.ensures)
    (strip_prefix_char 123 _ (Some c.in-Some.inner) c.in-Some.ensures.cases (lit< tt)) (strip_prefix_text c.common_text-common.result.now _ (Some c.in-Some-strip_prefix.after) c.in-Some-strip_prefix.ensures.cases)
    (strip_prefix_text (codes "} ") _ (Some c.in-Some-strip_prefix-2.rest) c.in-Some-strip_prefix-2.ensures.cases) c.new.ensures

pub returns : goal.returns
returns c =
    own_front c.args.text.now c.in-Some.inner.now c.in-Some-strip_prefix.after.now c.in-Some-strip_prefix-3.label.now c.common_text-common.result.now c.args.before.now.common c.read_own.result c.common_text-common.ensures (not_empty_text _ c.if-is_empty.ensures)
    (strip_prefix_char 123 _ (Some c.in-Some.inner) c.in-Some.ensures.cases (lit< tt)) (strip_prefix_text c.common_text-common.result.now _ (Some c.in-Some-strip_prefix.after) c.in-Some-strip_prefix.ensures.cases)
    (strip_prefix_char 44 _ (Some c.in-Some-strip_prefix-3.label) c.in-Some-strip_prefix-3.ensures.cases (lit< tt))
    (subst (λ (common : List Label). IfOk c.read_own.result (λ own. IfSome own (λ front. IsOwnLabel common c.in-Some-strip_prefix-3.label.now front.0 front.1.now))) c.common.ensures c.read_own.ensures)
