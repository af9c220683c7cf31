use Rattle.std.proofs.Common.{Some, None, lit<, codes, string_bytes}
use Rattle.std.proofs.lemmas.Str.Pattern.{strip_prefix_char}
use Rattle.fm_reader.proofs.HelpLines.{strip_prefix_text, help_no_space, help_not_escaped, help_more, help_found, empty_text, not_empty_text}
use Rattle.fm_reader.proofs.lines.heads.read_help.Goals as goal

pub returns-in_default-strip_prefix-2 : goal.returns-in_default-strip_prefix-2
returns-in_default-strip_prefix-2 c =
    help_no_space _ c.args.name.now c.in-Some.after.now c.in-Some-strip_prefix.spaced.now (strip_prefix_text (codes "# HELP ") _ (Some c.in-Some.after) c.in-Some.ensures.cases) (strip_prefix_text c.args.name.now _ (Some c.in-Some-strip_prefix.spaced) c.in-Some-strip_prefix.ensures.cases)
    (strip_prefix_char 32 _ None c.in_default-strip_prefix-2.ensures.cases (lit< tt))

pub returns-in_default-2 : goal.returns-in_default-2
returns-in_default-2 c =
    help_not_escaped _ c.args.name.now c.in-Some.after.now c.in-Some-strip_prefix.spaced.now c.in-Some-strip_prefix-2.text.now (strip_prefix_text (codes "# HELP ") _ (Some c.in-Some.after) c.in-Some.ensures.cases) (strip_prefix_text c.args.name.now _ (Some c.in-Some-strip_prefix.spaced) c.in-Some-strip_prefix.ensures.cases)
    (strip_prefix_char 32 _ (Some c.in-Some-strip_prefix-2.text) c.in-Some-strip_prefix-2.ensures.cases (lit< tt)) (rw c.in_default-2.is at c.in_ok-help.ensures)

pub returns-then-not-is_empty : goal.returns-then-not-is_empty
returns-then-not-is_empty c =
    help_more _ c.args.name.now c.in-Some.after.now c.in-Some-strip_prefix.spaced.now c.in-Some-strip_prefix-2.text.now (string_bytes c.in-Some-2.help) c.in-Some-2.rest.now (strip_prefix_text (codes "# HELP ") _ (Some c.in-Some.after) c.in-Some.ensures.cases) (strip_prefix_text c.args.name.now _ (Some c.in-Some-strip_prefix.spaced) c.in-Some-strip_prefix.ensures.cases)
    (strip_prefix_char 32 _ (Some c.in-Some-strip_prefix-2.text) c.in-Some-strip_prefix-2.ensures.cases (lit< tt)) (rw c.in-Some-2.is at c.in_ok-help.ensures) (not_empty_text _ c.if-not-is_empty.ensures)

pub returns : goal.returns
returns c =
    help_found _ c.args.name.now c.in-Some.after.now c.in-Some-strip_prefix.spaced.now c.in-Some-strip_prefix-2.text.now (string_bytes c.in-Some-2.help) c.in-Some-2.rest.now (strip_prefix_text (codes "# HELP ") _ (Some c.in-Some.after) c.in-Some.ensures.cases) (strip_prefix_text c.args.name.now _ (Some c.in-Some-strip_prefix.spaced) c.in-Some-strip_prefix.ensures.cases)
    (strip_prefix_char 32 _ (Some c.in-Some-strip_prefix-2.text) c.in-Some-strip_prefix-2.ensures.cases (lit< tt)) (rw c.in-Some-2.is at c.in_ok-help.ensures) (empty_text _ c.if-not-is_empty.ensures)
