use Rattle.std.proofs.Common.{None, Some, lit<, codes}
use Rattle.std.proofs.lemmas.Str.Pattern.{strip_prefix_char}
use Rattle.fm_reader.proofs.HelpLines.{strip_prefix_text}
use Rattle.fm_reader.proofs.HeadLines.{unit_no_space}
use Rattle.fm_reader.proofs.lines.heads.read_unit.Goals as goal

pub returns-in_default-strip_prefix-2 : goal.returns-in_default-strip_prefix-2
returns-in_default-strip_prefix-2 c =
    unit_no_space _ c.args.name.now c.in-Some.after.now c.in-Some-strip_prefix.spaced.now _ (strip_prefix_text (codes "# UNIT ") _ (Some c.in-Some.after) c.in-Some.ensures.cases) (strip_prefix_text c.args.name.now _ (Some c.in-Some-strip_prefix.spaced) c.in-Some-strip_prefix.ensures.cases)
    (strip_prefix_char 32 _ None c.in_default-strip_prefix-2.ensures.cases (lit< tt))
