use Rattle.std.proofs.Common.{None, Some, lit<, codes, sym, true≢false}
use Rattle.std.proofs.lemmas.Str.Pattern.{split_parts}
use Rattle.fm_reader.proofs.HelpLines.{strip_prefix_text}
use Rattle.fm_reader.proofs.HeadLines.{type_no_space, type_bad_name, type_bad_word}
use Rattle.fm_reader.proofs.lines.heads.read_type.Goals as goal

pub returns-in_default-split_once : goal.returns-in_default-split_once
returns-in_default-split_once c = type_no_space _ c.in-Some.after.now (strip_prefix_text (codes "# TYPE ") _ (Some c.in-Some.after) c.in-Some.ensures.cases) (split_parts 32 _ None c.in_default-split_once.ensures.cases (lit< tt))

pub returns-then-not-is_snake_case : goal.returns-then-not-is_snake_case
returns-then-not-is_snake_case c =
    type_bad_name _ c.in-Some.after.now c.in-Some-split_once.name.now c.in-Some-split_once.word.now (strip_prefix_text (codes "# TYPE ") _ (Some c.in-Some.after) c.in-Some.ensures.cases)
    (split_parts 32 _ (Some (c.in-Some-split_once.name, c.in-Some-split_once.word)) c.in-Some-split_once.ensures.cases (lit< tt)) (λ h. true≢false (sym (c.if-not-is_snake_case.ensures.is.1 h)))

pub returns-in_default-from_word : goal.returns-in_default-from_word
returns-in_default-from_word c =
    type_bad_word _ c.in-Some.after.now c.in-Some-split_once.name.now c.in-Some-split_once.word.now (strip_prefix_text (codes "# TYPE ") _ (Some c.in-Some.after) c.in-Some.ensures.cases)
    (split_parts 32 _ (Some (c.in-Some-split_once.name, c.in-Some-split_once.word)) c.in-Some-split_once.ensures.cases (lit< tt)) c.in_default-from_word.ensures
