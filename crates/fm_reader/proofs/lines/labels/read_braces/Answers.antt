use Rattle.std.proofs.Common.{None, lit<, sym, subst, ◌∙◌, map, true≢false}
use Rattle.std.proofs.lemmas.Str.Pattern.{strip_prefix_char}
use Rattle.fm_grammar.specs.Names.{AllDifferent}
use Rattle.fm_reader.proofs.Blocks.{braces_twice, braces_no_space}
use Rattle.fm_reader.proofs.lines.labels.read_braces.Goals as goal

pub returns-then-not-branch : goal.returns-then-not-branch
returns-then-not-branch c =
    braces_twice _ c.in-Some.labels c.in-Some.after.now (rw c.in-Some.is at c.in_ok-labels.ensures)
    (λ d. true≢false (sym (c.in_ok-are_different.ensures.1 d) ∙ c.if-not-branch.true))

pub returns-in_default-strip_prefix : goal.returns-in_default-strip_prefix
returns-in_default-strip_prefix c =
    braces_no_space _ c.in-Some.labels c.in-Some.after.now (rw c.in-Some.is at c.in_ok-labels.ensures) (strip_prefix_char 32 _ None c.in_default-strip_prefix.ensures.cases (lit< tt))
