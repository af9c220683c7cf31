use Rattle.std.proofs.Common.{None, Some, lit<, ap, ◌∙◌, length, arith}
use Rattle.std.proofs.lemmas.Str.Pattern.{strip_prefix_char}
use Rattle.fm_reader.proofs.Blocks.{no_block, block_no_braces, block_empty, block_found, no_items}
use Rattle.fm_reader.proofs.lines.labels.read_block.Goals as goal

pub returns-in_default-strip_prefix : goal.returns-in_default-strip_prefix
returns-in_default-strip_prefix c = no_block _ (strip_prefix_char 32 _ None c.in_default.ensures.cases (lit< tt)) (strip_prefix_char 123 _ None c.in_default-strip_prefix.ensures.cases (lit< tt))

pub returns-in_default-2 : goal.returns-in_default-2
returns-in_default-2 c =
    block_no_braces _ c.in-Some-strip_prefix.inner.now (strip_prefix_char 123 _ (Some c.in-Some-strip_prefix.inner) c.in-Some-strip_prefix.ensures.cases (lit< tt)) (rw c.in_default-2.is at c.in_ok-labels.ensures)

pub returns-then-len-eq0 : goal.returns-then-len-eq0
returns-then-len-eq0 c =
    block_empty _ c.in-Some-strip_prefix.inner.now c.in-Some-2.labels c.in-Some-2.rest.now (strip_prefix_char 123 _ (Some c.in-Some-strip_prefix.inner) c.in-Some-strip_prefix.ensures.cases (lit< tt)) (rw c.in-Some-2.is at c.in_ok-labels.ensures)
    (no_items c.in-Some-2.labels (omega (arith, c.len.ensures.value, c.if-len-eq0.true)))

pub returns : goal.returns
returns c =
    block_found _ c.in-Some-strip_prefix.inner.now c.in-Some-2.labels c.in-Some-2.rest.now (strip_prefix_char 123 _ (Some c.in-Some-strip_prefix.inner) c.in-Some-strip_prefix.ensures.cases (lit< tt)) (rw c.in-Some-2.is at c.in_ok-labels.ensures)
    (λ n. c.if-len-eq0.false (c.len.ensures.value ∙ ap length n))
