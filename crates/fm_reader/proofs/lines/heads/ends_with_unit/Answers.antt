use Rattle.std.proofs.Common.{sym, None, Some, lit<, true≢false}
use Rattle.std.proofs.lemmas.Str.Pattern.{strip_suffix_char}
use Rattle.fm_reader.proofs.HeadLines.{strip_suffix_text, no_unit_end, no_underscore}
use Rattle.fm_reader.proofs.lines.heads.ends_with_unit.Goals as goal

pub returns-in_default : goal.returns-in_default
returns-in_default c = (λ never. absurd (true≢false (sym never)), λ h. absurd (no_unit_end c.args.name.now c.args.unit.now (strip_suffix_text c.args.unit.now _ None c.in_default.ensures.cases) h))

pub returns-in_default-strip_suffix : goal.returns-in_default-strip_suffix
returns-in_default-strip_suffix c = (
  λ never. absurd (true≢false (sym never)),
  λ h. absurd (no_underscore c.args.name.now c.args.unit.now c.in-Some.front.now (strip_suffix_text c.args.unit.now _ (Some c.in-Some.front) c.in-Some.ensures.cases) (strip_suffix_char 95 _ None c.in_default-strip_suffix.ensures.cases (lit< tt)) h),
)
