use Rattle.std.proofs.Common.{None, false, lit<, sym, subst, true≢false}
use Rattle.std.proofs.lemmas.Str.Pattern.{starts_char}
use Rattle.fm_reader.specs.inside.Parts.{tail_text, IsTimeFront}
use Rattle.fm_reader.proofs.Tokens.{no_time_front}
use Rattle.fm_reader.proofs.lines.values.read_time.Goals as goal

pub returns-in_default-read_millis : goal.returns-in_default-read_millis
returns-in_default-read_millis c =
    subst (λ t. IsTimeFront (tail_text t) None) (sym c.in-Some.is)
    (no_time_front c.in-Some.rest.now c.split_token.result.0.now c.split_token.result.1 (λ e. true≢false (sym ((starts_char 35 _ false c.if-starts_with.ensures.cases (lit< tt) (lit< tt)).1 e))) c.split_token.ensures c.in_default-read_millis.ensures)
