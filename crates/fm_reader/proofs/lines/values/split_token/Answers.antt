use Rattle.std.proofs.Common.{Some, None, lit<}
use Rattle.std.proofs.lemmas.Str.Pattern.{split_parts}
use Rattle.fm_reader.proofs.Tokens.{token_cut, token_whole}
use Rattle.fm_reader.proofs.lines.values.split_token.Goals as goal

pub returns-in-Some : goal.returns-in-Some
returns-in-Some c = token_cut _ c.in-Some.token.now c.in-Some.rest.now (split_parts 32 _ (Some (c.in-Some.token, c.in-Some.rest)) c.in-Some.ensures.cases (lit< tt))

pub returns-in-None : goal.returns-in-None
returns-in-None c = token_whole _ (split_parts 32 _ None c.in-None.ensures.cases (lit< tt))
