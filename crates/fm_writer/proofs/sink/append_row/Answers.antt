use Rattle.std.proofs.Common.{◌≡◌, ◌∙◌, ◌++◌, Option, None, Some, ap, arith, codes, refl, rules}
use Rattle.std.specs.Borrow.{Bor}
use Rattle.std.specs.Option.{option_map, option_copied}
use Rattle.fm_grammar.specs.Exposition as grammar
use Rattle.fm_grammar.specs.Spelling.{value_text}
use Rattle.fm_exposition.specs.declared.exposition.Exemplar.{Exemplar}
use Rattle.fm_exposition.specs.Samples.{exemplar_at, exemplar_of}
use Rattle.fm_grammar.proofs.ResultLemmas.{on_ok_more}
use Rattle.fm_writer.specs.NewSamples.{new_sample}
use Rattle.fm_writer.proofs.FrontLemmas.{row_after_front, row_in_braces}
use Rattle.fm_writer.proofs.RowLemmas.{after_value}
use Rattle.fm_writer.proofs.sink.append_row.Goals as goal

exemplar_after : (borrowed : Option (Bor Exemplar)) → option_map exemplar_at borrowed ≡ option_map exemplar_of (option_copied borrowed)
exemplar_after None = refl
exemplar_after (Some exemplar) = refl

pub returns-in-Some-front : goal.returns-in-Some-front
returns-in-Some-front c =
    let taken = c.args.sample.now in
    let front = rw c.in-Some-front.is at c.requires in
    let exemplar : option_map exemplar_at c.as_ref.result ≡ option_map exemplar_of taken.exemplar =
    exemplar_after c.as_ref.result ∙ ap (option_map exemplar_of) c.as_ref.ensures.value in
    let sample : grammar.Sample = record (new_sample taken) { exemplar = option_map exemplar_at c.as_ref.result } in
    let digits : value_text (grammar.Whole c.in-Some.number) ≡ c.as_bytes-value.result.now = search rules in
    let end : value_text sample.value ++ after_value sample ≡ c.as_bytes-value.result.now ++ codes "\n" = c.in-Some.ensures ∙ ap (λ (t : grammar.Text). t ++ codes "\n") digits in
    on_ok_more c.append_row.result _ _ (λ grown. rw (← exemplar) (row_after_front _ _ c.in-Some-front.front.now c.args.name.now _ taken.common.now.labels taken.own.now.labels sample refl front.1 front.0 end (rw (c.as_slice.ensures) at grown))) c.append_row.ensures

pub returns-then-len-gt0 : goal.returns-then-len-gt0
returns-then-len-gt0 c =
    let taken = c.args.sample.now in
    let exemplar : option_map exemplar_at c.as_ref.result ≡ option_map exemplar_of taken.exemplar =
    exemplar_after c.as_ref.result ∙ ap (option_map exemplar_of) c.as_ref.ensures.value in
    let sample : grammar.Sample = record (new_sample taken) { exemplar = option_map exemplar_at c.as_ref.result } in
    let digits : value_text (grammar.Whole c.in-Some.number) ≡ c.as_bytes-value.result.now = search rules in
    let end : value_text sample.value ++ after_value sample ≡ c.as_bytes-value.result.now ++ codes "\n" = c.in-Some.ensures ∙ ap (λ (t : grammar.Text). t ++ codes "\n") digits in
    on_ok_more c.append_named_row.result _ _ (λ grown. rw (← exemplar) (row_in_braces _ _ c.args.name.now _ taken.common.now.labels taken.own.now.labels sample refl (omega (arith, c.len.ensures, c.if-len-eq0.true)) (omega (arith, c.len-then-len-eq0.ensures, c.if-len-gt0.true)) end (rw (c.as_bytes.ensures.value, c.as_bytes-suffix.ensures.value, c.suffix.ensures) at grown))) c.append_named_row.ensures
