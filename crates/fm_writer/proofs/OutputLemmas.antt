-- Samples appended in two steps.
use Rattle.std.proofs.Common.{◌≡◌, List, [], ◌++◌, sym, ap, ◌∙◌, append_assoc}
use Rattle.std.proofs.lemmas.List.{append-nil}
use Rattle.std.proofs.lemmas.Grind.{flat_map-append}
use Rattle.fm_grammar.specs.Exposition.{Text, Sample}
use Rattle.fm_exposition.specs.Rows.{sample_row, sample_rows}
use Rattle.fm_writer.specs.Output.{Output, OutputSamples, OutputText, appended}

pub appended-append : (name : Text) (output : Output) (xs ys : List Sample) → appended name output (xs ++ ys) ≡ appended name (appended name output xs) ys
appended-append name (OutputSamples before) xs ys = ap OutputSamples (sym (append_assoc before xs ys))
appended-append name (OutputText before) xs ys =
    let rows : sample_rows name (xs ++ ys) ≡ sample_rows name xs ++ sample_rows name ys = flat_map-append (sample_row name) xs ys in
    ap OutputText (ap (λ (t : Text). before ++ t) rows ∙ sym (append_assoc before (sample_rows name xs) (sample_rows name ys)))

pub appended-none : (name : Text) (output : Output) → appended name output [] ≡ output
appended-none name (OutputSamples before) = ap OutputSamples (append-nil before)
appended-none name (OutputText before) = ap OutputText (append-nil before)
