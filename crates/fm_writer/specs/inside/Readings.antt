-- The text of what comes after the labels on a sample's line.
use Rattle.std.specs.Prelude.{◌++◌, codes}
use Rattle.std.specs.Option.{option_map}
use Rattle.fm_grammar.specs.Exposition.{Text}
use Rattle.fm_grammar.specs.Spelling.{value_text, time_text, exemplar_text}
use Rattle.fm_exposition.specs.Samples.{value_of, exemplar_at}
use Rattle.fm_writer.specs.declared.rendering.Reading.{Reading}

abbrev pub reading_text : Reading → Text
reading_text reading =
    value_text (value_of reading.value.now) ++ (time_text reading.time ++ (exemplar_text (option_map exemplar_at reading.exemplar) ++ codes "\n"))
