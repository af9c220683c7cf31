-- What a linter advises of a family, by its heading.
use Rattle.std.specs.Prelude.{◌==◌, Bool, true, false, ◌&&◌, List, [], ◌∷◌, Option, None, Some, is_none, codes, if◌then◌else◌}
use Rattle.std.specs.List.{flat_map}
use Rattle.std.specs.String.{string_bytes}
use Rattle.fm_grammar.specs.Exposition.{Text, Family}
use Rattle.fm_grammar.specs.declared.MetricType.{MetricType}
use Rattle.fm_grammar.specs.declared.MetricType.TheVariants as type
use Rattle.fm_registry_rules.specs.Texts.{has_text}
use Rattle.fm_registry_rules.specs.Registration.{printed_unit}
use Rattle.fm_registry_rules.specs.Listing.{Listed, listed_name}
use Rattle.fm_core.specs.declared.lint.Advice.{Advice}
use Rattle.fm_core.specs.declared.lint.Advice.TheVariants.{NoHelp, Suffix, TypeInName, UnitInName, NoUnit, OtherUnit}
use Rattle.fm_core.specs.declared.lint.Warning.{Warning}

-- the kinds in their order
abbrev pub all_advice : List Advice
all_advice = NoHelp ∷ Suffix ∷ TypeInName ∷ UnitInName ∷ NoUnit ∷ OtherUnit ∷ []

-- what the names of lines have after their family's name
abbrev pub suffix_words : List Text
suffix_words = codes "total" ∷ codes "created" ∷ codes "bucket" ∷ codes "count" ∷ codes "sum" ∷ codes "gcount" ∷ codes "gsum" ∷ codes "info" ∷ []

abbrev pub type_words : List Text
type_words = codes "counter" ∷ codes "gauge" ∷ codes "histogram" ∷ codes "summary" ∷ []

-- the units of OpenMetrics
abbrev pub unit_words : List Text
unit_words = codes "seconds" ∷ codes "bytes" ∷ codes "joules" ∷ codes "grams" ∷ codes "meters" ∷ codes "ratios" ∷ codes "volts" ∷ codes "amperes" ∷ codes "celsius" ∷ []

abbrev pub time_words : List Text
time_words = codes "time" ∷ codes "duration" ∷ codes "latency" ∷ []

-- multiples and parts of seconds and bytes
abbrev pub other_unit_words : List Text
other_unit_words =
    codes "nanoseconds" ∷ codes "microseconds" ∷ codes "milliseconds" ∷ codes "minutes" ∷ codes "hours" ∷ codes "days"
    ∷ codes "kilobytes" ∷ codes "megabytes" ∷ codes "gigabytes" ∷ codes "ns" ∷ codes "us" ∷ codes "ms" ∷ codes "kb" ∷ codes "mb" ∷ codes "gb" ∷ []

-- the last word, where this much is left to read and the last underscore so far stands before `word`
abbrev pub last_word_from : Text → Text → Text
last_word_from word [] = word
last_word_from word (c ∷ rest) = if c == 95 then last_word_from rest rest else last_word_from word rest

-- the text after the last underscore, or all of it
abbrev pub last_word : Text → Text
last_word name = last_word_from name name

-- whether it counts values by their size
abbrev pub counts_by_size : MetricType → Bool
counts_by_size type.Histogram = true
counts_by_size type.GaugeHistogram = true
counts_by_size type.Summary = true
counts_by_size _ = false

abbrev pub is_empty_text : Text → Bool
is_empty_text [] = true
is_empty_text _ = false

-- whether this is advised of a family with this printed name, type, unit and help
abbrev pub is_advised : Advice → Text → MetricType → Option Text → Text → Bool
is_advised NoHelp name t unit help = is_empty_text help
is_advised Suffix name t unit help = has_text suffix_words (last_word name)
is_advised TypeInName name t unit help = has_text type_words (last_word name)
is_advised UnitInName name t unit help = is_none unit && has_text unit_words (last_word name)
is_advised NoUnit name t unit help = counts_by_size t && (is_none unit && has_text time_words (last_word name))
is_advised OtherUnit name t unit help = has_text other_unit_words (last_word name)

-- those of these kinds that are advised, each with the name
abbrev pub warnings_among : List Advice → Text → MetricType → Option Text → Text → List (Text × Advice)
warnings_among [] name t unit help = []
warnings_among (advice ∷ more) name t unit help =
    if is_advised advice name t unit help then (name, advice) ∷ warnings_among more name t unit help else warnings_among more name t unit help

-- what is advised of a listed metric
abbrev pub warnings_of : {M : Type 0} → Listed M → List (Text × Advice)
warnings_of l =
    let r = l.registration in
    warnings_among all_advice (listed_name l) r.metric_type (printed_unit r.unit) r.help

-- what is advised of a family
abbrev pub warnings_of_family : Family → List (Text × Advice)
warnings_of_family f = warnings_among all_advice f.name f.metric_type f.unit f.help

-- what is advised of listed metrics, in their order
abbrev pub warnings_of_all : {M : Type 0} → List (Listed M) → List (Text × Advice)
warnings_of_all ls = flat_map warnings_of ls

abbrev pub seen_warning : Warning → Text × Advice
seen_warning w = (string_bytes w.name, w.advice)
