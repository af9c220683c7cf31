-- What is emitted of the exemplars that a histogram keeps.
use Rattle.std.specs.Prelude.{List, [], ◌∷◌, Option}
use Rattle.std.specs.Borrow.{Bor}
use Rattle.std.specs.Option.{option_map, option_map_or}
use Rattle.fm_labels.specs.Labels.{emitted_again}
use Rattle.fm_encoder.specs.Points.{EmittedExemplar, millis}
use Rattle.fm_encoder.specs.declared.exemplar.labeled.LabeledExemplar.{LabeledExemplar}
use Rattle.fm_encoder.specs.declared.exemplar.exemplar_labels.ExemplarLabels.{ExemplarLabels}

-- an exemplar, or none of an empty slot
abbrev pub emitted : Option (Bor (LabeledExemplar ExemplarLabels)) → List EmittedExemplar
emitted slot = option_map_or (λ e. record { labels = emitted_again e.now.labels; value = e.now.value; time = option_map millis e.now.timestamp } ∷ []) slot []
