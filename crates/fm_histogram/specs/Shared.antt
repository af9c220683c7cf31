-- What the clones of a histogram share, and nobody changes.
use Rattle.std.specs.Prelude.{Option}
use Rattle.std.specs.Arc.{arc_value}
use Rattle.std.specs.declared.time.Duration.{Duration}
use Rattle.fm_histogram.specs.declared.histogram.HistogramOf.{HistogramOf}
use Rattle.fm_histogram.specs.declared.exemplars.ExemplarHistogram.{ExemplarHistogram}

-- the time of creation that the clones of a histogram share
abbrev pub histogram_created : {S H : Type 0} → HistogramOf S H → Option Duration
histogram_created h = (arc_value h.locked).created

-- the same of a histogram with exemplars
abbrev pub exemplar_histogram_created : {H : Type 0} → ExemplarHistogram H → Option Duration
exemplar_histogram_created h = (arc_value h.shared).created
