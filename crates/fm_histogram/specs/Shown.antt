-- What histograms emit.
use Rattle.std.specs.Prelude.{ℕ, List, [], map, Option}
use Rattle.fm_encoder.specs.Points.{EmittedExemplar, Point, HistogramPoint, GaugeHistogramPoint, Member}
use Rattle.fm_histogram.specs.Histogram.{Histogram}

-- for each bucket a slot without exemplar
abbrev pub empty_slots : {B : Type 0} → List B → List (List EmittedExemplar)
empty_slots buckets = map (λ _. []) buckets

-- the point of a histogram with this time of creation in milliseconds, and without exemplars
abbrev pub point_of : Histogram → Option ℕ → Point
point_of s created = HistogramPoint s.buckets (empty_slots s.buckets) s.count s.sum created

-- the point of a gauge histogram, without exemplars
abbrev pub gauge_point_of : Histogram → Point
gauge_point_of s = GaugeHistogramPoint s.buckets (empty_slots s.buckets) s.count s.sum

-- a point as a member without labels
abbrev pub alone : Point → Member
alone point = record { labels = []; point = point }
