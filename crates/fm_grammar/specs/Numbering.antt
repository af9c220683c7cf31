-- A number for each type of a family and for each kind of a sample, which determines it.
use Rattle.std.specs.Prelude.{◌≡◌, ℕ, zero, suc, refl}
use Rattle.fm_grammar.specs.declared.MetricType.{MetricType}
use Rattle.fm_grammar.specs.declared.MetricType.TheVariants.{Unknown, Gauge, Counter, StateSet, Info as InfoType, Histogram, GaugeHistogram, Summary}
use Rattle.fm_grammar.specs.declared.SampleKind.{SampleKind}
use Rattle.fm_grammar.specs.declared.SampleKind.TheVariants.{Plain, Total, Created, Bucket, Count, Sum, GCount, GSum, Info}

abbrev pub type_number : MetricType → ℕ
type_number Unknown = 0
type_number Gauge = 1
type_number Counter = 2
type_number StateSet = 3
type_number InfoType = 4
type_number Histogram = 5
type_number GaugeHistogram = 6
type_number Summary = 7

abbrev pub type_at : ℕ → MetricType
type_at zero = Unknown
type_at (suc zero) = Gauge
type_at (suc (suc zero)) = Counter
type_at (suc (suc (suc zero))) = StateSet
type_at (suc (suc (suc (suc zero)))) = InfoType
type_at (suc (suc (suc (suc (suc zero))))) = Histogram
type_at (suc (suc (suc (suc (suc (suc zero)))))) = GaugeHistogram
type_at (suc (suc (suc (suc (suc (suc (suc n))))))) = Summary

pub type_back : (t : MetricType) → type_at (type_number t) ≡ t
type_back Unknown = refl
type_back Gauge = refl
type_back Counter = refl
type_back StateSet = refl
type_back InfoType = refl
type_back Histogram = refl
type_back GaugeHistogram = refl
type_back Summary = refl

abbrev pub kind_number : SampleKind → ℕ
kind_number Plain = 0
kind_number Total = 1
kind_number Created = 2
kind_number Bucket = 3
kind_number Count = 4
kind_number Sum = 5
kind_number GCount = 6
kind_number GSum = 7
kind_number Info = 8

abbrev pub kind_at : ℕ → SampleKind
kind_at zero = Plain
kind_at (suc zero) = Total
kind_at (suc (suc zero)) = Created
kind_at (suc (suc (suc zero))) = Bucket
kind_at (suc (suc (suc (suc zero)))) = Count
kind_at (suc (suc (suc (suc (suc zero))))) = Sum
kind_at (suc (suc (suc (suc (suc (suc zero)))))) = GCount
kind_at (suc (suc (suc (suc (suc (suc (suc zero))))))) = GSum
kind_at (suc (suc (suc (suc (suc (suc (suc (suc n)))))))) = Info

pub kind_back : (k : SampleKind) → kind_at (kind_number k) ≡ k
kind_back Plain = refl
kind_back Total = refl
kind_back Created = refl
kind_back Bucket = refl
kind_back Count = refl
kind_back Sum = refl
kind_back GCount = refl
kind_back GSum = refl
kind_back Info = refl
