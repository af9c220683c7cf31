-- The numbers of the errors.
use Rattle.std.specs.Prelude.{ℕ}
use Rattle.fm_raw.specs.declared.encode_error.EncodeError.{EncodeError}
use Rattle.fm_raw.specs.declared.encode_error.EncodeError.TheVariants.{Memory, InvalidLabelName, ReservedLabel, DuplicateLabel, MalformedLabel, MissingValue, ValueTwice, ExemplarCountMismatch, BucketOverflow, KindMismatch, ExemplarTwice, ExemplarTooLong, MetricFault, Write, WriteZero}

abbrev pub error_number : EncodeError → ℕ
error_number Memory = 1
error_number InvalidLabelName = 2
error_number ReservedLabel = 3
error_number DuplicateLabel = 4
error_number MalformedLabel = 5
error_number MissingValue = 6
error_number ValueTwice = 7
error_number ExemplarCountMismatch = 8
error_number BucketOverflow = 9
error_number KindMismatch = 10
error_number ExemplarTwice = 11
error_number ExemplarTooLong = 12
error_number MetricFault = 13
error_number Write = 14
error_number WriteZero = 15
