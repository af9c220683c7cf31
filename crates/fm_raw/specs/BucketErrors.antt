-- The numbers of the errors of calls that make bounds.
use Rattle.std.specs.Prelude.{ℕ}
use Rattle.fm_raw.specs.declared.bucket.error.BucketError as error
use Rattle.fm_raw.specs.declared.bucket.error.BucketError.TheVariants.{NonPositiveWidth, ZeroCount, Overflow, NonPositiveStart, FactorTooSmall, NoWholeFactor}

abbrev pub error_number : error.BucketError → ℕ
error_number NonPositiveWidth = 1
error_number ZeroCount = 2
error_number Overflow = 3
error_number NonPositiveStart = 4
error_number FactorTooSmall = 5
error_number NoWholeFactor = 6
