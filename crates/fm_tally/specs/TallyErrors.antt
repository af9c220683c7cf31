-- The numbers of a tally's errors.
use Rattle.std.specs.Prelude.{ℕ}
use Rattle.fm_tally.specs.declared.error.TallyError.{TallyError}
use Rattle.fm_tally.specs.declared.error.TallyError.TheVariants.{Memory, Full, MissingShares, GateRefused, CountFull, SpawnFailed, Overrun}

abbrev pub error_number : TallyError → ℕ
error_number Memory = 1
error_number Full = 2
error_number MissingShares = 3
error_number (GateRefused piece) = 4
error_number CountFull = 5
error_number SpawnFailed = 6
error_number Overrun = 7
