-- What `/proc/self/stat` tells of a process.
use Rattle.std.specs.Prelude.{◌≡◌, ℕ, ◌+◌, ◌*◌, pos}
use Rattle.fm_grammar.specs.Exposition.{Text}
use Rattle.fastmetrics.specs.inside.ProcessTexts.{IsField}
use Rattle.fastmetrics.specs.declared.process.stat.ProcessStat.{ProcessStat}

-- The text tells this of a process. Fields 14 and 15 are its processor time and the system's for it, in hundredths of a second; 22 is
-- its start after that of the machine, in the same unit; 23 is the bytes of memory that it can address; and 24 is the pages of 4,096
-- bytes of it that are present.
pub record TellsStat (text : Text) (stat : ProcessStat) : Type 0 where
  pub own : ℕ
  pub system : ℕ
  pub addressed : ℕ
  pub pages : ℕ
  pub own_time : IsField text 14 own
  pub system_time : IsField text 15 system
  pub start : IsField text 22 stat.start_ticks
  pub in_reach : IsField text 23 addressed
  pub present : IsField text 24 pages
  pub cpu : stat.cpu_seconds ≡ pos ((own + system) * 10000)
  pub virtual : stat.virtual_bytes ≡ pos addressed
  pub resident : stat.resident_bytes ≡ pos (pages * 4096)
