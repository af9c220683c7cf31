use Rattle.std.proofs.Common.{rules}
use Rattle.fastmetrics.proofs.process.stat.ProcessStat.parse.Goals as goal

pub returns : goal.returns
returns c =
    let after = c.in_ok-after.after.now in
    let is_after = c.in_ok-after.ensures in
    let (own, system, own_time, system_time, cpu) = c.in_ok-seconds_at.ensures in
    let (addressed, in_reach, virtual) = c.in_ok-times_at.ensures in
    let (pages, present, resident) = c.in_ok-times_at-2.ensures in
    record {
      own = own;
      system = system;
      addressed = addressed;
      pages = pages;
      own_time = record { after = after; after_name = is_after; at = own_time };
      system_time = record { after = after; after_name = is_after; at = system_time };
      start = record { after = after; after_name = is_after; at = c.in_ok-number_at.ensures };
      in_reach = record { after = after; after_name = is_after; at = in_reach };
      present = record { after = after; after_name = is_after; at = present };
      cpu = cpu;
      virtual = search (rules, virtual);
      resident = search (rules, resident);
    }
