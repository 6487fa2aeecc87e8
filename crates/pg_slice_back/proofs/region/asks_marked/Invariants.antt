use Rattle.std.proofs.Common.{◌-◌}
use Rattle.pg_region_accesses.specs.Tables.{in_table}
use Rattle.pg_slice_back.proofs.RegionWrites.{Unasked}
use Rattle.pg_slice_back.proofs.region.asks_marked.Given as goal

abbrev pub invariant-loop-register : goal.invariant-loop-register
invariant-loop-register l = Unasked (in_table l.marks) l.at.thread.0 l.at.depth l.count l.demanded l.from

abbrev pub decreases-loop-register : goal.decreases-loop-register
decreases-loop-register l = 4294967296 - l.from
