use Rattle.std.proofs.Common.{◌≡◌, ◌-◌, drop, length}
use Rattle.std.specs.Prelude.{reverse}
use Rattle.pg_schedule.specs.Cells.{Keeps, cell_at}
use Rattle.pg_schedule.specs.Touches.{behind_in}
use Rattle.pg_schedule.proofs.answered.answered_behind.Given as goal

abbrev pub invariant-loop-k : goal.invariant-loop-k
invariant-loop-k l = (l.answered.items ≡ reverse (behind_in (drop (length l.touches - l.k) l.touches))) × Keeps (cell_at l.table) (drop (length l.touches - l.k) l.touches)
