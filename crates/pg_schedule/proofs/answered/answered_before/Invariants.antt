use Rattle.std.proofs.Common.{◌≡◌, ◌++◌, [], drop, take}
use Rattle.pg_schedule.specs.Cells.{Keeps, cell_at}
use Rattle.pg_schedule.specs.Touches.{before_in}
use Rattle.pg_schedule.proofs.answered.answered_before.Given as goal

abbrev pub invariant-loop-i : goal.invariant-loop-i
invariant-loop-i l = (l.answered.items ++ before_in (take l.i l.touches) (drop l.i l.touches) ≡ before_in [] l.touches) × Keeps (cell_at l.table) (take l.i l.touches)
