use Rattle.std.proofs.Common.{◌≡◌, false}
use Rattle.pg_schedule.specs.Cells.{cell_at, is_above}
use Rattle.pg_schedule.specs.Touches.{any_byte}
use Rattle.pg_schedule.proofs.answered.is_met_anywhere.Given as goal

abbrev pub invariant-loop-i : goal.invariant-loop-i
invariant-loop-i l = any_byte (is_above (cell_at l.table) l.touch) l.touch.start l.i ≡ false
