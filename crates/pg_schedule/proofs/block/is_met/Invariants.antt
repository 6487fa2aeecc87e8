use Rattle.std.proofs.Common.{◌≡◌, false}
use Rattle.pg_schedule.specs.Cells.{is_above, nth_cell}
use Rattle.pg_schedule.specs.Touches.{any_byte}
use Rattle.pg_schedule.proofs.block.is_met.Given as goal

abbrev pub invariant-loop-i : goal.invariant-loop-i
invariant-loop-i l = any_byte (is_above (nth_cell l.cells) l.touch) l.at l.i ≡ false
