use Rattle.std.proofs.Common.{◌≡◌, length}
use Rattle.pg_schedule.specs.Cells.{Noted, nth_cell}
use Rattle.pg_schedule.proofs.block.note.Given as goal

abbrev pub invariant-loop-i : goal.invariant-loop-i
invariant-loop-i l = (length l.cells ≡ 8) × Noted (nth_cell l.initial.cells) (nth_cell l.cells) (record { start = l.at; bytes = l.i }) l.touch
