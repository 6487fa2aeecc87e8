use Rattle.pg_schedule.specs.Cells.{Noted, cell_at}
use Rattle.pg_schedule.proofs.answered.note_anywhere.Given as goal

abbrev pub invariant-loop-i : goal.invariant-loop-i
invariant-loop-i l = Noted (cell_at l.initial.table) (cell_at l.table) (record { start = l.touch.start; bytes = l.i }) l.touch
