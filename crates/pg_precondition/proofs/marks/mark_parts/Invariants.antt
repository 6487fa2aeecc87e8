use Rattle.std.proofs.Common.{take}
use Rattle.pg_precondition.specs.Marks.{Marked}
use Rattle.pg_precondition.proofs.marks.mark_parts.Given as goal

abbrev pub invariant-loop-i : goal.invariant-loop-i
invariant-loop-i l = Marked l.initial.marks l.marks (take l.i l.parts)
