use Rattle.std.proofs.Common.{map, take}
use Rattle.pg_precondition.specs.Marks.{Marked, node_of}
use Rattle.pg_precondition.proofs.marks.mark_checks.Given as goal

abbrev pub invariant-loop-i : goal.invariant-loop-i
invariant-loop-i l = Marked l.initial.marks l.marks (map node_of (take l.i l.checks))
