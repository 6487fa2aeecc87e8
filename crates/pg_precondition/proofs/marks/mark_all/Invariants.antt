use Rattle.std.proofs.Common.{◌-◌, length}
use Rattle.pg_precondition.specs.Marks.{AreMarks}
use Rattle.pg_precondition.proofs.marks.mark_all.Given as goal

abbrev pub invariant-loop-k : goal.invariant-loop-k
invariant-loop-k l = AreMarks l.c l.marks (length l.c.nodes - l.k)
