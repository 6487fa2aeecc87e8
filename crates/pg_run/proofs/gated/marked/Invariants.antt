use Rattle.pg_run.proofs.GatedMarks.{AreMarked}
use Rattle.pg_run.proofs.gated.marked.Given as goal

abbrev pub invariant-loop-id : goal.invariant-loop-id
invariant-loop-id l = AreMarked l.ids l.id-index l.marks.items
