use Rattle.std.proofs.Common.{refl}
use Rattle.pg_run.proofs.GatedMarks.{marks_more}
use Rattle.pg_run.proofs.gated.marked.Goals as goal

pub loop-id-preserved : goal.loop-id-preserved
loop-id-preserved c = rw c.mark.ensures (marks_more c.args.ids.now c.loop-id.id-index (record { 0 = 0 }) _ c.loop-id.marks.items c.loop-id.invariant c.loop-id-test.true refl)
