use Rattle.std.proofs.Common.{take}
use Rattle.pg_slice_conflicts.specs.Merged.{StandAt}
use Rattle.pg_slice_conflicts.proofs.merged.answers_at.Given as goal

abbrev pub invariant-loop-number : goal.invariant-loop-number
invariant-loop-number l = StandAt l.answers (take l.number-index l.numbers) l.spread.items
