use Rattle.pg_room.proofs.WordBytes.{IsMade}
use Rattle.pg_room.proofs.laying.word_at.Given as goal

abbrev pub invariant-loop-left : goal.invariant-loop-left
invariant-loop-left l = IsMade l.bytes l.from l.left l.word

abbrev pub decreases-loop-left : goal.decreases-loop-left
decreases-loop-left l = l.left
