use Rattle.std.proofs.Common.{take}
use Rattle.pg_check_heads.specs.Circles.{Noted}
use Rattle.pg_check_heads.proofs.circles.note_all.Given as goal

abbrev pub invariant-loop-index : goal.invariant-loop-index
invariant-loop-index l = Noted (take l.index l.all) l.fn.seen.items l.seen.items l.next.items
