use Rattle.std.proofs.Common.{◌≡◌, false, take}
use Rattle.pg_check_heads.specs.Circles.{has}
use Rattle.pg_check_heads.proofs.circles.has.Given as goal

abbrev pub invariant-loop-index : goal.invariant-loop-index
invariant-loop-index l = has (take l.index l.all) l.place ≡ false
