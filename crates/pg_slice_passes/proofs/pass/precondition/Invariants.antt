use Rattle.std.proofs.Common.{◌≡◌, take}
use Rattle.pg_slice_passes.proofs.pass.precondition.Given as goal

abbrev pub invariant-loop-i : goal.invariant-loop-i
invariant-loop-i l = (l.c.nodes ≡ l.fn.nodes) × (l.c.checks ≡ take l.i l.checks)
