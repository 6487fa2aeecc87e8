use Rattle.std.proofs.Common.{◌≤◌, length}
use Rattle.pg_test_slice.proofs.slices.tests.checks.check_each.Given as goal

abbrev pub invariant-loop-i : goal.invariant-loop-i
invariant-loop-i g l = length l.c.nodes ≤ l.scratch.room
