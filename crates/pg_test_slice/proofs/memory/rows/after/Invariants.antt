use Rattle.std.proofs.Common.{◌<◌, ℕ}
use Rattle.pg_slice_memory.specs.Changes.{AreSymbolicNodes}
use Rattle.pg_test_slice.proofs.memory.rows.after.Given as goal

abbrev pub invariant-loop-act : goal.invariant-loop-act
invariant-loop-act l = (n : ℕ) → 0 < n → AreSymbolicNodes n l.memory
