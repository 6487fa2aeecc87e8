use Rattle.std.proofs.Common.{◌≡◌, ℕ, ◌*◌}
use Rattle.pg_run_memory.specs.Memory.{byte_at}
use Rattle.pg_run_memory.proofs.InitialBytes.{laid}
use Rattle.pg_run_memory.proofs.globals.lay.Given as goal

abbrev pub invariant-loop-i : goal.invariant-loop-i
invariant-loop-i l = (b : ℕ) → byte_at l.memory b ≡ laid (l.granule * 8) l.bytes l.i (byte_at l.fn.memory) b
