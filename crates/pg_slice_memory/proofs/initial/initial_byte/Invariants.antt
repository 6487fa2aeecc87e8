use Rattle.std.proofs.Common.{◌≡◌, drop}
use Rattle.pg_run_memory.specs.Initial.{initial_byte}
use Rattle.pg_slice_memory.proofs.initial.initial_byte.Given as goal

abbrev pub invariant-loop-g : goal.invariant-loop-g
invariant-loop-g l = initial_byte (drop l.g l.p.globals) l.byte ≡ initial_byte l.p.globals l.byte
