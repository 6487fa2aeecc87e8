use Rattle.std.proofs.Common.{◌≡◌, ◌+◌, ◌-◌, ◌*◌, ◌^◌, ◌<◌}
use Rattle.pg_run_memory.specs.Bytes.{number_of}
use Rattle.pg_run_memory.specs.Initial.{initial_byte}
use Rattle.pg_slice_memory.proofs.initial.initial_number.Given as goal

abbrev pub invariant-loop-k : goal.invariant-loop-k
invariant-loop-k l = record {
  value : l.number ≡ number_of (initial_byte l.p.globals) (l.start + (l.count - l.k)) l.k;
  small : l.number < 2 ^ (8 * l.k);
}
