use Rattle.pg_run_memory.proofs.ReadsAndWrites.{memory_of_memory, byte_at-memory_of, same_bytes}
use Rattle.pg_run_memory.proofs.laws.a_memory_is_its_bytes.Goals as goal

pub returns-clause-some : goal.returns-clause-some
returns-clause-some c = memory_of_memory

pub returns-clause-bytes : goal.returns-clause-bytes
returns-clause-bytes c = byte_at-memory_of

pub returns-clause-one : goal.returns-clause-one
returns-clause-one c = same_bytes
