use Rattle.pg_run_memory.proofs.ReadsAndWrites.{byte_at-past, byte_at-written_law, written_memory_law}
use Rattle.pg_run_memory.proofs.laws.a_write_changes_its_bytes.Goals as goal

pub returns-clause-memory : goal.returns-clause-memory
returns-clause-memory c = written_memory_law

pub returns-clause-bytes : goal.returns-clause-bytes
returns-clause-bytes c = byte_at-written_law

pub returns-clause-behind : goal.returns-clause-behind
returns-clause-behind c = byte_at-past
