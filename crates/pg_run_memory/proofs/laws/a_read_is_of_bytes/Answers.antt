use Rattle.pg_run_memory.proofs.ReadsAndWrites.{read-small}
use Rattle.pg_run_memory.proofs.laws.a_read_is_of_bytes.Goals as goal

pub returns-clause-in_range : goal.returns-clause-in_range
returns-clause-in_range c = read-small
