use Rattle.pg_run_memory.proofs.ReadsAndWrites.{read-written_same, read-written_apart, read-written_overlapping}
use Rattle.pg_run_memory.proofs.laws.a_read_sees_the_write.Goals as goal

pub returns-clause-same : goal.returns-clause-same
returns-clause-same c = read-written_same

pub returns-clause-apart : goal.returns-clause-apart
returns-clause-apart c = read-written_apart

pub returns-clause-overlapping : goal.returns-clause-overlapping
returns-clause-overlapping c = read-written_overlapping
