use Rattle.pg_run_memory.proofs.ReadsAndWrites.{written-written_apart}
use Rattle.pg_run_memory.proofs.laws.writes_apart_commute.Goals as goal

pub returns : goal.returns
returns c = written-written_apart
