use Rattle.pg_run.proofs.Locality.{memory_told, rest_keeps}
use Rattle.pg_run.proofs.laws.a_step_changes_little.Goals as goal

pub returns-clause-memory : goal.returns-clause-memory
returns-clause-memory c = memory_told

pub returns-clause-rest : goal.returns-clause-rest
returns-clause-rest c = rest_keeps
