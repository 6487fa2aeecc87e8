use Rattle.pg_ir.proofs.of_pg_num.Granules.{IsPlace-in_granule, IsPlace-in_memory}
use Rattle.pg_run_memory.proofs.Places.{read_is_part, written_is_put}
use Rattle.pg_run_memory.proofs.laws.an_access_is_of_one_granule.Goals as goal

pub returns-clause-read : goal.returns-clause-read
returns-clause-read c = λ m r p. read_is_part m r (IsPlace-in_granule r p)

pub returns-clause-written : goal.returns-clause-written
returns-clause-written c = λ m r v h p small. written_is_put m r v h (IsPlace-in_memory r p) (IsPlace-in_granule r p) small
