use Rattle.pg_run_trace.proofs.KindNames.{found, named, one}
use Rattle.pg_run_trace.proofs.laws.a_kind_has_a_name_of_its_own.Goals as goal

pub returns-clause-found : goal.returns-clause-found
returns-clause-found c = found

pub returns-clause-named : goal.returns-clause-named
returns-clause-named c = named

pub returns-clause-one : goal.returns-clause-one
returns-clause-one c = one
