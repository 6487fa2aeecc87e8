use Rattle.pg_run_thread.proofs.OperationSteps.{tie}
use Rattle.pg_run_thread.proofs.ComputedSteps.{computed_step, not_computed}
use Rattle.pg_run_thread.proofs.laws.a_result_is_computed.Goals as goal

pub returns-clause-operation : goal.returns-clause-operation
returns-clause-operation c = tie

pub returns-clause-step : goal.returns-clause-step
returns-clause-step c = computed_step

pub returns-clause-none : goal.returns-clause-none
returns-clause-none c = not_computed
