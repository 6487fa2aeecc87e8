use Rattle.pg_law_threads.proofs.StepsAtCuts.{goes}
use Rattle.pg_law_threads.proofs.steps_find_and_leave.Goals as goal

pub returns : goal.returns
returns c T z plan g s u x is_plan at due = goes T z plan is_plan g s u x at due
