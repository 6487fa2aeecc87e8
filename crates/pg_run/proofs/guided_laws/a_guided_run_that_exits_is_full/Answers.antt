use Rattle.pg_run.proofs.GuidedExits.{guided_exits}
use Rattle.pg_run.proofs.guided_laws.a_guided_run_that_exits_is_full.Goals as goal

pub returns : goal.returns
returns c = guided_exits
