use Rattle.pg_run.proofs.GuidedPermitted.{guided_permitted}
use Rattle.pg_run.proofs.guided_laws.a_guided_run_is_permitted.Goals as goal

pub returns : goal.returns
returns c = guided_permitted
