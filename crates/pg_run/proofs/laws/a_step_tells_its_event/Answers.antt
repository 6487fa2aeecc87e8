use Rattle.pg_run.proofs.Locality.{event_told}
use Rattle.pg_run.proofs.laws.a_step_tells_its_event.Goals as goal

pub returns : goal.returns
returns c = event_told
