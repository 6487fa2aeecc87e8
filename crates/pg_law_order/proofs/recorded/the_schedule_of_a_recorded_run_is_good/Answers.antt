use Rattle.pg_law_order.proofs.RecordedSchedules.{guides_as}
use Rattle.pg_law_order.proofs.recorded.the_schedule_of_a_recorded_run_is_good.Goals as goal

pub returns : goal.returns
returns c p input xs z can h = guides_as p input can xs z h
