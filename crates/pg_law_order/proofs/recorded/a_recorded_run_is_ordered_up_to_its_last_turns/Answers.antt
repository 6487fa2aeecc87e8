use Rattle.pg_law_order.proofs.RecordedSchedules.{up_to}
use Rattle.pg_law_order.proofs.recorded.a_recorded_run_is_ordered_up_to_its_last_turns.Goals as goal

pub returns : goal.returns
returns c p input xs z can h = up_to p input can xs z h
