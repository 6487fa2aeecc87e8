use Rattle.pg_session_runner.proofs.TurnCounts.{few_turns}
use Rattle.pg_session_runner.proofs.laws.a_recorded_schedule_has_few_turns.Goals as goal

pub returns : goal.returns
returns c p input xs z entry h is_entry = few_turns p input xs z entry h is_entry
