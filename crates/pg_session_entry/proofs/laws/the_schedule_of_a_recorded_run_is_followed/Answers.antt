use Rattle.std.proofs.Common.{◌≤◌, length, arith}
use Rattle.pg_num.specs.declared.limits.TheConstants.{RECORDING_STEP_LIMIT}
use Rattle.pg_run_trace.specs.Races.{schedule_of}
use Rattle.pg_run.specs.Guided.{guided_of}
use Rattle.pg_law_order.specs.Schedules.{along}
use Rattle.pg_session_entry.proofs.FollowedSchedules.{along_fewer, follows}
use Rattle.pg_session_entry.proofs.laws.the_schedule_of_a_recorded_run_is_followed.Goals as goal

pub returns : goal.returns
returns c p input xs z can h =
    let s = schedule_of xs in
    let r = guided_of p input s.turns s.gated in
    let up = c.a_recorded_run_is_ordered_up_to_its_last_turns.ensures p input xs z can h in
    let a : length r.trace ≤ length (along s xs) = c.a_permitted_run_goes_on.ensures.ends p input s.turns s.gated
    (along s xs) r.trace up.last r.state can up.ordered (c.a_guided_run_is_permitted.ensures p input s.turns s.gated) in
    let b : length (along s xs) ≤ RECORDING_STEP_LIMIT = along_fewer p input xs z h in
    follows p input xs z (c.the_schedule_of_a_recorded_run_is_good.ensures p input xs z can h) (omega (arith, a, b))
