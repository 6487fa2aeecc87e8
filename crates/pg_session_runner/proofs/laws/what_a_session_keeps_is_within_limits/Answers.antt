use Rattle.pg_session_runner.proofs.RecordedLimits.{session_within}
use Rattle.pg_session_runner.proofs.laws.what_a_session_keeps_is_within_limits.Goals as goal

pub returns : goal.returns
returns c p way first kept inputs answers size within few h =
    (session_within p way (λ own quantum. c.a_rotation_is_a_run.ensures.recording p own quantum) first kept inputs answers (size, within) few h).1
