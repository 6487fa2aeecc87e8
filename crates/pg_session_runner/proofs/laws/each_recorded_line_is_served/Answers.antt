use Rattle.pg_session_runner.proofs.RecordedLines.{line_is_served}
use Rattle.pg_session_runner.proofs.laws.each_recorded_line_is_served.Goals as goal

pub returns : goal.returns
returns c p way given inputs answers kept session line number answer at kind =
    line_is_served p way given inputs answers line number (λ own quantum. c.a_rotation_is_a_run.ensures.recording p own quantum) kept session answer at kind
