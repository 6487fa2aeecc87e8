use Rattle.pg_run.proofs.Recordings.{rotation_recording}
use Rattle.pg_run.proofs.Runs.{rotation_runs}
use Rattle.pg_run.proofs.laws.a_rotation_is_a_run.Goals as goal

pub returns-clause-run : goal.returns-clause-run
returns-clause-run c = rotation_runs

pub returns-clause-recording : goal.returns-clause-recording
returns-clause-recording c = rotation_recording
