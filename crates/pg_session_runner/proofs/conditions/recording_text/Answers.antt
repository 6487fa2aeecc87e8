use Rattle.std.proofs.Common.{subst}
use Rattle.pg_session.specs.Recordings.{ComesOfRecording}
use Rattle.pg_session_runner.specs.Runs.{runs_by}
use Rattle.pg_session_runner.proofs.conditions.recording_text.Goals as goal

pub unreachable-requires : goal.unreachable-requires
unreachable-requires c =
    let h = c.requires in
    h.4 (subst (ComesOfRecording (runs_by h.0 h.1) h.2) c.in-Untested.is h.3)
