use Rattle.pg_run.specs.Rotation.{rotation_of}
use Rattle.pg_session_entry.proofs.EntryParts.{recording}
use Rattle.pg_test_session.proofs.entries.recorded.recorded_before.Goals as goal

pub from_recorded-requires-clause-recording : goal.from_recorded-requires-clause-recording
from_recorded-requires-clause-recording c =
    let p = c.args.p.now in
    let input = c.args.input.now in
    let run = rotation_of p input 100 in (
      run.state,
      recording p input run c.rotate_into.new.trace.steps c.in_ok-ended.ended.end c.in_ok-ended.ensures.trace c.in_ok-ended.ensures.end
          (c.a_rotation_is_a_run.ensures.recording p input 100),
      c.in_ok-ended.ensures.output,
    )
