use Rattle.pg_run.specs.Rotation.{rotation_of}
use Rattle.pg_session_entry.proofs.EntryParts.{recorded_so, recording}
use Rattle.pg_session_entry.proofs.recording.record.Goals as goal

pub record_of-requires-clause-recording : goal.record_of-requires-clause-recording
record_of-requires-clause-recording c =
    let p = c.args.p.now in
    let input = c.args.input.now in
    let run = rotation_of p input c.args.quantum in (
      run.state,
      recording p input run c.rotate_into.new.trace.steps c.in_ok-ended.ended.end c.in_ok-ended.ensures.trace c.in_ok-ended.ensures.end
          (c.a_rotation_is_a_run.ensures.recording p input c.args.quantum),
    )

pub returns : goal.returns
returns c =
    let p = c.args.p.now in
    let input = c.args.input.now in
    let run = rotation_of p input c.args.quantum in
    let rec = recording p input run c.rotate_into.new.trace.steps c.in_ok-ended.ended.end c.in_ok-ended.ensures.trace c.in_ok-ended.ensures.end
    (c.a_rotation_is_a_run.ensures.recording p input c.args.quantum) in
    recorded_so p input run c.rotate_into.new.trace.steps c.in_ok-ended.ended.end c.in_ok-made.made c.in_ok-ended.ensures.trace c.in_ok-ended.ensures.end
    (c.in_ok-made.ensures run.state rec c.in_ok-ended.ensures.output)
