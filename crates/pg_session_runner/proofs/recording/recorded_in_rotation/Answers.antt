use Rattle.std.proofs.Common.{refl}
use Rattle.pg_go.specs.pg_run.Rotation.{rotation_of}
use Rattle.pg_session_runner.specs.Runs.{rotating}
use Rattle.pg_session_runner.proofs.recording.recorded_in_rotation.Goals as goal

pub kept_of-requires : goal.kept_of-requires
kept_of-requires c =
    let p = c.args.p.now in
    let input = c.args.input.now in
    let run = rotation_of p input c.args.quantum in
    (p, input, run.trace, run.end, run.state.printed, (run.state, c.a_rotation_is_a_run.ensures.recording p input c.args.quantum, refl, c.in_ok-made.ensures))

pub returns-clause-gives : goal.returns-clause-gives
returns-clause-gives c =
    let p = c.args.p.now in
    let input = c.args.input.now in
    let run = rotation_of p input c.args.quantum in
    c.kept_of.ensures.gives p (rotating c.args.quantum) input run.trace run.state run.end c.requires.can_run (refl, refl, refl) c.in_ok-made.ensures
