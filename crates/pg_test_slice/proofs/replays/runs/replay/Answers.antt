use Rattle.pg_run.specs.Rotation.{rotation_of}
use Rattle.pg_test_slice.proofs.replays.runs.replay.Goals as goal

pub reference-requires-clause-run : goal.reference-requires-clause-run
reference-requires-clause-run c = ((rotation_of c.args.p.now c.args.input.now 1).state, c.in_ok-recorded.ensures.run)
