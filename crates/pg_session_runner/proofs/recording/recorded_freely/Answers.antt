use Rattle.pg_session_runner.specs.Runs.{freely}
use Rattle.pg_session_runner.proofs.RoundCounts.{rose_none, rose_one}
use Rattle.pg_session_runner.proofs.recording.recorded_freely.Goals as goal

pub kept_of-requires : goal.kept_of-requires
kept_of-requires g c =
    let r = c.in_ok-recording.recording in
    (c.args.p.now, c.args.input.now, r.trace.steps, r.end, r.output.items, c.in_ok-made.ensures)

pub returns-clause-gives : goal.returns-clause-gives
returns-clause-gives g c =
    let r = c.in_ok-recording.recording in
    let made = c.in_ok-made.ensures in
    c.kept_of.ensures.gives c.args.p.now freely c.args.input.now r.trace.steps made.0 r.end c.requires.can_run made.1 made.3

pub returns-clause-rounds : goal.returns-clause-rounds
returns-clause-rounds g c = rose_one _ _ c.in_ok-recording.ensures.never_falls c.in_ok-recording.ensures.counts

pub returns-clause-stays : goal.returns-clause-stays
returns-clause-stays g c = rose_none _ _ c.in_ok-recording.ensures.never_falls
