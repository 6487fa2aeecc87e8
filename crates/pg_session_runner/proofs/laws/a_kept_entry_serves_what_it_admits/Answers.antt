use Rattle.std.proofs.Common.{refl}
use Rattle.pg_go.specs.pg_run.declared.outcome.Outcome.TheVariants as outcomes
use Rattle.pg_law_reuse.proofs.EntryParts.{recorded_of}
use Rattle.pg_session_runner.proofs.RecordedWays.{is_recording}
use Rattle.pg_session_runner.proofs.laws.a_kept_entry_serves_what_it_admits.Goals as goal

pub returns-clause-good : goal.returns-clause-good
returns-clause-good c p way own input entry output end can kept small admitted =
    let recording = is_recording p way own kept.steps kept.state (outcomes.Exit kept.value) (λ q. c.a_rotation_is_a_run.ensures.recording p own q) kept.exits in
    c.an_entry_serves_what_it_admits.ensures.good p own input kept.steps kept.state entry can
    (recorded_of p own kept.steps kept.state (outcomes.Exit kept.value) kept.value refl recording) kept.is_entry small admitted

pub returns-clause-served : goal.returns-clause-served
returns-clause-served c p way own input entry output end can kept small admitted =
    let recording = is_recording p way own kept.steps kept.state (outcomes.Exit kept.value) (λ q. c.a_rotation_is_a_run.ensures.recording p own q) kept.exits in
    c.an_entry_serves_what_it_admits.ensures.served p own input kept.steps kept.state entry can
    (recorded_of p own kept.steps kept.state (outcomes.Exit kept.value) kept.value refl recording) kept.is_entry small admitted
