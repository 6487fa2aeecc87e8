-- What was recorded in some way is a recording.
use Rattle.std.proofs.Common.{ℕ, ℤ, List, sym, subst}
use Rattle.pg_go.specs.pg_ir.Program.{NumberedProgram}
use Rattle.pg_go.specs.pg_run_trace.declared.step.Step.{Step}
use Rattle.pg_go.specs.pg_run.declared.outcome.Outcome.{Outcome}
use Rattle.pg_go.specs.pg_run.Recordings.{IsRecording}
use Rattle.pg_go.specs.pg_run.Rotation.{rotation_of}
use Rattle.pg_go.specs.pg_run.State.{State}
use Rattle.pg_session_runner.specs.Runs.{IsRecordedBy, Way, freely, rotating, tested}

pub is_recording : (p : NumberedProgram) (way : Way) (own : List ℤ) (xs : List Step) (z : State) (end : Outcome)
    → ((quantum : ℕ) → IsRecording p own (rotation_of p own quantum).trace (rotation_of p own quantum).state (rotation_of p own quantum).end)
    → IsRecordedBy p way own xs z end → IsRecording p own xs z end
is_recording p (rotating quantum) own xs z end rotations h =
    let r = rotation_of p own quantum in
    subst (λ (ys : List Step). IsRecording p own ys z end) (sym h.0)
    (subst (λ (y : State). IsRecording p own r.trace y end) (sym h.1) (subst (λ (e : Outcome). IsRecording p own r.trace r.state e) (sym h.2) (rotations quantum)))
is_recording p freely own xs z end rotations h = h
is_recording p tested own xs z end rotations h = absurd h
