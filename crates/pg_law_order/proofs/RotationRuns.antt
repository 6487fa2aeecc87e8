-- A rotation run that exits is a recorded run.
use Rattle.std.proofs.Common.{◌≡◌, ℕ, ℤ, List, subst}
use Rattle.pg_num.specs.declared.limits.TheConstants.{RECORDING_STEP_LIMIT}
use Rattle.pg_ir.specs.Program.{NumberedProgram}
use Rattle.pg_run.specs.declared.outcome.Outcome.TheVariants as ends
use Rattle.pg_run.specs.State.{exit_value_of}
use Rattle.pg_run.specs.Recordings.{EndsBy}
use Rattle.pg_run.specs.Rotation.{rotation_of}
use Rattle.pg_run.proofs.Recordings.{rotation_recording}
use Rattle.pg_law_runs.specs.LastTurns.{IsRecorded}

pub rotation_recorded : (p : NumberedProgram) (input : List ℤ) (q : ℕ) (v : ℤ) → (rotation_of p input q).end ≡ ends.Exit v
    → IsRecorded p input (rotation_of p input q).trace (rotation_of p input q).state × (v ≡ exit_value_of (rotation_of p input q).state)
rotation_recorded p input q v e =
    let r = rotation_recording p input q in
    let o = subst (EndsBy RECORDING_STEP_LIMIT p input (rotation_of p input q).trace (rotation_of p input q).state) e r.ends in
    (record { run = r.run; over = o.0; short = r.short }, o.1)
