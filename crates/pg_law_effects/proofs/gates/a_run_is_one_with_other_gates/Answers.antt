use Rattle.pg_law_effects.proofs.OtherGates.{rotation_gated, run_gated}
use Rattle.pg_law_effects.proofs.gates.a_run_is_one_with_other_gates.Goals as goal

pub returns-clause-runs : goal.returns-clause-runs
returns-clause-runs c = run_gated

pub returns-clause-rotations : goal.returns-clause-rotations
returns-clause-rotations c = rotation_gated
