use Rattle.pg_run.specs.Rotation.{rotation_of}
use Rattle.pg_law_order.proofs.RecordedSchedules.{guides_as}
use Rattle.pg_law_order.proofs.RotationRuns.{rotation_recorded}
use Rattle.pg_law_order.proofs.recorded.the_schedule_of_a_rotation_run_is_good.Goals as goal

pub returns-clause-recorded : goal.returns-clause-recorded
returns-clause-recorded c = rotation_recorded

pub returns-clause-good : goal.returns-clause-good
returns-clause-good c p input q v can e = guides_as p input can (rotation_of p input q).trace (rotation_of p input q).state (rotation_recorded p input q v e).0
