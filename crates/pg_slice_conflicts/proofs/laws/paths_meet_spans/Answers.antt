use Rattle.pg_slice_conflicts.proofs.SpansMeetPaths.{meeting}
use Rattle.pg_slice_conflicts.proofs.laws.paths_meet_spans.Goals as goal

pub returns : goal.returns
returns c = λ levels leaves low high leaf t a b d e f. meeting levels leaves low high leaf t (record { low_from = a; low_to = b; high_to = d; leaf_from = e; leaf_to = f })
