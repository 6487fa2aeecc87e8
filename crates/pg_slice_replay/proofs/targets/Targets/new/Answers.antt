use Rattle.pg_slice_replay.proofs.TargetsKept.{none_targets}
use Rattle.pg_slice_replay.proofs.targets.Targets.new.Goals as goal

pub returns : goal.returns
returns c = λ p. none_targets p c.in_ok-kept.kept.items c.in_ok-kept.ensures
