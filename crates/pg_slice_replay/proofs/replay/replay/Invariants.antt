use Rattle.pg_law_effects.specs.pg_run.Machine.{IsMachine}
use Rattle.pg_slice_replay.specs.Landmarks.{landmark_with}
use Rattle.pg_slice_replay.specs.Sought.{freed_in}
use Rattle.pg_slice_replay.specs.Targets.{AreTargets}
use Rattle.pg_slice_replay.proofs.Replays.{Replayed}
use Rattle.pg_slice_replay.proofs.replay.replay.Given as goal

abbrev pub invariant-loop-i : goal.invariant-loop-i
invariant-loop-i l = record {
  of : IsMachine l.run.program.now l.machine.state;
  targets : AreTargets l.run.program.now l.targets.kept.items l.machine.state;
  replayed : Replayed (λ s x. landmark_with l.run.program.now (freed_in l.run.program.now l.run.regions.now.blocks.items l.run.regions.now.regions.items s x) s x) l.run.program.now l.run.regions.now.regions.items l.initial.machine l.run.trace.now.steps l.i l.machine
      l.rows.items l.ats.items;
}
