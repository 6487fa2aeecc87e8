use Rattle.std.proofs.Common.{◌≡◌, ◌++◌, true}
use Rattle.pg_run_trace.specs.Steps.{access_of}
use Rattle.pg_slice_rules.specs.Rules.{any_conflict, footprint_of, footprints_in}
use Rattle.pg_slice_walk.specs.pg_slice_replay.Kept.{landmark_at}
use Rattle.pg_slice_walk.specs.pg_slice_replay.Landmarks.{Landmark}
use Rattle.pg_slice.proofs.TimedSteps.{disturbs_by}
use Rattle.pg_slice.proofs.MoreDecisions.{both_some}
use Rattle.pg_slice.proofs.meetings.disturbs.Goals as goal

pub returns : goal.returns
returns c = λ q. disturbs_by c.args.run.now.t.now.steps c.args.run.now.intervals.now c.requires.intervals c.args.run.now.r.now c.args.number c.args.other c.step-step.result c.step-step.ensures
    (c.are_together.ensures c.if-not-are_together.false)
    (both_some {A = Landmark} {B = Landmark} (landmark_at c.args.run.now.r.now c.args.number) (landmark_at c.args.run.now.r.now c.args.other) c.region_meets.result
    (λ (l k : Landmark). any_conflict (footprints_in l.region) (footprint_of (access_of c.step-step.result) ++ footprints_in k.region) ≡ true) q c.region_meets.ensures)
