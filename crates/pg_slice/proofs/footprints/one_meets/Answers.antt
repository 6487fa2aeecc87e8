use Rattle.std.proofs.Common.{◌++◌}
use Rattle.std.specs.List.{list_any}
use Rattle.pg_run_trace.specs.Steps.{access_of}
use Rattle.pg_slice_rules.specs.Rules.{Footprint, footprints_conflict, footprint_of, footprints_in}
use Rattle.pg_slice_walk.specs.pg_slice_replay.Landmarks.{Landmark}
use Rattle.pg_slice.proofs.RegionBounds.{region_meets}
use Rattle.pg_slice.proofs.footprints.one_meets.Goals as goal

pub returns-in-Some : goal.returns-in-Some
returns-in-Some c = region_meets (λ (x : Footprint) (q : Landmark).
    list_any (footprints_conflict x) (footprint_of (access_of c.args.step.now) ++ footprints_in q.region)) _ _ c.args.k c.access.result c.in-Some.access c.in-Some.is
    c.access.ensures.access c.meets_step.result c.meets_step.ensures
