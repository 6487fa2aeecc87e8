use Rattle.pg_slice_rules.specs.Rules.{footprints_conflict}
use Rattle.pg_slice.specs.Footprints.{pointer_footprint}
use Rattle.pg_slice.proofs.RegionBounds.{region_has}
use Rattle.pg_slice.proofs.footprints.meets_one.Goals as goal

pub returns-in-Some : goal.returns-in-Some
returns-in-Some c = region_has (footprints_conflict (pointer_footprint c.args.a)) _ c.args.k c.access.result c.in-Some.access c.in-Some.is c.access.ensures.access c.meet.result c.meet.ensures
