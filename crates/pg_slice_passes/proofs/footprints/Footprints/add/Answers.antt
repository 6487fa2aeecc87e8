use Rattle.pg_law_demands.specs.pg_law_least.Footprints.{access_footprints, region_footprints}
use Rattle.pg_slice_passes.proofs.FootprintOrder.{adds_both}
use Rattle.pg_slice_passes.proofs.RegionFootprints.{owner_is, then_added, then_owned}
use Rattle.pg_slice_passes.specs.Rows.{all_footprints, all_owners}
use Rattle.pg_slice_passes.proofs.footprints.Footprints.add.Goals as goal

pub returns-clause-footprints : goal.returns-clause-footprints
returns-clause-footprints c = λ x t l q.
    then_added (all_footprints c.args.self.now) (all_footprints c.add_access.new.self) (all_footprints c.add_region.new.self) (access_footprints x) (region_footprints x)
    (c.in_ok-add_access.ensures.footprints x t l)
    (c.in_ok-add_region.ensures.footprints x t l q)

pub returns-clause-owners : goal.returns-clause-owners
returns-clause-owners c = λ x t l e q.
    let o = owner_is x c.args.at.now.step.now c.args.at.now.interval c.args.at.now.n c.is_plain.result t e c.is_plain.ensures in
    then_owned x _ (all_owners c.args.self.now) (all_owners c.add_access.new.self) (all_owners c.add_region.new.self) o (c.in_ok-add_access.ensures.owners x t l)
    (c.in_ok-add_region.ensures.owners x t l q)

pub returns-clause-timed : goal.returns-clause-timed
returns-clause-timed c = adds_both c.args.at.now.step.now c.args.at.now.interval c.args.self.now c.add_access.new.self c.add_region.new.self c.in_ok-add_access.ensures.timed
    c.in_ok-add_region.ensures.timed

pub add_region-requires-clause-rows : goal.add_region-requires-clause-rows
add_region-requires-clause-rows c = c.in_ok-add_access.ensures.timed.rows
