use Rattle.std.proofs.Common.{◌++◌, ◌∙◌}
use Rattle.pg_law_demands.specs.pg_law_least.Footprints.{access_footprints, region_footprints}
use Rattle.pg_slice_passes.specs.Footprints.{owners_at}
use Rattle.pg_slice_passes.proofs.OneStepMore.{no_owners_at, no_footprints_at}
use Rattle.pg_slice_passes.proofs.FootprintOrder.{adds_nothing}
use Rattle.pg_slice_passes.proofs.RegionFootprints.{none_added}
use Rattle.pg_slice_passes.proofs.StepReads.{live_is, region_told}
use Rattle.pg_slice_passes.specs.Rows.{all_footprints, all_owners}
use Rattle.pg_slice_passes.proofs.footprints.add_footprints.Goals as goal

pub returns-then-not-is_live-clause-footprints : goal.returns-then-not-is_live-clause-footprints
returns-then-not-is_live-clause-footprints c = λ R d p ns i y at t.
    let dead = live_is R d p ns c.args.s.now c.args.at.now.r.now c.args.at.now.n c.args.at.now.step.now i y at c.is_live.result (c.is_live.ensures p ns d.pinned y.before at.before)
    ∙ c.if-not-is_live.true in
    none_added (all_footprints c.args.footprints.now) (access_footprints y ++ region_footprints y) (no_footprints_at y dead)

pub returns-then-not-is_live-clause-owners : goal.returns-then-not-is_live-clause-owners
returns-then-not-is_live-clause-owners c = λ R d p ns i y at t.
    let dead = live_is R d p ns c.args.s.now c.args.at.now.r.now c.args.at.now.n c.args.at.now.step.now i y at c.is_live.result (c.is_live.ensures p ns d.pinned y.before at.before)
    ∙ c.if-not-is_live.true in
    none_added (all_owners c.args.footprints.now) (owners_at y) (no_owners_at y dead)

pub returns-clause-footprints : goal.returns-clause-footprints
returns-clause-footprints c = λ R d p ns i y at t.
    let live = live_is R d p ns c.args.s.now c.args.at.now.r.now c.args.at.now.n c.args.at.now.step.now i y at c.is_live.result (c.is_live.ensures p ns d.pinned y.before at.before)
    ∙ c.if-not-is_live.false in
    c.in_ok-add.ensures.footprints y t live (region_told R d p ns c.args.s.now c.args.at.now.r.now c.args.at.now.n c.args.at.now.step.now i y at)

pub returns-clause-owners : goal.returns-clause-owners
returns-clause-owners c = λ R d p ns i y at t.
    let live = live_is R d p ns c.args.s.now c.args.at.now.r.now c.args.at.now.n c.args.at.now.step.now i y at c.is_live.result (c.is_live.ensures p ns d.pinned y.before at.before)
    ∙ c.if-not-is_live.false in
    c.in_ok-add.ensures.owners y t live at.number (region_told R d p ns c.args.s.now c.args.at.now.r.now c.args.at.now.n c.args.at.now.step.now i y at)

pub returns-then-not-is_live-clause-timed : goal.returns-then-not-is_live-clause-timed
returns-then-not-is_live-clause-timed c = adds_nothing c.args.at.now.step.now c.args.at.now.interval c.args.footprints.now c.requires.rows
