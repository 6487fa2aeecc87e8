use Rattle.std.proofs.Common.{◌++◌, ◌∷◌, [], ap, ◌∙◌}
use Rattle.pg_slice_conflicts.specs.declared.footprint.Footprint.{Footprint}
use Rattle.pg_slice_passes.specs.Rows.{all_footprints}
use Rattle.pg_slice_passes.proofs.FootprintOrder.{adds_one}
use Rattle.pg_slice_passes.proofs.footprints.Footprints.note.Goals as goal

pub returns-clause-timed : goal.returns-clause-timed
returns-clause-timed c =
    adds_one c.args.at.now.step.now c.args.at.now.interval c.args.self.now c.push.new.self c.footprint.result c.args.owner c.in_ok-push.ensures
    (ap (λ (y : Footprint). y.thread.0) c.footprint.ensures) (ap (λ (y : Footprint). y.low) c.footprint.ensures)
    (ap (λ (y : Footprint). y.high) c.footprint.ensures)

pub returns-clause-footprints : goal.returns-clause-footprints
returns-clause-footprints c = c.in_ok-push.ensures.footprints ∙ ap (λ (p : Footprint). all_footprints c.args.self.now ++ p ∷ []) c.footprint.ensures

pub returns-clause-owners : goal.returns-clause-owners
returns-clause-owners c = c.in_ok-push.ensures.owners
