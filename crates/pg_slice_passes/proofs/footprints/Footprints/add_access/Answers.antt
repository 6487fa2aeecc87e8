use Rattle.std.proofs.Common.{List, ◌++◌, map, ap, sym, ◌∙◌}
use Rattle.pg_slice_conflicts.specs.declared.footprint.Footprint.{Footprint}
use Rattle.pg_law_demands.specs.pg_law_least.Footprints.{access_footprints}
use Rattle.pg_slice_passes.proofs.FootprintOrder.{adds_nothing}
use Rattle.pg_slice_passes.proofs.RegionFootprints.{no_access, none_added, footprint_of_access}
use Rattle.pg_slice_passes.specs.Rows.{all_footprints, all_owners}
use Rattle.pg_slice_passes.proofs.footprints.Footprints.add_access.Goals as goal

pub returns-in_ok-note-clause-footprints : goal.returns-in_ok-note-clause-footprints
returns-in_ok-note-clause-footprints c = λ x t l.
    let old = (all_footprints c.args.self.now) in
    c.in_ok-note.ensures.footprints
    ∙ ap (λ (ps : List Footprint). old ++ ps) (sym (footprint_of_access x c.args.at.now.step.now c.args.at.now.interval c.in-Some.a t l (sym c.access.ensures ∙ c.in-Some.is)))

pub returns-in_ok-note-clause-owners : goal.returns-in_ok-note-clause-owners
returns-in_ok-note-clause-owners c = λ x t l.
    let old = (all_owners c.args.self.now) in
    c.in_ok-note.ensures.owners
    ∙ ap (λ (ps : List Footprint). old ++ map (λ (f : Footprint). c.args.owner) ps)
    (sym (footprint_of_access x c.args.at.now.step.now c.args.at.now.interval c.in-Some.a t l (sym c.access.ensures ∙ c.in-Some.is)))

pub returns-in_default-clause-footprints : goal.returns-in_default-clause-footprints
returns-in_default-clause-footprints c = λ x t l. none_added (all_footprints c.args.self.now) (access_footprints x)
    (no_access x c.args.at.now.step.now c.args.at.now.interval t (sym c.access.ensures ∙ c.in_default.is))

pub returns-in_default-clause-owners : goal.returns-in_default-clause-owners
returns-in_default-clause-owners c = λ x t l.
    none_added (all_owners c.args.self.now) (map (λ (f : Footprint). c.args.owner) (access_footprints x))
    (ap (λ (ps : List Footprint). map (λ (f : Footprint). c.args.owner) ps) (no_access x c.args.at.now.step.now c.args.at.now.interval t (sym c.access.ensures ∙ c.in_default.is)))

pub returns-in_ok-note-clause-timed : goal.returns-in_ok-note-clause-timed
returns-in_ok-note-clause-timed c = c.in_ok-note.ensures.timed

pub returns-in_default-clause-timed : goal.returns-in_default-clause-timed
returns-in_default-clause-timed c = adds_nothing c.args.at.now.step.now c.args.at.now.interval c.args.self.now c.requires.rows
