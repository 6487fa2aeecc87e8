use Rattle.std.proofs.Common.{◌≡◌, ◌++◌, ◌∷◌, [], Some, option_map, slice_get, ap, refl, sym, ◌∙◌}
use Rattle.pg_slice_rules.specs.Freeable.{FreeAccess, FreeRegion}
use Rattle.pg_slice_rules.specs.Known.{Seen}
use Rattle.pg_slice_conflicts.specs.declared.footprint.Footprint.{Footprint}
use Rattle.pg_slice_replay.specs.Given.{access_as}
use Rattle.pg_slice_replay.specs.Kept.{landmark_at}
use Rattle.pg_slice_passes.specs.Passes.{IsTimed}
use Rattle.pg_slice_passes.specs.Footprints.{footprint_by}
use Rattle.pg_slice_passes.proofs.AddedNodes.{each_region, same_some}
use Rattle.pg_slice_passes.proofs.FootprintOrder.{adds_nothing}
use Rattle.pg_slice_passes.proofs.RegionFootprints.{not_there, footprint_is, taken_out}
use Rattle.pg_slice_passes.specs.Rows.{all_footprints, all_owners}
use Rattle.pg_slice_passes.proofs.footprints.Footprints.add_free.Goals as goal

pub returns-in_ok-note-clause-timed : goal.returns-in_ok-note-clause-timed
returns-in_ok-note-clause-timed c = c.in_ok-note.ensures.timed

pub returns-in_default-clause-timed : goal.returns-in_default-clause-timed
returns-in_default-clause-timed c = adds_nothing c.args.at.now.step.now c.args.at.now.interval c.args.self.now c.requires.rows

pub returns-in_ok-note-clause-footprints : goal.returns-in_ok-note-clause-footprints
returns-in_ok-note-clause-footprints c =
    let k = c.args.k in
    let old = (all_footprints c.args.self.now) in
    let given = c.in-Some.a in
    each_region (λ (f : FreeRegion). option_map access_as c.access.result ≡ slice_get f.accesses k)
    (λ (f : FreeRegion). (x : Seen) (a : FreeAccess) → IsTimed x c.args.at.now.step.now c.args.at.now.interval → slice_get f.accesses k ≡ Some a
    → (all_footprints c.note.new.self) ≡ old ++ footprint_by x a ∷ [])
    (landmark_at c.args.at.now.r.now c.args.at.now.n)
    (λ f got x a t at.
    let e = taken_out access_as c.access.result given (slice_get f.accesses k) c.in-Some.is got in
    let same = same_some (access_as given) a (sym e ∙ at) in
    c.in_ok-note.ensures.footprints ∙ ap (λ (y : Footprint). old ++ y ∷ [])
    (footprint_is x c.args.at.now.step.now c.args.at.now.interval (access_as given) given.last given.writes t refl refl ∙ ap (λ (y : FreeAccess). footprint_by x y) same))
    c.access.ensures.access

pub returns-in_ok-note-clause-owners : goal.returns-in_ok-note-clause-owners
returns-in_ok-note-clause-owners c =
    let k = c.args.k in
    each_region (λ (f : FreeRegion). option_map access_as c.access.result ≡ slice_get f.accesses k)
    (λ (f : FreeRegion). (a : FreeAccess) → slice_get f.accesses k ≡ Some a → (all_owners c.note.new.self) ≡ (all_owners c.args.self.now) ++ c.args.owner ∷ [])
    (landmark_at c.args.at.now.r.now c.args.at.now.n) (λ f got a at. c.in_ok-note.ensures.owners) c.access.ensures.access

pub returns-in_default-clause-footprints : goal.returns-in_default-clause-footprints
returns-in_default-clause-footprints c =
    let k = c.args.k in
    let old = (all_footprints c.args.self.now) in
    each_region (λ (f : FreeRegion). option_map access_as c.access.result ≡ slice_get f.accesses k)
    (λ (f : FreeRegion). (x : Seen) (a : FreeAccess) → IsTimed x c.args.at.now.step.now c.args.at.now.interval → slice_get f.accesses k ≡ Some a → old ≡ old ++ footprint_by x a ∷ [])
    (landmark_at c.args.at.now.r.now c.args.at.now.n) (λ f got x a t at. absurd (not_there access_as c.access.result (slice_get f.accesses k) a c.in_default.is got at)) c.access.ensures.access

pub returns-in_default-clause-owners : goal.returns-in_default-clause-owners
returns-in_default-clause-owners c =
    let k = c.args.k in
    let old = (all_owners c.args.self.now) in
    each_region (λ (f : FreeRegion). option_map access_as c.access.result ≡ slice_get f.accesses k)
    (λ (f : FreeRegion). (a : FreeAccess) → slice_get f.accesses k ≡ Some a → old ≡ old ++ c.args.owner ∷ [])
    (landmark_at c.args.at.now.r.now c.args.at.now.n) (λ f got a at. absurd (not_there access_as c.access.result (slice_get f.accesses k) a c.in_default.is got at)) c.access.ensures.access
