use Rattle.std.proofs.Common.{◌≡◌, ℕ, List, ◌++◌, ◌∷◌, [], length, map, Bool, true, Option, Some, IfSome, slice_get, ap, refl, sym, ◌∙◌, subst, arith}
use Rattle.std.specs.Prelude.{is_some}
use Rattle.pg_slice_rules.specs.Freeable.{FreeAccess, FreeRegion}
use Rattle.pg_slice_rules.specs.Known.{Seen}
use Rattle.pg_slice_conflicts.specs.declared.footprint.Footprint.{Footprint}
use Rattle.pg_law_demands.specs.pg_law_least.Footprints.{region_footprints}
use Rattle.pg_slice_replay.specs.Kept.{landmark_at}
use Rattle.pg_slice_replay.specs.Landmarks.{Landmark}
use Rattle.pg_slice_passes.specs.Passes.{IsTimed}
use Rattle.pg_slice_passes.specs.Footprints.{footprint_by}
use Rattle.pg_slice_passes.proofs.AddedNodes.{access_there, said_of}
use Rattle.pg_slice_passes.proofs.FootprintOrder.{adds_both, adds_nothing}
use Rattle.pg_slice_passes.proofs.RegionFootprints.{a_region, all_done, each_owned, is_there, marked, no_footprints, no_region, none_added, one_more, footprints_of_region}
use Rattle.pg_slice_passes.specs.Rows.{all_footprints, all_owners}
use Rattle.pg_slice_passes.proofs.footprints.Footprints.add_region.Goals as goal

pub returns-then-not-is_free-clause-footprints : goal.returns-then-not-is_free-clause-footprints
returns-then-not-is_free-clause-footprints c = λ x t l q.
    let o = landmark_at c.args.at.now.r.now c.args.at.now.n in
    let none = subst (λ (b : Bool). IfSome o (λ (m : Landmark). b ≡ is_some m.region)) c.if-not-is_free.true c.is_free.ensures.free in
    none_added (all_footprints c.args.self.now) (region_footprints x) (no_footprints x l (no_region o x.region (is_there c.args.at.now.r.now c.args.at.now.n c.requires.number) q none))

pub returns-then-not-is_free-clause-owners : goal.returns-then-not-is_free-clause-owners
returns-then-not-is_free-clause-owners c = λ x t l q.
    let o = landmark_at c.args.at.now.r.now c.args.at.now.n in
    let none = subst (λ (b : Bool). IfSome o (λ (m : Landmark). b ≡ is_some m.region)) c.if-not-is_free.true c.is_free.ensures.free in
    none_added (all_owners c.args.self.now) (map (λ (f : Footprint). c.args.owner) (region_footprints x))
    (ap (λ (ps : List Footprint). map (λ (f : Footprint). c.args.owner) ps) (no_footprints x l (no_region o x.region (is_there c.args.at.now.r.now c.args.at.now.n c.requires.number) q none)))

pub loop-k-init : goal.loop-k-init
loop-k-init c = (adds_nothing c.args.at.now.step.now c.args.at.now.interval c.args.self.now c.requires.rows, λ x f t m. (refl, refl))

pub loop-k-preserved : goal.loop-k-preserved
loop-k-preserved c =
    let o = landmark_at c.args.at.now.r.now c.args.at.now.n in
    let k = c.loop-k.k in
    let first = c.args.self.now in
    let old = c.loop-k.self in
    let new = c.add_free.new.self in
    let there = is_there c.args.at.now.r.now c.args.at.now.n c.requires.number in (
      adds_both c.args.at.now.step.now c.args.at.now.interval first old new c.loop-k.invariant.0 c.in_ok-add_free.ensures.timed,
      λ x f t m.
          let v = c.loop-k.invariant.1 x f t m in
          let count = said_of (λ (y : FreeRegion). c.access_count-k-end.result ≡ length y.accesses) o f there m c.access_count-k-end.ensures.count in
          let a = access_there f.accesses k (omega (arith, count, c.loop-k-test.true)) in
          let p = said_of (λ (y : FreeRegion). (z : Seen) (b : FreeAccess) → IsTimed z c.args.at.now.step.now c.args.at.now.interval → slice_get y.accesses k ≡ Some b
          → (all_footprints new) ≡ (all_footprints old) ++ footprint_by z b ∷ []) o f there m c.in_ok-add_free.ensures.footprints in
          let w = said_of (λ (y : FreeRegion). (b : FreeAccess) → slice_get y.accesses k ≡ Some b → (all_owners new) ≡ (all_owners old) ++ c.args.owner ∷ []) o f there m
          c.in_ok-add_free.ensures.owners in (
            one_more (footprint_by x) f.accesses k a.0 (all_footprints old) (all_footprints new) ((all_footprints first) ++ map (footprint_by x) f.accesses) a.1 (p x a.0 t a.1) v.0,
            one_more (λ (y : FreeAccess). c.args.owner) f.accesses k a.0 (all_owners old) (all_owners new) ((all_owners first) ++ map (λ (y : FreeAccess). c.args.owner) f.accesses) a.1
                (w a.0 a.1) v.1,
          ),
    )

pub returns-clause-timed : goal.returns-clause-timed
returns-clause-timed c = c.loop-k.invariant.0

pub returns-then-not-is_free-clause-timed : goal.returns-then-not-is_free-clause-timed
returns-then-not-is_free-clause-timed c = adds_nothing c.args.at.now.step.now c.args.at.now.interval c.args.self.now c.requires.rows

-- the region of a freeable step, with as many accesses as were counted
record Found (o : Option Landmark) (q : Option FreeRegion) (k : ℕ) : Type 0 where
  pub region : FreeRegion
  pub is : q ≡ Some region
  pub marks : IfSome o (λ (l : Landmark). l.region ≡ Some region)
  pub count : k ≡ length region.accesses

found : (o : Option Landmark) (q : Option FreeRegion) (k : ℕ) (free : Bool) → is_some o ≡ true → IfSome o (λ (l : Landmark). q ≡ l.region) → free ≡ true
    → IfSome o (λ (l : Landmark). free ≡ is_some l.region) → IfSome o (λ (l : Landmark). IfSome l.region (λ (f : FreeRegion). k ≡ length f.accesses)) → Found o q k
found o q k free there is e told counted =
    let r = a_region o q there is (subst (λ (b : Bool). IfSome o (λ (l : Landmark). b ≡ is_some l.region)) e told) in
    let m = marked o q r.0 is r.1 in
    record { region = r.0; is = r.1; marks = m; count = said_of (λ (f : FreeRegion). k ≡ length f.accesses) o r.0 there m counted }

pub returns-clause-footprints : goal.returns-clause-footprints
returns-clause-footprints c = λ x t l q.
    let at = c.args.at.now in
    let r = found (landmark_at at.r.now at.n) x.region c.access_count-k-end.result c.is_free.result (is_there at.r.now at.n c.requires.number) q c.if-not-is_free.false c.is_free.ensures.free
    c.access_count-k-end.ensures.count in
    let v = c.loop-k.invariant.1 x r.region t r.marks in
    let old = (all_footprints c.args.self.now) in
    all_done (footprint_by x) r.region.accesses c.loop-k.k (all_footprints c.loop-k.self) (old ++ map (footprint_by x) r.region.accesses) (omega (arith, r.count, c.loop-k-test.false)) v.0
    ∙ ap (λ (ps : List Footprint). old ++ ps) (sym (footprints_of_region x r.region l r.is))

pub returns-clause-owners : goal.returns-clause-owners
returns-clause-owners c = λ x t l q.
    let at = c.args.at.now in
    let r = found (landmark_at at.r.now at.n) x.region c.access_count-k-end.result c.is_free.result (is_there at.r.now at.n c.requires.number) q c.if-not-is_free.false c.is_free.ensures.free
    c.access_count-k-end.ensures.count in
    let v = c.loop-k.invariant.1 x r.region t r.marks in
    let old = (all_owners c.args.self.now) in
    all_done (λ (y : FreeAccess). c.args.owner) r.region.accesses c.loop-k.k (all_owners c.loop-k.self) (old ++ map (λ (y : FreeAccess). c.args.owner) r.region.accesses)
    (omega (arith, r.count, c.loop-k-test.false)) v.1
    ∙ ap (λ ys. old ++ ys) (sym (each_owned c.args.owner (footprint_by x) r.region.accesses))
    ∙ ap (λ (ps : List Footprint). old ++ map (λ (f : Footprint). c.args.owner) ps) (sym (footprints_of_region x r.region l r.is))

pub add_free-requires-clause-rows : goal.add_free-requires-clause-rows
add_free-requires-clause-rows c = c.loop-k.invariant.0.rows
