-- The free region of a step, by the region that its program has.
use Rattle.std.proofs.Common.{◌≡◌, ℕ, ◌<◌, Bool, true, false, List, [], ◌∷◌, length, map, Option, Some, None, refl, sym, subst, inl, inr, ◌⊎◌}
use Rattle.std.specs.Prelude.{Contains, if◌then◌else◌}
use Rattle.std.specs.List.{list_any}
use Rattle.pg_ir.specs.Program.{NumberedProgram}
use Rattle.pg_ir.specs.WellFormed.{IsProgram}
use Rattle.pg_cfg.specs.Graphs.{Enters}
use Rattle.pg_cfg.specs.Graphs.Enters.{now, after}
use Rattle.pg_region_paths.specs.FollowedPaths.{PathPointers, followed}
use Rattle.pg_region_accesses.specs.declared.rooted.Rooted.{Rooted}
use Rattle.pg_region_accesses.specs.Accesses.{RootedList}
use Rattle.pg_region_paths.proofs.Elements.{here, there, cases, none_in}
use Rattle.pg_region.specs.declared.region.Region.{Region}
use Rattle.pg_region.specs.Regions.{flow_of, IsRegion, RegionOf}
use Rattle.pg_slice_replay.specs.pg_slice_rules.Moments.{Moment, number_in, registers_in}
use Rattle.pg_slice_replay.specs.pg_slice_rules.Freeable.{BranchRegion, FreeAccess, FreeRegion, Regions, RegionAccess, accesses_at, if_apart, region_at, stores_on}
use Rattle.pg_slice_replay.specs.pg_slice_rules.Freeable as free
use Rattle.pg_law_instances.specs.Inside.{registers_by}
use Rattle.pg_slice_replay.specs.OfRegions.{AreRegions, branch_region, free_access, may_set}
use Rattle.pg_law_instances.proofs.ControlFlow.{edge_fits}

-- the region of a freeable branch step
pub record Freed (p : NumberedProgram) (gated : ℕ → Bool) (sums : ℕ → Option RootedList) (found : ℕ → Option Region) (m : Moment) (c : ℕ) (q : FreeRegion) : Type 0 where
  pub region : Region
  pub found_is : found c ≡ Some region
  pub is_region : IsRegion p gated sums c region
  pub join : q.join ≡ region.join
  pub sets : (k : ℕ) → q.sets k ≡ may_set p region k
  pub accesses : accesses_at p m (map free_access region.accesses.items) ≡ Some q.accesses
  pub apart : list_any (stores_on q.accesses) q.accesses ≡ false

apart_parts : (r : BranchRegion) (o : Option (List FreeAccess)) (q : FreeRegion) → if_apart r o ≡ Some q
    → (q.join ≡ r.join) × ((k : ℕ) → q.sets k ≡ r.sets k) × (o ≡ Some q.accesses) × (list_any (stores_on q.accesses) q.accesses ≡ false)
apart_parts r None q e = absurd cc
apart_parts r (Some xs) q e = go (list_any (stores_on xs) xs) refl e
  where
    go : (b : Bool) → list_any (stores_on xs) xs ≡ b → if◌then◌else◌ b None (Some (record { join = r.join; sets = r.sets; accesses = xs })) ≡ Some q
        → (q.join ≡ r.join) × ((k : ℕ) → q.sets k ≡ r.sets k) × (Some xs ≡ Some q.accesses) × (list_any (stores_on q.accesses) q.accesses ≡ false)
    go true s t = absurd cc
    go false s t =
        let w : record { join = r.join; sets = r.sets; accesses = xs } ≡ q = cc in
        subst (λ (z : FreeRegion). (z.join ≡ r.join) × ((k : ℕ) → z.sets k ≡ r.sets k) × (Some xs ≡ Some z.accesses) × (list_any (stores_on z.accesses) z.accesses ≡ false)) w
        (refl, λ k. refl, refl, s)

pub freed : (p : NumberedProgram) (gated : ℕ → Bool) (sums : ℕ → Option RootedList) (regions : Regions) (are : AreRegions p gated sums regions) (m : Moment) (c : ℕ) (q : FreeRegion)
    → region_at p m (regions c) ≡ Some q → Freed p gated sums are.found m c q
freed p gated sums regions are m c q e = go (are.found c) refl (are.right c) (subst (λ (o : Option BranchRegion). region_at p m o ≡ Some q) (are.given c) e)
  where
    go : (o : Option Region) → are.found c ≡ o → RegionOf p gated sums c o → region_at p m (branch_region p o) ≡ Some q → Freed p gated sums are.found m c q
    go None f r h = absurd cc
    go (Some r) f is h =
        let k = apart_parts (record { join = r.join; sets = may_set p r; accesses = map free_access r.accesses.items }) (accesses_at p m (map free_access r.accesses.items)) q h in
        record { region = r; found_is = f; is_region = is; join = k.0; sets = k.1; accesses = k.2; apart = k.3 }

one_parts : (a : RegionAccess) (o : Option PathPointers) (xs : Option (List FreeAccess)) (ys : List FreeAccess) → free.one_access a o xs ≡ Some ys
    → (f : PathPointers) × (zs : List FreeAccess) × (o ≡ Some f) × (xs ≡ Some zs) × (ys ≡ record { writes = a.writes; path = a.path; at = f } ∷ zs)
one_parts a None xs ys e = absurd cc
one_parts a (Some f) None ys e = absurd cc
one_parts a (Some f) (Some zs) ys e = (f, zs, refl, refl, cc)

-- each access at a step is one of the region, followed there
pub record Source (p : NumberedProgram) (m : Moment) (xs : RootedList) (y : FreeAccess) : Type 0 where
  pub access : Rooted
  pub among : Contains xs access
  pub kind : y.writes ≡ access.writes
  pub is : followed p (registers_by (registers_in m.calls)) (number_in m) access.path ≡ Some y.at

pub source_of : (p : NumberedProgram) (m : Moment) (xs : RootedList) (ys : List FreeAccess) (y : FreeAccess) → accesses_at p m (map free_access xs) ≡ Some ys → Contains ys y → Source p m xs y
source_of p m [] ys y e c = let t : [] ≡ ys = cc in absurd (none_in y (subst (λ (l : List FreeAccess). Contains l y) (sym t) c))
source_of p m (x ∷ xs) ys y e c = go (one_parts (free_access x) (followed p (registers_by (registers_in m.calls)) (number_in m) x.path) (accesses_at p m (map free_access xs)) ys e)
    (λ zs q d. source_of p m xs zs y q d)
  where
    go : (f : PathPointers) × (zs : List FreeAccess) × (followed p (registers_by (registers_in m.calls)) (number_in m) x.path ≡ Some f) × (accesses_at p m (map free_access xs) ≡ Some zs)
        × (ys ≡ record { writes = x.writes; path = x.path; at = f } ∷ zs)
        → ((zs : List FreeAccess) → accesses_at p m (map free_access xs) ≡ Some zs → Contains zs y → Source p m xs y) → Source p m (x ∷ xs) y
    go h more = pick (cases (record { writes = x.writes; path = x.path; at = h.0 }) h.1 y (subst (λ (l : List FreeAccess). Contains l y) h.4 c))
      where
        pick : (record { writes = x.writes; path = x.path; at = h.0 } ≡ y) ⊎ Contains h.1 y → Source p m (x ∷ xs) y
        pick (inl q) = subst (λ (z : FreeAccess). Source p m (x ∷ xs) z) q (record { access = x; among = here x xs; kind = refl; is = h.2 })
        pick (inr d) = let r = more h.1 h.3 d in record { access = r.access; among = there x xs r.access r.among; kind = r.kind; is = r.is }

-- a join is a block of the program
pub join_fits : (p : NumberedProgram) (c j : ℕ) → IsProgram p → Enters (flow_of p) j c → j < length p.blocks
join_fits p c j program (now e) = (edge_fits p c j program e).0
join_fits p c j program (after {b = b} w e) = (edge_fits p b j program e).0
