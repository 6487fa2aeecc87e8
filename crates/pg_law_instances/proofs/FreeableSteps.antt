-- A freeable branch step is at the branch of an instance.
use Rattle.std.proofs.Common.{◌≡◌, ℕ, ◌<◌, ◌&&◌, Bool, true, false, List, [], ◌∷◌, length, map, Option, Some, None, refl, sym, ◌∙◌, subst, inl, inr, ◌⊎◌}
use Rattle.std.specs.Prelude.{Contains, slice_get}
use Rattle.std.specs.List.{list_any}
use Rattle.std.proofs.lemmas.Bool.{true≢false}
use Rattle.pg_num.specs.Places.{ByteRange}
use Rattle.pg_run_memory.specs.Memory.{byte_at, read}
use Rattle.pg_ir.specs.declared.instr.Instr.{Instr}
use Rattle.pg_ir.specs.Program.{NumberedProgram, function_of}
use Rattle.pg_ir.specs.Edges.{successors}
use Rattle.pg_ir.specs.WellFormed.{IsProgram}
use Rattle.pg_region_paths.specs.FollowedPaths.{PathPointers, followed}
use Rattle.pg_region_accesses.specs.declared.rooted.Rooted.{Rooted}
use Rattle.pg_region_accesses.specs.Accesses.{RootedList}
use Rattle.pg_region_paths.proofs.Elements.{here, there, cases, none_in}
use Rattle.pg_region_summaries.specs.Summaries.{AreSummaries}
use Rattle.pg_region.specs.declared.region.Region.{Region}
use Rattle.pg_region.specs.Regions.{IsJoin}
use Rattle.pg_region.proofs.EdgesBeforeJoin.{edges_stay}
use Rattle.pg_run_thread.specs.LocalState.{Frame, LocalState}
use Rattle.pg_run_trace.specs.Races.{share}
use Rattle.pg_run.specs.State.{State}
use Rattle.pg_slice_replay.specs.pg_slice_rules.Moments.{Moment, number_in, registers_in}
use Rattle.pg_slice_replay.specs.pg_slice_rules.Freeable as free
use Rattle.pg_slice_replay.specs.pg_slice_rules.Freeable.{FreeAccess, FreeRegion, RegionAccess, accesses_at, bounds_of, loads_from, stores_on}
use Rattle.pg_law_instances.specs.Leads.{Leads}
use Rattle.pg_law_instances.specs.Inside.{Instance, IsQuietSet, IsAtBranch, IsBranch, AreApart, region_set, registers_by}
use Rattle.pg_slice_replay.specs.OfRegions.{free_access}
use Rattle.pg_law_instances.specs.Free.{instance_of}
use Rattle.pg_law_instances.proofs.FramePlaces.{some_of}
use Rattle.pg_law_instances.proofs.ControlFlow.{edge_of, walk_fits}
use Rattle.pg_run_memory.specs.Bytes.{number_of}

-- ---- accesses at a step

one_parts : (a : RegionAccess) (o : Option PathPointers) (xs : Option (List FreeAccess)) (ys : List FreeAccess) → free.one_access a o xs ≡ Some ys
    → (f : PathPointers) × (zs : List FreeAccess) × (o ≡ Some f) × (xs ≡ Some zs) × (ys ≡ record { writes = a.writes; path = a.path; at = f } ∷ zs)
one_parts a None xs ys e = absurd cc
one_parts a (Some f) None ys e = absurd cc
one_parts a (Some f) (Some zs) ys e = (f, zs, refl, refl, cc)

-- each access is followed to one of those at the step
pub followed_at : (p : NumberedProgram) (m : Moment) (xs : RootedList) (ys : List FreeAccess) (a : Rooted) → accesses_at p m (map free_access xs) ≡ Some ys → Contains xs a →
    (f : PathPointers) × (followed p (registers_by (registers_in m.calls)) (number_in m) a.path ≡ Some f) × Contains ys (record { writes = a.writes; path = a.path; at = f })
followed_at p m [] ys a e c = absurd (none_in a c)
followed_at p m (x ∷ xs) ys a e c = go (one_parts (free_access x) (followed p (registers_by (registers_in m.calls)) (number_in m) x.path) (accesses_at p m (map free_access xs)) ys e)
    (cases x xs a c) (λ zs q d. followed_at p m xs zs a q d)
  where
    go : (f : PathPointers) × (zs : List FreeAccess) × (followed p (registers_by (registers_in m.calls)) (number_in m) x.path ≡ Some f) × (accesses_at p m (map free_access xs) ≡ Some zs)
        × (ys ≡ record { writes = x.writes; path = x.path; at = f } ∷ zs) → (x ≡ a) ⊎ Contains xs a →
        ((zs : List FreeAccess) → accesses_at p m (map free_access xs) ≡ Some zs → Contains xs a
        → (f : PathPointers) × (followed p (registers_by (registers_in m.calls)) (number_in m) a.path ≡ Some f) × Contains zs (record { writes = a.writes; path = a.path; at = f })) →
        (f : PathPointers) × (followed p (registers_by (registers_in m.calls)) (number_in m) a.path ≡ Some f) × Contains ys (record { writes = a.writes; path = a.path; at = f })
    go h (inl q) more = (
      h.0,
      subst (λ (z : Rooted). followed p (registers_by (registers_in m.calls)) (number_in m) z.path ≡ Some h.0) q h.2,
      subst (λ (l : List FreeAccess). Contains l (record { writes = a.writes; path = a.path; at = h.0 })) (sym h.4)
          (subst (λ (z : Rooted). Contains (record { writes = x.writes; path = x.path; at = h.0 } ∷ h.1) (record { writes = z.writes; path = z.path; at = h.0 })) q
          (here (record { writes = x.writes; path = x.path; at = h.0 }) h.1)),
    )
    go h (inr d) more =
        let r = more h.1 h.3 d in (
          r.0,
          r.1,
          subst (λ (l : List FreeAccess). Contains l (record { writes = a.writes; path = a.path; at = r.0 })) (sym h.4)
              (there (record { writes = x.writes; path = x.path; at = h.0 }) h.1 (record { writes = a.writes; path = a.path; at = r.0 }) r.2),
        )

not_both : (a b : Bool) → (a && b) ≡ false → a ≡ true → b ≡ false
not_both true b e h = e
not_both false b e h = absurd cc

none_of : {A : Type 0} (f : A → Bool) (xs : List A) (x : A) → list_any f xs ≡ false → Contains xs x → f x ≡ false
none_of f xs x e c = go (f x) refl
  where
    go : (b : Bool) → f x ≡ b → f x ≡ false
    go true q = absurd (true≢false (sym (some_of f xs x c q) ∙ e))
    go false q = q

-- no store leads where a path loads
pub apart_at : (xs : List FreeAccess) → list_any (stores_on xs) xs ≡ false → AreApart xs
apart_at xs e stored loaded r l =
    let one : stores_on xs r.access ≡ false = none_of (stores_on xs) xs r.access e r.among in
    let any : list_any (loads_from r.access.at.last) xs ≡ false = not_both r.access.writes (list_any (loads_from r.access.at.last) xs) one r.kind in
    let load : loads_from r.access.at.last l.access ≡ false = none_of (loads_from r.access.at.last) xs l.access any l.among in
    let at : share (bounds_of r.access.at.last) (bounds_of l.pointer) ≡ false =
    none_of (λ (from : ℕ). share (bounds_of r.access.at.last) (bounds_of from)) l.access.at.pointers l.pointer load l.loads in
    subst (λ (z : ByteRange). share z loaded ≡ false) r.same (subst (λ (z : ByteRange). share (bounds_of r.access.at.last) z ≡ false) l.same at)

-- ---- the region

pub region_edges : (p : NumberedProgram) (gated : ℕ → Bool) (sums : ℕ → Option RootedList) (c : ℕ) (r : Region) → IsProgram p
    → IsJoin p gated sums c r.join r.blocks.items r.accesses.items → (b d : ℕ) → Contains r.blocks.items b → Contains (successors p b) d → (d ≡ r.join) ⊎ Contains r.blocks.items d
region_edges p gated sums c r program j b d m s =
    let w = (j.before.exact b).0 m in
    let lt = (walk_fits p r.join c b program w).0 in
    (edges_stay p gated sums c r.join r.blocks.items r.accesses.items j).inside b d m (edge_of p b d lt s)

swap : {A B : Type 0} → A ⊎ B → B ⊎ A
swap (inl a) = inr a
swap (inr b) = inl b

module _ (p : NumberedProgram) (gated : ℕ → Bool) (sums : ℕ → Option RootedList) (r : Region) (q : FreeRegion) (s : State) (l : LocalState) (f : Frame) (fs : List Frame) where
  abbrev I : Instance
  I = instance_of p gated sums r q s l f fs

  abbrev LeadsAll : Type 0
  LeadsAll = (a : Rooted) → Contains r.accesses.items a → Leads p (registers_by f.registers) (read s.memory) q.accesses a

  pub region_quiet : IsProgram p → (c : ℕ) → IsJoin p gated sums c r.join r.blocks.items r.accesses.items → LeadsAll → IsQuietSet I (region_set I)
  region_quiet program c j leads = record {
    quiet = j.quiet;
    leads = leads;
    edges = λ b d m k. go d (region_edges p gated sums c r program j b d m k);
  }
    where
      go : (d : ℕ) → (d ≡ r.join) ⊎ Contains r.blocks.items d → Contains r.blocks.items d ⊎ ((false ≡ false) × (d ≡ r.join))
      go d (inl e) = inr (refl, e)
      go d (inr m) = inl m

  -- a thread at a branch whose region's accesses lead to recorded bounds is at the branch of the instance
  pub at_branch : (x : Instr) → IsProgram p → AreSummaries p gated sums → l.begun ≡ true → l.frames ≡ f ∷ fs → slice_get p.instrs f.place ≡ Some x → IsBranch x.op
      → function_of p x.block.0 ≡ f.function → x.block.0 < length p.blocks →
      IsJoin p gated sums x.block.0 r.join r.blocks.items r.accesses.items → LeadsAll → AreApart q.accesses → IsAtBranch I
  at_branch x program summaries begun frames is kind function lt j leads apart = record {
    program = program;
    summaries = summaries;
    begun = begun;
    frames = frames;
    branch = x;
    is = is;
    kind = kind;
    function = function;
    first = λ c k. swap ((edges_stay p gated sums x.block.0 r.join r.blocks.items r.accesses.items j).first c (edge_of p x.block.0 c lt k));
    region = region_quiet program x.block.0 j leads;
    apart = apart;
  }

  -- in the run that recorded the bounds they lead there
  pub leads_there : (m : Moment) → m.calls ≡ f ∷ fs → m.bytes ≡ byte_at s.memory → accesses_at p m (map free_access r.accesses.items) ≡ Some q.accesses → LeadsAll
  unfolding read
  leads_there m calls bytes e a c = go (followed_at p m r.accesses.items q.accesses a e c)
    where
      go : (g : PathPointers) × (followed p (registers_by (registers_in m.calls)) (number_in m) a.path ≡ Some g) × Contains q.accesses (record { writes = a.writes; path = a.path; at = g })
          → Leads p (registers_by f.registers) (read s.memory) q.accesses a
      go h = record {
        at = h.0;
        is = subst (λ (b : ℕ → ℕ). followed p (registers_by f.registers) (λ (z : ByteRange). number_of b z.start z.bytes) a.path ≡ Some h.0) bytes
            (subst (λ (z : List Frame). followed p (registers_by (registers_in z)) (number_in m) a.path ≡ Some h.0) calls h.1);
        loads = λ w k. record { access = record { writes = a.writes; path = a.path; at = h.0 }; among = h.2; pointer = w; loads = k; same = refl };
        last = record { access = record { writes = a.writes; path = a.path; at = h.0 }; among = h.2; kind = refl; same = refl };
      }
