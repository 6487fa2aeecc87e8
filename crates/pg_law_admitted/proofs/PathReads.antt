-- What the paths of a unit's region load, where its branch step is left free, is what the unit reads.
use Rattle.std.proofs.Common.{◌≡◌, ℕ, ◌+◌, ◌-◌, ◌⊎◌, ◌<◌, ◌≤◌, ◌++◌, zero, suc, not, Bool, true, false, List, [], ◌∷◌, length, arith, Option, Some}
use Rattle.std.proofs.Common.{None, refl, sym, ap, ◌∙◌, subst, inl, inr}
use Rattle.std.specs.Prelude.{Contains, nat_le, nat_lt, option_and_then, pos, if◌then◌else◌}
use Rattle.std.specs.List.{AllByRecursion as AllOf, list_any}
use Rattle.std.proofs.lemmas.Bool.{and_from, and_parts, leb-true, lt-ltb, ltb-true}
use Rattle.std.proofs.lemmas.List.{length-append}
use Rattle.std.proofs.lemmas.List.Elements.{Contains-append_cases}
use Rattle.pg_num.specs.Places.{ByteRange}
use Rattle.pg_num.specs.Pointers.{byte_place, moved_by, place_of, pointer_of}
use Rattle.pg_num.specs.declared.layout.TheConstants.{MEMORY_BYTES}
use Rattle.pg_ir.specs.Program.{NumberedProgram}
use Rattle.pg_ir.specs.WellFormed.{IsProgram}
use Rattle.pg_run.proofs.ActionPlaces.{place_is}
use Rattle.pg_region_paths.specs.declared.path.Loads.{Loads}
use Rattle.pg_region_paths.specs.declared.path.Loads.TheVariants.{Never, Once, Twice, Thrice, FourTimes}
use Rattle.pg_region_paths.specs.declared.path.RootPath.{RootPath}
use Rattle.pg_region_paths.specs.FollowedPaths.{PathPointers, behind, cell_at, followed, followed_from, root_value}
use Rattle.pg_region_paths.specs.Paths.{offsets_of}
use Rattle.pg_region_accesses.specs.declared.rooted.Rooted.{Rooted}
use Rattle.pg_region_accesses.specs.Accesses.{RootedList}
use Rattle.pg_region_paths.proofs.Elements.{none_in, only_here}
use Rattle.pg_region_summaries.specs.Summaries.{AreSummaries}
use Rattle.pg_run_trace.specs.declared.step.Access.{Access}
use Rattle.pg_run_trace.specs.declared.step.StepKind.{StepKind}
use Rattle.pg_run_trace.specs.Races.{is_in}
use Rattle.pg_run_trace.specs.Steps.{access_in}
use Rattle.pg_run.specs.MachineStep.{is_gated}
use Rattle.pg_law_effects.specs.Views.{is_thread}
use Rattle.pg_slice_rules.specs.Freeable.{FreeAccess, FreeRegion, bounds_of}
use Rattle.pg_slice_rules.specs.Known.{Taken}
use Rattle.pg_slice_rules.specs.Moments.{number_in, registers_in, thread_in}
use Rattle.pg_slice_rules.specs.Rules.{Footprint, footprints_in}
use Rattle.pg_law_instances.specs.Inside.{registers_by}
use Rattle.pg_law_instances.proofs.FreeableSteps.{followed_at}
use Rattle.pg_law_instances.proofs.FreeRegions.{source_of}
use Rattle.pg_law_instances.proofs.PathsOfValues.{follows_root, root_follows}
use Rattle.pg_law_instances.specs.pg_slice_replay.OfRegions.{AreRegions}
use Rattle.pg_law_plan.specs.Units.{PlanUnit, ReferenceRun, access_touch, is_instance, is_read_in, reads_cell, units_of, word_read}
use Rattle.pg_law_plan.specs.Order.{IsOrderedRun}
use Rattle.pg_law_plan.proofs.EachUnit.{IsUnit, all_units}
use Rattle.pg_law_plan.proofs.AccessesInBounds.{in_bounds, place_range}
use Rattle.pg_law_admitted.specs.Covered.{HasLoad, IsCovered, before_last}
use Rattle.pg_law_admitted.specs.Free.{PathsAreRead, ReadsPaths, accesses_of}
use Rattle.pg_law_admitted.proofs.CoveredPaths.{quiet_covered, some_loads}
use Rattle.pg_law_admitted.proofs.FreeBranchSteps as left_free
use Rattle.pg_law_admitted.proofs.RegionPaths.{cell_of, loads_of, moved_bounds}
use Rattle.pg_law_admitted.proofs.InstanceFits.{some_map}

-- ---- a path followed but for its last load

offsets_last : (L l : Loads) → before_last L ≡ Some l → (k : ℕ) × (offsets_of L ≡ offsets_of l ++ k ∷ [])
offsets_last Never l e = absurd cc
offsets_last (Once a) l e = subst (λ (m : Loads). (k : ℕ) × (offsets_of (Once a) ≡ offsets_of m ++ k ∷ [])) (some_loads Never l e) (a, refl)
offsets_last (Twice a b) l e = subst (λ (m : Loads). (k : ℕ) × (offsets_of (Twice a b) ≡ offsets_of m ++ k ∷ [])) (some_loads (Once a) l e) (b, refl)
offsets_last (Thrice a b c) l e = subst (λ (m : Loads). (k : ℕ) × (offsets_of (Thrice a b c) ≡ offsets_of m ++ k ∷ [])) (some_loads (Twice a b) l e) (c, refl)
offsets_last (FourTimes a b c d) l e = subst (λ (m : Loads). (k : ℕ) × (offsets_of (FourTimes a b c d) ≡ offsets_of m ++ k ∷ [])) (some_loads (Thrice a b c) l e) (d, refl)

never_loads : (L : Loads) → before_last L ≡ None → offsets_of L ≡ []
never_loads Never e = refl
never_loads (Once a) e = absurd cc
never_loads (Twice a b) e = absurd cc
never_loads (Thrice a b c) e = absurd cc
never_loads (FourTimes a b c d) e = absurd cc

no_cells : (memory : ByteRange → ℕ) (w : ℕ) (g : PathPointers) → followed_from memory w [] ≡ Some g → g.cells ≡ []
no_cells memory w g e = let i : record { pointers = []; cells = []; last = w } ≡ g = cc in sym (ap (λ (z : PathPointers). z.cells) i)

record LastLoad (memory : ByteRange → ℕ) (w : ℕ) (ks : List ℕ) (k : ℕ) (g : PathPointers) : Type 0 where
  front : PathPointers
  is : followed_from memory w ks ≡ Some front
  cell : ByteRange
  at : cell_at front.last k ≡ Some cell
  cells : g.cells ≡ front.cells ++ cell ∷ []

last_load_of : (memory : ByteRange → ℕ) (ks : List ℕ) (k w : ℕ) (g : PathPointers) → followed_from memory w (ks ++ k ∷ []) ≡ Some g → LastLoad memory w ks k g
last_load_of memory [] k w g e =
    let l = loads_of memory w k [] g e in
    record {
      front = record { pointers = []; cells = []; last = w };
      is = refl;
      cell = l.cell;
      at = l.at;
      cells = sym (ap (λ (z : PathPointers). z.cells) l.whole) ∙ ap (λ (cs : List ByteRange). l.cell ∷ cs) (no_cells memory (memory l.cell) l.more l.is);
    }
last_load_of memory (j ∷ ks) k w g e =
    let l = loads_of memory w j (ks ++ k ∷ []) g e in
    let m = last_load_of memory ks k (memory l.cell) l.more l.is in
    record {
      front = record { pointers = w ∷ m.front.pointers; cells = l.cell ∷ m.front.cells; last = m.front.last };
      is = ap (λ (o : Option ByteRange). option_and_then (λ (d : ByteRange). behind w d (followed_from memory (memory d) ks)) o) l.at ∙ ap (behind w l.cell) m.is;
      cell = m.cell;
      at = m.at;
      cells = sym (ap (λ (z : PathPointers). z.cells) l.whole) ∙ ap (λ (cs : List ByteRange). l.cell ∷ cs) m.cells;
    }

-- ---- each cell that a path loads is read

module _ (p : NumberedProgram) (registers : ℕ → Option ℕ) (memory : ByteRange → ℕ) (xs : RootedList) (covered : IsCovered xs) where
  record ReadAt (c : ByteRange) : Type 0 where
    access : Rooted
    among : Contains xs access
    reads : access.writes ≡ false
    at : PathPointers
    is : followed p registers memory access.path ≡ Some at
    offset : ℕ
    cell : cell_at at.last offset ≡ Some c

  one_cell : (a : Rooted) → Contains xs a → (g : PathPointers) → followed p registers memory a.path ≡ Some g → (c : ByteRange) → Contains g.cells c →
      ((b : Rooted) → Contains xs b → length (offsets_of b.path.loads) + 1 ≡ length (offsets_of a.path.loads) → (h : PathPointers) → followed p registers memory b.path ≡ Some h
      → Contains h.cells c → ReadAt c) → ReadAt c
  one_cell a i g e c d more = by (before_last a.path.loads) refl
    where
      w : (w : ℕ) × (root_value p registers a.path.root ≡ Some w) × (followed_from memory w (offsets_of a.path.loads) ≡ Some g)
      w = follows_root memory (offsets_of a.path.loads) (root_value p registers a.path.root) g e

      by : (o : Option Loads) → before_last a.path.loads ≡ o → ReadAt c
      by None o = absurd (none_in c (subst (λ (cs : List ByteRange). Contains cs c)
          (no_cells memory w.0 g (subst (λ (ks : List ℕ). followed_from memory w.0 ks ≡ Some g) (never_loads a.path.loads o) w.2)) d))
      by (Some l) o = pick (Contains-append_cases m.front.cells (m.cell ∷ []) c (subst (λ (cs : List ByteRange). Contains cs c) m.cells d))
        where
          b : HasLoad xs a.path.root l
          b = covered a i l o

          k : (k : ℕ) × (offsets_of a.path.loads ≡ offsets_of l ++ k ∷ [])
          k = offsets_last a.path.loads l o

          m : LastLoad memory w.0 (offsets_of l) k.0 g
          m = last_load_of memory (offsets_of l) k.0 w.0 g (subst (λ (ks : List ℕ). followed_from memory w.0 ks ≡ Some g) k.1 w.2)

          front : followed p registers memory b.0.path ≡ Some m.front
          front = ap (followed p registers memory) b.3 ∙ root_follows memory (offsets_of l) (root_value p registers a.path.root) w.0 w.1 ∙ m.is

          shorter : length (offsets_of b.0.path.loads) + 1 ≡ length (offsets_of a.path.loads)
          shorter = ap (λ (q : RootPath). length (offsets_of q.loads) + 1) b.3 ∙ sym (ap (λ (ks : List ℕ). length ks) k.1 ∙ length-append (offsets_of l) (k.0 ∷ []))

          pick : Contains m.front.cells c ⊎ Contains (m.cell ∷ []) c → ReadAt c
          pick (inl z) = more b.0 b.1 shorter m.front front z
          pick (inr z) = record { access = b.0; among = b.1; reads = b.2; at = m.front; is = front; offset = k.0; cell = m.at ∙ ap (λ (q : ByteRange). Some q) (only_here m.cell c z) }

  read_cells : (n : ℕ) (a : Rooted) → Contains xs a → length (offsets_of a.path.loads) ≤ n → (g : PathPointers) → followed p registers memory a.path ≡ Some g → (c : ByteRange)
      → Contains g.cells c → ReadAt c
  read_cells zero a i le g e c d = one_cell a i g e c d (λ b j k h f z. absurd (omega (arith, k, le)))
  read_cells (suc n) a i le g e c d = one_cell a i g e c d (λ b j k h f z. read_cells n b j (omega (arith, k, le)) h f c z)

-- ---- in the bounds of its pointer

in_pointer : (w k : ℕ) (c : ByteRange) (b : ℕ) → cell_at w k ≡ Some c → is_in c b ≡ true → (is_in (bounds_of w) b ≡ true) × (b < MEMORY_BYTES)
in_pointer w k c b h i =
    let v = moved_by w (pos k) in
    let place = cell_of (place_of v 8) c h in
    let acc : Access = record { pointer = v; number = 0; bytes = 8; writes = false; event = false } in
    let range = place_range v 8 c place in
    let same : record { start = byte_place v; bytes = 8 } ≡ c = place_is v 8 c place in
    let in_v = in_bounds acc b range (ap (λ (z : ByteRange). is_in z b) same ∙ i) in
    let u = leb-true (byte_place v + 8) MEMORY_BYTES (and_parts (nat_le ((pointer_of v).offset + 8) (pointer_of v).length) (nat_le (byte_place v + 8) MEMORY_BYTES) range).1 in
    let z = ltb-true b (byte_place v + 8) (and_parts (nat_le (byte_place v) b) (nat_lt b (byte_place v + 8)) (ap (λ (z : ByteRange). is_in z b) same ∙ i)).1 in
    (ap (λ (z : ByteRange). is_in z b) (sym (moved_bounds w k)) ∙ in_v, omega (arith, u, z))

-- ---- units

module _ (r : ReferenceRun) (d : Taken) (program : IsProgram r.program) (sums : ℕ → Option RootedList) (are : AreRegions r.program (λ i. is_gated r.gated i) sums r.regions)
    (summaries : AreSummaries r.program (λ i. is_gated r.gated i) sums)
    (u : PlanUnit) (unit : IsUnit r d u) (free : is_instance d u.seen ≡ true) where
  abbrev q : FreeRegion
  q = (left_free.free_step r d program sums are summaries u.seen u.state unit.met.takes unit.met.reached unit.met.calls unit.met.bytes unit.met.region free).free

  reads_there : (c : ℕ) → c < MEMORY_BYTES → list_any (λ f. is_read_in f c) (footprints_in (Some q)) ≡ true → reads_cell d u.seen c ≡ true
  reads_there c lt h =
      let f = left_free.free_step r d program sums are summaries u.seen u.state unit.met.takes unit.met.reached unit.met.calls unit.met.bytes unit.met.region free in
      ap (λ (k : StepKind). if nat_lt c MEMORY_BYTES then list_any (λ f. is_read_in f c)
      (access_touch d u.seen.number (access_in k) ++ (if is_instance d u.seen then footprints_in u.seen.region else [])) else is_thread (word_read (thread_in u.seen.moment) k)
      (c - MEMORY_BYTES)) f.kind
      ∙ ap (λ (y : Bool). if y then list_any (λ f. is_read_in f c) (if is_instance d u.seen then footprints_in u.seen.region else []) else false) (lt-ltb c MEMORY_BYTES lt)
      ∙ ap (λ (y : Bool). list_any (λ f. is_read_in f c) (if y then footprints_in u.seen.region else [])) free
      ∙ ap (λ (z : Option FreeRegion). list_any (λ f. is_read_in f c) (footprints_in z)) f.region ∙ h

  paths_read : (a : FreeAccess) → Contains (accesses_of u.seen.region) a → (c : ByteRange) → Contains a.at.cells c → (b : ℕ) → is_in c b ≡ true → reads_cell d u.seen b ≡ true
  paths_read a i c k b h =
      let p = r.program in
      let m = u.seen.moment in
      let f = left_free.free_step r d program sums are summaries u.seen u.state unit.met.takes unit.met.reached unit.met.calls unit.met.bytes unit.met.region free in
      let e = left_free.freed_there r d program sums are summaries u.seen u.state unit.met.takes unit.met.reached unit.met.calls unit.met.bytes unit.met.region free in
      let s = source_of p m e.region.accesses.items q.accesses a e.accesses (subst (λ (z : Option FreeRegion). Contains (accesses_of z) a) f.region i) in
      let covered = quiet_covered p (λ i. is_gated r.gated i) sums program summaries false e.region.blocks.items e.region.accesses.items e.is_region.join.quiet in
      let z = read_cells p (registers_by (registers_in m.calls)) (number_in m) e.region.accesses.items covered (length (offsets_of s.access.path.loads)) s.access s.among (omega arith) a.at s.is c k in
      let w = followed_at p m e.region.accesses.items q.accesses z.access e.accesses z.among in
      let same : w.0 ≡ z.at = (let y : Some w.0 ≡ Some z.at = sym w.1 ∙ z.is in cc) in
      let at = in_pointer z.at.last z.offset c b z.cell h in
      reads_there b at.1
      (some_map (λ (f : Footprint). is_read_in f b) (λ (x : FreeAccess). record { bytes = bounds_of x.at.last; writes = x.writes }) q.accesses
      (record { writes = z.access.writes; path = z.access.path; at = w.0 }) w.2
      (and_from (not z.access.writes) (is_in (bounds_of w.0.last) b) (ap not z.reads) (ap (λ (y : PathPointers). is_in (bounds_of y.last) b) same ∙ at.0)))

pub paths_are_read : (r : ReferenceRun) (d : Taken) (o : IsOrderedRun r) (sums : ℕ → Option RootedList) (are : AreRegions r.program (λ i. is_gated r.gated i) sums r.regions)
    (summaries : AreSummaries r.program (λ i. is_gated r.gated i) sums) → PathsAreRead r d
paths_are_read r d o sums are summaries = go (units_of r d) (all_units r d o)
  where
    go : (us : List PlanUnit) → AllOf (IsUnit r d) us → AllOf (ReadsPaths d) us
    go [] h = tt
    go (u ∷ us) h = (λ free. paths_read r d o.can.program sums are summaries u h.0 free, go us h.1)
