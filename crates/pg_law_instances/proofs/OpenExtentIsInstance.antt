-- An open extent: the thread is inside the instance of its branch step.
use Rattle.std.proofs.Common.{◌≡◌, ℕ, ℤ, ◌+◌, ◌<◌, ◌≤◌, ◌^◌, ◌&&◌, ◌||◌, Bool, true, false, List, [], ◌∷◌, length, Option, Some, refl, sym, ap}
use Rattle.std.proofs.Common.{◌∙◌, subst, arith, inl, inr, ◌⊎◌}
use Rattle.std.specs.Prelude.{Contains, slice_get}
use Rattle.std.specs.List.{list_any}
use Rattle.std.proofs.lemmas.Bool.{eq-eqb}
use Rattle.pg_ir.specs.declared.ids.InstrId.{InstrId}
use Rattle.pg_ir.specs.declared.instr.Instr.{Instr}
use Rattle.pg_ir.specs.declared.instr.Op.{Op}
use Rattle.pg_ir.specs.declared.instr.Op.TheVariants as op
use Rattle.pg_ir.specs.Program.{NumberedProgram}
use Rattle.pg_ir.specs.Edges.{instrs_of, is_phi, is_terminator, phis_of, successors, targets_of}
use Rattle.pg_ir.specs.WellFormed.{IsProgram}
use Rattle.pg_region_paths.specs.Registers.{is_register}
use Rattle.pg_region_accesses.specs.Accesses.{RootedList, block_sets, sets}
use Rattle.pg_region_paths.proofs.Elements.{here, there}
use Rattle.pg_region_summaries.specs.Summaries.{AreSummaries}
use Rattle.pg_region.specs.declared.region.Region.{Region}
use Rattle.pg_region.specs.Regions.{IsRegion}
use Rattle.pg_region.specs.Laws.{AreNested}
use Rattle.pg_region.proofs.NestedRegions.{regions_nest}
use Rattle.pg_run_thread.specs.LocalState.{Frame, LocalState}
use Rattle.pg_run_trace.specs.declared.step.Step.{Step}
use Rattle.pg_run.specs.State.{State}
use Rattle.pg_run.specs.MachineStep.{is_gated}
use Rattle.pg_run.specs.Runs.{IsRun}
use Rattle.pg_slice_replay.specs.pg_law_effects.Reached.{IsReached}
use Rattle.pg_slice_replay.specs.pg_slice_rules.Extents.{Extent}
use Rattle.pg_slice_replay.specs.pg_slice_rules.Freeable.{FreeAccess, FreeRegion, bounds_of}
use Rattle.pg_slice_replay.specs.pg_slice_rules.SymbolicValues.{is_within}
use Rattle.pg_law_instances.specs.Free.{instance_of}
use Rattle.pg_law_instances.specs.Inside.{Instance, IsBottom, IsInside, Stands, edge_taken, may_set, phis_set, region_set, IsQuietSet}
use Rattle.pg_law_least.specs.Keeps.{may_write}
use Rattle.pg_law_instances.specs.Leads as leads
use Rattle.pg_slice_replay.specs.OfRegions as regions
use Rattle.pg_law_instances.specs.Stays.{CanStepInside}
use Rattle.pg_law_instances.specs.Together.{AreTogether, IsNext}
use Rattle.pg_law_instances.proofs.PathsBeyondJoin.{Loud}
use Rattle.pg_law_instances.proofs.FramesBehindEdges.{chosen_among, successors_of, switched_among, while_among}
use Rattle.pg_law_instances.proofs.FreeRegions.{join_fits}
use Rattle.pg_law_instances.proofs.JoinLeadsOut.{leads_out}
use Rattle.pg_law_instances.proofs.FramePlaces.{at_block, sets_here, some_of}
use Rattle.pg_num.specs.Places.{ByteRange}
use Rattle.pg_run_thread.specs.Compute.{chosen}
use Rattle.pg_run_thread.specs.EdgeStep.{case_of}
use Rattle.pg_run_thread.specs.Operands.{given, operand}

-- ---- the calls

pub stands_length : (I : Instance) (fs : List Frame) → Stands I fs → length I.lower + 1 ≤ length fs
stands_length I [] s = absurd s
stands_length I (f ∷ fs) (inl b) = omega (arith, ap (λ (l : List Frame). length l) b.lower)
stands_length I (f ∷ fs) (inr s) = let n = stands_length I fs s.1 in omega (arith, n)

pub bottom_of : (I : Instance) (f : Frame) (fs : List Frame) → Stands I (f ∷ fs) → length (f ∷ fs) ≡ length I.lower + 1 → IsBottom I f fs
bottom_of I f fs (inl b) e = b
bottom_of I f fs (inr s) e = let n = stands_length I fs s.1 in absurd (omega (arith, n, e))

-- ---- what may be set

either_true : (a b : Bool) → (a ≡ true) ⊎ (b ≡ true) → (a || b) ≡ true
either_true true b h = refl
either_true false b (inl e) = absurd cc
either_true false b (inr e) = e

or_cases : (a b : Bool) → (a || b) ≡ true → (a ≡ true) ⊎ (b ≡ true)
or_cases true b e = inl refl
or_cases false b e = inr e

pub any_source : {A : Type 0} (f : A → Bool) (xs : List A) → list_any f xs ≡ true → (x : A) × Contains xs x × (f x ≡ true)
any_source f [] e = absurd cc
any_source {A} f (y ∷ xs) e = go (f y) refl e (λ q. any_source f xs q)
  where
    go : (b : Bool) → f y ≡ b → list_any f (y ∷ xs) ≡ true → (list_any f xs ≡ true → (x : A) × Contains xs x × (f x ≡ true)) → (x : A) × Contains (y ∷ xs) x × (f x ≡ true)
    go true q e more = (y, here y xs, q)
    go false q e more = let r = more (rw q at e) in (r.0, there y xs r.0 r.1, r.2)

-- an instruction of the region sets what may be set
pub bottom_result : (I : Instance) (f : Frame) (fs : List Frame) (x : Instr) → IsProgram I.program → IsBottom I f fs → slice_get I.program.instrs f.place ≡ Some x → (k : ℕ)
    → x.result ≡ Some k → may_set I k ≡ true
bottom_result I f fs x program b e k r =
    let at = at_block I (region_set I) f x program b.stands e in
    either_true (sets I.program I.blocks k) (phis_set I.program I.join k)
    (inl (sets_here I.program I.blocks b.stands.block b.stands.behind k x b.stands.among at.1 (ap (λ (o : Option ℕ). is_register o k) r ∙ eq-eqb k k refl)))

-- phis of a block of the region, and those of the join
pub phis_may : (I : Instance) (to : ℕ) → Contains I.blocks to ⊎ (to ≡ I.join) → (x : Instr) → Contains (phis_of I.program to) x → (k : ℕ) → x.result ≡ Some k
    → may_set I k ≡ true
unfolding phis_of block_sets
phis_may I to (inl m) x c k r =
    let i = while_among (λ (y : Instr). is_phi y.op) (instrs_of I.program to) x c in
    either_true (sets I.program I.blocks k) (phis_set I.program I.join k)
    (inl (some_of (block_sets I.program k) I.blocks to m
    (some_of (λ (y : Instr). is_register y.result k) (instrs_of I.program to) x i.0 (ap (λ (o : Option ℕ). is_register o k) r ∙ eq-eqb k k refl))))
phis_may I to (inr e) x c k r =
    either_true (sets I.program I.blocks k) (phis_set I.program I.join k)
    (inr (subst (λ (b : ℕ). phis_set I.program b k ≡ true) e
    (some_of (λ (y : Instr). is_register y.result k) (phis_of I.program to) x c (ap (λ (o : Option ℕ). is_register o k) r ∙ eq-eqb k k refl))))

-- where an edge leads
pub edge_parts : (p : NumberedProgram) (rs : List (Option ℕ)) (o : Op) (to : ℕ) → edge_taken p rs o ≡ Some to → (is_terminator o ≡ true) × Contains (targets_of o) to
edge_parts p rs (op.Br b) to e = let q : b.0 ≡ to = cc in (refl, subst (λ (z : ℕ). Contains (b.0 ∷ []) z) q (here b.0 []))
edge_parts p rs (op.CondBr c a b) to e = let q : chosen (given (operand p rs c)) a.0 b.0 ≡ to =
    cc in (refl, subst (λ (z : ℕ). Contains (a.0 ∷ b.0 ∷ []) z) q (chosen_among (given (operand p rs c)) a.0 b.0))
edge_parts p rs (op.Switch w on other cases) to e =
    let q : case_of cases other.0 (given (operand p rs on)) ≡ to = cc in
    (refl, subst (λ (z : ℕ). Contains (targets_of (op.Switch w on other cases)) z) q (switched_among cases other.0 (given (operand p rs on))))
edge_parts p rs o to e = absurd cc

pub bottom_edge : (I : Instance) (f : Frame) (fs : List Frame) (x : Instr) (to : ℕ) → IsProgram I.program → IsQuietSet I (region_set I) → IsBottom I f fs
    → slice_get I.program.instrs f.place ≡ Some x → edge_taken I.program f.registers x.op ≡ Some to → Contains I.blocks to ⊎ (to ≡ I.join)
bottom_edge I f fs x to program q b e t =
    let at = at_block I (region_set I) f x program b.stands e in
    let d = edge_parts I.program f.registers x.op to t in
    let s : Contains (successors I.program x.block.0) to = subst (λ (ts : List ℕ). Contains ts to) (sym (successors_of I.program f.place x program e d.0)) d.1 in
    go (q.edges b.stands.block to b.stands.among (subst (λ (c : ℕ). Contains (successors I.program c) to) at.0 s))
  where
    go : Contains I.blocks to ⊎ ((false ≡ false) × (to ≡ I.join)) → Contains I.blocks to ⊎ (to ≡ I.join)
    go (inl m) = inl m
    go (inr m) = inr m.1

-- bounds to which a store of a region leads may be written
pub reached_write : (xs : List FreeAccess) (bounds : ByteRange) (w : Bool) (b : ℕ) → leads.IsReached xs w bounds → w ≡ true → is_within bounds b ≡ true → may_write xs b ≡ true
reached_write xs bounds w b r e h =
    some_of (λ (f : FreeAccess). f.writes && is_within (bounds_of f.at.last) b) xs r.access r.among
    (both r.access.writes (is_within (bounds_of r.access.at.last) b) (r.kind ∙ e) (ap (λ (z : ByteRange). is_within z b) r.same ∙ h))
  where
    both : (a c : Bool) → a ≡ true → c ≡ true → (a && c) ≡ true
    both true c q k = k
    both false c q k = absurd cc

sets_grow : (p : NumberedProgram) (small big : List ℕ) (r : ℕ) → ((x : ℕ) → Contains small x → Contains big x) → sets p small r ≡ true → sets p big r ≡ true
sets_grow p small big r h e = let s = any_source (block_sets p r) small e in some_of (block_sets p r) big s.0 (h s.0 s.1) s.2

-- what an inner region may set the outer may set
pub nested_sets : (p : NumberedProgram) (outer inner : Region) → AreNested outer inner → (k : ℕ) → regions.may_set p inner k ≡ true → regions.may_set p outer k ≡ true
unfolding phis_of block_sets
nested_sets p outer inner n k e = go (or_cases (sets p inner.blocks.items k) (regions.phis_set p inner.join k) e)
  where
    go : (sets p inner.blocks.items k ≡ true) ⊎ (regions.phis_set p inner.join k ≡ true) → regions.may_set p outer k ≡ true
    go (inl s) = either_true (sets p outer.blocks.items k) (regions.phis_set p outer.join k) (inl (sets_grow p inner.blocks.items outer.blocks.items k n.blocks s))
    go (inr s) = by_join n.join
      where
        by_join : (inner.join ≡ outer.join) ⊎ Contains outer.blocks.items inner.join → regions.may_set p outer k ≡ true
        by_join (inl q) = either_true (sets p outer.blocks.items k) (regions.phis_set p outer.join k) (inr (subst (λ (b : ℕ). regions.phis_set p b k ≡ true) q s))
        by_join (inr m) =
            let x = any_source (λ (y : Instr). is_register y.result k) (phis_of p inner.join) s in
            let i = while_among (λ (y : Instr). is_phi y.op) (instrs_of p inner.join) x.0 x.1 in
            either_true (sets p outer.blocks.items k) (regions.phis_set p outer.join k)
            (inl (some_of (block_sets p k) outer.blocks.items inner.join m (some_of (λ (y : Instr). is_register y.result k) (instrs_of p inner.join) x.0 i.0 x.2)))

-- ---- open extents

module _ (p : NumberedProgram) (gates : List InstrId) (sums : ℕ → Option RootedList) (found : ℕ → Option Region) (free_of : ℕ → Option FreeRegion) (block_of : ℕ → ℕ) where
  abbrev G : ℕ → Bool
  G i = is_gated gates i

  -- the extent of a branch step, whose thread is inside: by the number of the step the free region and the block are known
  pub record Open (s : State) (t : ℕ) (l : LocalState) (e : Extent) : Type 0 where
    pub region : Region
    pub is_region : IsRegion p G sums (block_of e.step) region
    pub found_is : found (block_of e.step) ≡ Some region
    pub free : FreeRegion
    pub known : free_of e.step ≡ Some free
    pub state : State
    pub local : LocalState
    pub frame : Frame
    pub lower : List Frame
    pub can : CanStepInside (instance_of p G sums region free state local frame lower) gates s t l
    pub inside : IsInside (instance_of p G sums region free state local frame lower) l
    pub join : e.join ≡ region.join
    pub depth : e.depth ≡ length lower + 1
    pub sets : (k : ℕ) → free.sets k ≡ regions.may_set p region k

  abbrev pub instance : {s : State} {t : ℕ} {l : LocalState} {e : Extent} → Open s t l e → Instance
  instance o = instance_of p G sums o.region o.free o.state o.local o.frame o.lower

  -- from the join of an open extent a block that isn't quiet can be reached
  pub open_loud : (input : List ℤ) (xs : List Step) (s z : State) (t : ℕ) (l : LocalState) (e : Extent) (program : IsProgram p) (summaries : AreSummaries p G sums) → length input < 2 ^ 64
      → (o : Open s t l e) → IsReached p s → IsRun gates p input s xs z → AreTogether xs → IsNext t xs → Loud p G sums program summaries o.region.join
  open_loud input xs s z t l e program summaries small o r run to n =
      leads_out (instance o) gates input xs s z t l program summaries small (join_fits p (block_of e.step) o.region.join program o.is_region.join.reached) o.can r run to n

  -- the region of a branch in the branch's frame lies in that of the open extent
  pub open_nested : (input : List ℤ) (xs : List Step) (s z : State) (t : ℕ) (l : LocalState) (e : Extent) (program : IsProgram p) (summaries : AreSummaries p G sums) → length input < 2 ^ 64
      → (o : Open s t l e) → IsReached p s → IsRun gates p input s xs z → AreTogether xs → IsNext t xs →
      (d : ℕ) (inner : Region) → IsRegion p G sums d inner → Contains o.region.blocks.items d → AreNested o.region inner
  open_nested input xs s z t l e program summaries small o r run to n d inner is c =
      let v = open_loud input xs s z t l e program summaries small o r run to n in
      regions_nest p G sums (block_of e.step) d v.block o.region inner o.is_region is c v.path v.loud
