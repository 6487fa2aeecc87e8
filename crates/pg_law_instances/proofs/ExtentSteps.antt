-- Extents from one step to the next: those that stay open, one that begins, and which end together.
use Rattle.std.proofs.Common.{◌≡◌, ℕ, ℤ, ◌+◌, ◌<◌, ◌≤◌, ◌^◌, ◌==◌, Bool, true, false, List, ◌∷◌, length, Option, Some, None, refl, sym, ap, ◌∙◌}
use Rattle.std.proofs.Common.{subst, arith, inl, inr, ◌⊎◌}
use Rattle.std.specs.Prelude.{Contains, slice_get}
use Rattle.std.proofs.lemmas.Bool.{and_parts, and_from, eq-eqb, eqb-true, true≢false}
use Rattle.pg_ir.specs.declared.ids.InstrId.{InstrId}
use Rattle.pg_ir.specs.declared.library_call.LibraryCall.{LibraryCall}
use Rattle.pg_ir.specs.declared.library_call.LibraryCall.TheVariants as known
use Rattle.pg_ir.specs.declared.instr.Instr.{Instr}
use Rattle.pg_ir.specs.declared.instr.Op.{Op}
use Rattle.pg_ir.specs.declared.instr.Op.TheVariants as op
use Rattle.pg_ir.specs.Program.{NumberedProgram, function_of}
use Rattle.pg_ir.specs.WellFormed.{IsProgram}
use Rattle.pg_cfg.specs.Graphs.{Walk}
use Rattle.pg_cfg.specs.Graphs.Walk.{first, then}
use Rattle.pg_region_accesses.specs.Accesses.{RootedList}
use Rattle.pg_region_summaries.specs.Summaries.{AreSummaries}
use Rattle.pg_region.specs.declared.region.Region.{Region}
use Rattle.pg_region.specs.Regions.{flow_of, IsRegion}
use Rattle.pg_region.specs.Laws.{AreNested}
use Rattle.pg_run_thread.specs.LocalState.{Frame, LocalState}
use Rattle.pg_run_thread.specs.States.{StandsAt, AreFramesOf}
use Rattle.pg_run_thread.specs.Step.{top_registers, under_top}
use Rattle.pg_run_thread.specs.Told.{id_of, place_in}
use Rattle.pg_run_trace.specs.declared.step.Step.{Step}
use Rattle.pg_run_trace.specs.declared.step.StepKind.{StepKind}
use Rattle.pg_run_trace.specs.declared.step.StepKind.TheVariants as told
use Rattle.pg_run.specs.State.{State}
use Rattle.pg_run.specs.MachineStep.{is_gated, library_told, op_told}
use Rattle.pg_run.specs.Runs.{IsRun}
use Rattle.pg_slice_replay.specs.pg_slice_rules.Moments.{Moment}
use Rattle.pg_slice_replay.specs.pg_slice_rules.Extents.{Extent, ends}
use Rattle.pg_slice_replay.specs.pg_slice_rules.Freeable.{FreeRegion, Regions}
use Rattle.pg_slice_replay.specs.pg_slice_rules.Known.{Seen, is_branch, Reference}
use Rattle.pg_law_instances.specs.Free.{instance_of}
use Rattle.pg_law_instances.specs.Inside.{Instance, IsBottom, IsBranch, IsInside, Joins, edge_at as instr_edge, edge_taken, next_edge, region_set}
use Rattle.pg_law_least.specs.Keeps.{depth_of, edge_at, is_branching}
use Rattle.pg_slice_replay.specs.OfRegions.{AreRegions}
use Rattle.pg_law_instances.specs.Stays.{CanStepInside, StaysInside}
use Rattle.pg_law_instances.specs.Together.{AreTogether, IsNext}
use Rattle.pg_law_instances.proofs.RunsOfOneThread.{inside_again}
use Rattle.pg_law_instances.proofs.FreeableSteps.{apart_at, at_branch, leads_there}
use Rattle.pg_law_instances.proofs.FreeRegions.{Freed}
use Rattle.pg_law_instances.proofs.StepsKeepToRegion.{IsSeen, deep_enough, edge_here, edge_leads, freed_here, nested_here, bottom_here, took_here}
use Rattle.pg_law_instances.proofs.JoinLeadsOut.{frames_of}
use Rattle.pg_law_instances.proofs.MachineSteps.{step_stays}
use Rattle.pg_law_instances.proofs.OpenExtentIsInstance.{Open, edge_parts, instance, open_nested}
use Rattle.pg_law_instances.proofs.DoneSteps.{Plain, TellsPlain, Took}
use Rattle.pg_law_instances.proofs.FramesBehindEdges.{successors_of}
use Rattle.pg_law_instances.proofs.FramePlaces.{at_block}
use Rattle.pg_ir.specs.Edges.{successors}

-- a walk doesn't meet the join
not_met : (p : NumberedProgram) (j a x : ℕ) → Walk (flow_of p) j a x → x ≡ j → ⊥
not_met p j a x (first e h) = h
not_met p j a x (then w e h) = h

branch_op : (o : Op) (ns : List ℕ) (n c : ℕ) → told.Branch c ≡ op_told ns n o → IsBranch o × (is_branching o ≡ true)
branch_op (op.CondBr v a b) ns n c e = (tt, refl)
branch_op (op.Switch w on other cases) ns n c e = (tt, refl)
branch_op (op.Alloca b) ns n c e = absurd cc
branch_op (op.CallLibrary k args) ns n c e = known_no k e
  where
    known_no : (k : LibraryCall) → told.Branch c ≡ library_told ns n k → IsBranch (op.CallLibrary k args) × (is_branching (op.CallLibrary k args) ≡ true)
    known_no known.Malloc e = absurd cc
    known_no k e = absurd cc
branch_op o ns n c e = absurd cc

-- a step that tells a branch is one
pub tells_branch : (b : Bool) (o : Op) (k : StepKind) → TellsPlain b o k → is_branch k ≡ true → IsBranch o × (is_branching o ≡ true)
tells_branch b o (told.Branch c) (inl e) q = absurd cc
tells_branch b o (told.Branch c) (inr e) q = branch_op o e.0 e.1 c e.2
tells_branch b o told.Other h q = absurd cc
tells_branch b o (told.Access a) h q = absurd cc
tells_branch b o (told.Event a) h q = absurd cc
tells_branch b o (told.Allocation a r) h q = absurd cc

frame_in : (p : NumberedProgram) (f : ℕ) (o : Option Instr) (x : Instr) → o ≡ Some x → StandsAt p f o → function_of p x.block.0 ≡ f
frame_in p f None x e h = absurd h
frame_in p f (Some y) x e h = let q : y ≡ x = cc in subst (λ (z : Instr). function_of p z.block.0 ≡ f) q h.0

ends_true : (e : Extent) (depth to : ℕ) → e.depth ≡ depth → e.join ≡ to → ends depth (Some to) e ≡ true
ends_true e depth to d j = and_from (e.depth == depth) (e.join == to) (eq-eqb e.depth depth d) (eq-eqb e.join to j)

-- what ends an extent
pub record Ends (depth : ℕ) (edge : Option ℕ) (e : Extent) : Type 0 where
  pub at : edge ≡ Some e.join
  pub deep : e.depth ≡ depth

pub ends_parts : (depth : ℕ) (edge : Option ℕ) (e : Extent) → ends depth edge e ≡ true → Ends depth edge e
ends_parts depth None e h = absurd cc
ends_parts depth (Some to) e h = let k = and_parts (e.depth == depth) (e.join == to) h in record { at = ap (λ (n : ℕ). Some n) (sym (eqb-true e.join to k.1)); deep = eqb-true e.depth depth k.0 }

ends_from : (depth : ℕ) (edge : Option ℕ) (e : Extent) (to : ℕ) → edge ≡ Some to → e.depth ≡ depth → e.join ≡ to → ends depth edge e ≡ true
ends_from depth edge e to q d j = subst (λ (o : Option ℕ). ends depth o e ≡ true) (sym q) (ends_true e depth to d j)

module _ (p : NumberedProgram) (gates : List InstrId) (sums : ℕ → Option RootedList) (regions : Regions) (are : AreRegions p (λ i. is_gated gates i) sums regions) (moments : List Moment)
    (free_of : ℕ → Option FreeRegion) (block_of : ℕ → ℕ) (program : IsProgram p) (summaries : AreSummaries p (λ i. is_gated gates i) sums)
    (input : List ℤ) (small : length input < 2 ^ 64) where
  abbrev Seen_as : State → State → ℕ → LocalState → Step → Seen → Type 0
  Seen_as s w t l x y = IsSeen p gates sums regions are moments free_of block_of program summaries input small s w t l x y

  -- of two extents of a thread the later is deeper, or its branch stands in the region of the earlier
  pub record Over (e o : Extent) : Type 0 where
    pub deeper : o.depth ≤ e.depth
    pub within : o.depth ≡ e.depth → (r : Region) → are.found (block_of o.step) ≡ Some r → Contains r.blocks.items (block_of e.step)

  module _ (s w z : State) (t : ℕ) (l : LocalState) (x : Step) (xs : List Step) (y : Seen) (h : Seen_as s w t l x y) (run : IsRun gates p input s (x ∷ xs) z)
      (together : AreTogether (x ∷ xs)) (next : IsNext t (x ∷ xs)) where
    abbrev R : Reference
    R = record { program = p; regions = regions; moments = moments }

    abbrev pub took_it : Took gates p s t l x w
    took_it = took_here p gates sums regions are moments free_of block_of program summaries input small s w z t l x xs y h run together next

    abbrev IsPlain : Type 0
    IsPlain = Plain gates p s t l x w took_it.local

    abbrev OpenAt : State → LocalState → Extent → Type 0
    OpenAt s l e = Open p gates sums are.found free_of block_of s t l e

    abbrev edge_is : (q : IsPlain) → edge_at R y ≡ edge_taken p q.frame.registers q.instr.op
    edge_is q = edge_here p gates sums regions are moments free_of block_of program summaries input small s w z t l x xs y h run together next q

    next_edge_is : (q : IsPlain) → next_edge p l ≡ edge_taken p q.frame.registers q.instr.op
    unfolding id_of
    next_edge_is q = ap (λ (fs : List Frame). instr_edge p (top_registers fs) (slice_get p.instrs (place_in fs))) q.frames ∙ ap (instr_edge p q.frame.registers) q.is

    same_local : (m : LocalState) → slice_get w.locals t ≡ Some m → m ≡ took_it.local
    same_local m e = let k : Some m ≡ Some took_it.local = sym e ∙ took_it.is_local in cc

    depth_is : (q : IsPlain) → depth_of y ≡ length (q.frame ∷ q.below)
    depth_is q = ap (λ (cs : List Frame). length cs) (h.moment.calls ∙ q.frames)

    -- the edge to the join ends the extent
    joined_ends : (q : IsPlain) (I : Instance) (m : LocalState) (e : Extent) → I.program ≡ p → Joins I l m → e.join ≡ I.join → e.depth ≡ length I.lower + 1
        → next_edge p l ≡ Some I.join → ends (depth_of y) (edge_at R y) e ≡ true
    joined_ends q I m e pe j ej ed ne =
        let low : q.below ≡ I.lower = sym (ap under_top q.frames) ∙ j.lower in
        let d : e.depth ≡ depth_of y = (let a = depth_is q in let n = ap (λ (cs : List Frame). length cs) low in omega (arith, a, n, ed)) in
        ends_from (depth_of y) (edge_at R y) e I.join (edge_is q ∙ sym (next_edge_is q) ∙ ne) d ej

    -- an extent that doesn't end stays open
    pub open_next : (q : IsPlain) (e : Extent) → OpenAt s l e → ends (depth_of y) (edge_at R y) e ≡ false → OpenAt w took_it.local e
    open_next q e o n = go stays.goes_on
      where
        I : Instance
        I = instance p gates sums are.found free_of block_of o

        stays : StaysInside (instance p gates sums are.found free_of block_of o) t l x s w
        stays = step_stays (instance p gates sums are.found free_of block_of o) gates input s w t l x o.can h.is_ready h.is_step

        go : IsInside (instance p gates sums are.found free_of block_of o) stays.local ⊎ Joins (instance p gates sums are.found free_of block_of o) l stays.local → OpenAt w took_it.local e
        go (inl i) = subst (λ (m : LocalState). OpenAt w m e) (same_local stays.local stays.is_local) (record {
          region = o.region;
          is_region = o.is_region;
          found_is = o.found_is;
          free = o.free;
          known = o.known;
          state = o.state;
          local = o.local;
          frame = o.frame;
          lower = o.lower;
          can = inside_again (instance p gates sums are.found free_of block_of o) gates s w t l x o.can stays i;
          inside = i;
          join = o.join;
          depth = o.depth;
          sets = o.sets;
        })
        go (inr j) = absurd (true≢false (sym (joined_ends q (instance p gates sums are.found free_of block_of o) stays.local e refl j o.join o.depth j.edge) ∙ n))

    -- ---- an extent that begins

    abbrev pub freed_is : (q : IsPlain) (r : FreeRegion) → y.region ≡ Some r → (is_branch x.kind ≡ true) × Freed p (λ i. is_gated gates i) sums are.found y.moment q.instr.block.0 r
    freed_is q r v = freed_here p gates sums regions are moments free_of block_of program summaries input small s w z t l x xs y h run together next q r v

    module _ (q : IsPlain) (r : FreeRegion) (v : y.region ≡ Some r) where
      abbrev g : Freed p (λ i. is_gated gates i) sums are.found y.moment q.instr.block.0 r
      g = (freed_is q r v).1

      abbrev pub begun_instance : Instance
      begun_instance = instance_of p (λ i. is_gated gates i) sums g.region r s l q.frame q.below

      pub begins : CanStepInside begun_instance gates s t l
      begins = record {
        branch = at_branch p (λ i. is_gated gates i) sums g.region r s l q.frame q.below q.instr program summaries q.begun q.frames q.is
            (tells_branch (is_gated gates q.frame.place) q.instr.op x.kind q.tells (freed_is q r v).0).0
            (frame_in p q.frame.function (slice_get p.instrs q.frame.place) q.instr q.is (subst (λ (fs : List Frame). AreFramesOf p fs) q.frames (frames_of p s t l h.reached h.is_local)).0.place)
            (program.instrs q.frame.place q.instr q.is).block g.is_region.join
            (leads_there p (λ i. is_gated gates i) sums g.region r s l q.frame q.below y.moment (h.moment.calls ∙ q.frames) h.moment.bytes g.accesses) (apart_at r.accesses g.apart);
        gates = λ i. refl;
        is_local = h.is_local;
        within = inl refl;
        cells = record { kept = λ frame c a b d e. refl };
      }

      -- it is open behind the step, unless it ends at once
      pub open_begun : (e : Extent) → e.join ≡ r.join → e.depth ≡ depth_of y → block_of e.step ≡ q.instr.block.0 → free_of e.step ≡ Some r
          → ends (depth_of y) (edge_at R y) e ≡ false → OpenAt w took_it.local e
      open_begun e ej ed eb ef n = go stays.goes_on
        where
          stays : StaysInside begun_instance t l x s w
          stays = step_stays begun_instance gates input s w t l x begins h.is_ready h.is_step

          deep : e.depth ≡ length q.below + 1
          deep = let a = depth_is q in omega (arith, a, ed)

          go : IsInside begun_instance stays.local ⊎ Joins begun_instance l stays.local → OpenAt w took_it.local e
          go (inl i) = subst (λ (m : LocalState). OpenAt w m e) (same_local stays.local stays.is_local) (record {
            region = g.region;
            is_region = subst (λ (c : ℕ). IsRegion p (λ i. is_gated gates i) sums c g.region) (sym eb) g.is_region;
            found_is = ap are.found eb ∙ g.found_is;
            free = r;
            known = ef;
            state = s;
            local = l;
            frame = q.frame;
            lower = q.below;
            can = inside_again begun_instance gates s w t l x begins stays i;
            inside = i;
            join = ej ∙ g.join;
            depth = deep;
            sets = g.sets;
          })
          go (inr j) = absurd (true≢false (sym (joined_ends q begun_instance stays.local e refl j (ej ∙ g.join) deep j.edge) ∙ n))

      -- its edge leads into its region or to its join
      pub begun_edge : (to : ℕ) → edge_at R y ≡ Some to → Contains g.region.blocks.items to ⊎ (to ≡ g.region.join)
      begun_edge to u =
          let d = edge_parts p q.frame.registers q.instr.op to (sym (edge_is q) ∙ u) in
          let c : Contains (successors p q.instr.block.0) to = subst (λ (ts : List ℕ). Contains ts to) (sym (successors_of p q.frame.place q.instr program q.is d.0)) d.1 in
          let same : q.instr ≡ begins.branch.branch = (let k : Some q.instr ≡ Some begins.branch.branch = sym q.is ∙ begins.branch.is in cc) in
          begins.branch.first to (subst (λ (i : Instr). Contains (successors p i.block.0) to) same c)

      -- it stands on each open one
      pub begun_over : (o : Extent) → OpenAt s l o → (e : Extent) → e.depth ≡ depth_of y → block_of e.step ≡ q.instr.block.0 → Over e o
      begun_over o k e ed eb = record {
        deeper = (let n = deep_enough p gates sums regions are moments free_of block_of program summaries input small s w z t l x xs y h run together next q o k in omega (arith, n, ed));
        within = λ d ro f.
            let b : IsBottom (instance p gates sums are.found free_of block_of k) q.frame q.below =
            bottom_here p gates sums regions are moments free_of block_of program summaries input small s w z t l x xs y h run together next q o k (sym ed ∙ sym d) in
            let at = at_block (instance p gates sums are.found free_of block_of k) (region_set (instance p gates sums are.found free_of block_of k)) q.frame q.instr program b.stands q.is in
            let same : k.region ≡ ro = (let u : Some k.region ≡ Some ro = sym k.found_is ∙ f in cc) in
            subst (λ (c : ℕ). Contains ro.blocks.items c) (sym eb)
            (subst (λ (rr : Region). Contains rr.blocks.items q.instr.block.0) same (subst (λ (c : ℕ). Contains k.region.blocks.items c) (sym at.0) b.stands.among));
      }

    -- ---- ends

    -- what ends the earlier ends the later too
    later_ends : (o e : Extent) (ko : OpenAt s l o) (inner : Region) (depth : ℕ) → AreNested ko.region inner
        → (Contains inner.blocks.items ko.region.join ⊎ (ko.region.join ≡ inner.join)) → ko.region.join ≡ inner.join
    later_ends o e ko inner depth n (inr q) = q
    later_ends o e ko inner depth n (inl m) = absurd (not_met p ko.region.join (block_of o.step) ko.region.join ((ko.is_region.join.before.exact ko.region.join).0 (n.blocks ko.region.join m)) refl)

    pub open_ends : (q : IsPlain) (o e : Extent) → OpenAt s l o → OpenAt s l e → Over e o → ends (depth_of y) (edge_at R y) o ≡ true → ends (depth_of y) (edge_at R y) e ≡ true
    open_ends q o e ko ke v u =
        let k = ends_parts (depth_of y) (edge_at R y) o u in
        let n = deep_enough p gates sums regions are moments free_of block_of program summaries input small s w z t l x xs y h run together next q e ke in
        let d : e.depth ≡ depth_of y = (let a = v.deeper in let b = k.deep in omega (arith, n, a, b)) in
        let nest = open_nested p gates sums are.found free_of block_of input (x ∷ xs) s z t l o program summaries small ko h.reached run together next (block_of e.step) ke.region ke.is_region
        (v.within (k.deep ∙ sym d) ko.region ko.found_is) in
        let lead = edge_leads p gates sums regions are moments free_of block_of program summaries input small s w z t l x xs y h run together next q e ke (sym d) ko.region.join
        (k.at ∙ ap (λ (c : ℕ). Some c) ko.join) in
        let j = later_ends o e ko ke.region (depth_of y) nest lead in
        ends_from (depth_of y) (edge_at R y) e o.join k.at d (ke.join ∙ sym j ∙ sym ko.join)

    pub begun_ends : (q : IsPlain) (r : FreeRegion) (v : y.region ≡ Some r) (o e : Extent) → OpenAt s l o → e.join ≡ r.join → e.depth ≡ depth_of y
        → ends (depth_of y) (edge_at R y) o ≡ true → ends (depth_of y) (edge_at R y) e ≡ true
    begun_ends q r v o e ko ej ed u =
        let k = ends_parts (depth_of y) (edge_at R y) o u in
        let nest = nested_here p gates sums regions are moments free_of block_of program summaries input small s w z t l x xs y h run together next q o ko (sym k.deep) r v in
        let lead = begun_edge q r v ko.region.join (k.at ∙ ap (λ (c : ℕ). Some c) ko.join) in
        let j = later_ends o e ko (freed_is q r v).1.region (depth_of y) nest lead in
        ends_from (depth_of y) (edge_at R y) e o.join k.at ed (ej ∙ (freed_is q r v).1.join ∙ sym j ∙ sym ko.join)
