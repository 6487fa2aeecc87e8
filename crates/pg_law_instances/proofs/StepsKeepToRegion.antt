-- A step while an extent is open keeps to the region of the extent's branch step.
use Rattle.std.proofs.Common.{◌≡◌, ℕ, ℤ, suc, ◌<◌, ◌≤◌, ◌^◌, ◌&&◌, Bool, true, false, List, [], ◌∷◌, length, Option, Some, None, refl, sym, ap, ◌∙◌}
use Rattle.std.proofs.Common.{subst, arith, inl, inr, ◌⊎◌}
use Rattle.std.specs.Prelude.{Contains, slice_get, if◌then◌else◌}
use Rattle.std.proofs.lemmas.Bool.{and_parts, cases_lt}
use Rattle.pg_num.specs.Places.{ByteRange}
use Rattle.pg_run_memory.specs.Memory.{byte_at, read}
use Rattle.pg_ir.specs.declared.ids.InstrId.{InstrId}
use Rattle.pg_ir.specs.declared.instr.Instr.{Instr}
use Rattle.pg_ir.specs.declared.instr.Op.{Op}
use Rattle.pg_ir.specs.declared.instr.Op.TheVariants as op
use Rattle.pg_ir.specs.Program.{NumberedProgram, function_of}
use Rattle.pg_ir.specs.WellFormed.{IsProgram}
use Rattle.pg_region_paths.specs.FollowedPaths.{followed}
use Rattle.pg_region_accesses.specs.Accesses.{RootedList, op_accesses}
use Rattle.pg_region_paths.proofs.Elements.{none_in}
use Rattle.pg_region_summaries.specs.Blocks.{blocks_of}
use Rattle.pg_region_summaries.specs.Summaries.{AreSummaries}
use Rattle.pg_region.specs.Laws.{AreNested}
use Rattle.pg_run_thread.specs.LocalState.{Frame, LocalState}
use Rattle.pg_run_thread.specs.Operands.{number_at, operands_of}
use Rattle.pg_run_thread.specs.Compute.{chosen}
use Rattle.pg_run_thread.specs.EdgeStep.{case_of}
use Rattle.pg_run_thread.specs.Told.{id_of, place_in}
use Rattle.pg_run_trace.specs.declared.step.Access.{Access}
use Rattle.pg_run_trace.specs.declared.step.Step.{Step}
use Rattle.pg_run_trace.specs.declared.step.StepKind.{StepKind}
use Rattle.pg_run_trace.specs.declared.step.StepKind.TheVariants as told
use Rattle.pg_run_trace.specs.Steps.{happening_in, range_of, access_kind}
use Rattle.pg_run.specs.State.{State}
use Rattle.pg_run.specs.MachineStep.{Did, is_gated, ready, step}
use Rattle.pg_run.specs.Runs.{IsRun}
use Rattle.pg_slice_replay.specs.pg_law_effects.Reached.{IsReached}
use Rattle.pg_slice_replay.specs.pg_slice_rules.Moments.{Moment, instr_in, number_in, registers_in}
use Rattle.pg_slice_replay.specs.pg_slice_rules.Extents.{Extent, edge_by, edge_in}
use Rattle.pg_slice_replay.specs.pg_slice_rules.Freeable.{FreeAccess, FreeRegion, Regions, bounds_of, region_at}
use Rattle.pg_slice_replay.specs.pg_slice_rules.Known.{Reference, Seen, caller_target, edge_of, is_branch, region_of, target_of}
use Rattle.pg_slice_replay.specs.pg_slice_rules.Rules.{kind_in}
use Rattle.pg_slice_replay.specs.pg_slice_rules.SymbolicValues.{is_within}
use Rattle.pg_law_instances.specs.Inside.{Instance, IsBottom, Stands, edge_taken, region_set, registers_by}
use Rattle.pg_law_least.specs.Keeps.{KeepsTo, MaySet, MaySetPhis, Returns, StoresBy, depth_of, edge_at, instr_of, is_store, may_write}
use Rattle.pg_law_instances.specs.Leads.{IsReached as LeadsTo}
use Rattle.pg_law_instances.specs.Moves.{IsLoad, IsStore, IsPlacedAt}
use Rattle.pg_slice_replay.specs.OfRegions.{AreRegions}
use Rattle.pg_law_instances.specs.Stays.{AccessesWithin, StaysInside, TellsWithin}
use Rattle.pg_law_instances.specs.Together.{AreTogether, IsNext}
use Rattle.pg_law_instances.proofs.FreeRegions.{Freed, Source, freed, source_of}
use Rattle.pg_law_instances.proofs.MachineSteps.{step_stays}
use Rattle.pg_law_instances.proofs.OpenExtentIsInstance.{Open, any_source, bottom_edge, bottom_of, bottom_result, instance, nested_sets, open_nested, phis_may, reached_write, stands_length}
use Rattle.pg_law_instances.proofs.FramePlaces.{at_block, quiet_at}
use Rattle.pg_law_instances.proofs.FramesBehindSteps.{table}
use Rattle.pg_law_instances.proofs.DoneSteps.{Plain, TellsAccess, TellsPlain, Took, took}
use Rattle.pg_law_instances.proofs.InnerRegionPaths.{inner_reached, region_function}
use Rattle.pg_ir.specs.declared.value.Value.{Value}
use Rattle.pg_run_memory.specs.Bytes.{number_of}
use Rattle.pg_num.specs.Pointers.{byte_place}
use Rattle.pg_region_paths.specs.declared.path.Path.{Path as PointerPath}

-- ---- a step as it is seen

-- the moment of a step is that of the state before it
pub record IsMoment (m : Moment) (s : State) (l : LocalState) (x : Step) : Type 0 where
  pub did : m.did.did ≡ x
  pub calls : m.calls ≡ l.frames
  pub bytes : m.bytes ≡ byte_at s.memory

edge_kind : (p : NumberedProgram) (m : Moment) (b : Bool) (o : Op) (k : StepKind) → TellsPlain b o k → edge_of p m k ≡ edge_in p m (instr_in p m)
edge_kind p m b o (told.Event e) h = absurd h
edge_kind p m b o told.Other h = refl
edge_kind p m b o (told.Branch c) h = refl
edge_kind p m b o (told.Allocation a r) h = refl
edge_kind p m b o (told.Access a) h = refl

edge_same : (p : NumberedProgram) (m : Moment) (f : Frame) (fs : List Frame) (o : Op) → m.calls ≡ f ∷ fs → edge_by p m o ≡ edge_taken p f.registers o
edge_same p m f fs (op.Br to) e = refl
edge_same p m f fs (op.CondBr c a b) e = ap (λ (cs : List Frame). Some (chosen (number_at p (registers_in cs) (c ∷ []) 0) a.0 b.0)) e
edge_same p m f fs (op.Switch w on other cases) e = ap (λ (cs : List Frame). Some (case_of cases other.0 (number_at p (registers_in cs) (operands_of (op.Switch w on other cases)) 0))) e
edge_same p m f fs o e = refl

pub no_store : (o : Op) → IsLoad o → is_store o ≡ true → ⊥
no_store (op.Load w from) h e = cc
no_store o h e = absurd h

return_none : (gated : ℕ → Bool) (sums : ℕ → Option RootedList) (t : ℕ → Option PointerPath) (i : ℕ) (v : Option Value) (zs : RootedList)
    → op_accesses false gated sums t i (op.Ret v) ≡ Some zs → ⊥
return_none gated sums t i v zs e = cc

may_set_from : (sets : ℕ → Bool) (o : Option ℕ) → ((k : ℕ) → o ≡ Some k → sets k ≡ true) → MaySet sets o
may_set_from sets None h = tt
may_set_from sets (Some k) h = h k refl

module _ (p : NumberedProgram) (gates : List InstrId) (sums : ℕ → Option RootedList) (regions : Regions) (are : AreRegions p (λ i. is_gated gates i) sums regions) (moments : List Moment)
    (free_of : ℕ → Option FreeRegion) (block_of : ℕ → ℕ) (program : IsProgram p) (summaries : AreSummaries p (λ i. is_gated gates i) sums)
    (input : List ℤ) (small : length input < 2 ^ 64) where
  abbrev R : Reference
  R = record { program = p; regions = regions; moments = moments }

  -- a step of the run, with all that is known of it
  pub record IsSeen (s w : State) (t : ℕ) (l : LocalState) (x : Step) (y : Seen) : Type 0 where
    pub moment : IsMoment y.moment s l x
    pub region : y.region ≡ region_of p regions y.moment (instr_in p y.moment)
    pub is_local : slice_get s.locals t ≡ Some l
    pub is_ready : ready p s t ≡ true
    pub is_step : step gates p input s t ≡ Did x w
    pub reached : IsReached p s

  module _ (s w z : State) (t : ℕ) (l : LocalState) (x : Step) (xs : List Step) (y : Seen) (h : IsSeen s w t l x y) (run : IsRun gates p input s (x ∷ xs) z)
      (together : AreTogether (x ∷ xs)) (next : IsNext t (x ∷ xs)) where
    pub took_here : Took gates p s t l x w
    took_here = took gates p input s w t l x h.is_local h.is_ready h.is_step

    pub kind_here : kind_in y ≡ x.kind
    kind_here = ap (λ (v : Step). v.kind) h.moment.did

    -- ---- a step that asks nothing of other threads

    module _ (q : Plain gates p s t l x w took_here.local) where
      abbrev f : Frame
      f = q.frame

      pub calls_here : y.moment.calls ≡ f ∷ q.below
      calls_here = h.moment.calls ∙ q.frames

      pub instr_here : instr_of R y ≡ Some q.instr
      unfolding id_of
      instr_here = ap (λ (v : Step). slice_get p.instrs v.instr.0) h.moment.did ∙ ap (slice_get p.instrs) took_here.instr
          ∙ ap (λ (fs : List Frame). slice_get p.instrs (place_in fs)) q.frames ∙ q.is

      pub edge_here : edge_at R y ≡ edge_taken p f.registers q.instr.op
      edge_here =
          ap (edge_of p y.moment) kind_here ∙ edge_kind p y.moment (is_gated gates f.place) q.instr.op x.kind q.tells ∙ ap (edge_in p y.moment) instr_here
          ∙ edge_same p y.moment f q.below q.instr.op calls_here

      pub same_instr : (i : Instr) → instr_of R y ≡ Some i → q.instr ≡ i
      same_instr i e = let k : Some q.instr ≡ Some i = sym instr_here ∙ e in cc

      pub freed_here : (r : FreeRegion) → y.region ≡ Some r → (is_branch x.kind ≡ true) × Freed p (λ i. is_gated gates i) sums are.found y.moment q.instr.block.0 r
      freed_here r e = go (is_branch x.kind) refl (sym (ap (λ (k : StepKind). if is_branch k then region_at p y.moment (regions q.instr.block.0) else None) kind_here)
          ∙ sym (ap (region_of p regions y.moment) instr_here) ∙ sym h.region ∙ e)
        where
          go : (b : Bool) → is_branch x.kind ≡ b → (if is_branch x.kind then region_at p y.moment (regions q.instr.block.0) else None) ≡ Some r
              → (is_branch x.kind ≡ true) × Freed p (λ i. is_gated gates i) sums are.found y.moment q.instr.block.0 r
          go true k v = (k, freed p (λ i. is_gated gates i) sums regions are y.moment q.instr.block.0 r (rw k at v))
          go false k v = let u : None ≡ Some r = rw k at v in absurd (let n : Path (Option FreeRegion) None (Some r) = u in cc)

      -- ---- an open extent

      module _ (e : Extent) (o : Open p gates sums are.found free_of block_of s t l e) where
        abbrev I : Instance
        I = instance p gates sums are.found free_of block_of o

        stays : StaysInside I t l x s w
        stays = step_stays I gates input s w t l x o.can h.is_ready h.is_step

        stands : Stands I (f ∷ q.below)
        stands = subst (Stands I) q.frames o.inside.stands

        depth_here : depth_of y ≡ length (f ∷ q.below)
        depth_here = ap (λ (cs : List Frame). length cs) calls_here

        pub deep_enough : e.depth ≤ depth_of y
        deep_enough = let n = stands_length I (f ∷ q.below) stands in omega (arith, n, o.depth, depth_here)

        pub bottom_here : depth_of y ≡ e.depth → IsBottom I f q.below
        bottom_here d = bottom_of I f q.below stands (let a = o.depth in let b = depth_here in omega (arith, a, b, d))

        plain_here : happening_in (kind_in y) ≡ None
        plain_here = ap happening_in kind_here ∙ none x.kind stays.tells
          where
            none : (k : StepKind) → TellsWithin I k → happening_in k ≡ None
            none told.Other v = refl
            none (told.Branch c) v = refl
            none (told.Access a) v = ap (λ (b : Bool). if b then Some (record { kind = access_kind a.writes; object = byte_place a.pointer }) else None) v.plain
            none (told.Event v') v = absurd v
            none (told.Allocation a r) v = absurd v

        result_here : depth_of y ≡ e.depth → (i : Instr) → instr_of R y ≡ Some i → MaySet o.free.sets i.result
        result_here d i v =
            let k = same_instr i v in
            may_set_from o.free.sets i.result (λ n u. o.sets n ∙ bottom_result I f q.below q.instr program (bottom_here d) q.is n (ap (λ (j : Instr). j.result) k ∙ u))

        pub edge_leads : depth_of y ≡ e.depth → (to : ℕ) → edge_at R y ≡ Some to → Contains o.region.blocks.items to ⊎ (to ≡ o.region.join)
        edge_leads d to v = bottom_edge I f q.below q.instr to program o.can.branch.region (bottom_here d) q.is (sym edge_here ∙ v)

        phis_here : depth_of y ≡ e.depth → MaySetPhis p o.free.sets (edge_at R y)
        phis_here d = go (edge_at R y) refl
          where
            go : (to : Option ℕ) → edge_at R y ≡ to → MaySetPhis p o.free.sets to
            go None v i c = absurd (none_in i c)
            go (Some to) v i c = may_set_from o.free.sets i.result (λ n u. o.sets n ∙ phis_may I to (edge_leads d to v) i c n u)

        -- the block of the branch's frame
        block_here : (b : IsBottom I f q.below) → Contains o.region.blocks.items q.instr.block.0
        block_here b = subst (λ (c : ℕ). Contains o.region.blocks.items c) (sym (at_block I (region_set I) f q.instr program b.stands q.is).0) b.stands.among

        pub nested_here : depth_of y ≡ e.depth → (r : FreeRegion) → (v : y.region ≡ Some r) → AreNested o.region (freed_here r v).1.region
        nested_here d r v =
            let g = (freed_here r v).1 in
            open_nested p gates sums are.found free_of block_of input (x ∷ xs) s z t l e program summaries small o h.reached run together next q.instr.block.0 g.region g.is_region
            (block_here (bottom_here d))

        inner_here : depth_of y ≡ e.depth → (r : FreeRegion) → y.region ≡ Some r → (k : ℕ) → r.sets k ≡ true → o.free.sets k ≡ true
        inner_here d r v k u =
            let g = (freed_here r v).1 in
            o.sets k ∙ nested_sets p o.region g.region (nested_here d r v) k (sym (g.sets k) ∙ u)

        return_quiet : (b : IsBottom I f q.below) (v : Option Value) → q.instr.op ≡ op.Ret v → ⊥
        return_quiet b v u =
            let z = quiet_at I (region_set I) f q.instr program o.can.branch.region b.stands q.is in
            return_none I.gated I.sums (table I (region_set I) f b.stands) f.place v z.0
            (subst (λ (o' : Op). op_accesses false I.gated I.sums (table I (region_set I) f b.stands) f.place o' ≡ Some z.0) u z.1)

        deeper_here : Returns R y → e.depth < depth_of y
        deeper_here r = go (cases_lt e.depth (depth_of y))
          where
            go : (e.depth < depth_of y) ⊎ (depth_of y ≤ e.depth) → e.depth < depth_of y
            go (inl lt) = lt
            go (inr le) =
                let n = deep_enough in
                let d : depth_of y ≡ e.depth = omega (arith, n, le) in
                absurd (return_quiet (bottom_here d) r.value (ap (λ (j : Instr). j.op) (same_instr r.instr r.stands) ∙ r.returns))

        target_here : Returns R y → depth_of y ≡ suc e.depth → MaySet o.free.sets (caller_target p y.moment.calls)
        target_here r d = subst (λ (cs : List Frame). MaySet o.free.sets (caller_target p cs)) (sym calls_here) (go q.below stands (let a = depth_here in omega (arith, a, d)))
          where
            of_instr : (g : Frame) (gs : List Frame) → IsBottom I g gs → (c : Option Instr) → slice_get p.instrs g.place ≡ c → MaySet o.free.sets (target_of c)
            of_instr g gs b None v = tt
            of_instr g gs b (Some i) v = may_set_from o.free.sets i.result (λ n u. o.sets n ∙ bottom_result I g gs i program b v n u)

            go : (fs : List Frame) → Stands I (f ∷ fs) → length (f ∷ fs) ≡ suc e.depth → MaySet o.free.sets (caller_target p (f ∷ fs))
            go [] v n = tt
            go (g ∷ gs) (inl b) n = absurd (let k = ap (λ (cs : List Frame). length cs) b.lower in omega (arith, k, n, o.depth))
            go (g ∷ gs) (inr a) n = of_instr g gs (bottom_of I g gs a.1 (omega (arith, n, o.depth))) (slice_get p.instrs g.place) refl

        stores_here : (a : Access) → StoresBy R y a → (b : ℕ) → is_within (bounds_of a.pointer) b ≡ true → may_write o.free.accesses b ≡ true
        stores_here a st b v =
            let k : x.kind ≡ told.Access a = sym kind_here ∙ st.kind in
            let within : AccessesWithin I a = subst (TellsWithin I) k stays.tells in
            let tells : TellsAccess (is_gated gates f.place) q.instr.op a = subst (TellsPlain (is_gated gates f.place) q.instr.op) k q.tells in
            let store : is_store q.instr.op ≡ true = ap (λ (j : Instr). is_store j.op) (same_instr st.instr st.stands) ∙ st.store in
            reached_write o.free.accesses (bounds_of a.pointer) a.writes b within.bounds (writes store tells.by) v
          where
            writes : is_store q.instr.op ≡ true → (IsLoad q.instr.op × (a.writes ≡ false)) ⊎ (IsStore q.instr.op × (a.writes ≡ true) × IsPlacedAt a.pointer (range_of a))
                → a.writes ≡ true
            writes u (inl c) = absurd (no_store q.instr.op c.0 u)
            writes u (inr c) = c.1

        -- the accesses of a region that begins here lead to recorded bounds
        pub inner_leads : (r : FreeRegion) → y.region ≡ Some r → (a : FreeAccess) → Contains r.accesses a → LeadsTo o.free.accesses a.writes (bounds_of a.at.last)
        unfolding read
        inner_leads r v a c = by_stands stands
          where
            g : Freed p (λ i. is_gated gates i) sums are.found y.moment q.instr.block.0 r
            g = (freed_here r v).1

            source : Source p y.moment g.region.accesses.items a
            source = source_of p y.moment g.region.accesses.items r.accesses a g.accesses c

            is_now : followed p (registers_by f.registers) (read s.memory) source.access.path ≡ Some a.at
            is_now =
                subst (λ (b : ℕ → ℕ). followed p (registers_by f.registers) (λ (r : ByteRange). number_of b r.start r.bytes) source.access.path ≡ Some a.at) h.moment.bytes
                (subst (λ (cs : List Frame). followed p (registers_by (registers_in cs)) (number_in y.moment) source.access.path ≡ Some a.at) calls_here source.is)

            lead : LeadsTo o.free.accesses source.access.writes (bounds_of a.at.last) → LeadsTo o.free.accesses a.writes (bounds_of a.at.last)
            lead k = subst (λ (b : Bool). LeadsTo o.free.accesses b (bounds_of a.at.last)) (sym source.kind) k

            by_stands : Stands I (f ∷ q.below) → LeadsTo o.free.accesses a.writes (bounds_of a.at.last)
            by_stands (inl b) =
                lead (inner_reached I (region_set I) f (read s.memory) g.region.blocks.items g.region.accesses.items source.access a.at o.can.branch.region b.stands o.can.cells g.is_region.join.quiet
                (open_nested p gates sums are.found free_of block_of input (x ∷ xs) s z t l e program summaries small o h.reached run together next q.instr.block.0 g.region g.is_region
                (block_here b)).blocks
                source.among is_now)
            by_stands (inr b) =
                let blk = (at_block I b.0.set f q.instr program b.0.stands q.is).0 in
                let fn : function_of p q.instr.block.0 ≡ f.function = ap (function_of p) blk ∙ b.0.stands.function in
                lead (inner_reached I b.0.set f (read s.memory) g.region.blocks.items g.region.accesses.items source.access a.at b.0.quiet b.0.stands o.can.cells g.is_region.join.quiet
                (λ c' m. subst (λ (ls : List ℕ). Contains ls c') (sym b.0.blocks)
                (subst (λ (n : ℕ). Contains (blocks_of p n) c') fn (region_function p (λ i. is_gated gates i) sums q.instr.block.0 g.region program g.is_region.join c' m)))
                source.among is_now)

        inner_stores_here : (r : FreeRegion) → y.region ≡ Some r → (b : ℕ) → may_write r.accesses b ≡ true → may_write o.free.accesses b ≡ true
        inner_stores_here r v b u =
            let a = any_source (λ (c : FreeAccess). c.writes && is_within (bounds_of c.at.last) b) r.accesses u in
            let k = and_parts a.0.writes (is_within (bounds_of a.0.at.last) b) a.2 in
            reached_write o.free.accesses (bounds_of a.0.at.last) a.0.writes b (inner_leads r v a.0 a.1) k.0 k.1

        pub keeps_here : KeepsTo R o.free e.depth y
        keeps_here = record {
          plain = plain_here;
          result = result_here;
          phis = phis_here;
          inner = inner_here;
          deeper = deeper_here;
          target = target_here;
          stores = stores_here;
          inner_stores = inner_stores_here;
        }
