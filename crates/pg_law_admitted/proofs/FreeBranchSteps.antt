-- A step within an instance of a reference run, and a branch step that is left free.
use Rattle.std.specs.Prelude.{Contains, if◌then◌else◌, slice_get}
use Rattle.std.proofs.Common.{◌+◌, ◌==◌, ◌∙◌, ◌∷◌, ◌≡◌, ◌⊎◌, Bool, List, None, Option, Some, [], ap, arith, false, inl, inr}
use Rattle.std.proofs.Common.{length, refl, subst, suc, sym, true, ℕ}
use Rattle.std.proofs.lemmas.Bool.{eq-eqb}
use Rattle.pg_ir.specs.Edges.{body_of}
use Rattle.pg_ir.specs.Program.{NumberedProgram}
use Rattle.pg_ir.specs.WellFormed.{IsProgram}
use Rattle.pg_ir.specs.declared.ids.InstrId.{InstrId}
use Rattle.pg_ir.specs.declared.instr.Instr.{Instr}
use Rattle.pg_ir.proofs.FunctionPlaces.{block_held}
use Rattle.pg_run_memory.specs.Memory.{byte_at}
use Rattle.pg_run_thread.specs.LocalState.{Frame, LocalState}
use Rattle.pg_run_thread.specs.States.{AreFramesOf}
use Rattle.pg_run_thread.specs.Step.{after, frames_action, instr_action, moved, next, top_registers, under_top}
use Rattle.pg_run_thread.specs.Told.{id_of}
use Rattle.pg_run_thread.specs.declared.action.Action.{Action}
use Rattle.pg_run_thread.specs.declared.action.Action.TheVariants as actions
use Rattle.pg_run_trace.specs.declared.step.Step.{Step}
use Rattle.pg_run_trace.specs.declared.step.StepKind.{StepKind}
use Rattle.pg_run_trace.specs.declared.step.StepKind.TheVariants as kinds
use Rattle.pg_region_accesses.specs.Accesses.{RootedList}
use Rattle.pg_region_summaries.specs.Summaries.{AreSummaries}
use Rattle.pg_region.specs.Regions.{IsRegion}
use Rattle.pg_region.specs.declared.region.Region.{Region}
use Rattle.pg_run.specs.MachineStep.{Did, is_gated, kind_told, number_in, operands_in, ready, step, step_told}
use Rattle.pg_run.specs.Runs.{Takes}
use Rattle.pg_run.specs.State.{State, instr_of, next_of}
use Rattle.pg_run.proofs.StepsBegin.{next_is, ready_made}
use Rattle.pg_slice_rules.specs.Extents.{Extent, begun, ends}
use Rattle.pg_slice_rules.specs.Freeable.{FreeRegion, region_at}
use Rattle.pg_slice_rules.specs.Known.{Seen, Taken, edge_of, is_branch, region_of}
use Rattle.pg_slice_rules.specs.Moments.{Moment, calls_of, instr_in, registers_in, thread_in}
use Rattle.pg_law_effects.specs.Effect.{answer_to, effect_of, own_after}
use Rattle.pg_law_effects.specs.Reached.{IsReached}
use Rattle.pg_law_effects.specs.Views.{begun_in, local_at}
use Rattle.pg_law_effects.proofs.ReachedStates.{present}
use Rattle.pg_law_effects.proofs.StepViews.{leads_to}
use Rattle.pg_law_instances.specs.pg_slice_replay.OfRegions.{AreRegions}
use Rattle.pg_law_instances.specs.Free.{instance_of}
use Rattle.pg_law_instances.specs.Inside.{Instance, IsBottom, IsInside, Joins, Stands, edge_at as edge_from, next_edge, region_set}
use Rattle.pg_law_instances.specs.Stays.{CanStepInside, StaysInside}
use Rattle.pg_law_instances.proofs.FramesBehindEdges.{body_within}
use Rattle.pg_law_instances.proofs.FreeableSteps.{apart_at, at_branch, leads_there}
use Rattle.pg_law_instances.proofs.FreeRegions.{Freed, freed, join_fits}
use Rattle.pg_law_instances.proofs.JoinLeadsOut.{frames_of}
use Rattle.pg_law_instances.proofs.MachineSteps.{step_stays}
use Rattle.pg_law_instances.proofs.OpenExtentIsInstance.{bottom_of}
use Rattle.pg_law_instances.proofs.FramePlaces.{at_block}
use Rattle.pg_law_plan.specs.Units.{ReferenceRun, is_instance, reference_of}
use Rattle.pg_law_plan.proofs.FreeBranchEffects.{IsFree, is_free}
use Rattle.pg_law_plan.proofs.ThreadAtInstruction.{told_is}
use Rattle.pg_law_plan.proofs.KnownBeforeUnits.{thread_is, yes_if}
use Rattle.pg_law_admitted.proofs.InstanceStarts.{branch_told, in_function}
use Rattle.pg_law_admitted.proofs.ExtentEnds.{after_frames, at_edge, block_there, body_behind, edge_frames, edge_there, ends_parts, ends_there, not_met}
use Rattle.pg_law_admitted.proofs.ExtentEnds.{place_of_top, place_told, quiet_edge, top_same}
use Rattle.pg_law_admitted.proofs.InstanceFits.{begun_some}

-- ---- one step within an instance

module _ (r : ReferenceRun) (program : IsProgram r.program) (sums : ℕ → Option RootedList) (region : Region) (c : ℕ)
    (is_region : IsRegion r.program (λ i. is_gated r.gated i) sums c region) (q : FreeRegion) (s0 : State) (l0 : LocalState) (f0 : Frame) (fs0 : List Frame) where
  abbrev I : Instance
  I = instance_of r.program (λ i. is_gated r.gated i) sums region q s0 l0 f0 fs0

  module _ (s : State) (t : ℕ) (l : LocalState) (x : Step) (can : CanStepInside (instance_of r.program (λ i. is_gated r.gated i) sums region q s0 l0 f0 fs0) r.gated s t l)
      (h : Takes r.gated r.program r.input s x) (own : x.thread.0 ≡ t) (reached : IsReached r.program s)
      (m : Moment) (did : m.did.did ≡ x) (calls : m.calls ≡ calls_of (slice_get s.locals x.thread.0)) where
    pub stays : StaysInside (instance_of r.program (λ i. is_gated r.gated i) sums region q s0 l0 f0 fs0) t l x s h.after
    stays = step_stays (instance_of r.program (λ i. is_gated r.gated i) sums region q s0 l0 f0 fs0) r.gated r.input s h.after t l x can
        (subst (λ (u : ℕ). ready r.program s u ≡ true) own h.is_ready) (subst (λ (u : ℕ). step r.gated r.program r.input s u ≡ Did x h.after) own h.is_step)

    frames : (f : Frame) × (fs : List Frame) × (l.frames ≡ f ∷ fs)
    frames = go can.within
      where
        some : (fs : List Frame) → l.frames ≡ fs → Stands (instance_of r.program (λ i. is_gated r.gated i) sums region q s0 l0 f0 fs0) fs
            → (f : Frame) × (fs : List Frame) × (l.frames ≡ f ∷ fs)
        some [] e k = absurd k
        some (f ∷ fs) e k = (f, fs, e)

        go : (l ≡ l0) ⊎ IsInside (instance_of r.program (λ i. is_gated r.gated i) sums region q s0 l0 f0 fs0) l → (f : Frame) × (fs : List Frame) × (l.frames ≡ f ∷ fs)
        go (inl e) = (f0, fs0, ap (λ (z : LocalState). z.frames) e ∙ can.branch.frames)
        go (inr i) = some l.frames refl i.stands

    begun_here : l.begun ≡ true
    begun_here = go can.within
      where
        go : (l ≡ l0) ⊎ IsInside (instance_of r.program (λ i. is_gated r.gated i) sums region q s0 l0 f0 fs0) l → l.begun ≡ true
        go (inl e) = ap (λ (z : LocalState). z.begun) e ∙ can.branch.begun
        go (inr i) = i.begun

    begun_next : stays.local.begun ≡ true
    begun_next = go stays.goes_on
      where
        go : IsInside (instance_of r.program (λ i. is_gated r.gated i) sums region q s0 l0 f0 fs0) stays.local
            ⊎ Joins (instance_of r.program (λ i. is_gated r.gated i) sums region q s0 l0 f0 fs0) l stays.local → stays.local.begun ≡ true
        go (inl i) = i.begun
        go (inr j) = j.there.begun

    pub local_there : local_at h.after t ≡ Some stays.local
    local_there = ap begun_in stays.is_local ∙ begun_some stays.local begun_next

    local_here : slice_get s.locals x.thread.0 ≡ Some l
    local_here = ap (slice_get s.locals) own ∙ can.is_local

    after_is : stays.local ≡ after r.program l (answer_to r.input s x.thread.0 (next_of r.program s x.thread.0))
    unfolding effect_of
    after_is =
        let to = leads_to r.gated r.program r.input s h.after x.thread.0 x reached h.is_ready h.is_step in
        let one : local_at h.after t ≡ (effect_of r.program r.input s x.thread.0).local =
        to.locals t ∙ ap (λ (v : ℕ). if t == v then (effect_of r.program r.input s x.thread.0).local else local_at s t) (thread_is r.program r.input s x.thread.0)
        ∙ yes_if (t == x.thread.0) _ _ (eq-eqb t x.thread.0 (sym own)) in
        let two : Some stays.local ≡ Some (after r.program l (answer_to r.input s x.thread.0 (next_of r.program s x.thread.0))) =
        sym local_there ∙ one ∙ ap (own_after r.program (answer_to r.input s x.thread.0 (next_of r.program s x.thread.0))) local_here in
        cc

    calls_are : m.calls ≡ l.frames
    calls_are = calls ∙ ap calls_of local_here

    edge_is : edge_of r.program m m.did.did.kind ≡ next_edge r.program l
    edge_is =
        let told = told_is r.gated r.program r.input s h.after x.thread.0 x h.is_step in
        let place : m.did.did.instr.0 ≡ id_of l = ap (λ (z : Step). z.instr.0) (did ∙ told) ∙ place_told s x.thread.0 l local_here in
        ap (λ (z : Step). edge_of r.program m z.kind) did ∙ quiet_edge I r.program m x.kind stays.tells ∙ edge_there r.program m (instr_in r.program m)
        ∙ ap (λ (rs : List (Option ℕ)). edge_from r.program rs (instr_in r.program m)) (ap registers_in calls_are ∙ top_same l.frames)
        ∙ ap (λ (i : ℕ). edge_from r.program (top_registers l.frames) (slice_get r.program.instrs i)) place

    module _ (e : Extent) (join : e.join ≡ region.join) (depth : e.depth ≡ length fs0 + 1) where
      -- the edge to the join ends it
      pub joined_ends : Joins (instance_of r.program (λ i. is_gated r.gated i) sums region q s0 l0 f0 fs0) l stays.local → ends (length m.calls) (edge_of r.program m m.did.did.kind) e ≡ true
      joined_ends j =
          let low : frames.1 ≡ fs0 = sym (ap under_top frames.2) ∙ j.lower in
          let n : length m.calls ≡ suc (length fs0) = ap (λ (fs : List Frame). length fs) (calls_are ∙ frames.2) ∙ ap (λ (fs : List Frame). suc (length fs)) low in
          ends_there (length m.calls) (edge_of r.program m m.did.did.kind) e (edge_is ∙ j.edge ∙ ap (λ (i : ℕ). Some i) (sym join)) (omega (arith, n, depth))

      -- where it ends the thread isn't inside
      inside_out : IsInside (instance_of r.program (λ i. is_gated r.gated i) sums region q s0 l0 f0 fs0) stays.local → ends (length m.calls) (edge_of r.program m m.did.did.kind) e ≡ true → ⊥
      inside_out i k =
          let z = ends_parts (length m.calls) (edge_of r.program m m.did.did.kind) e k in
          let f = frames.0 in
          let fs = frames.1 in
          let to : next_edge r.program l ≡ Some region.join = sym edge_is ∙ z.0 ∙ ap (λ (n : ℕ). Some n) join in
          let by : edge_from r.program f.registers (slice_get r.program.instrs f.place) ≡ Some region.join =
          sym (ap (λ (gs : List Frame). edge_from r.program (top_registers gs) (slice_get r.program.instrs (id_of l))) frames.2
          ∙ ap (λ (n : ℕ). edge_from r.program f.registers (slice_get r.program.instrs n)) (place_of_top l f fs frames.2)) ∙ to in
          let y = at_edge r.program f.registers (slice_get r.program.instrs f.place) region.join by in
          let a = answer_to r.input s x.thread.0 (next_of r.program s x.thread.0) in
          let new : stays.local.frames ≡ moved r.program f y.0.block.0 region.join ∷ fs =
          ap (λ (n : LocalState). n.frames) after_is ∙ after_frames r.program l f fs y.0 a begun_here frames.2 y.1 ∙ edge_frames r.program l y.0 a y.0.op f fs region.join frames.2 y.2 in
          let g = moved r.program f y.0.block.0 region.join in
          let n : length m.calls ≡ suc (length fs) = ap (λ (gs : List Frame). length gs) (calls_are ∙ frames.2) in
          let bottom : IsBottom I g fs = bottom_of I g fs (subst (Stands I) new i.stands) (let u = z.1 in omega (arith, n, u, depth)) in
          let w = block_there region.join (slice_get r.program.instrs (body_of r.program region.join))
          (block_held r.program region.join (body_of r.program region.join) program (body_behind r.program region.join)
          (body_within r.program region.join program (join_fits r.program c region.join program is_region.join.reached))) in
          let at = at_block I (region_set I) g w.0 program bottom.stands w.1 in
          not_met r.program region.join c region.join ((is_region.join.before.exact region.join).0 (subst (λ (b : ℕ). Contains region.blocks.items b) (sym at.0 ∙ w.2) bottom.stands.among)) refl

      pub inside_open : IsInside (instance_of r.program (λ i. is_gated r.gated i) sums region q s0 l0 f0 fs0) stays.local → ends (length m.calls) (edge_of r.program m m.did.did.kind) e ≡ false
      inside_open i = go (ends (length m.calls) (edge_of r.program m m.did.did.kind) e) refl
        where
          go : (b : Bool) → ends (length m.calls) (edge_of r.program m m.did.did.kind) e ≡ b → b ≡ false
          go true k = absurd (inside_out i k)
          go false k = refl

-- ---- a branch step that is left free, in the reference run

local_told : (gated : List InstrId) (p : NumberedProgram) (s : State) (t : ℕ) (ns : List ℕ) (a n c : ℕ) (action : Action) → kind_told gated p s t ns a n action ≡ kinds.Branch c
    → action ≡ actions.Local
local_told gated p s t ns a n c actions.Local e = refl
local_told gated p s t ns a n c (actions.In k) e = absurd cc
local_told gated p s t ns a n c actions.InLen e = absurd cc
local_told gated p s t ns a n c (actions.Load q) e = absurd cc
local_told gated p s t ns a n c (actions.Store q m) e = absurd cc
local_told gated p s t ns a n c (actions.Event q) e = absurd cc
local_told gated p s t ns a n c (actions.Trap name) e = absurd cc
local_told gated p s t ns a n c actions.Ended e = absurd cc

-- where a thread stands at an instruction
pub record AtInstr (p : NumberedProgram) (l : LocalState) : Type 0 where
  pub begun : l.begun ≡ true
  pub frame : Frame
  pub lower : List Frame
  pub frames : l.frames ≡ frame ∷ lower
  pub instr : Instr
  pub is : slice_get p.instrs frame.place ≡ Some instr

at_instr : (p : NumberedProgram) (l : LocalState) → next p l ≡ actions.Local → AtInstr p l
unfolding next
at_instr p l e = by l.begun refl l.frames refl e
  where
    by_instr : (f : Frame) (fs : List Frame) → l.begun ≡ true → l.frames ≡ f ∷ fs → (o : Option Instr) → slice_get p.instrs f.place ≡ o
        → instr_action p l f fs o ≡ actions.Local → AtInstr p l
    by_instr f fs b g None i h = absurd cc
    by_instr f fs b g (Some x) i h = record { begun = b; frame = f; lower = fs; frames = g; instr = x; is = i }

    by : (b : Bool) → l.begun ≡ b → (fs : List Frame) → l.frames ≡ fs → frames_action p l b fs ≡ actions.Local → AtInstr p l
    by b i [] g h = absurd cc
    by false i (f ∷ fs) g h = absurd cc
    by true i (f ∷ fs) g h = by_instr f fs i g (slice_get p.instrs f.place) refl h

module _ (r : ReferenceRun) (d : Taken) (program : IsProgram r.program) (sums : ℕ → Option RootedList) (are : AreRegions r.program (λ i. is_gated r.gated i) sums r.regions)
    (summaries : AreSummaries r.program (λ i. is_gated r.gated i) sums)
    (x : Seen) (s : State) (h : Takes r.gated r.program r.input s x.moment.did.did) (reached : IsReached r.program s)
    (calls : x.moment.calls ≡ calls_of (slice_get s.locals (thread_in x.moment))) (bytes : x.moment.bytes ≡ byte_at s.memory)
    (region : x.region ≡ region_of r.program r.regions x.moment (instr_in r.program x.moment)) (free : is_instance d x ≡ true) where
  abbrev t : ℕ
  t = thread_in x.moment

  pub free_step : IsFree r.program d x
  free_step = is_free (reference_of r) d x region free

  pub local : (l : LocalState) × (slice_get s.locals (thread_in x.moment) ≡ Some l)
  local = present s (thread_in x.moment) (ready_made r.program s (thread_in x.moment) h.is_ready)

  told : x.moment.did.did ≡ step_told r.gated r.program s (thread_in x.moment) (answer_to r.input s (thread_in x.moment) (next_of r.program s (thread_in x.moment)))
  told = told_is r.gated r.program r.input s h.after (thread_in x.moment) x.moment.did.did h.is_step

  kind_is : kind_told r.gated r.program s (thread_in x.moment) (operands_in r.program (slice_get s.locals (thread_in x.moment)))
      (answer_to r.input s (thread_in x.moment) (next_of r.program s (thread_in x.moment)))
      (number_in r.program (slice_get s.locals (thread_in x.moment)) (answer_to r.input s (thread_in x.moment) (next_of r.program s (thread_in x.moment))))
      (next_of r.program s (thread_in x.moment)) ≡ kinds.Branch free_step.number
  kind_is = sym (ap (λ (z : Step). z.kind) told) ∙ free_step.kind

  pub at : AtInstr r.program local.0
  at = at_instr r.program local.0 (sym (next_is r.program s (thread_in x.moment) local.0 local.1)
      ∙ local_told r.gated r.program s (thread_in x.moment) (operands_in r.program (slice_get s.locals (thread_in x.moment)))
      (answer_to r.input s (thread_in x.moment) (next_of r.program s (thread_in x.moment)))
      (number_in r.program (slice_get s.locals (thread_in x.moment)) (answer_to r.input s (thread_in x.moment) (next_of r.program s (thread_in x.moment)))) free_step.number
      (next_of r.program s (thread_in x.moment)) kind_is)

  place : instr_of s (thread_in x.moment) ≡ at.frame.place
  place = place_told s (thread_in x.moment) local.0 local.1 ∙ place_of_top local.0 at.frame at.lower at.frames

  instr_is : instr_in r.program x.moment ≡ Some at.instr
  instr_is = ap (λ (z : Step). slice_get r.program.instrs z.instr.0) told ∙ ap (slice_get r.program.instrs) place ∙ at.is

  region_is : region_at r.program x.moment (r.regions at.instr.block.0) ≡ Some free_step.free
  region_is =
      sym (ap (λ (k : StepKind). if is_branch k then region_at r.program x.moment (r.regions at.instr.block.0) else None) free_step.kind)
      ∙ sym (ap (region_of r.program r.regions x.moment) instr_is) ∙ sym region ∙ free_step.region

  pub freed_there : Freed r.program (λ i. is_gated r.gated i) sums are.found x.moment at.instr.block.0 free_step.free
  freed_there = freed r.program (λ i. is_gated r.gated i) sums r.regions are x.moment at.instr.block.0 free_step.free region_is

  pub calls_there : x.moment.calls ≡ at.frame ∷ at.lower
  calls_there = calls ∙ ap calls_of local.1 ∙ at.frames

  pub can_there : CanStepInside (instance_of r.program (λ i. is_gated r.gated i) sums freed_there.region free_step.free s local.0 at.frame at.lower) r.gated s (thread_in x.moment) local.0
  can_there =
      let of = subst (λ (fs : List Frame). AreFramesOf r.program fs) at.frames (frames_of r.program s (thread_in x.moment) local.0 reached local.1) in
      record {
        branch = at_branch r.program (λ i. is_gated r.gated i) sums freed_there.region free_step.free s local.0 at.frame at.lower at.instr program summaries at.begun at.frames at.is
            (branch_told r.gated r.program s (thread_in x.moment) (operands_in r.program (slice_get s.locals (thread_in x.moment)))
            (answer_to r.input s (thread_in x.moment) (next_of r.program s (thread_in x.moment)))
            (number_in r.program (slice_get s.locals (thread_in x.moment)) (answer_to r.input s (thread_in x.moment) (next_of r.program s (thread_in x.moment)))) free_step.number at.instr
            (next_of r.program s (thread_in x.moment)) (ap (slice_get r.program.instrs) place ∙ at.is) kind_is)
            (in_function r.program at.frame.function (slice_get r.program.instrs at.frame.place) at.instr at.is of.0.place)
            (program.instrs at.frame.place at.instr at.is).block freed_there.is_region.join
            (leads_there r.program (λ i. is_gated r.gated i) sums freed_there.region free_step.free s local.0 at.frame at.lower x.moment calls_there bytes freed_there.accesses)
            (apart_at free_step.free.accesses freed_there.apart);
        gates = λ i. refl;
        is_local = local.1;
        within = inl refl;
        cells = record { kept = λ frame c a b e f. refl };
      }
