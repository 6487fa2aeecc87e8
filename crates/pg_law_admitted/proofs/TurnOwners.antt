-- On an admitted input the owner of the next turn does it, or doesn't come so far.
use Rattle.std.specs.List.{AllByRecursion as AllOf, filter}
use Rattle.std.specs.Prelude.{◌&&◌, is_some, slice_get}
use Rattle.std.proofs.Common.{◌++◌, ◌+◌, ◌∙◌, ◌∷◌, ◌≡◌, ◌≢◌, ◌⊎◌, Bool, List, None, Option, Some, [], ap, arith, cond, drop, false}
use Rattle.std.proofs.Common.{inl, inr, length, map, refl, subst, sym, take, true, ℕ, ℤ}
use Rattle.std.proofs.lemmas.Bool.{true≢false}
use Rattle.std.proofs.lemmas.Option.{slice_get_within}
use Rattle.pg_law_threads.specs.Cuts.{IsBelow, IsCut, Mark, kept, pending, whole}
use Rattle.pg_law_threads.specs.Effects.{deeds, effects}
use Rattle.pg_law_threads.specs.Intervals.{Timed, did_of, times, turns_done}
use Rattle.pg_law_threads.specs.Plans.{Alike}
use Rattle.pg_law_threads.proofs.NextSteps as cuts
use Rattle.pg_law_threads.proofs.EffectsOfSteps.{objects_part}
use Rattle.pg_law_threads.proofs.FirstOfKind.{OpenEvent, find_event, first_chosen, none_behind, same_chosen}
use Rattle.pg_law_threads.proofs.PlanLaw as follows
use Rattle.pg_law_threads.proofs.DoneLists.{First, did_append, find, whole_append}
use Rattle.pg_law_threads.proofs.StatesAtCuts as places
use Rattle.pg_ir.specs.declared.request.Request.{Request}
use Rattle.pg_run_memory.specs.Memory.{read}
use Rattle.pg_run_memory.proofs.ReadsAndWrites.{read-small}
use Rattle.pg_run_objects.specs.Sync as sync
use Rattle.pg_run_thread.specs.LocalState.{LocalState, fresh}
use Rattle.pg_run_thread.specs.States.{CanStep}
use Rattle.pg_run_thread.specs.declared.action.Action.TheVariants as actions
use Rattle.pg_run_trace.specs.Steps.{event_of, events, happening_in}
use Rattle.pg_run_trace.specs.declared.step.Step.{Step}
use Rattle.pg_run_trace.specs.declared.step.StepKind.{StepKind}
use Rattle.pg_run_trace.specs.declared.turn.Turn.{Turn}
use Rattle.pg_region_accesses.specs.Accesses.{RootedList}
use Rattle.pg_run.specs.Guided.{GuidedRun, cannot_go, guided_of, is_turn}
use Rattle.pg_run.specs.MachineStep.{is_ended, may_act, trap_of, turn_of}
use Rattle.pg_run.specs.Permitted.{IsPermitted, turns_left}
use Rattle.pg_run.specs.Runs.{Takes}
use Rattle.pg_run.specs.State.{State, next_of}
use Rattle.pg_run.specs.declared.guided_end.GuidedEnd.TheVariants as ends
use Rattle.pg_run.proofs.StepsBegin.{next_is, ready_acts}
use Rattle.pg_run.proofs.GuidedPermitted.{guided_permitted}
use Rattle.pg_run.proofs.GuidedRuns.{guided_is, turn_is_itself}
use Rattle.pg_slice_rules.specs.Known.{Taken, fresh_registers, thread_of}
use Rattle.pg_slice_rules.specs.Moments.{thread_in}
use Rattle.pg_law_effects.specs.Views.{Objects, begun_in, cell_at, local_at, objects_of}
use Rattle.pg_law_effects.proofs.RunsByThreads.{is_going}
use Rattle.pg_law_effects.proofs.ThreadLimits.{did_allowed}
use Rattle.pg_law_effects.proofs.ToldByStep.{event_is}
use Rattle.pg_law_instances.proofs.JoinLeadsOut.{frames_of}
use Rattle.pg_law_plan.specs.pg_law_runs.Deeds.{local_event, local_goes, local_granted, owners_of}
use Rattle.pg_law_plan.proofs.of_pg_law_runs.DeedDependence.{event_seen, get_behind, goes_by, some_turn}
use Rattle.pg_law_plan.proofs.of_pg_law_runs.MaximalRuns.{not_ended}
use Rattle.pg_law_plan.proofs.of_pg_law_runs.StepRules.{Steps, looks, none_granted, steps_by}
use Rattle.pg_law_plan.specs.pg_law_runs.Answered.{Answered, answers}
use Rattle.pg_law_plan.specs.Fits.{IsAlikeFor, IsRemembered, thread_before}
use Rattle.pg_law_plan.specs.Likes.{IsCellLike, IsThreadLike, MovedThread, PlanThread, StandLike, like}
use Rattle.pg_law_plan.specs.Lists.{Has}
use Rattle.pg_law_plan.specs.Moves.{RunDeed, moved}
use Rattle.pg_law_plan.specs.Units.{PlanDeed, PlanUnit, ReferenceRun, cell_known, deed_of, is_event_at, is_instance, plan_of, plan_start, reads_cell, reference_of, standing_of}
use Rattle.pg_law_plan.specs.Units.{turns_of, units_of}
use Rattle.pg_law_plan.proofs.EachUnit.{IsUnit}
use Rattle.pg_law_plan.proofs.AllTurnsDone as counted
use Rattle.pg_law_plan.proofs.InstructionFits.{both_fits}
use Rattle.pg_law_plan.proofs.NextEvents.{events_alike}
use Rattle.pg_law_plan.proofs.AskedNumbers as facing
use Rattle.pg_law_plan.proofs.FreeBranchEffects.{is_free}
use Rattle.pg_law_plan.proofs.StepChecks.{IsGood}
use Rattle.pg_law_plan.proofs.MayGoOn.{may_here, open_here, unchecked_here}
use Rattle.pg_law_plan.proofs.ThreadAtInstruction.{running}
use Rattle.pg_law_plan.proofs.LocalStepFits.{Pair}
use Rattle.pg_law_plan.proofs.UnbegunThreads.{starts_are_fresh}
use Rattle.pg_law_plan.proofs.ListMembers.{all_has, has_right}
use Rattle.pg_law_plan.proofs.RunFollowsPlan.{Split, split}
use Rattle.pg_law_plan.proofs.AlikeThreads.{Beginning, Both, opened}
use Rattle.pg_law_plan.proofs.KnownBeforeUnits.{plan_remembers}
use Rattle.pg_law_plan.proofs.SameReplies.{answered_turns, map_join, plan_answer}
use Rattle.pg_law_plan.proofs.UnitsArePlan.{is_plan}
use Rattle.pg_law_plan.proofs.ThreadStartFits.{start_fits}
use Rattle.pg_law_plan.proofs.StepFits.{good_at, unit_at, words_at}
use Rattle.pg_law_plan.proofs.of_pg_law_runs.StrayedOwners.{IsStuck, StuckAt, guided_strays}
use Rattle.pg_law_plan.proofs.UnitTurns.{is_some_if}
use Rattle.pg_law_admitted.specs.Free.{IsAnyMove, begun_instance}
use Rattle.pg_law_admitted.specs.Unbroken.{IsUnbroken}
use Rattle.pg_law_admitted.proofs.AdmittedInputs.{IsAdmitted}
use Rattle.pg_law_admitted.proofs.AskedTurns.{allowed_by, asks_turn, can_by, front_length, front_whole, longer, same_head, slice_of, waiting_asks}
use Rattle.pg_law_admitted.proofs.RunEnds as ended
use Rattle.pg_law_admitted.proofs.MovesFollowPlan.{obeys}
use Rattle.pg_law_admitted.proofs.NoEventsInside.{IsLeft, begun_within, left_within}
use Rattle.pg_law_admitted.proofs.GuidedRunsUnbroken.{guided_unbroken}
use Rattle.pg_law_admitted.proofs.InstanceFits.{begun_some}

-- ---- an unbroken permitted run on an admitted input

module _ (r : ReferenceRun) (d : Taken) (input : List ℤ) (sums : ℕ → Option RootedList) (turns : List Turn) (given : IsAdmitted r d input sums turns)
    (xs : List Step) (z : State) (h : IsPermitted r.program input turns r.gated xs z) (unbroken : IsUnbroken xs) where
  open given use {reference, plain, closed, admitted, small, same_turns, again, own_turns, over, begins}
  open ended.facts r d input sums turns given xs z h unbroken use {first, fallen, stands, done_is, reached, plan_parts, mine, theirs}

  abbrev ds : List RunDeed
  ds = fallen.moves

  abbrev g : ℕ
  g = turns_done deeds 0 fallen.moves

  abbrev marks : List (Mark (Timed PlanDeed))
  marks = stands.holds.cut.marks

  abbrev turn_in : Answered → Option Turn
  turn_in a = a.turn

  abbrev as_some : Turn → Option Turn
  as_some u = Some u

  -- ---- before the turn u

  module _ (u : Turn) (us : List Turn) (left : turns_left turns xs ≡ u ∷ us) where
    owner : slice_get (turns_of r) g ≡ Some u.thread.0
    owner =
        let plus : g ≡ length (events xs) + 0 = (let n = done_is in omega (arith, n)) in
        ap (λ (l : List ℕ). slice_get l g) (sym same_turns) ∙ ap (slice_get (owners_of turns)) plus ∙ sym (get_behind r.gated r.program input (length (events xs)) turns 0)
        ∙ ap (λ (l : List Turn). slice_get (owners_of l) 0) left

    all_turns : map turn_in (answers r.steps) ≡ map as_some (events xs) ++ Some u ∷ map as_some us
    all_turns = answered_turns r.steps ∙ ap (map as_some) (own_turns ∙ sym h.in_order ∙ ap (λ (l : List Turn). events xs ++ l) left) ∙ sym (map_join as_some (events xs) (u ∷ us))

    -- the unit that does the turn
    record Does : Type 0 where
      unit : PlanUnit
      has : Has (units_of r d) unit
      objects : objects_of unit.state ≡ objects_of z
      turn : event_of unit.seen.moment.did.did ≡ Some u

    module _ (before after : List (Mark (Timed PlanDeed))) (p : Timed PlanDeed) (parts : marks ≡ before ++ pending p ∷ after) where
      whole_is : whole (before ++ pending p ∷ after) ≡ times deeds (turns_of r) 0 (plan_of r d)
      whole_is = ap whole (sym parts) ∙ stands.holds.cut.is_whole

      plan_split : plan_of r d ≡ did_of (whole before) ++ p.did ∷ did_of (whole after)
      plan_split = sym plan_parts ∙ ap (λ (l : List (Mark (Timed PlanDeed))). did_of (whole l)) parts ∙ ap did_of (whole_append before (pending p ∷ after))
          ∙ did_append (whole before) (p ∷ whole after)

      cut : Split (deed_of d) (units_of r d) (did_of (whole before)) p.did
      cut = split (deed_of d) (units_of r d) (did_of (whole before)) p.did (did_of (whole after)) plan_split

      has_unit : Has (units_of r d) cut.at
      has_unit = subst (λ (l : List PlanUnit). Has l cut.at) (sym cut.is) (has_right cut.before (cut.at ∷ cut.after) cut.at (inl refl))

      memory : IsRemembered r d cut.before cut.at
      memory = plan_remembers r d reference plain cut.before cut.at cut.after cut.is

      alike_here : Alike (like input) (effects (plan_start r) (did_of (kept (before ++ pending p ∷ after)))) (effects first ds)
      alike_here = subst (λ (l : List (Mark (Timed PlanDeed))). Alike (like input) (effects (plan_start r) (did_of (kept l))) (effects first ds)) parts stands.holds.cut.alike

      module _ (event : deeds.is_event p.did ≡ true) (earlier : AllOf (λ (m : Mark (Timed PlanDeed)). m.done ≡ false → deeds.is_event m.step.did ≡ false) before) where
        behind : AllOf (λ (m : Mark (Timed PlanDeed)). m.done ≡ true → deeds.is_event m.step.did ≡ false) after
        behind = none_behind (turns_of r) (plan_of r d) (is_plan r d reference closed plain) g before after p whole_is (subst (IsBelow g) parts stands.holds.cut.below) event

        unit_objects : objects_of cut.at.state ≡ objects_of z
        unit_objects = sym memory.objects ∙ ap (λ (l : List PlanDeed). (effects (plan_start r) l).objects) cut.images
            ∙ sym (places.seen (plan_start r) before after p objects_part earlier behind) ∙ alike_here.objects ∙ fallen.objects

        unit_turn : event_of cut.at.seen.moment.did.did ≡ Some u
        unit_turn =
            let rest = did_of (whole after) in
            let told : answers xs ++ plan_answer p.did ∷ map plan_answer (filter deeds.is_event rest) ≡ answers r.steps =
            ap (λ (l : List Answered). l ++ plan_answer p.did ∷ map plan_answer (filter deeds.is_event rest))
            (mine ∙ ap (λ (l : List (Mark (Timed PlanDeed))). map plan_answer (filter deeds.is_event (did_of (kept l)))) parts)
            ∙ ap (λ (b : Bool). map plan_answer (filter deeds.is_event (did_of (kept (before ++ pending p ∷ after))))
            ++ map plan_answer (cond b (p.did ∷ filter deeds.is_event rest) (filter deeds.is_event rest))) (sym event)
            ∙ map_join plan_answer (filter deeds.is_event (did_of (kept (before ++ pending p ∷ after)))) (filter deeds.is_event (p.did ∷ rest))
            ∙ ap (map plan_answer) (first_chosen deeds.is_event before p after earlier behind)
            ∙ ap (λ (l : List (Mark (Timed PlanDeed))). map plan_answer (filter deeds.is_event (did_of (whole l)))) (sym parts) ∙ theirs in
            ap (λ (q : PlanDeed). event_of q.told) cut.image ∙ same_head (map as_some (events xs)) (event_of p.did.told) (Some u) (map turn_in (map plan_answer (filter deeds.is_event rest)))
            (map as_some us)
            (ap (λ (l : List (Option Turn)). l ++ event_of p.did.told ∷ map turn_in (map plan_answer (filter deeds.is_event rest))) (sym (answered_turns xs))
            ∙ map_join turn_in (answers xs) (plan_answer p.did ∷ map plan_answer (filter deeds.is_event rest)) ∙ ap (map turn_in) told ∙ all_turns)

        does : Does
        does = record { unit = cut.at; has = has_unit; objects = unit_objects; turn = unit_turn }

    -- there is one, and the run isn't over
    the_unit : Does
    the_unit = go (find_event marks)
      where
        go : AllOf (λ (m : Mark (Timed PlanDeed)). m.done ≡ false → deeds.is_event m.step.did ≡ false) marks ⊎ OpenEvent marks → Does
        go (inl a) = absurd (longer (map as_some (events xs)) (Some u) (map as_some us)
            (sym (answered_turns xs) ∙ ap (map turn_in) (mine ∙ ap (map plan_answer) (same_chosen deeds.is_event marks a) ∙ theirs) ∙ all_turns))
        go (inr e) = does e.before e.after e.step e.parts e.event e.earlier

    going : sync.over z.sync ≡ false
    going =
        let w = the_unit in
        let v = unit_at r d input reference plain small closed admitted w.unit w.has in
        ap (λ (q : Objects). sync.over q.sync) (sym w.objects) ∙ is_going r.program w.unit.state (thread_in w.unit.seen.moment) v.met.takes.is_ready

    -- what its owner is stuck at, by the owner's number
    abbrev StuckBy : ℕ → Type 0
    StuckBy t = (cannot_go z (next_of r.program z t) ≡ true)
        ⊎ ((w : Turn) × (trap_of z t (next_of r.program z t) ≡ None) × (turn_of r.gated r.program z t ≡ Some w) × ((is_turn w u && may_act z t (next_of r.program z t)) ≡ false))

    open_goes : (t : ℕ) → is_ended (next_of r.program z t) ≡ false → cannot_go z (next_of r.program z t) ≡ true → ⊥
    open_goes t e c = let q : cannot_go z (next_of r.program z t) ≡ false = rw (going, e) refl in absurd (true≢false (sym c ∙ q))

    -- it isn't stuck where it has a step that is the turn
    goes : (t : ℕ) (y : Step) → Takes r.gated r.program input z y → y.thread.0 ≡ t → event_of y ≡ Some u → StuckBy t → ⊥
    goes t y takes own turn stuck = go stuck
      where
        acts : may_act z t (next_of r.program z t) ≡ true
        acts = subst (λ (i : ℕ). may_act z i (next_of r.program z i) ≡ true) own (ready_acts r.program z y.thread.0 takes.is_ready)

        go : StuckBy t → ⊥
        go (inl c) = open_goes t (not_ended z t (next_of r.program z t) acts) c
        go (inr k) =
            let some : Some k.0 ≡ Some u = sym k.2 ∙ sym (event_is r.gated r.program input z takes.after y.thread.0 y takes.is_step ∙ ap (turn_of r.gated r.program z) own) ∙ turn in
            let w : k.0 ≡ u = cc in
            let t : is_turn k.0 u ≡ true = (turn_is_itself k.0 u).1 w in
            absurd (true≢false (sym (rw (t, acts) refl) ∙ k.3))

    -- one that is left inside an instance isn't stuck, and asks nothing
    left_event : (t : ℕ) → IsLeft r.gated r.program t z → is_some (turn_of r.gated r.program z t) ≡ false
    left_event t k = sym (looks r.gated r.program z t k.local reached (slice_of (slice_get z.locals t) k.local k.is_local)).event ∙ ap (local_event r.gated r.program) k.is_local ∙ k.quiet

    left_stuck : (t : ℕ) → IsLeft r.gated r.program t z → StuckBy t → ⊥
    left_stuck t k (inl c) = open_goes t (ap is_ended (next_is r.program z t k.local (slice_of (slice_get z.locals t) k.local k.is_local)) ∙ k.goes_on) c
    left_stuck t k (inr w) = true≢false (sym (ap is_some w.2) ∙ left_event t k)

    left_unchecked : (t : ℕ) → IsLeft r.gated r.program t z → (q : Request) → next_of r.program z t ≡ actions.Event q → sync.check z.sync t q ≡ None
    left_unchecked t k q e = absurd (true≢false (sym (asks_turn r.gated r.program z t q e) ∙ left_event t k))

    -- the first unit of the turn's owner that isn't done
    module _ (f : First deeds u.thread.0 marks) where
      abbrev c : Split (deed_of d) (units_of r d) (did_of (whole f.before)) f.step.did
      c = cut f.before f.after f.step f.parts

      abbrev v : PlanUnit
      v = (cut f.before f.after f.step f.parts).at

      abbrev t : ℕ
      t = thread_in (cut f.before f.after f.step f.parts).at.seen.moment

      own_unit : t ≡ u.thread.0
      own_unit = ap (λ (q : PlanDeed). q.thread) c.image ∙ f.thread

      has : Has (units_of r d) v
      has = has_unit f.before f.after f.step f.parts

      unit : IsUnit r d v
      unit = unit_at r d input reference plain small closed admitted v has

      good : IsGood (reference_of r) d input v.seen
      good = good_at r d input reference plain small closed admitted v has

      words : length v.seen.before.words ≡ length v.state.locals
      words = words_at r d input reference plain small closed admitted v has

      is_whole : whole (f.before ++ pending f.step ∷ f.after) ≡ times deeds (turns_of r) 0 (plan_of r d)
      is_whole = whole_is f.before f.after f.step f.parts

      is_cut : IsCut deeds (f.before ++ pending f.step ∷ f.after)
      is_cut = subst (IsCut deeds) f.parts stands.holds.cut.is_cut

      below : IsBelow g (f.before ++ pending f.step ∷ f.after)
      below = subst (IsBelow g) f.parts stands.holds.cut.below

      earlier : AllOf (λ (m : Mark (Timed PlanDeed)). m.done ≡ false → m.step.did.thread ≢ f.step.did.thread) f.before
      earlier = subst (λ (i : ℕ). AllOf (λ (m : Mark (Timed PlanDeed)). m.done ≡ false → m.step.did.thread ≢ i) f.before) (sym f.thread) f.earlier

      next : deeds.is_event f.step.did ≡ true → slice_get (turns_of r) g ≡ Some f.step.did.thread
      next w = owner ∙ ap (λ (i : ℕ). Some i) (sym f.thread)

      recalled : IsRemembered r d c.before v
      recalled = memory f.before f.after f.step f.parts

      alike : Alike (like input) (effects (plan_start r) (did_of (kept (f.before ++ pending f.step ∷ f.after)))) (effects first ds)
      alike = alike_here f.before f.after f.step f.parts

      -- the thread stands alike, and the cells that the unit reads are alike
      thread : IsThreadLike input (thread_before v) ((effects first ds).locals t)
      thread =
          let k = places.like_local (like input) (turns_of r) (plan_start r) (plan_of r d) (is_plan r d reference closed plain)
          (effects first ds) g f.before f.after f.step is_whole is_cut below alike earlier in
          subst (λ (l : PlanThread). IsThreadLike input l ((effects first ds).locals t)) recalled.thread
          (subst (λ (l : List PlanDeed). IsThreadLike input ((effects (plan_start r) l).locals t) ((effects first ds).locals t)) (sym c.images)
          (subst (λ (q : PlanDeed). IsThreadLike input ((effects (plan_start r) (did_of (whole f.before))).locals q.thread) ((effects first ds).locals q.thread)) (sym c.image) k))

      cells : (b : ℕ) → reads_cell d v.seen b ≡ true → IsCellLike input (cell_known v.seen.before b) (cell_at z b)
      cells b w =
          let k = places.like_cell (like input) (turns_of r) (plan_start r) (plan_of r d) (is_plan r d reference closed plain)
          (effects first ds) g f.before f.after f.step is_whole is_cut below alike earlier next b (sym (ap (λ (q : PlanDeed). q.reads b) c.image) ∙ w) in
          subst (IsCellLike input (cell_known v.seen.before b)) (fallen.cells b)
          (subst (λ s. IsCellLike input s ((effects first ds).cells b)) (recalled.cells b)
          (subst (λ (l : List PlanDeed). IsCellLike input ((effects (plan_start r) l).cells b) ((effects first ds).cells b)) (sym c.images) k))

      -- where it is a branch step left free, the thread is at it
      free_event : is_instance d v.seen ≡ true → is_event_at v.seen ≡ false
      free_event e = ap (λ (k : StepKind). is_some (happening_in k)) (is_free (reference_of r) d v.seen unit.met.region e).kind

      left_at : (effects first ds).locals t ≡ (moved z fallen.counts).locals t → is_instance d v.seen ≡ true → IsLeft r.gated r.program t z
      left_at here e =
          let a : IsAlikeFor input d v (effects first ds) =
          record {
            thread = thread;
            cells = λ b w. subst (IsCellLike input (cell_known v.seen.before b)) (sym (fallen.cells b)) (cells b w);
            objects = λ k. absurd (true≢false (sym k ∙ free_event e));
          } in
          let b = begins v (effects first ds) z fallen.counts has e a
          (record { locals = λ i q. subst (λ (j : ℕ). (effects first ds).locals j ≡ (moved z fallen.counts).locals j) (sym q) here; cells = fallen.cells; objects = fallen.objects })
          reached in
          left_within (begun_instance r sums v z b) r.gated (read z.memory) b.local b.can.branch b.can.gates b.can.cells (λ k. read-small z.memory k) b.can.within t z
          (ap begun_in b.is_local ∙ begun_some b.local (begun_within (begun_instance r sums v z b) r.gated (read z.memory) b.local b.can.branch b.can.gates b.can.cells
          (λ k. read-small z.memory k) b.can.within)) (frames_of r.program z t b.local reached b.is_local)

      -- where it is a single step, and the thread looks as it is
      module _ (here : (effects first ds).locals t ≡ (moved z fallen.counts).locals t) (single : is_instance d v.seen ≡ false) where
        stand_alike : StandLike input (standing_of (local_at v.state t) (thread_of v.seen.before t).calls) (local_at z t)
        stand_alike = subst (λ (l : MovedThread). StandLike input (standing_of (local_at v.state t) (thread_of v.seen.before t).calls) l.local) here thread.stands

        units : fallen.counts t ≡ v.units
        units = ap (λ (l : MovedThread). l.moves) (sym here) ∙ thread.moves

        -- where it is an event, the objects are the same, and it is the turn
        module _ (event : is_event_at v.seen ≡ true) where
          event_did : deeds.is_event f.step.did ≡ true
          event_did = sym (ap deeds.is_event c.image) ∙ is_some_if (is_event_at v.seen) v.objects ∙ event

          events_before : AllOf (λ (m : Mark (Timed PlanDeed)). m.done ≡ false → deeds.is_event m.step.did ≡ false) f.before
          events_before = cuts.open_events deeds (turns_of r) (plan_of r d) (is_plan r d reference closed plain) g f.before f.after f.step is_whole is_cut below earlier next event_did

          same_objects : objects_of v.state ≡ objects_of z
          same_objects = unit_objects f.before f.after f.step f.parts event_did events_before

          same_turn : event_of v.seen.moment.did.did ≡ Some u
          same_turn = unit_turn f.before f.after f.step f.parts event_did events_before

        event0 : is_event_at v.seen ≡ local_event r.gated r.program (local_at v.state t)
        event0 = sym (some_turn v.seen.moment.did.did (happening_in v.seen.moment.did.did.kind)) ∙ event_seen r.gated r.program r.input v.state v.seen.moment.did.did unit.met.reached unit.met.takes

        at_instruction : Both r.program input t v.state z (thread_of v.seen.before t).calls → StuckBy t → ⊥
        at_instruction b (inl k) = open_goes t (open_here r d input v z unit b good) k
        at_instruction b (inr k) =
            let p = r.program in
            let can : CanStep (next_of p z t) = can_by z t (next_of p z t) (open_here r d input v z unit b good) k.1 in
            let same_event = events_alike r.gated p input t v.state z (thread_of v.seen.before t).calls b (facing.can0_at r d input v z unit b good b.x.op refl)
            (subst CanStep (facing.act_at r d input v z unit b good b.x.op refl) can) in
            let seen : local_event r.gated p (local_at z t) ≡ true = (looks r.gated p z t (running t b.h b.f b.fs b.n) reached b.here.local).event ∙ ap is_some k.2 in
            let event : is_event_at v.seen ≡ true = event0 ∙ sym same_event ∙ seen in
            let same = same_objects event in
            let may = may_here r d input v z unit b good (ap (λ (q : Objects). q.sync) (sym same)) k.1 in
            let on = goes_by r.gated p input z t (next_of p z t) (allowed_by z t (next_of p z t) k.1) may in
            let y = steps_by r.gated p input t z going on.0 on.1 in
            let q : Pair r d input v z fallen.counts y.told = record { unit = unit; plain = single; reached = reached; takes = y.takes; own = y.own; both = b; units = units } in
            let fit = both_fits r d input reference.can.program small v z fallen.counts y.told q good (λ w. same) words cells in
            goes t y.told y.takes y.own (fit.told.turn ∙ same_turn event) (inr k)

        none_of : (l : Option LocalState) → StandLike input (standing_of l (thread_of v.seen.before t).calls) None → l ≡ None
        none_of None k = refl
        none_of (Some l) k = absurd k

        to_begin : Beginning r.program t v.state z → StuckBy t → ⊥
        to_begin b stuck =
            let p = r.program in
            let none0 : local_at v.state t ≡ None = none_of (local_at v.state t) (subst (StandLike input (standing_of (local_at v.state t) (thread_of v.seen.before t).calls)) b.none stand_alike) in
            let event : is_event_at v.seen ≡ true = event0 ∙ ap (local_event r.gated p) none0 in
            let same = same_objects event in
            let on0 = goes_by r.gated p r.input v.state t (next_of p v.state t) (did_allowed r.gated p r.input v.state unit.met.takes.after t v.seen.moment.did.did unit.met.takes.is_step)
            (ready_acts p v.state t unit.met.takes.is_ready) in
            let granted0 : local_granted p t (local_at v.state t) (objects_of v.state) ≡ true = (looks r.gated p v.state t (fresh p t b.function) unit.met.reached b.first).granted ∙ on0.1 in
            let granted : local_granted p t (local_at z t) (objects_of z) ≡ true =
            ap (λ (l : Option LocalState). local_granted p t l (objects_of z)) b.none ∙ ap (local_granted p t None) (sym same)
            ∙ sym (ap (λ (l : Option LocalState). local_granted p t l (objects_of v.state)) none0) ∙ granted0 in
            let y = made granted (slice_get z.locals t) refl in
            let calls = all_has (λ (w : PlanUnit). (i : ℕ) → slice_get w.state.locals (thread_in w.seen.moment) ≡ Some (fresh r.program (thread_in w.seen.moment) i)
            → (thread_of w.seen.before (thread_in w.seen.moment)).calls ≡ fresh_registers r.program i ∷ []) (units_of r d) v (starts_are_fresh r d reference plain) has b.function b.first in
            let fit = start_fits r d input v unit single z fallen.counts y.told reached y.takes y.own units (λ w. same) words cells b calls in
            goes t y.told y.takes y.own (fit.told.turn ∙ same_turn event) stuck
          where
            made : local_granted r.program t (local_at z t) (objects_of z) ≡ true → (l : Option LocalState) → slice_get z.locals t ≡ l → Steps r.gated r.program input t z
            made granted None e = absurd (true≢false (sym granted ∙ (none_granted r.program z t e).1))
            made granted (Some l) e =
                let k = looks r.gated r.program z t l reached e in
                steps_by r.gated r.program input t z going (sym k.goes ∙ ap (local_goes r.program) b.none) (sym k.granted ∙ granted)

        not_stuck_by : StuckBy t → ⊥
        not_stuck_by stuck = go (opened r.gated r.program r.input input v.state z v.seen.moment.did.did (thread_of v.seen.before t).calls unit.met.reached unit.met.takes reached stand_alike)
          where
            go : Both r.program input t v.state z (thread_of v.seen.before t).calls ⊎ Beginning r.program t v.state z → ⊥
            go (inl b) = at_instruction b stuck
            go (inr b) = to_begin b stuck

        -- no check on the objects fails at what it asks
        unchecked_by : (q : Request) → next_of r.program z t ≡ actions.Event q → sync.check z.sync t q ≡ None
        unchecked_by q k = go (opened r.gated r.program r.input input v.state z v.seen.moment.did.did (thread_of v.seen.before t).calls unit.met.reached unit.met.takes reached stand_alike)
          where
            go : Both r.program input t v.state z (thread_of v.seen.before t).calls ⊎ Beginning r.program t v.state z → sync.check z.sync t q ≡ None
            go (inr b) = waiting_asks r.program z t q b.none k
            go (inl b) =
                let p = r.program in
                let can : CanStep (next_of p z t) = subst CanStep (sym k) tt in
                let same_event = events_alike r.gated p input t v.state z (thread_of v.seen.before t).calls b (facing.can0_at r d input v z unit b good b.x.op refl)
                (subst CanStep (facing.act_at r d input v z unit b good b.x.op refl) can) in
                let seen : local_event r.gated p (local_at z t) ≡ true = (looks r.gated p z t (running t b.h b.f b.fs b.n) reached b.here.local).event ∙ asks_turn r.gated p z t q k in
                let event : is_event_at v.seen ≡ true = event0 ∙ sym same_event ∙ seen in
                unchecked_here r d input v z unit b good (ap (λ (y : Objects). y.sync) (sym (same_objects event))) q k

      stuck_here : StuckBy t → ⊥
      stuck_here stuck = go (fallen.locals t)
        where
          by : (b : Bool) → is_instance d v.seen ≡ b → (effects first ds).locals t ≡ (moved z fallen.counts).locals t → ⊥
          by true i e = left_stuck t (left_at e i) stuck
          by false i e = not_stuck_by e i stuck

          go : ((effects first ds).locals t ≡ (moved z fallen.counts).locals t) ⊎ IsLeft r.gated r.program t z → ⊥
          go (inl e) = by (is_instance d v.seen) refl e
          go (inr l) = left_stuck t l stuck

      unchecked_all : (q : Request) → next_of r.program z t ≡ actions.Event q → sync.check z.sync t q ≡ None
      unchecked_all q k = go (fallen.locals t)
        where
          by : (b : Bool) → is_instance d v.seen ≡ b → (effects first ds).locals t ≡ (moved z fallen.counts).locals t → sync.check z.sync t q ≡ None
          by true i e = left_unchecked t (left_at e i) q k
          by false i e = unchecked_by e i q k

          go : ((effects first ds).locals t ≡ (moved z fallen.counts).locals t) ⊎ IsLeft r.gated r.program t z → sync.check z.sync t q ≡ None
          go (inl e) = by (is_instance d v.seen) refl e
          go (inr l) = left_unchecked t l q k

    -- a thread that has a turn left has a unit left
    none_open : AllOf (λ (m : Mark (Timed PlanDeed)). m.done ≡ false → m.step.did.thread ≢ u.thread.0) marks → ⊥
    none_open a =
        let k = follows.no_turn_left (like input) (turns_of r) (plan_start r) (plan_of r d) (IsAnyMove r d input sums turns) (is_plan r d reference closed plain)
        (obeys r d input sums turns reference plain (starts_are_fresh r d reference plain) (plan_remembers r d reference plain) closed admitted small same_turns again)
        (effects first ds) g stands.holds u.thread.0 a g
        (omega arith) owner in
        let n = counted.plan_turns r d plain in
        let w = slice_get_within (turns_of r) g u.thread.0 owner in
        absurd (omega (arith, k, n, w))

    pub unchecked : (q : Request) → next_of r.program z u.thread.0 ≡ actions.Event q → sync.check z.sync u.thread.0 q ≡ None
    unchecked q k = go (find deeds u.thread.0 marks)
      where
        go : AllOf (λ (m : Mark (Timed PlanDeed)). m.done ≡ false → m.step.did.thread ≢ u.thread.0) marks ⊎ First deeds u.thread.0 marks → sync.check z.sync u.thread.0 q ≡ None
        go (inl a) = absurd (none_open a)
        go (inr f) = subst (λ (i : ℕ). sync.check z.sync i q ≡ None) (own_unit f) (unchecked_all f q (subst (λ (i : ℕ). next_of r.program z i ≡ actions.Event q) (sym (own_unit f)) k))

    pub not_stuck : IsStuck r.gated r.program input u z → ⊥
    not_stuck stuck = go (find deeds u.thread.0 marks)
      where
        go : AllOf (λ (m : Mark (Timed PlanDeed)). m.done ≡ false → m.step.did.thread ≢ u.thread.0) marks ⊎ First deeds u.thread.0 marks → ⊥
        go (inl a) = none_open a
        go (inr f) = stuck_here f (subst (λ (i : ℕ). StuckBy i) (sym (own_unit f)) stuck)

-- ---- the guided run

module _ (r : ReferenceRun) (d : Taken) (input : List ℤ) (sums : ℕ → Option RootedList) (turns : List Turn) (given : IsAdmitted r d input sums turns) where
  abbrev w : GuidedRun
  w = guided_of r.program input turns r.gated

  permitted : IsPermitted r.program input turns r.gated w.trace w.state
  permitted = guided_permitted r.program input turns r.gated

  told : events w.trace ≡ take w.turns turns
  told = (guided_is r.program input turns r.gated).1

  -- it doesn't stray
  pub no_stray : (guided_of r.program input turns r.gated).end ≢ ends.Strayed
  no_stray e = by (drop w.turns turns) refl (guided_strays r.program input turns r.gated e)
    where
      by : (us : List Turn) → drop w.turns turns ≡ us → StuckAt r.gated r.program input us w.state → ⊥
      by [] q stuck =
          let n : length (events w.trace) ≡ length turns = ap length (told ∙ front_whole w.turns turns q) in
          absurd (true≢false (sym (ended.finished r d input sums turns given w.trace w.state permitted
          (guided_unbroken r.program input turns r.gated) (omega (arith, n))) ∙ stuck))
      by (u ∷ us) q stuck =
          let left : turns_left turns w.trace ≡ u ∷ us = ap (λ (i : ℕ). drop i turns) (ap length told ∙ front_length w.turns turns u us q) ∙ q in
          not_stuck r d input sums turns given w.trace w.state permitted (guided_unbroken r.program input turns r.gated) u us left stuck
