-- The first unit of a thread that isn't done, at a state that the moves of a run leave: all that it rests on is alike there, and of the
-- units that may conflict with it those before it are done.
use mathlib.Core.Path.{fun_ext}
use Rattle.std.specs.List.{AllByRecursion as AllOf}
use Rattle.std.specs.Prelude.{is_some, slice_get}
use Rattle.std.proofs.Common.{◌++◌, ◌<◌, ◌^◌, ◌∙◌, ◌∷◌, ◌≡◌, ◌≢◌, ◌⊎◌, Bool, List, Option, Some, ap, arith, false, inl, inr, length, refl, subst}
use Rattle.std.proofs.Common.{suc, sym, true, ℕ, ℤ}
use Rattle.std.proofs.lemmas.Bool.{true≢false}
use Rattle.pg_law_threads.specs.Cuts.{IsBelow, IsCut, Mark, kept, pending, whole}
use Rattle.pg_law_threads.specs.Effects.{deeds, effects}
use Rattle.pg_law_threads.specs.Intervals.{Timed, did_of, times}
use Rattle.pg_law_threads.specs.Plans.{Alike, Fits}
use Rattle.pg_law_threads.specs.Steps.{Conflict}
use Rattle.pg_law_threads.proofs.PlanLaw.{conflict_back}
use Rattle.pg_law_threads.proofs.PlanLaw as follows
use Rattle.pg_law_threads.proofs.DoneLists.{First}
use Rattle.pg_law_threads.proofs.StatesAtCuts as places
use Rattle.pg_law_threads.proofs.TimedSteps.{did_times}
use Rattle.pg_run_trace.specs.Steps.{happening_in}
use Rattle.pg_run_trace.specs.declared.step.StepKind.{StepKind}
use Rattle.pg_run_trace.specs.declared.turn.Turn.{Turn}
use Rattle.pg_region_accesses.specs.Accesses.{RootedList}
use Rattle.pg_slice_rules.specs.Closed.{IsClosed, admits}
use Rattle.pg_slice_rules.specs.Known.{Taken}
use Rattle.pg_slice_rules.specs.Moments.{thread_in}
use Rattle.pg_law_effects.specs.PermittedSteps.{none_taken}
use Rattle.pg_law_effects.specs.Views.{objects_of}
use Rattle.pg_law_plan.specs.pg_law_runs.Deeds.{owners_of}
use Rattle.pg_law_plan.specs.Fits.{IsAlikeFor, IsRemembered, PlanRemembers, StartsAreFresh, thread_before}
use Rattle.pg_law_plan.specs.Likes.{IsCellLike, IsThreadLike, PlanThread, like}
use Rattle.pg_law_plan.specs.Lists.{Has}
use Rattle.pg_law_plan.specs.Moves.{RunDeed, RunState}
use Rattle.pg_law_plan.specs.Order.{IsOrderedRun}
use Rattle.pg_law_plan.specs.Units.{ExtentsArePlain, PlanDeed, PlanUnit, ReferenceRun, cell_known, deed_of, is_event_at, is_instance, plan_of, plan_start, reads_cell, reference_of, turns_of}
use Rattle.pg_law_plan.specs.Units.{units_of, writes_cell}
use Rattle.pg_law_plan.proofs.EachUnit.{IsUnit, all_units}
use Rattle.pg_law_plan.proofs.FreeBranchEffects.{is_free}
use Rattle.pg_law_plan.proofs.ListMembers.{all_has, has_cases, has_right}
use Rattle.pg_law_plan.proofs.RunFollowsPlan.{Split, split}
use Rattle.pg_law_plan.proofs.UnitsArePlan.{is_plan}
use Rattle.pg_law_plan.proofs.UnitTurns.{is_some_if}
use Rattle.pg_law_admitted.specs.Free.{IsAnyMove, UnitsJoinAgain}
use Rattle.pg_law_admitted.specs.Invariant.{may_touch, owner}
use Rattle.pg_law_admitted.proofs.MovesFollowPlan.{obeys}
use Rattle.pg_law_admitted.proofs.DoneUnits.{Around, IsMarked, Told, around, mark_of, told_all}
use Rattle.pg_law_admitted.proofs.UnitNumbers.{NumberedFrom, one_place, one_unit, units_numbered}

-- of the units that may conflict with this one, those before it in the reference run are done, where each thread has done so many, and
-- no others are
abbrev pub InTurn : ReferenceRun → Taken → (ℕ → ℕ) → PlanUnit → Type 0
InTurn r d c u = (us vs : List PlanUnit) (w : PlanUnit) → units_of r d ≡ us ++ u ∷ vs → Has (units_of r d) w → Conflict (may_touch d) w u →
    (Has us w → w.units < c (owner w)) × (w.units < c (owner w) → Has us w)

-- what holds of a unit and the move that does it
pub record AtMove (r : ReferenceRun) (d : Taken) (input : List ℤ) (u : PlanUnit) (a : RunState) (e : RunDeed) : Type 0 where
  pub alike : IsAlikeFor input d u a
  pub fits : Fits (like input) (deed_of d u) e
  pub turn : InTurn r d (λ t. (a.locals t).moves) u

-- units that may conflict are deeds that do
conflict_deeds : (d : Taken) (w u : PlanUnit) → Conflict (may_touch d) w u → Conflict deeds (deed_of d w) (deed_of d u)
conflict_deeds d w u c = record {
  threads = c.threads;
  cell = c.cell;
  meet = rw (is_some_if (writes_cell d w.seen c.cell) (cell_known w.known c.cell), is_some_if (writes_cell d u.seen c.cell) (cell_known u.known c.cell)) c.meet;
}

module _ (r : ReferenceRun) (d : Taken) (input : List ℤ) (sums : ℕ → Option RootedList) (turns : List Turn) (o : IsOrderedRun r) (plain : ExtentsArePlain r d) (fresh : StartsAreFresh r d)
    (remembers : PlanRemembers r d)
    (closed : IsClosed (reference_of r) d) (admitted : admits (reference_of r) d input ≡ true) (small : length input < 2 ^ 64) (same_turns : owners_of turns ≡ turns_of r)
    (again : UnitsJoinAgain r sums d) where
  abbrev pub Keeps : RunState → ℕ → Type 0
  Keeps = follows.Holds (like input) (turns_of r) (plan_start r) (plan_of r d) (IsAnyMove r d input sums turns) (is_plan r d o closed plain)
      (obeys r d input sums turns o plain fresh remembers closed admitted small same_turns again)

  pub record Open (a : RunState) (g t : ℕ) : Type 0 where
    pub unit : PlanUnit
    pub has : Has (units_of r d) unit
    pub own : thread_in unit.seen.moment ≡ t
    pub thread : IsThreadLike input (thread_before unit) (a.locals (thread_in unit.seen.moment))
    pub free : is_instance d unit.seen ≡ true → IsAlikeFor input d unit a
    pub move : (e : RunDeed) → IsAnyMove r d input sums turns a g e → e.thread ≡ t → AtMove r d input unit a e

  module _ (a : RunState) (g : ℕ) (h : Keeps a g) (t : ℕ) (f : First deeds t h.cut.marks) where
    is_whole : whole (f.before ++ pending f.step ∷ f.after) ≡ times deeds (turns_of r) 0 (plan_of r d)
    is_whole = ap whole (sym f.parts) ∙ h.cut.is_whole

    is_cut : IsCut deeds (f.before ++ pending f.step ∷ f.after)
    is_cut = subst (IsCut deeds) f.parts h.cut.is_cut

    below : IsBelow g (f.before ++ pending f.step ∷ f.after)
    below = subst (IsBelow g) f.parts h.cut.below

    alike : Alike (like input) (effects (plan_start r) (did_of (kept (f.before ++ pending f.step ∷ f.after)))) a
    alike = subst (λ (l : List (Mark (Timed PlanDeed))). Alike (like input) (effects (plan_start r) (did_of (kept l))) a) f.parts h.cut.alike

    earlier : AllOf (λ (m : Mark (Timed PlanDeed)). m.done ≡ false → m.step.did.thread ≢ f.step.did.thread) f.before
    earlier = subst (λ (i : ℕ). AllOf (λ (m : Mark (Timed PlanDeed)). m.done ≡ false → m.step.did.thread ≢ i) f.before) (sym f.thread) f.earlier

    cut : Split (deed_of d) (units_of r d) (did_of (whole f.before)) f.step.did
    cut = split (deed_of d) (units_of r d) (did_of (whole f.before)) f.step.did (did_of (whole f.after))
        (places.split (like input) (turns_of r) (plan_start r) (plan_of r d) (is_plan r d o closed plain) a g f.before f.after f.step is_whole is_cut below alike earlier)

    has_unit : Has (units_of r d) cut.at
    has_unit = subst (λ (l : List PlanUnit). Has l cut.at) (sym cut.is) (has_right cut.before (cut.at ∷ cut.after) cut.at (inl refl))

    memory : IsRemembered r d cut.before cut.at
    memory = remembers cut.before cut.at cut.after cut.is

    unit_thread : IsThreadLike input (thread_before cut.at) (a.locals (thread_in cut.at.seen.moment))
    unit_thread =
        let t = thread_in cut.at.seen.moment in
        let k = places.like_local (like input) (turns_of r) (plan_start r) (plan_of r d) (is_plan r d o closed plain) a g f.before f.after f.step is_whole is_cut below alike earlier in
        subst (λ (l : PlanThread). IsThreadLike input l (a.locals t)) memory.thread
        (subst (λ (l : List PlanDeed). IsThreadLike input ((effects (plan_start r) l).locals t) (a.locals t)) (sym cut.images)
        (subst (λ (q : PlanDeed). IsThreadLike input ((effects (plan_start r) (did_of (whole f.before))).locals q.thread) (a.locals q.thread)) (sym cut.image) k))

    -- where it is an event it is the next turn
    abbrev IsNext : Type 0
    IsNext = deeds.is_event f.step.did ≡ true → slice_get (turns_of r) g ≡ Some f.step.did.thread

    unit_cells : IsNext → (b : ℕ) → reads_cell d cut.at.seen b ≡ true → IsCellLike input (cell_known cut.at.seen.before b) (a.cells b)
    unit_cells next b w =
        let k = places.like_cell (like input) (turns_of r) (plan_start r) (plan_of r d) (is_plan r d o closed plain) a g f.before f.after f.step is_whole is_cut below alike earlier next b
        (sym (ap (λ (q : PlanDeed). q.reads b) cut.image) ∙ w) in
        subst (λ s. IsCellLike input s (a.cells b)) (memory.cells b)
        (subst (λ (l : List PlanDeed). IsCellLike input ((effects (plan_start r) l).cells b) (a.cells b)) (sym cut.images) k)

    event_is : deeds.is_event f.step.did ≡ is_event_at cut.at.seen
    event_is = sym (ap deeds.is_event cut.image) ∙ is_some_if (is_event_at cut.at.seen) cut.at.objects

    unit_objects : IsNext → is_event_at cut.at.seen ≡ true → objects_of cut.at.state ≡ a.objects
    unit_objects next w =
        sym memory.objects ∙ ap (λ (l : List PlanDeed). (effects (plan_start r) l).objects) cut.images
        ∙ places.like_objects (like input) (turns_of r) (plan_start r) (plan_of r d) (is_plan r d o closed plain) a g f.before f.after f.step is_whole is_cut below alike earlier next
        (event_is ∙ w)

    unit_alike : IsNext → IsAlikeFor input d cut.at a
    unit_alike next = record { thread = unit_thread; cells = unit_cells next; objects = unit_objects next }

    free_alike : is_instance d cut.at.seen ≡ true → IsAlikeFor input d cut.at a
    free_alike free =
        let unit = all_has (IsUnit r d) (units_of r d) cut.at (all_units r d o) has_unit in
        let none : is_event_at cut.at.seen ≡ false = ap (λ (k : StepKind). is_some (happening_in k)) (is_free (reference_of r) d cut.at.seen unit.met.region free).kind in
        unit_alike (λ e. absurd (true≢false (sym e ∙ event_is ∙ none)))

    -- ---- the units that are done

    told : Told d (λ t. (a.locals t).moves) h.cut.marks (units_of r d)
    told = subst (λ (n : ℕ → ℕ). Told d n h.cut.marks (units_of r d)) (fun_ext (λ t. sym (h.cut.alike.locals t).moves))
        (told_all d (plan_start r) none_taken h.cut.marks (units_of r d) (ap did_of h.cut.is_whole ∙ did_times deeds (turns_of r) 0 (plan_of r d)) (units_numbered r d) h.cut.is_cut (λ t. refl))

    here : Around d (λ t. (a.locals t).moves) f.before (pending f.step) f.after (units_of r d)
    here = around d (λ t. (a.locals t).moves) f.before (pending f.step) f.after (units_of r d)
        (subst (λ (ms : List (Mark (Timed PlanDeed))). Told d (λ t. (a.locals t).moves) ms (units_of r d)) f.parts told)

    same_deed : deed_of d here.at ≡ deed_of d cut.at
    same_deed = sym here.told_at.deed ∙ sym cut.image

    suc_same : (m n : ℕ) → suc m ≡ suc n → m ≡ n
    suc_same m n e = omega (arith, e)

    same_unit : here.at ≡ cut.at
    same_unit = one_unit r d here.at cut.at (subst (λ (l : List PlanUnit). Has l here.at) (sym here.is) (has_right here.earlier (here.at ∷ here.later) here.at (inl refl))) has_unit
        (ap (λ (q : PlanDeed). q.thread) same_deed) (suc_same here.at.units cut.at.units (ap (λ (q : PlanDeed). q.to.units) same_deed))

    in_turn : IsNext → InTurn r d (λ t. (a.locals t).moves) cut.at
    in_turn next us vs w is has c = (
      (λ k. earlier_done (subst (λ (l : List PlanUnit). Has l w) same_place k)),
      (λ lt. by lt (has_cases here.earlier (here.at ∷ here.later) w (subst (λ (l : List PlanUnit). Has l w) here.is has))),
    )
      where
        same_place : us ≡ here.earlier
        same_place = one_place none_taken us here.earlier cut.at vs here.later (subst (NumberedFrom none_taken) is (units_numbered r d))
            (sym is ∙ here.is ∙ ap (λ (u : PlanUnit). here.earlier ++ u ∷ here.later) same_unit)

        conflict : Conflict deeds (deed_of d w) f.step.did
        conflict = subst (Conflict deeds (deed_of d w)) cut.image (conflict_deeds d w cut.at c)

        earlier_done : Has here.earlier w → w.units < (a.locals (owner w)).moves
        earlier_done k =
            let m = mark_of d (λ t. (a.locals t).moves) f.before here.earlier w here.told_before
            (places.open_apart (like input) (turns_of r) (plan_start r) (plan_of r d) (is_plan r d o closed plain) a g f.before f.after f.step is_whole is_cut below alike earlier next) k in
            go m.0 m.1 m.2 m.0.done refl
          where
            go : (m : Mark (Timed PlanDeed)) → IsMarked d (λ t. (a.locals t).moves) m w → (m.done ≡ false → Conflict deeds m.step.did f.step.did → ⊥) → (b : Bool) → m.done ≡ b
                → w.units < (a.locals (owner w)).moves
            go m t apart true e = t.if_done e
            go m t apart false e = absurd (apart e (subst (λ (q : PlanDeed). Conflict deeds q f.step.did) (sym t.deed) conflict))

        later_open : w.units < (a.locals (owner w)).moves → Has here.later w → ⊥
        later_open lt k =
            let m = mark_of d (λ t. (a.locals t).moves) f.after here.later w here.told_after
            (places.done_apart (like input) (turns_of r) (plan_start r) (plan_of r d) (is_plan r d o closed plain) a g f.before f.after f.step is_whole is_cut below alike earlier next) k in
            go m.0 m.1 m.2 m.0.done refl
          where
            go : (m : Mark (Timed PlanDeed)) → IsMarked d (λ t. (a.locals t).moves) m w → (m.done ≡ true → Conflict deeds f.step.did m.step.did → ⊥) → (b : Bool) → m.done ≡ b
                → ⊥
            go m t apart true e = apart e (subst (Conflict deeds f.step.did) (sym t.deed) (conflict_back deeds (deed_of d w) f.step.did conflict))
            go m t apart false e = let k = t.if_open e in absurd (omega (arith, k, lt))

        by : w.units < (a.locals (owner w)).moves → Has here.earlier w ⊎ Has (here.at ∷ here.later) w → Has us w
        by lt (inl k) = subst (λ (l : List PlanUnit). Has l w) (sym same_place) k
        by lt (inr (inl e)) = absurd (c.threads (ap owner (sym e ∙ same_unit)))
        by lt (inr (inr k)) = absurd (later_open lt k)

    -- ---- the move that does it

    at_move : (e : RunDeed) → IsAnyMove r d input sums turns a g e → e.thread ≡ t → AtMove r d input cut.at a e
    at_move e m mine =
        let own : e.thread ≡ f.step.did.thread = mine ∙ sym f.thread in
        let kind = (obeys r d input sums turns o plain fresh remembers closed admitted small same_turns again).kind (did_of (whole f.before)) f.step.did (did_of (whole f.after))
        (places.split (like input) (turns_of r) (plan_start r) (plan_of r d) (is_plan r d o closed plain) a g f.before f.after f.step is_whole is_cut below alike earlier) a g e m own
        (places.like_local (like input) (turns_of r) (plan_start r) (plan_of r d) (is_plan r d o closed plain) a g f.before f.after f.step is_whole is_cut below alike earlier) in
        let next : IsNext = (λ v. (obeys r d input sums turns o plain fresh remembers closed admitted small same_turns again).turn a g e m (kind ∙ v) ∙ ap (λ (i : ℕ). Some i) own) in
        record {
          alike = unit_alike next;
          fits = subst (λ (q : PlanDeed). Fits (like input) q e) (sym cut.image)
              (follows.step_fits (like input) (turns_of r) (plan_start r) (plan_of r d) (IsAnyMove r d input sums turns) (is_plan r d o closed plain)
              (obeys r d input sums turns o plain fresh remembers closed admitted small same_turns again) a g f.before f.after f.step is_whole is_cut below alike h.within h.reached earlier e m own);
          turn = in_turn next;
        }

    pub open_unit : Open a g t
    open_unit = record {
      unit = cut.at;
      has = has_unit;
      own = ap (λ (q : PlanDeed). q.thread) cut.image ∙ f.thread;
      thread = unit_thread;
      free = free_alike;
      move = at_move;
    }
