-- A run of moves, of single steps and of whole instances, follows the plan.
use Rattle.std.proofs.Common.{◌≡◌, ℕ, ℤ, ◌⊎◌, ◌<◌, ◌≤◌, ◌^◌, ◌++◌, true, false, List, ◌∷◌, length, map, drop, Option, Some, None, sym, ap, ◌∙◌}
use Rattle.std.proofs.Common.{subst, inl, inr}
use Rattle.std.specs.Prelude.{is_some, slice_get}
use Rattle.std.proofs.lemmas.Bool.{true≢false}
use Rattle.pg_region_accesses.specs.Accesses.{RootedList}
use Rattle.pg_law_threads.specs.Effects.{deeds, effects}
use Rattle.pg_law_threads.specs.Intervals.{turns_done, times}
use Rattle.pg_law_threads.specs.Plans.{Alike, Fits, Moves, Obeys}
use Rattle.pg_law_threads.proofs.PlanLaw.{Stands, follows_plan}
use Rattle.pg_run_trace.specs.declared.step.StepKind.{StepKind}
use Rattle.pg_run_trace.specs.declared.turn.Turn.{Turn}
use Rattle.pg_run_trace.specs.Steps.{happening_in}
use Rattle.pg_run.specs.Permitted.{has_turn}
use Rattle.pg_law_plan.specs.pg_law_runs.Deeds.{owners_of}
use Rattle.pg_slice_rules.specs.Closed.{IsClosed, admits}
use Rattle.pg_slice_rules.specs.Known.{Taken}
use Rattle.pg_slice_rules.specs.Moments.{thread_in}
use Rattle.pg_law_plan.specs.Fits.{IsAlikeFor, PlanRemembers, StartsAreFresh}
use Rattle.pg_law_plan.specs.Likes.{IsCellLike, IsThreadLike, like}
use Rattle.pg_law_plan.specs.Moves.{RunDeed, RunState}
use Rattle.pg_law_plan.specs.Order.{IsOrderedRun}
use Rattle.pg_law_plan.specs.Units.{ExtentsArePlain, PlanUnit, ReferenceRun, deed_of, is_event_at, is_instance, plan_of, plan_start, reads_cell, reference_of, turns_of, units_of}
use Rattle.pg_law_plan.proofs.EachUnit.{IsUnit, all_units}
use Rattle.pg_law_plan.proofs.UnitSteps.{at_unit, fits_at, kind_at, none_left, none_left_by, turn_at_move}
use Rattle.pg_law_plan.proofs.FreeBranchEffects.{is_free}
use Rattle.pg_law_plan.proofs.ListMembers.{all_has}
use Rattle.pg_law_plan.proofs.RunFollowsPlan.{fits_over, kind_over}
use Rattle.pg_law_plan.proofs.UnitsArePlan.{is_plan}
use Rattle.pg_law_plan.proofs.UnitTurns.{is_some_if}
use Rattle.pg_law_admitted.specs.Free.{IsAnyMove, IsFreeMove, IsPartMove, IsSingleMove, IsWholeMove, JoinsAgain, UnitsJoinAgain}
use Rattle.pg_law_admitted.proofs.UnitNumbers.{one_unit}
use Rattle.pg_law_admitted.proofs.InstanceFits.{part_fits, whole_fits}

-- ---- moves of instances

no_objects : (r : ReferenceRun) (input : List ℤ) (sums : ℕ → Option RootedList) (turns : List Turn) (u : PlanUnit) (a : RunState) (g : ℕ) (e : RunDeed)
    → IsWholeMove r input sums turns u a g e ⊎ IsPartMove r input sums turns u a g e → e.objects ≡ None
no_objects r input sums turns u a g e (inl w) = w.is_deed.objects
no_objects r input sums turns u a g e (inr w) = w.is_deed.objects

owner_of : (r : ReferenceRun) (input : List ℤ) (sums : ℕ → Option RootedList) (turns : List Turn) (u : PlanUnit) (a : RunState) (g : ℕ) (e : RunDeed)
    → IsWholeMove r input sums turns u a g e ⊎ IsPartMove r input sums turns u a g e → has_turn e.thread (drop g turns) ≡ true
owner_of r input sums turns u a g e (inl w) = subst (λ (t : ℕ). has_turn t (drop g turns) ≡ true) (sym w.is_deed.thread) w.steps.may.owner
owner_of r input sums turns u a g e (inr w) = subst (λ (t : ℕ). has_turn t (drop g turns) ≡ true) (sym w.is_deed.thread) w.steps.may.owner

-- ---- a run of moves

module _ (r : ReferenceRun) (d : Taken) (input : List ℤ) (sums : ℕ → Option RootedList) (turns : List Turn) (o : IsOrderedRun r) (plain : ExtentsArePlain r d) (fresh : StartsAreFresh r d)
    (remembers : PlanRemembers r d)
    (closed : IsClosed (reference_of r) d) (admitted : admits (reference_of r) d input ≡ true) (small : length input < 2 ^ 64) (same_turns : owners_of turns ≡ turns_of r)
    (again : UnitsJoinAgain r sums d) where
  -- a move at a unit
  module _ (us : List PlanUnit) (u : PlanUnit) (vs : List PlanUnit) (is : units_of r d ≡ us ++ u ∷ vs) (s : RunState) (g : ℕ) (e : RunDeed) (mine : e.thread ≡ thread_in u.seen.moment)
      (like_thread : IsThreadLike input ((effects (plan_start r) (map (deed_of d) us)).locals (thread_in u.seen.moment)) (s.locals (thread_in u.seen.moment))) where
    open at_unit r d input remembers us u vs is s like_thread use {has, memory, thread}

    unit : IsUnit r d u
    unit = all_has (IsUnit r d) (units_of r d) u (all_units r d o) has

    -- where it is a single step
    single : IsSingleMove r d input turns s g e → is_instance d u.seen ≡ false
    single m = m.single u has (sym mine) (sym thread.moves ∙ ap (λ (i : ℕ). (s.locals i).moves) (sym mine))

    -- where it is an instance
    same_unit : (m : IsFreeMove r d input sums turns s g e) → m.unit ≡ u
    same_unit m =
        let t : thread_in m.unit.seen.moment ≡ thread_in u.seen.moment = sym m.thread ∙ mine in
        one_unit r d m.unit u m.has has t (sym m.units ∙ ap (λ (i : ℕ). (s.locals i).moves) t ∙ thread.moves)

    free : IsFreeMove r d input sums turns s g e → is_instance d u.seen ≡ true
    free m = subst (λ (v : PlanUnit). is_instance d v.seen ≡ true) (same_unit m) m.free

    no_event : is_instance d u.seen ≡ true → deeds.is_event (deed_of d u) ≡ false
    no_event f = is_some_if (is_event_at u.seen) u.objects ∙ ap (λ (k : StepKind). is_some (happening_in k)) (is_free (reference_of r) d u.seen unit.met.region f).kind

    kind_any : IsAnyMove r d input sums turns s g e → deeds.is_event e ≡ deeds.is_event (deed_of d u)
    kind_any (inl m) = kind_at r d input turns o plain fresh remembers closed admitted small same_turns us u vs is (single m) s g e m.move mine like_thread
    kind_any (inr m) = ap is_some (no_objects r input sums turns m.unit s g e m.move) ∙ sym (no_event (free m))

    fits_any : IsAnyMove r d input sums turns s g e → ((c : ℕ) → reads_cell d u.seen c ≡ true → IsCellLike input ((effects (plan_start r) (map (deed_of d) us)).cells c) (s.cells c)) →
        (deeds.is_event (deed_of d u) ≡ true → (effects (plan_start r) (map (deed_of d) us)).objects ≡ s.objects) → Fits (like input) (deed_of d u) e
    fits_any (inl m) cells objects = fits_at r d input turns o plain fresh remembers closed admitted small same_turns us u vs is (single m) s g e m.move mine like_thread cells objects
    fits_any (inr m) cells objects = by (subst (λ (v : PlanUnit). IsWholeMove r input sums turns v s g e ⊎ IsPartMove r input sums turns v s g e) (same_unit m) m.move)
      where
        alike : IsAlikeFor input d u s
        alike = record {
          thread = thread;
          cells = λ c h. subst (λ z. IsCellLike input z (s.cells c)) (memory.cells c) (cells c h);
          objects = λ h. sym memory.objects ∙ objects (is_some_if (is_event_at u.seen) u.objects ∙ h);
        }

        by : IsWholeMove r input sums turns u s g e ⊎ IsPartMove r input sums turns u s g e → Fits (like input) (deed_of d u) e
        by (inl w) = whole_fits r d input sums turns u unit (free m) s g e alike o.can.program small
            (all_has (λ (v : PlanUnit). is_instance d v.seen ≡ true → JoinsAgain r sums v) (units_of r d) u again has (free m)) w
        by (inr w) = part_fits r d input sums turns u unit (free m) s g e alike w

  pub obeys : Obeys (like input) (turns_of r) (plan_start r) (plan_of r d) (IsAnyMove r d input sums turns)
  obeys = record {
    turn = turn_of;
    kind = kind_over r d input (IsAnyMove r d input sums turns) (λ us u vs is s g m moved mine l. kind_any us u vs is s g m mine l moved);
    fits = fits_over r d input (IsAnyMove r d input sums turns) (λ us u vs is s g m moved mine l. fits_any us u vs is s g m mine l moved);
    no_more = λ s g m moved within l none ob. no_more s g m moved none;
  }
    where
      turn_of : (s : RunState) (g : ℕ) (m : RunDeed) → IsAnyMove r d input sums turns s g m → deeds.is_event m ≡ true → slice_get (turns_of r) g ≡ Some m.thread
      turn_of s g m (inl k) h = turn_at_move r d input turns o plain fresh remembers closed admitted small same_turns s g m k.move h
      turn_of s g m (inr k) h = absurd (true≢false (sym h ∙ ap is_some (no_objects r input sums turns k.unit s g m k.move)))

      no_more : (s : RunState) (g : ℕ) (m : RunDeed) → IsAnyMove r d input sums turns s g m
          → ((i : ℕ) → g ≤ i → slice_get (turns_of r) i ≡ Some m.thread → turns_done deeds 0 (plan_of r d) ≤ i) → ⊥
      no_more s g m (inl k) none = none_left r d input turns o plain fresh remembers closed admitted small same_turns s g m k.move none
      no_more s g m (inr k) none = none_left_by r d input turns o plain fresh remembers closed admitted small same_turns m.thread g (owner_of r input sums turns k.unit s g m k.move) none

  pub moves_follow : (s : RunState) → Alike (like input) (plan_start r) s → (ds : List RunDeed) → Moves (IsAnyMove r d input sums turns) s 0 ds →
      Stands (like input) (turns_of r) (plan_start r) (plan_of r d) (IsAnyMove r d input sums turns) (is_plan r d o closed plain) obeys (effects s ds) (turns_done deeds 0 ds) ds
      (times deeds (turns_of r) 0 ds)
  moves_follow s a ds m = follows_plan (like input) (turns_of r) (plan_start r) (plan_of r d) (IsAnyMove r d input sums turns) (is_plan r d o closed plain) obeys s a ds m
