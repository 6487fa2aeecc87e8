-- A permitted run of an admitted input that is unbroken falls into moves, and into the portions that these are.
use Rattle.std.specs.List.{AllByRecursion as AllOf, list_any}
use Rattle.std.specs.Prelude.{if◌then◌else◌, is_some}
use Rattle.std.proofs.Common.{◌++◌, ◌<◌, ◌==◌, ◌^◌, ◌∙◌, ◌∷◌, ◌≡◌, ◌≢◌, ◌≤◌, ◌⊎◌, Bool, List, None, Option, Some, [], ap, append_assoc}
use Rattle.std.proofs.Common.{arith, drop, false, inl, inr, length, refl, subst, suc, sym, true, zero, ℕ, ℤ}
use Rattle.std.proofs.lemmas.Bool.{cases_eq, eq-eqb, lt-ltb, ne_eqb, true≢false}
use Rattle.std.proofs.lemmas.List.{length-append}
use Rattle.pg_num.specs.declared.layout.TheConstants.{MEMORY_BYTES}
use Rattle.pg_law_threads.specs.Cuts.{Mark}
use Rattle.pg_law_threads.specs.Effects.{deeds, effect, effects}
use Rattle.pg_law_threads.specs.Effects as plans
use Rattle.pg_law_threads.specs.Intervals.{Timed, done_after}
use Rattle.pg_law_threads.specs.Plans.{Alike}
use Rattle.pg_law_threads.proofs.EffectsOfSteps.{deed_refl, same_refl}
use Rattle.pg_law_threads.proofs.PlanLaw as follows
use Rattle.pg_law_threads.proofs.DoneLists.{First, all_left, all_map, find}
use Rattle.pg_ir.specs.Edges.{body_of}
use Rattle.pg_run_memory.specs.Memory.{read}
use Rattle.pg_run_memory.proofs.ReadsAndWrites.{read-small}
use Rattle.pg_run_thread.specs.LocalState.{Frame, LocalState}
use Rattle.pg_run_trace.specs.Races.{recorded}
use Rattle.pg_run_trace.specs.Steps.{access_in, event_of, happening_in}
use Rattle.pg_run_trace.specs.declared.step.Step.{Step}
use Rattle.pg_run_trace.specs.declared.step.StepKind.{StepKind}
use Rattle.pg_run_trace.specs.declared.turn.Turn.{Turn}
use Rattle.pg_region_accesses.specs.Accesses.{RootedList}
use Rattle.pg_run.specs.Runs.{IsRun, steps_of}
use Rattle.pg_run.specs.State.{State}
use Rattle.pg_slice_rules.specs.Closed.{IsClosed, admits}
use Rattle.pg_slice_rules.specs.Known.{Taken}
use Rattle.pg_slice_rules.specs.Moments.{thread_in}
use Rattle.pg_law_effects.specs.Effect.{effect_of}
use Rattle.pg_law_effects.specs.PermittedSteps.{PermittedSteps, one_more}
use Rattle.pg_law_effects.specs.Reached.{IsReached}
use Rattle.pg_law_effects.specs.Views.{begun_in, cell_at, local_at, objects_of, objects_with}
use Rattle.pg_law_effects.proofs.ReachedStates.{reached_run, reached_step}
use Rattle.pg_law_instances.specs.Inside.{Instance, IsAtJoin}
use Rattle.pg_law_instances.specs.Stays.{AreOf, IsWithinExtent}
use Rattle.pg_law_instances.proofs.JoinLeadsOut.{frames_of}
use Rattle.pg_law_plan.specs.pg_law_runs.Deeds.{owners_of}
use Rattle.pg_law_plan.proofs.of_pg_law_runs.RunsAsDeeds.{left_behind}
use Rattle.pg_law_plan.proofs.of_pg_law_runs.DeedDependence.{some_turn}
use Rattle.pg_law_plan.proofs.of_pg_law_runs.ToldCells.{IsTold, told}
use Rattle.pg_law_plan.specs.Fits.{IsAlikeFor, PlanRemembers, StartsAreFresh}
use Rattle.pg_law_plan.specs.Likes.{MovedThread, like}
use Rattle.pg_law_plan.specs.Lists.{Has}
use Rattle.pg_law_plan.specs.Moves.{LooksTo, RunDeed, RunState, deed_moved, moved}
use Rattle.pg_law_plan.specs.Order.{IsOrderedRun}
use Rattle.pg_law_plan.specs.Units.{ExtentsArePlain, PlanDeed, PlanUnit, ReferenceRun, is_instance, is_placed_in, plan_of, plan_start, reference_of, turns_of, units_of}
use Rattle.pg_law_plan.proofs.EachUnit.{IsUnit, all_units}
use Rattle.pg_law_plan.proofs.UnitSteps.{none_left_by}
use Rattle.pg_law_plan.proofs.FreeBranchEffects.{is_free}
use Rattle.pg_law_plan.proofs.ListMembers.{all_has, has_any, has_right}
use Rattle.pg_law_plan.proofs.StepsAreMoves.{moved_by, moves_lead}
use Rattle.pg_law_plan.proofs.KnownBeforeUnits.{no_if, yes_if}
use Rattle.pg_law_plan.proofs.UnitsArePlan.{is_plan}
use Rattle.pg_law_plan.proofs.StepFits.{unit_writes}
use Rattle.pg_law_plan.proofs.UnitTurns.{is_some_if}
use Rattle.pg_law_admitted.specs.Falls.{BeginWithMove, IsStepOf}
use Rattle.pg_law_admitted.specs.Free.{BeginsInstance, IsAnyMove, IsFreeMove, IsPartMove, IsSingleMove, IsWholeMove, JoinsAgain, StepsInside, UnitsJoinAgain, begun_instance, deed_along}
use Rattle.pg_law_admitted.specs.Invariant.{IsOfUnit, Portion, StandsInside, units_done}
use Rattle.pg_law_admitted.specs.Unbroken.{BeginsWith, IsUnbroken}
use Rattle.pg_law_admitted.proofs.MovesFollowPlan.{obeys}
use Rattle.pg_law_admitted.proofs.NoEventsInside.{IsLeft, begun_within, left_on, left_within}
use Rattle.pg_law_admitted.proofs.MovesAsPortions.{Falls, Left, Looks, along_next, counted_next, falls_none, in_next, left_next, mover, rests_alike, stand_free, stand_single, touches_within}
use Rattle.pg_law_admitted.proofs.UnitNumbers.{one_unit}
use Rattle.pg_law_admitted.proofs.NextUnits.{AtMove, Keeps, Open, open_unit}
use Rattle.pg_law_admitted.proofs.FrontInstances.{Part, goes_on, none_there, part, steps_behind}
use Rattle.pg_law_admitted.proofs.EventFreeStretches.{Halves, IsQuietStep, OwnFront, StretchLeaves, halves, one_end, own_front, run_halves, run_of, stretch_leaves}
use Rattle.pg_law_admitted.proofs.InstanceFits.{begun_some, joined_stands, quiet_event}

module _ (r : ReferenceRun) (d : Taken) (input : List ℤ) (sums : ℕ → Option RootedList) (turns : List Turn) (o : IsOrderedRun r) (plain : ExtentsArePlain r d) (fresh : StartsAreFresh r d)
    (remembers : PlanRemembers r d)
    (closed : IsClosed (reference_of r) d) (admitted : admits (reference_of r) d input ≡ true) (small : length input < 2 ^ 64) (same_turns : owners_of turns ≡ turns_of r)
    (again : UnitsJoinAgain r sums d)
    (begins : (u : PlanUnit) (a : RunState) (z : State) (c : ℕ → ℕ) → Has (units_of r d) u → is_instance d u.seen ≡ true → IsAlikeFor input d u a
    → LooksTo (thread_in u.seen.moment) a (moved z c) → IsReached r.program z → BeginsInstance r sums u z) where
  -- ---- one move

  module _ (at : ℕ → Option Portion) (n : ℕ) (x : Step) (xs : List Step) (le : length (x ∷ xs) ≤ suc n) (s z : State) (c taken : ℕ → ℕ) (a : RunState) (g : ℕ)
      (h : Keeps r d input sums turns o plain fresh remembers closed admitted small same_turns again a g) (reached : IsReached r.program s) (looks : Looks r d input sums turns at (x ∷ xs) a s c)
      (permitted : PermittedSteps r.gated r.program input s (drop g turns) taken (x ∷ xs) z) (unbroken : IsUnbroken (x ∷ xs))
      (more : (within : ℕ → Option Portion) (ys : List Step) → length ys ≤ n → (v w : State) (m k : ℕ → ℕ) (b : RunState) (i : ℕ)
      → Keeps r d input sums turns o plain fresh remembers closed admitted small same_turns again b i → IsReached r.program v → Looks r d input sums turns within ys b v m
      → PermittedSteps r.gated r.program input v (drop i turns) k ys w → IsUnbroken ys → Falls r d input sums turns within v b i ys w)
      (q : Open r d input sums turns o plain fresh remembers closed admitted small same_turns again a g x.thread.0) where
    -- the thread of the first step looks as it is
    looks_own : a.locals x.thread.0 ≡ (moved s c).locals x.thread.0
    looks_own = go (looks.locals x.thread.0)
      where
        go : (a.locals x.thread.0 ≡ (moved s c).locals x.thread.0) ⊎
            (IsLeft r.gated r.program x.thread.0 s × (Left r d input sums turns (at x.thread.0) x.thread.0 s × ((y : Step) → Has (x ∷ xs) y → y.thread.0 ≡ x.thread.0 → ⊥)))
            → a.locals x.thread.0 ≡ (moved s c).locals x.thread.0
        go (inl e) = e
        go (inr k) = absurd (k.1.1 x (inl refl) refl)

    looks_to : (t : ℕ) → t ≡ x.thread.0 → LooksTo t a (moved s c)
    looks_to t e = record { locals = λ v k. subst (λ (i : ℕ). a.locals i ≡ (moved s c).locals i) (sym (k ∙ e)) looks_own; cells = looks.cells; objects = looks.objects }

    -- the portion of each thread, if it is left inside of one, behind this move
    abbrev next : Option Portion → ℕ → Option Portion
    next p t = in_next r d input sums turns at x s z c a q.unit q.own q.thread looks_own looks.cells looks.objects p t

    -- a single step
    module _ (one : is_instance d q.unit.seen ≡ false) where
      abbrev e : RunDeed
      e = deed_moved r.program input s c x

      single_move : IsSingleMove r d input turns a g (deed_moved r.program input s c x)
      single_move = record {
        move = record { state = s; moves = c; taken = taken; reached = reached; told = x; looks = looks_to x.thread.0 refl; may = permitted.0; is_deed = deed_refl (deed_moved r.program input s c x) };
        single = λ u has t k. subst (λ (v : PlanUnit). is_instance d v.seen ≡ false)
            (one_unit r d q.unit u q.has has (q.own ∙ sym t) (sym q.thread.moves ∙ ap (λ (i : ℕ). (a.locals i).moves) q.own ∙ sym k)) one;
      }

      lead : (m : ℕ → ℕ) × plans.Same (effect (moved s taken) (deed_moved r.program input s taken x)) (moved permitted.0.takes.after m)
      unfolding moved_by
      lead = moves_lead r.gated r.program input (drop g turns) s taken (moved s taken) (x ∷ []) permitted.0.takes.after o.can.program small reached (same_refl (moved s taken)) (permitted.0, refl)

      own_local : (u : ℕ) → u ≡ x.thread.0 → e.to.local ≡ local_at permitted.0.takes.after u
      own_local u k = ap (λ (l : MovedThread). l.local) (sym (yes_if (u == x.thread.0) (deed_moved r.program input s taken x).to ((moved s taken).locals u) (eq-eqb u x.thread.0 k))
          ∙ lead.1.locals u)

      other_local : (u : ℕ) → (u ≡ x.thread.0 → ⊥) → local_at s u ≡ local_at permitted.0.takes.after u
      other_local u k = ap (λ (l : MovedThread). l.local) (sym (no_if (u == x.thread.0) (deed_moved r.program input s taken x).to ((moved s taken).locals u) (ne_eqb u x.thread.0 k))
          ∙ lead.1.locals u)

      holds_after : Keeps r d input sums turns o plain fresh remembers closed admitted small same_turns again (effect a (deed_moved r.program input s c x))
          (done_after (deeds.is_event (deed_moved r.program input s c x)) g)
      holds_after = (follows.step_follows (like input) (turns_of r) (plan_start r) (plan_of r d) (IsAnyMove r d input sums turns) (is_plan r d o closed plain)
          (obeys r d input sums turns o plain fresh remembers closed admitted small same_turns again) a g (deed_moved r.program input s c x) h (inl single_move)).holds

      looks_after : Looks r d input sums turns (next None) xs (effect a (deed_moved r.program input s c x)) permitted.0.takes.after (one_more x.thread.0 c)
      looks_after = record {
        locals = λ u. local_is u (cases_eq u x.thread.0) (looks.locals u);
        cells = λ b. ap (plans.or_old (e.writes b)) (looks.cells b) ∙ lead.1.cells b;
        objects = ap (plans.or_old e.objects) looks.objects ∙ lead.1.objects;
      }
        where
          local_is : (u : ℕ) → (u ≡ x.thread.0) ⊎ (u ≡ x.thread.0 → ⊥)
              → (a.locals u ≡ (moved s c).locals u)
              ⊎ (IsLeft r.gated r.program u s × (Left r d input sums turns (at u) u s × ((y : Step) → Has (x ∷ xs) y → y.thread.0 ≡ u → ⊥))) →
              ((if u == x.thread.0 then e.to else a.locals u) ≡ (moved permitted.0.takes.after (one_more x.thread.0 c)).locals u)
              ⊎ (IsLeft r.gated r.program u permitted.0.takes.after
              × (Left r d input sums turns (next None u) u permitted.0.takes.after × ((y : Step) → Has xs y → y.thread.0 ≡ u → ⊥)))
          local_is u (inl w) k = inl (yes_if (u == x.thread.0) e.to (a.locals u) (eq-eqb u x.thread.0 w)
              ∙ ap (λ (l : Option LocalState). mover l (suc (c x.thread.0))) (own_local u w)
              ∙ ap (mover (local_at permitted.0.takes.after u)) (ap (λ (i : ℕ). suc (c i)) (sym w) ∙ sym (yes_if (x.thread.0 == u) (suc (c u)) (c u) (eq-eqb x.thread.0 u (sym w)))))
          local_is u (inr ne) (inl k) = inl (no_if (u == x.thread.0) e.to (a.locals u) (ne_eqb u x.thread.0 ne) ∙ k
              ∙ ap (λ (l : Option LocalState). mover l (c u)) (other_local u ne)
              ∙ ap (mover (local_at permitted.0.takes.after u)) (sym (no_if (x.thread.0 == u) (suc (c u)) (c u) (ne_eqb x.thread.0 u (λ w. ne (sym w))))))
          local_is u (inr ne) (inr k) = inr (
            left_on r.gated r.program u s permitted.0.takes.after k.0 (other_local u ne),
            (
              left_next r d input sums turns at x s z c a q.unit q.own q.thread looks_own looks.cells looks.objects None u permitted.0.takes.after ne (other_local u ne) k.1.0,
              λ y h w. k.1.1 y (inr h) w,
            ),
          )

      permitted_after : PermittedSteps r.gated r.program input permitted.0.takes.after (drop (done_after (deeds.is_event (deed_moved r.program input s c x)) g) turns) (one_more x.thread.0 taken) xs z
      permitted_after = subst (λ (us : List Turn). PermittedSteps r.gated r.program input permitted.0.takes.after us (one_more x.thread.0 taken) xs z)
          (left_behind (event_of x) g turns ∙ ap (λ (b : Bool). drop (done_after b g) turns)
          (sym (is_some_if (is_some (event_of x)) (objects_with (effect_of r.program input s x.thread.0).thread (effect_of r.program input s x.thread.0).request (objects_of s))))) permitted.1

      told_here : IsTold x (Rattle.pg_law_plan.specs.pg_law_runs.Deeds.deed_of r.program input s c x)
      told_here = told r.gated r.program input s c x permitted.0.takes

      begin_single : BeginWithMove (deed_moved r.program input s c x) (x ∷ xs)
      begin_single = record {
        first = x;
        inner = [];
        rest = xs;
        whole = refl;
        told = refl;
        event = sym (some_turn x (happening_in x.kind)) ∙ sym (is_some_if (is_some (event_of x)) _);
        plain = tt;
        single = λ k. refl;
        steps = (record { thread = refl; reads = λ b w. told_here.reads b (told_here.read_within b w) ∙ w; writes = λ b w. told_here.writes b (told_here.written_within b w) ∙ w }, tt);
      }

      tail_unbroken : IsUnbroken xs
      unfolding IsUnbroken
      tail_unbroken = unbroken.1

      at_move : AtMove r d input q.unit a (deed_moved r.program input s c x)
      at_move = q.move (deed_moved r.program input s c x) (inl single_move) refl

      abbrev one_portion : Portion
      one_portion = record { unit = q.unit; state = s; step = x; inner = [] }

      of_unit : IsOfUnit r d input sums one_portion
      unfolding begin_single
      of_unit = record {
        has = q.has;
        rests = rests_alike r d input sums turns at x s z c a q.unit q.own q.thread looks_own looks.cells looks.objects at_move.alike;
        told = at_move.fits.told;
        touches = touches_within input d q.unit (deed_moved r.program input s c x) at_move.fits (x ∷ []) begin_single.steps;
        placed = λ p. record {
          single = refl;
          writes = λ b lt w. sym (told_here.writes b lt) ∙ unit_writes r d input o plain small closed admitted q.unit q.has fresh one turns a g
              (deed_moved r.program input s c x) single_move.move at_move.alike (sym q.own) p b (lt-ltb b MEMORY_BYTES lt) w;
        };
        single = λ e. refl;
        inside = λ e. absurd (true≢false (sym e ∙ one));
      }

      falls_single : Falls r d input sums turns at s a g (x ∷ xs) z
      unfolding begin_single
      falls_single =
          let k = more (next None) xs (omega (arith, le)) permitted.0.takes.after z (one_more x.thread.0 c) (one_more x.thread.0 taken) (effect a e) (done_after (deeds.is_event e) g) holds_after
          (reached_step r.gated r.program input s permitted.0.takes.after x.thread.0 x o.can.program small reached permitted.0.takes.is_ready permitted.0.takes.is_step) looks_after
          permitted_after tail_unbroken in
          record {
            moves = e ∷ k.moves;
            are = (inl single_move, k.are);
            fall = (begin_single, k.fall);
            counts = k.counts;
            locals = k.locals;
            cells = k.cells;
            objects = k.objects;
            portions = one_portion ∷ k.portions;
            whole = ap (λ (l : List Step). x ∷ l) k.whole;
            chained = (refl, (permitted.0.takes.after, (permitted.0.takes, refl), k.chained));
            each = (of_unit, k.each);
            along = along_next r d input sums turns at x s z c a q.unit q.own q.thread looks_own looks.cells looks.objects one_portion refl
                (deed_moved r.program input s c x) refl refl at_move.turn k.portions k.along;
            counted = counted_next r d input sums turns at x s z c a q.unit q.own q.thread looks_own looks.cells looks.objects (deed_moved r.program input s c x) refl refl k.moves
                (units_done k.portions) k.counted;
            stand = λ t. stand_single r d input sums turns at x s z c a q.unit q.own q.thread looks_own looks.cells looks.objects one_portion refl k.portions
                (effects (effect a (deed_moved r.program input s c x)) k.moves) t (k.stand t);
          }

    -- an instance, whole or a part of it
    module _ (free : is_instance d q.unit.seen ≡ true) where
      begun : BeginsInstance r sums q.unit s
      begun = begins q.unit a s c q.has free (q.free free) (looks_to (thread_in q.unit.seen.moment) q.own) reached

      abbrev I : Instance
      I = begun_instance r sums q.unit s begun

      front : OwnFront (thread_in q.unit.seen.moment) xs
      front = own_front (thread_in q.unit.seen.moment) xs

      run : (m : State) × IsRun r.gated r.program input s (x ∷ front.front) m × IsRun r.gated r.program input m front.behind z
      run = run_halves r.gated r.program input s z (x ∷ front.front) front.behind
          (subst (λ (l : List Step). IsRun r.gated r.program input s (x ∷ l) z) front.whole (run_of r.gated r.program input (drop g turns) taken s z (x ∷ xs) permitted))

      here : Part I r.gated input (thread_in q.unit.seen.moment) s x front.front
      here = part I r.gated input (thread_in q.unit.seen.moment) s run.0 begun.local x front.front begun.can run.1 (sym q.own, front.own)

      xs_are : xs ≡ here.inner ++ (here.rest ++ front.behind)
      xs_are = front.whole ∙ ap (λ (l : List Step). l ++ front.behind) here.parts ∙ append_assoc here.inner here.rest front.behind

      quiet : AllOf IsQuietStep (x ∷ here.inner)
      quiet = all_map (λ y w. ap is_some (quiet_event I y.kind w)) (x ∷ here.inner) here.tells

      own : AllOf (λ (y : Step). y.thread.0 ≡ thread_in q.unit.seen.moment) (x ∷ here.inner)
      own = (sym q.own, all_left (λ (y : Step). y.thread.0 ≡ thread_in q.unit.seen.moment) here.inner here.rest (subst (AreOf (thread_in q.unit.seen.moment)) here.parts front.own))

      cut_run : Halves r.gated r.program input s (drop g turns) taken (x ∷ here.inner) (here.rest ++ front.behind) z
      cut_run = halves r.gated r.program input (drop g turns) taken s z (x ∷ here.inner) (here.rest ++ front.behind) quiet
          (subst (λ (l : List Step). PermittedSteps r.gated r.program input s (drop g turns) taken (x ∷ l) z) xs_are permitted)

      same_end : cut_run.state ≡ here.state
      same_end = one_end r.gated r.program input s cut_run.state here.state (x ∷ here.inner)
          (run_of r.gated r.program input (drop g turns) taken s cut_run.state (x ∷ here.inner) cut_run.front) here.run

      permitted_behind : PermittedSteps r.gated r.program input here.state (drop g turns) cut_run.counts' (here.rest ++ front.behind) z
      permitted_behind = subst (λ (v : State). PermittedSteps r.gated r.program input v (drop g turns) cut_run.counts' (here.rest ++ front.behind) z) same_end cut_run.behind

      leaves : StretchLeaves r.gated r.program input (thread_in q.unit.seen.moment) (x ∷ here.inner) s here.state
      leaves = stretch_leaves r.gated r.program input o.can.program small (drop g turns) taken (thread_in q.unit.seen.moment) s here.state (x ∷ here.inner)
          (subst (λ (v : State). PermittedSteps r.gated r.program input s (drop g turns) taken (x ∷ here.inner) v) same_end cut_run.front) reached own quiet

      reached_behind : IsReached r.program here.state
      reached_behind = reached_run r.gated r.program input s here.state (x ∷ here.inner) o.can.program small reached here.run

      unbroken_all : IsUnbroken (x ∷ (here.inner ++ (here.rest ++ front.behind)))
      unbroken_all = subst (λ (l : List Step). IsUnbroken (x ∷ l)) xs_are unbroken

      abbrev inside : StepsInside r input sums turns q.unit a g
      inside = record {
        state = s;
        moves = c;
        taken = taken;
        reached = reached;
        looks = looks_to (thread_in q.unit.seen.moment) q.own;
        begun = begun;
        told = x;
        inner = here.inner;
        end = here.state;
        may = permitted.0;
        run = here.run;
        own = own;
        tells = here.tells;
        changes = here.changes;
      }

      shorter : length (here.rest ++ front.behind) ≤ n
      shorter = let k = ap length xs_are in let l = length-append here.inner (here.rest ++ front.behind) in omega (arith, le, k, l)

      abbrev portion : Portion
      portion = record { unit = q.unit; state = s; step = x; inner = here.inner }

      unit_is : IsUnit r d q.unit
      unit_is = all_has (IsUnit r d) (units_of r d) q.unit (all_units r d o) q.has

      module _ (local : LocalState) (there : (Some local ≡ local_at here.state x.thread.0)
          ⊎ (IsLeft r.gated r.program x.thread.0 here.state
          × (StandsInside r d sums portion x.thread.0 here.state × ((y : Step) → Has (here.rest ++ front.behind) y → y.thread.0 ≡ x.thread.0 → ⊥))))
          (is_move : IsWholeMove r input sums turns q.unit a g (deed_along c x here.inner here.state (Some local))
          ⊎ IsPartMove r input sums turns q.unit a g (deed_along c x here.inner here.state (Some local))) where
        free_move : IsFreeMove r d input sums turns a g (deed_along c x here.inner here.state (Some local))
        free_move = record { unit = q.unit; has = q.has; free = free; move = is_move; units = q.thread.moves; thread = sym q.own }

        holds_behind : Keeps r d input sums turns o plain fresh remembers closed admitted small same_turns again (effect a (deed_along c x here.inner here.state (Some local))) g
        holds_behind = (follows.step_follows (like input) (turns_of r) (plan_start r) (plan_of r d) (IsAnyMove r d input sums turns) (is_plan r d o closed plain)
            (obeys r d input sums turns o plain fresh remembers closed admitted small same_turns again) a g (deed_along c x here.inner here.state (Some local)) h (inr free_move)).holds

        looks_behind : Looks r d input sums turns (next (Some portion)) (here.rest ++ front.behind) (effect a (deed_along c x here.inner here.state (Some local))) here.state (one_more x.thread.0 c)
        looks_behind = record {
          locals = λ u. local_is u (cases_eq u x.thread.0) there (looks.locals u);
          cells = λ b. cell_is b (list_any (λ y. recorded.writes y b) (x ∷ here.inner)) refl;
          objects = looks.objects ∙ sym leaves.objects;
        }
          where
            cell_is : (b : ℕ) (w : Bool) → list_any (λ y. recorded.writes y b) (x ∷ here.inner) ≡ w
                → plans.or_old (if w then Some (cell_at here.state b) else None) (a.cells b) ≡ cell_at here.state b
            cell_is b true w = refl
            cell_is b false w = looks.cells b ∙ sym (leaves.cells b w)

            local_is : (u : ℕ) → (u ≡ x.thread.0) ⊎ (u ≡ x.thread.0 → ⊥)
                → (Some local ≡ local_at here.state x.thread.0) ⊎
                (IsLeft r.gated r.program x.thread.0 here.state
                × (StandsInside r d sums portion x.thread.0 here.state × ((y : Step) → Has (here.rest ++ front.behind) y → y.thread.0 ≡ x.thread.0 → ⊥))) →
                (a.locals u ≡ (moved s c).locals u) ⊎ (IsLeft r.gated r.program u s × (Left r d input sums turns (at u) u s × ((y : Step) → Has (x ∷ xs) y → y.thread.0 ≡ u → ⊥))) →
                ((if u == x.thread.0 then (deed_along c x here.inner here.state (Some local)).to else a.locals u) ≡ (moved here.state (one_more x.thread.0 c)).locals u)
                ⊎ (IsLeft r.gated r.program u here.state
                × (Left r d input sums turns (next (Some portion) u) u here.state × ((y : Step) → Has (here.rest ++ front.behind) y → y.thread.0 ≡ u → ⊥)))
            local_is u (inl e) (inl t) k = inl (yes_if (u == x.thread.0) (deed_along c x here.inner here.state (Some local)).to (a.locals u) (eq-eqb u x.thread.0 e)
                ∙ ap (λ (l : Option LocalState). mover l (suc (c x.thread.0))) (t ∙ ap (local_at here.state) (sym e))
                ∙ ap (mover (local_at here.state u)) (ap (λ (i : ℕ). suc (c i)) (sym e) ∙ sym (yes_if (x.thread.0 == u) (suc (c u)) (c u) (eq-eqb x.thread.0 u (sym e)))))
            local_is u (inl e) (inr t) k = inr (
              subst (λ (i : ℕ). IsLeft r.gated r.program i here.state) (sym e) t.0,
              (
                subst (λ (p : Option Portion). Left r d input sums turns p u here.state) (sym (yes_if (u == x.thread.0) (Some portion) (at u) (eq-eqb u x.thread.0 e)))
                    (subst (λ (i : ℕ). StandsInside r d sums portion i here.state) (sym e) t.1.0),
                λ y h w. t.1.1 y h (w ∙ e),
              ),
            )
            local_is u (inr ne) t (inl k) = inl (no_if (u == x.thread.0) (deed_along c x here.inner here.state (Some local)).to (a.locals u) (ne_eqb u x.thread.0 ne) ∙ k
                ∙ ap (λ (l : Option LocalState). mover l (c u)) (sym (leaves.locals u (λ w. ne (w ∙ q.own))))
                ∙ ap (mover (local_at here.state u)) (sym (no_if (x.thread.0 == u) (suc (c u)) (c u) (ne_eqb x.thread.0 u (λ w. ne (sym w))))))
            local_is u (inr ne) t (inr k) = inr (
              left_on r.gated r.program u s here.state k.0 (sym (leaves.locals u (λ w. ne (w ∙ q.own)))),
              (
                left_next r d input sums turns at x s z c a q.unit q.own q.thread looks_own looks.cells looks.objects (Some portion) u here.state ne
                    (sym (leaves.locals u (λ w. ne (w ∙ q.own)))) k.1.0,
                λ y h w. k.1.1 y (inr (subst (λ (l : List Step). Has l y) (sym xs_are) (has_right here.inner (here.rest ++ front.behind) y h))) w,
              ),
            )

        begin_free : BeginWithMove (deed_along c x here.inner here.state (Some local)) (x ∷ xs)
        begin_free = record {
          first = x;
          inner = here.inner;
          rest = here.rest ++ front.behind;
          whole = ap (λ (l : List Step). x ∷ l) xs_are;
          told = refl;
          event = quiet.0;
          plain = quiet.1;
          single = λ k. absurd (true≢false (sym k));
          steps = each_step (x ∷ here.inner) (λ y k. k) own;
        }
          where
            each_step : (zs : List Step) → ((y : Step) → Has zs y → Has (x ∷ here.inner) y) → AllOf (λ (y : Step). y.thread.0 ≡ thread_in q.unit.seen.moment) zs
                → AllOf (IsStepOf (deed_along c x here.inner here.state (Some local))) zs
            each_step [] f w = tt
            each_step (y ∷ zs) f w = (
              record {
                thread = w.0 ∙ q.own;
                reads = λ b k. has_any (λ (v : Step). recorded.reads v b) (x ∷ here.inner) y (f y (inl refl)) k;
                writes = λ b k. is_some_if (list_any (λ (v : Step). recorded.writes v b) (x ∷ here.inner)) (cell_at here.state b)
                    ∙ has_any (λ (v : Step). recorded.writes v b) (x ∷ here.inner) y (f y (inl refl)) k;
              },
              each_step zs (λ v k. f v (inr k)) w.1,
            )

        at_free : AtMove r d input q.unit a (deed_along c x here.inner here.state (Some local))
        at_free = q.move (deed_along c x here.inner here.state (Some local)) (inr free_move) refl

        of_free : IsOfUnit r d input sums portion
        unfolding begin_free
        of_free = record {
          has = q.has;
          rests = rests_alike r d input sums turns at x s z c a q.unit q.own q.thread looks_own looks.cells looks.objects (q.free free);
          told = at_free.fits.told;
          touches = touches_within input d q.unit (deed_along c x here.inner here.state (Some local)) at_free.fits (x ∷ here.inner) begin_free.steps;
          placed = λ p. absurd (true≢false
              (sym p ∙ ap (λ (k : StepKind). is_placed_in d q.unit.seen.number (access_in k)) (is_free (reference_of r) d q.unit.seen unit_is.met.region free).kind));
          single = λ e. absurd (true≢false (sym free ∙ e));
          inside = λ e. record { begun = begun; own = own; tells = here.tells };
        }

        falls_free : Falls r d input sums turns at s a g (x ∷ xs) z
        unfolding begin_free
        falls_free =
            let k = more (next (Some portion)) (here.rest ++ front.behind) shorter here.state z (one_more x.thread.0 c) cut_run.counts'
            (effect a (deed_along c x here.inner here.state (Some local))) g holds_behind reached_behind looks_behind permitted_behind
            (steps_behind (x ∷ here.inner) (here.rest ++ front.behind) unbroken_all) in
            record {
              moves = deed_along c x here.inner here.state (Some local) ∷ k.moves;
              are = (inr free_move, k.are);
              fall = (begin_free, k.fall);
              counts = k.counts;
              locals = k.locals;
              cells = k.cells;
              objects = k.objects;
              portions = portion ∷ k.portions;
              whole = ap (λ (l : List Step). x ∷ (here.inner ++ l)) k.whole ∙ ap (λ (l : List Step). x ∷ l) (sym xs_are);
              chained = (refl, (here.state, here.run, k.chained));
              each = (of_free, k.each);
              along = along_next r d input sums turns at x s z c a q.unit q.own q.thread looks_own looks.cells looks.objects portion refl
                  (deed_along c x here.inner here.state (Some local)) refl refl at_free.turn k.portions k.along;
              counted = counted_next r d input sums turns at x s z c a q.unit q.own q.thread looks_own looks.cells looks.objects
                  (deed_along c x here.inner here.state (Some local)) refl refl k.moves (units_done k.portions) k.counted;
              stand = λ t. stand_free r d input sums turns at x s z c a q.unit q.own q.thread looks_own looks.cells looks.objects portion refl k.portions
                  (effects (effect a (deed_along c x here.inner here.state (Some local))) k.moves) t (k.stand t);
            }

      -- the branch's frame, moved to the join
      abbrev fake_frame : Frame
      fake_frame = record { function = begun.frame.function; place = body_of r.program begun.region.join; registers = begun.frame.registers; height = begun.frame.height }

      abbrev fake : LocalState
      fake = record { thread = begun.local.thread; begun = true; halfway = false; frames = fake_frame ∷ begun.lower; heap = begun.local.heap }

      abbrev fake_joined : IsAtJoin I fake
      fake_joined = record {
        thread = refl;
        begun = refl;
        halfway = refl;
        heap = refl;
        frame = fake_frame;
        frames = refl;
        joined = record { place = refl; function = refl; height = refl; kept = λ k e. refl };
      }

      joins_again : JoinsAgain r sums q.unit
      joins_again = all_has (λ (v : PlanUnit). is_instance d v.seen ≡ true → JoinsAgain r sums v) (units_of r d) q.unit again q.has free

      falls_whole : IsAtJoin I here.local → Falls r d input sums turns at s a g (x ∷ xs) z
      falls_whole joined = falls_free here.local (inl (sym (ap (local_at here.state) (sym q.own) ∙ ap begun_in here.is_local ∙ begun_some here.local joined.begun)))
          (inl (record { steps = inside; local = here.local; is_local = here.is_local; joined = joined; is_deed = deed_refl (deed_along c x here.inner here.state (Some here.local)) }))

      falls_part : here.rest ≡ [] → IsWithinExtent I here.local → Falls r d input sums turns at s a g (x ∷ xs) z
      falls_part none within = falls_free fake (inr (subst (λ (i : ℕ). IsLeft r.gated r.program i here.state) q.own left, (still_inside, λ y k e. gone y k e)))
          (inr (record {
            steps = inside;
            local = fake;
            stands = joined_stands r d input sums turns q.unit unit_is free a g inside (q.free free) fake fake_joined refl joins_again;
            is_deed = deed_refl (deed_along c x here.inner here.state (Some fake));
          }))
        where
          begun_here : local_at here.state (thread_in q.unit.seen.moment) ≡ Some here.local
          begun_here = ap begun_in here.is_local ∙ begun_some here.local
              (begun_within I r.gated (read s.memory) here.local begun.can.branch begun.can.gates begun.can.cells (λ k. read-small s.memory k) within)

          still_inside : StandsInside r d sums portion x.thread.0 here.state
          still_inside = record { own = q.own; free = free; begun = begun; local = here.local; is_local = ap (local_at here.state) (sym q.own) ∙ begun_here; within = within }

          left : IsLeft r.gated r.program (thread_in q.unit.seen.moment) here.state
          left = left_within I r.gated (read s.memory) here.local begun.can.branch begun.can.gates begun.can.cells (λ k. read-small s.memory k) within (thread_in q.unit.seen.moment) here.state
              begun_here
              (frames_of r.program here.state (thread_in q.unit.seen.moment) here.local reached_behind here.is_local)

          behind_is : here.rest ++ front.behind ≡ front.behind
          behind_is = ap (λ (l : List Step). l ++ front.behind) none

          gone : (y : Step) → Has (here.rest ++ front.behind) y → y.thread.0 ≡ x.thread.0 → ⊥
          gone y k e = by (goes_on (thread_in q.unit.seen.moment) x here.inner (here.rest ++ front.behind) own quiet unbroken_all)
            where
              by : BeginsWith (thread_in q.unit.seen.moment) (here.rest ++ front.behind) ⊎ (steps_of (thread_in q.unit.seen.moment) (here.rest ++ front.behind) ≡ 0) → ⊥
              by (inl b) = front.stops (subst (BeginsWith (thread_in q.unit.seen.moment)) behind_is b)
              by (inr m) = none_there (thread_in q.unit.seen.moment) (here.rest ++ front.behind) y k (e ∙ sym q.own) m

      falls_instance : Falls r d input sums turns at s a g (x ∷ xs) z
      falls_instance = by here.ends
        where
          by : IsAtJoin I here.local ⊎ ((here.rest ≡ []) × IsWithinExtent I here.local) → Falls r d input sums turns at s a g (x ∷ xs) z
          by (inl joined) = falls_whole joined
          by (inr k) = falls_part k.0 k.1

    falls_one : Falls r d input sums turns at s a g (x ∷ xs) z
    falls_one = by (is_instance d q.unit.seen) refl
      where
        by : (b : Bool) → is_instance d q.unit.seen ≡ b → Falls r d input sums turns at s a g (x ∷ xs) z
        by true e = falls_instance e
        by false e = falls_single e

  -- ---- the run

  falls : (at : ℕ → Option Portion) (n : ℕ) (xs : List Step) → length xs ≤ n → (s z : State) (c taken : ℕ → ℕ) (a : RunState) (g : ℕ)
      → Keeps r d input sums turns o plain fresh remembers closed admitted small same_turns again a g → IsReached r.program s → Looks r d input sums turns at xs a s c
      → PermittedSteps r.gated r.program input s (drop g turns) taken xs z → IsUnbroken xs → Falls r d input sums turns at s a g xs z
  falls at n [] le s z c taken a g h reached looks permitted unbroken = falls_none r d input sums turns at s z a g c looks permitted
  falls at zero (x ∷ xs) le s z c taken a g h reached looks permitted unbroken = absurd (omega (arith, le))
  falls at (suc n) (x ∷ xs) le s z c taken a g h reached looks permitted unbroken = by (find deeds x.thread.0 h.cut.marks) (λ l ys k v w m i b j. falls l n ys k v w m i b j)
    where
      by : AllOf (λ (m : Mark (Timed PlanDeed)). m.done ≡ false → m.step.did.thread ≢ x.thread.0) h.cut.marks ⊎ First deeds x.thread.0 h.cut.marks →
          ((within : ℕ → Option Portion) (ys : List Step) → length ys ≤ n → (v w : State) (m k : ℕ → ℕ) (b : RunState) (i : ℕ)
          → Keeps r d input sums turns o plain fresh remembers closed admitted small same_turns again b i → IsReached r.program v → Looks r d input sums turns within ys b v m
          → PermittedSteps r.gated r.program input v (drop i turns) k ys w → IsUnbroken ys → Falls r d input sums turns within v b i ys w)
          → Falls r d input sums turns at s a g (x ∷ xs) z
      by (inl none) more = absurd (none_left_by r d input turns o plain fresh remembers closed admitted small same_turns x.thread.0 g permitted.0.owner
          (follows.no_turn_left (like input) (turns_of r) (plan_start r) (plan_of r d) (IsAnyMove r d input sums turns) (is_plan r d o closed plain)
          (obeys r d input sums turns o plain fresh remembers closed admitted small same_turns again) a g h x.thread.0 none))
      by (inr f) more = falls_one at n x xs le s z c taken a g h reached looks permitted unbroken more
          (open_unit r d input sums turns o plain fresh remembers closed admitted small same_turns again a g h x.thread.0 f)

  pub run_falls : (xs : List Step) (s z : State) (a : RunState) (c taken : ℕ → ℕ) → Alike (like input) (plan_start r) a → IsReached r.program s → plans.Same a (moved s c)
      → PermittedSteps r.gated r.program input s turns taken xs z → IsUnbroken xs → Falls r d input sums turns (λ t. None) s a 0 xs z
  run_falls xs s z a c taken alike reached same permitted unbroken = falls (λ t. None) (length xs) xs (let k : length xs ≤ length xs = omega arith in k) s z c taken a 0
      (follows.at_start (like input) (turns_of r) (plan_start r) (plan_of r d) (IsAnyMove r d input sums turns) (is_plan r d o closed plain)
      (obeys r d input sums turns o plain fresh remembers closed admitted small same_turns again) a alike)
      reached (record { locals = λ t. inl (same.locals t); cells = same.cells; objects = same.objects }) permitted unbroken
