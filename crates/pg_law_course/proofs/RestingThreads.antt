-- How threads rest where the full guided run ends.
use Rattle.std.proofs.Common.{◌≡◌, ◌≢◌, ℕ, ℤ, zero, suc, ◌+◌, ◌-◌, ◌≤◌, List, [], ◌∷◌, length, drop, Bool, true, false, cond, Option, Some, None, refl, sym, ◌∙◌, ap, subst, arith, ◌⊎◌, inl, inr}
use Rattle.std.specs.Prelude.{◌==◌, ◌||◌, is_some, nat_le, slice_get, take, if◌then◌else◌}
use Rattle.std.specs.List.{filter}
use Rattle.std.proofs.lemmas.Bool.Decides.{nat_tests}
use Rattle.std.proofs.lemmas.Option.{slice_get_within}
use Rattle.pg_num.specs.Numbers.{signed, truncated}
use Rattle.pg_num.specs.declared.width.Width.TheVariants.{W32}
use Rattle.pg_num.specs.declared.limits.TheConstants.{GUIDED_STEP_LIMIT}
use Rattle.pg_ir.specs.declared.ids.InstrId.{InstrId}
use Rattle.pg_ir.specs.declared.request.Request.TheVariants as requests
use Rattle.pg_ir.specs.declared.request.TrapName.{TrapName}
use Rattle.pg_ir.specs.Program.{NumberedProgram}
use Rattle.pg_law_threads.specs.Effects.{Same, deeds, effects}
use Rattle.pg_law_threads.specs.Intervals.{turns_done}
use Rattle.pg_law_threads.specs.Plans.{is_of_thread}
use Rattle.pg_run_objects.specs.Sync as sync
use Rattle.pg_run_thread.specs.declared.action.Action.{Action}
use Rattle.pg_run_thread.specs.declared.action.Action.TheVariants as actions
use Rattle.pg_run_thread.specs.LocalState.{LocalState, fresh}
use Rattle.pg_run_thread.specs.Step.{next}
use Rattle.pg_run_thread.specs.Told.{id_of}
use Rattle.pg_run_trace.specs.declared.schedule.Schedule.{Schedule}
use Rattle.pg_run_trace.specs.declared.step.Step.{Step}
use Rattle.pg_run_trace.specs.declared.turn.Turn.{Turn}
use Rattle.pg_run.specs.declared.guided_end.GuidedEnd.{GuidedEnd}
use Rattle.pg_run.specs.declared.guided_end.GuidedEnd.TheVariants as ends
use Rattle.pg_run.specs.State.{State, action_in, exit_value_of, initial, instr_of, next_of}
use Rattle.pg_run.specs.MachineStep.{is_ended, trap_of}
use Rattle.pg_run.specs.Permitted.{IsHeld, IsHeldBy, end_before, full_end, has_spent as spent_in, has_turn, trapped, traps, turns_left}
use Rattle.pg_run.specs.Runs.{events, steps_of as step_count}
use Rattle.pg_run.proofs.GuidedRuns.{same_as_itself, same_number}
use Rattle.pg_run.proofs.StepsBegin.{next_is}
use Rattle.pg_law_runs.specs.pg_law_effects.Effect.{effect, effect_of}
use Rattle.pg_law_runs.specs.pg_law_effects.PermittedSteps.{none_taken, one_more}
use Rattle.pg_law_runs.specs.pg_law_effects.Reached.{IsReached}
use Rattle.pg_law_runs.specs.pg_law_effects.Views.{local_at}
use Rattle.pg_law_runs.proofs.of_pg_law_effects.FullGuidedRun.{full_is}
use Rattle.pg_law_runs.proofs.of_pg_law_effects.GuidedWalks.{one_more_step, other_step}
use Rattle.pg_law_runs.proofs.of_pg_law_effects.ReachedStates.{reached_first, reached_run}
use Rattle.pg_law_runs.specs.Cuts.{CanRun}
use Rattle.pg_law_runs.specs.Deeds.{Did, Thread, deed_of, deeds_of, goes_on, is_event_at, owners_of, seen}
use Rattle.pg_law_runs.proofs.CutRuns as cuts
use Rattle.pg_law_runs.proofs.DeedDependence.{get_behind}
use Rattle.pg_law_runs.proofs.MaximalRuns.{turn_there}
use Rattle.pg_law_runs.proofs.RunsAsDeeds.{flipped}
use Rattle.pg_law_runs.proofs.StepRules.{instr_is, next_fresh, turn_is}
use Rattle.pg_law_order.specs.Good.{IsGoodRun, run_along}
use Rattle.pg_law_order.proofs.GoodRunsServe.{same_end, stays}
use Rattle.pg_law_course.specs.Course.{course, next_turn, state_at, turns_in, turns_of}
use Rattle.pg_law_course.specs.Threads.{start_function}
use Rattle.pg_law_course.specs.Plan.{first_seen, guided_deeds, turn_count}
use Rattle.pg_law_course.specs.Rests.{RestsAt, exit_end, has_spent, held_end, is_trap, trap_end}
use Rattle.pg_law_course.proofs.ActionCells.{word_same}
use Rattle.pg_law_course.proofs.CoursePlaces.{local_left, take_all, thread_behind}
use Rattle.pg_law_course.proofs.CourseSteps as steps
use Rattle.pg_law_course.proofs.GuidedPlan.{is_plan, ordered_full}
use Rattle.pg_law_course.proofs.TurnNumbers.{NextTurn, below, next_at, own_turns}

-- ---- what holds a thread

-- how a thread rests, by its next action
abbrev pub Resting : List InstrId → ℕ → Action → Bool → Type 0
Resting gated id action spent = ((goes_on action ≡ false) ⊎ (spent ≡ true)) ⊎ (is_event_at gated id action ≡ true)

spent_or : (b : Bool) → (b || false) ≡ true → b ≡ true
spent_or true e = refl
spent_or false e = absurd cc

rests_by : (gated : List InstrId) (id : ℕ) (s : State) (t : ℕ) (action : Action) (spent : Bool) → (is_ended action || is_some (trap_of s t action) || spent || is_event_at gated id action) ≡ true
    → Resting gated id action spent
rests_by gated id s t (actions.Event r) spent h = inr refl
rests_by gated id s t (actions.Trap name) spent h = inl (inl refl)
rests_by gated id s t actions.Ended spent h = inl (inl refl)
rests_by gated id s t (actions.Load q) true h = inl (inr refl)
rests_by gated id s t (actions.Load q) false h = inr h
rests_by gated id s t (actions.Store q n) true h = inl (inr refl)
rests_by gated id s t (actions.Store q n) false h = inr h
rests_by gated id s t action spent h = inl (inr (spent_or spent h))

held_rests : (gated : List InstrId) (id : ℕ) (s : State) (t : ℕ) (action : Action) (spent : Bool) → (is_some (trap_of s t action) || spent) ≡ true → Resting gated id action spent
held_rests gated id s t (actions.Event r) spent h = inr refl
held_rests gated id s t (actions.Trap name) spent h = inl (inl refl)
held_rests gated id s t actions.Ended spent h = inl (inl refl)
held_rests gated id s t action spent h = inl (inr h)

-- ---- counts

plus_one : (n : ℕ) → 1 + n ≡ suc n
plus_one n = omega arith

module _ (p : NumberedProgram) (input : List ℤ) where
  count_steps : (s : State) (counts : ℕ → ℕ) (t : ℕ) (xs : List Step) → step_count t xs ≡ length (filter (is_of_thread t) (deeds_of p input s counts xs))
  unfolding deeds_of
  count_steps s counts t [] = refl
  count_steps s counts t (x ∷ xs) = go (t == x.thread.0) refl (count_steps (effect s (effect_of p input s x.thread.0)) (one_more x.thread.0 counts) t xs)
    where
      go : (b : Bool) → (t == x.thread.0) ≡ b
          → step_count t xs ≡ length (filter (is_of_thread t) (deeds_of p input (effect s (effect_of p input s x.thread.0)) (one_more x.thread.0 counts) xs))
          → step_count t (x ∷ xs) ≡ length (cond (t == x.thread.0) (deed_of p input s counts x
          ∷ filter (is_of_thread t) (deeds_of p input (effect s (effect_of p input s x.thread.0)) (one_more x.thread.0 counts) xs))
          (filter (is_of_thread t) (deeds_of p input (effect s (effect_of p input s x.thread.0)) (one_more x.thread.0 counts) xs)))
      go true q ih = rw q (one_more_step t x xs (sym (same_number t x.thread.0 q)) ∙ plus_one (step_count t xs) ∙ ap suc ih)
      go false q ih = rw q (other_step t x xs (λ e. let k : true ≡ false = sym (same_as_itself t) ∙ ap (λ (i : ℕ). t == i) (sym e) ∙ q in absurd cc) ∙ ih)

one_state : (a b : LocalState) → Path (Option LocalState) (Some a) (Some b) → a ≡ b
one_state a b e = cc

unmade_next : (p : NumberedProgram) (w : State) (t : ℕ) → slice_get w.locals t ≡ None → next_of p w t ≡ actions.Ended
unfolding next_of
unmade_next p w t e = ap (action_in p) e

spent_none : nat_le GUIDED_STEP_LIMIT 0 ≡ false
spent_none = grind (arith, nat_tests)

drop_nothing : {A : Type 0} (xs : List A) → drop (length xs) xs ≡ []
drop_nothing [] = refl
drop_nothing (x ∷ xs) = drop_nothing xs

not_strayed : (b : Bool) (w : State) (e : GuidedEnd) → e ≡ (if b then ends.Exit (exit_value_of w) else ends.Strayed) → e ≢ ends.Strayed
    → e ≡ ends.Exit (exit_value_of w)
not_strayed true w e h n = h
not_strayed false w e h n = absurd (n h)

module _ (p : NumberedProgram) (input : List ℤ) (s : Schedule) (can : CanRun p input) (g : IsGoodRun p input s) where
  last_reached : IsReached p (run_along p input s).state
  last_reached = reached_run s.gated p input (initial p) (run_along p input s).state (run_along p input s).trace can.program can.small (reached_first p can.program can.bytes)
      (ordered_full p input s can g).permitted.run

  looks : Same (effects (first_seen p) (guided_deeds p input s)) (seen (run_along p input s).state (λ t. step_count t (run_along p input s).trace))
  unfolding guided_deeds
  looks = cuts.looks p input s.turns s.gated can (run_along p input s).trace (run_along p input s).state (ordered_full p input s can g).permitted

  turns_are : turn_count p input s ≡ length (events (run_along p input s).trace)
  unfolding guided_deeds
  turns_are = cuts.done_is p input s.turns s.gated can (run_along p input s).trace

  steps_are : (t : ℕ) → step_count t (run_along p input s).trace ≡ length (course p input s t)
  unfolding guided_deeds
  steps_are t = count_steps p input (initial p) none_taken t (run_along p input s).trace

  local_is : (t : ℕ) → local_at (run_along p input s).state t ≡ (thread_behind ((first_seen p).locals t) (take (length (course p input s t)) (course p input s t))).local
  local_is t = ap (λ (h : Thread). h.local) (sym (looks.locals t) ∙ local_left (first_seen p) t (guided_deeds p input s) ∙ ap (thread_behind ((first_seen p).locals t)) (sym (take_all (course p input s t))))

  -- the run ends as its last state says
  end_is : (run_along p input s).end ≡ full_end p s.turns (run_along p input s).trace (run_along p input s).state
  end_is = same_end p input s ∙ sym ((full_is p input s.turns s.gated).full (stays p input s g)).1

  -- ---- a run that does all turns

  pub exits : turn_count p input s ≡ length s.turns → (run_along p input s).end ≡ exit_end p input s
  exits e =
      let none : turns_left s.turns (run_along p input s).trace ≡ [] = ap (λ (n : ℕ). drop n s.turns) (sym turns_are ∙ e) ∙ drop_nothing s.turns in
      let ended : (run_along p input s).end ≡ ends.Exit (exit_value_of (run_along p input s).state) =
      not_strayed (sync.over (run_along p input s).state.sync) (run_along p input s).state (run_along p input s).end
      (end_is ∙ ap (λ (us : List Turn). end_before p (run_along p input s).trace (run_along p input s).state us) none) g.arrives in
      ended ∙ ap (λ (n : ℕ). ends.Exit (signed W32
      (truncated W32 n)))
      (last_reached.value ∙ sym (word_same (run_along p input s).state (effects (first_seen p) (guided_deeds p input s)).cells looks.cells 0))

  -- ---- a thread with a turn left

  module _ (t : ℕ) (l : LocalState) (n : ℕ) (now : state_at p input s t (length (course p input s t)) ≡ Some l) (left : next_turn p input s t (length (course p input s t)) ≡ Some n) where
    count_turns : turns_in p input s t (length (course p input s t)) ≡ below t (turn_count p input s) (owners_of s.turns)
    count_turns =
        let c = own_turns t (owners_of s.turns) 0 (guided_deeds p input s) (is_plan p input s can g).turns in
        ap (λ (ds : List Did). length (filter deeds.is_event ds)) (take_all (course p input s t)) ∙ sym (plus_zero c)
      where
        plus_zero : {m k : ℕ} → m ≡ 0 + k → m ≡ k
        plus_zero e = omega (arith, e)

    there : NextTurn t 0 (turn_count p input s) (owners_of s.turns) n
    there = next_at t 0 (turn_count p input s) (owners_of s.turns) n (ap (slice_get (turns_of t s.turns)) (sym count_turns) ∙ left)

    number : n ≡ there.turn
    number = let e = there.number in omega (arith, e)

    own : slice_get (owners_of s.turns) n ≡ Some t
    own = ap (slice_get (owners_of s.turns)) number ∙ there.own

    behind : turn_count p input s ≤ n
    behind = let f = there.from in let e = number in omega (arith, f, e)

    -- the same among the turns that are left
    own_left : slice_get (owners_of (turns_left s.turns (run_along p input s).trace)) (n - turn_count p input s) ≡ Some t
    own_left =
        ap (λ (m : ℕ). slice_get (owners_of (drop m s.turns)) (n - turn_count p input s)) (sym turns_are)
        ∙ get_behind s.gated p input (turn_count p input s) s.turns (n - turn_count p input s) ∙ ap (slice_get (owners_of s.turns)) (sum (turn_count p input s) n behind) ∙ own
      where
        sum : (c n : ℕ) → c ≤ n → c + (n - c) ≡ n
        sum c n h = omega (arith, h)

    spent_is : spent_in (run_along p input s).trace t ≡ has_spent (length (course p input s t))
    spent_is = ap (nat_le GUIDED_STEP_LIMIT) (steps_are t)

    -- the thread is made and in this state, or it isn't made and has to begin
    made : (o : Option LocalState) → slice_get (run_along p input s).state.locals t ≡ o
        → (slice_get (run_along p input s).state.locals t ≡ Some l) ⊎ ((slice_get (run_along p input s).state.locals t ≡ None) × (length (course p input s t) ≡ 0))
    made (Some y) e = inl (steps.made_at p input s can g t (length (course p input s t)) (turns_done deeds 0 (guided_deeds p input s)) l (run_along p input s).state last_reached
        (steps.knows_last p input s can g) (slice_get_within (run_along p input s).state.locals t y e) (local_is t) (omega arith) now)
    made None e = inr (e, go (length (course p input s t)) refl)
      where
        go : (m : ℕ) → length (course p input s t) ≡ m → m ≡ 0
        go zero q = refl
        go (suc m) q = absurd (steps.never_unmade p input s can g t m l (run_along p input s).state e (local_is t) q now)

    -- where it isn't made it hasn't begun
    begins : length (course p input s t) ≡ 0 → next p l ≡ actions.Event requests.Start
    begins e = ap (next p) (sym (one_state (fresh p t (start_function p s.turns t)) l (ap (state_at p input s t) (sym e) ∙ now))) ∙ next_fresh p t (start_function p s.turns t)

    -- ---- what holds it

    pub record Held : Type 0 where
      pub first : Turn
      pub later : List Turn
      pub left_is : turns_left s.turns (run_along p input s).trace ≡ first ∷ later
      pub held : IsHeld s.gated p (run_along p input s).trace (run_along p input s).state first later
      pub has : has_turn t (first ∷ later) ≡ true

    held_by : (us : List Turn) → turns_left s.turns (run_along p input s).trace ≡ us → Held
    held_by [] e = absurd (let k : slice_get (owners_of []) (n - turn_count p input s) ≡ Some t = ap (λ (us : List Turn). slice_get (owners_of us) (n - turn_count p input s)) (sym e) ∙ own_left in cc)
    held_by (u ∷ us) e = record {
      first = u;
      later = us;
      left_is = e;
      held = subst (IsHeldBy s.gated p (run_along p input s).trace (run_along p input s).state) e (ordered_full p input s can g).is_full;
      has = turn_there t (u ∷ us) (n - turn_count p input s) (ap (λ (us : List Turn). slice_get (owners_of us) (n - turn_count p input s)) (sym e) ∙ own_left);
    }

    h : Held
    h = held_by (turns_left s.turns (run_along p input s).trace) refl

    abbrev Rests : Type 0
    Rests = Resting s.gated (id_of l) (next p l) (has_spent (length (course p input s t)))

    later_turn : (b : Bool) → (h.first.thread.0 == t) ≡ b → b ≡ false → has_turn t h.later ≡ true
    later_turn true e q = absurd cc
    later_turn false e q = ap (λ (b : Bool). b || has_turn t h.later) (sym e) ∙ h.has

    made_rests : slice_get (run_along p input s).state.locals t ≡ Some l → Rests
    made_rests e = go (t == h.first.thread.0) refl
      where
        action_is : next_of p (run_along p input s).state t ≡ next p l
        action_is = next_is p (run_along p input s).state t l e

        go : (b : Bool) → (t == h.first.thread.0) ≡ b → Rests
        go true q = held_rests s.gated (id_of l) (run_along p input s).state t (next p l) (has_spent (length (course p input s t)))
            (ap (λ (a : Action). is_some (trap_of (run_along p input s).state t a) || has_spent (length (course p input s t))) (sym action_is)
            ∙ ap (λ (b : Bool). traps p (run_along p input s).state t || b) (sym spent_is)
            ∙ ap (λ (u : ℕ). traps p (run_along p input s).state u || spent_in (run_along p input s).trace u) (same_number t h.first.thread.0 q) ∙ h.held.owner)
        go false q = rests_by s.gated (id_of l) (run_along p input s).state t (next p l) (has_spent (length (course p input s t)))
            (ap (λ (a : Action). is_ended a || is_some (trap_of (run_along p input s).state t a) || has_spent (length (course p input s t)) || is_event_at s.gated (id_of l) a) (sym action_is)
            ∙ ap (λ (b : Bool). is_ended (next_of p (run_along p input s).state t) || traps p (run_along p input s).state t || b || is_event_at s.gated (id_of l) (next_of p (run_along p input s).state t))
            (sym spent_is)
            ∙ ap (λ (i : ℕ). is_ended (next_of p (run_along p input s).state t) || traps p (run_along p input s).state t || spent_in (run_along p input s).trace t
            || is_event_at s.gated i (next_of p (run_along p input s).state t)) (sym (instr_is (run_along p input s).state t l e))
            ∙ ap (λ (b : Bool). is_ended (next_of p (run_along p input s).state t) || traps p (run_along p input s).state t || spent_in (run_along p input s).trace t || b)
            (sym (turn_is s.gated p (run_along p input s).state t))
            ∙ h.held.others t (λ e. let k : true ≡ false = sym (same_as_itself t) ∙ ap (λ (i : ℕ). t == i) e ∙ q in absurd cc)
            (later_turn (h.first.thread.0 == t) refl (flipped t h.first.thread.0 false q)))

    rests_now : Rests
    rests_now = go (made (slice_get (run_along p input s).state.locals t) refl)
      where
        go : (slice_get (run_along p input s).state.locals t ≡ Some l) ⊎ ((slice_get (run_along p input s).state.locals t ≡ None) × (length (course p input s t) ≡ 0)) → Rests
        go (inl e) = made_rests e
        go (inr e) = subst (λ (a : Action). Resting s.gated (id_of l) a (has_spent (length (course p input s t)))) (sym (begins e.1)) (inr refl)

    -- ---- the owner of the first turn that the run doesn't do

    module _ (next_one : n ≡ turn_count p input s) where
      owner : h.first.thread.0 ≡ t
      owner =
          let k : slice_get (owners_of (h.first ∷ h.later)) 0 ≡ Some t =
          ap (λ (us : List Turn). slice_get (owners_of us) 0) (sym h.left_is)
          ∙ ap (slice_get (owners_of (turns_left s.turns (run_along p input s).trace))) (zero_is n (turn_count p input s) next_one) ∙ own_left in
          cc
        where
          zero_is : (n c : ℕ) → n ≡ c → 0 ≡ n - c
          zero_is n c e = omega (arith, e)

      stopped : (traps p (run_along p input s).state t || has_spent (length (course p input s t))) ≡ true
      stopped = ap (λ (b : Bool). traps p (run_along p input s).state t || b) (sym spent_is)
          ∙ ap (λ (u : ℕ). traps p (run_along p input s).state u || spent_in (run_along p input s).trace u) (sym owner) ∙ h.held.owner

      ended_by : (run_along p input s).end
          ≡ (if spent_in (run_along p input s).trace t then ends.Budget (record { 0 = t })
          else trapped (run_along p input s).state t (trap_of (run_along p input s).state t (next_of p (run_along p input s).state t)))
      ended_by = end_is ∙ ap (λ (us : List Turn). end_before p (run_along p input s).trace (run_along p input s).state us) h.left_is
          ∙ ap (λ (u : ℕ). if spent_in (run_along p input s).trace u then ends.Budget (record { 0 = u })
          else trapped (run_along p input s).state u (trap_of (run_along p input s).state u (next_of p (run_along p input s).state u))) owner

      ended : (run_along p input s).end
          ≡ (if has_spent (length (course p input s t)) then ends.Budget (record { 0 = t })
          else trapped (run_along p input s).state t (trap_of (run_along p input s).state t (next_of p (run_along p input s).state t)))
      ended = ended_by ∙ ap (λ (b : Bool). if b then ends.Budget (record { 0 = t })
          else trapped (run_along p input s).state t (trap_of (run_along p input s).state t (next_of p (run_along p input s).state t))) spent_is

      pub record Stopped : Type 0 where
        pub held : (is_trap (next p l) || has_spent (length (course p input s t))) ≡ true
        pub end : (run_along p input s).end ≡ held_end p t (length (course p input s t)) l

      or_last : (b : Bool) → (b || true) ≡ true
      or_last true = refl
      or_last false = refl

      by_budget : has_spent (length (course p input s t)) ≡ true → Stopped
      by_budget e = record {
        held = ap (λ (b : Bool). is_trap (next p l) || b) e ∙ or_last (is_trap (next p l));
        end = ended
            ∙ ap (λ (b : Bool). if b then ends.Budget (record { 0 = t }) else trapped (run_along p input s).state t (trap_of (run_along p input s).state t (next_of p (run_along p input s).state t))) e
            ∙ ap (λ (b : Bool). if b then ends.Budget (record { 0 = t }) else trap_end (id_of l) (next p l)) (sym e);
      }

      by_trap : has_spent (length (course p input s t)) ≡ false → slice_get (run_along p input s).state.locals t ≡ Some l
          → (o : Option TrapName) → trap_of (run_along p input s).state t (next_of p (run_along p input s).state t) ≡ o → Stopped
      by_trap e made None q = absurd (let k : true ≡ false = sym stopped ∙ ap (λ (b : Bool). traps p (run_along p input s).state t || b) e
          ∙ ap (λ (o : Option TrapName). is_some o || false) q in cc)
      by_trap e made (Some name) q =
          let ended_trap : (run_along p input s).end ≡ ends.Trap name (record { 0 = instr_of (run_along p input s).state t }) =
          ended ∙ ap (λ (b : Bool). if b then ends.Budget (record { 0 = t }) else trapped (run_along p input s).state t (trap_of (run_along p input s).state t (next_of p (run_along p input s).state t))) e
          ∙ ap (trapped (run_along p input s).state t) q in
          let traps_itself : next_of p (run_along p input s).state t ≡ actions.Trap name =
          ap (next_of p (run_along p input s).state) (sym owner) ∙ g.objects h.first h.later name (record { 0 = instr_of (run_along p input s).state t }) h.left_is ended_trap in
          let action : next p l ≡ actions.Trap name = sym (next_is p (run_along p input s).state t l made) ∙ traps_itself in
          record {
            held = ap (λ (a : Action). is_trap a || has_spent (length (course p input s t))) action;
            end = ended_trap ∙ ap (λ (i : ℕ). ends.Trap name (record { 0 = i })) (instr_is (run_along p input s).state t l made)
                ∙ ap (trap_end (id_of l)) (sym action)
                ∙ ap (λ (b : Bool). if b then ends.Budget (record { 0 = t }) else trap_end (id_of l) (next p l)) (sym e);
          }

      unmade_stands : slice_get (run_along p input s).state.locals t ≡ None → length (course p input s t) ≡ 0 → ⊥
      unmade_stands e z =
          let k : true ≡ false = sym stopped ∙ ap (λ (a : Action). is_some (trap_of (run_along p input s).state t a) || has_spent (length (course p input s t))) (unmade_next p (run_along p input s).state t e)
          ∙ ap has_spent z ∙ spent_none in
          absurd cc

      stops : Stopped
      stops = go (has_spent (length (course p input s t))) refl (made (slice_get (run_along p input s).state.locals t) refl)
        where
          go : (b : Bool) → has_spent (length (course p input s t)) ≡ b
              → (slice_get (run_along p input s).state.locals t ≡ Some l) ⊎ ((slice_get (run_along p input s).state.locals t ≡ None) × (length (course p input s t) ≡ 0)) → Stopped
          go true e m = by_budget e
          go false e (inl m) = by_trap e m (trap_of (run_along p input s).state t (next_of p (run_along p input s).state t)) refl
          go false e (inr m) = absurd (unmade_stands m.0 m.1)

    pub rests_at : RestsAt p input s t (length (course p input s t)) l n
    rests_at = record { behind = behind; rests = rests_now; held = λ e. (stops e).held; end = λ e. (stops e).end }
