-- Each step of a thread's course is the step of its local state.
use Rattle.std.proofs.Common.{◌≡◌, ℕ, ℤ, zero, suc, ◌+◌, ◌<◌, ◌≤◌, List, ◌∷◌, ◌++◌, length, drop, Bool, true, false, Option, Some, None, refl, sym, ◌∙◌, ap, subst, arith}
use Rattle.std.specs.Prelude.{is_some, IfSome, slice_get, slice_index, take, if◌then◌else◌}
use Rattle.std.specs.List.{AllByRecursion as AllOf, filter}
use Rattle.std.proofs.lemmas.Option.{slice_get_within}
use Rattle.pg_num.specs.declared.limits.TheConstants.{GUIDED_STEP_LIMIT, THREAD_LIMIT}
use Rattle.pg_ir.specs.Program.{NumberedProgram}
use Rattle.pg_law_threads.specs.Effects.{deeds}
use Rattle.pg_law_threads.specs.Intervals.{AreTurns, timed, turns_done}
use Rattle.pg_law_threads.proofs.DoneLists.{all_left}
use Rattle.pg_law_threads.proofs.EffectsOfSteps.{same_refl}
use Rattle.pg_law_threads.proofs.LastAndNextTurn.{next_own}
use Rattle.pg_law_threads.proofs.TimedSteps.{turns_left_of, turns_right_of}
use Rattle.pg_run_thread.specs.LocalState.{LocalState, fresh}
use Rattle.pg_run_thread.specs.Step.{after, next}
use Rattle.pg_run_thread.specs.Told.{id_of}
use Rattle.pg_run_trace.specs.declared.schedule.Schedule.{Schedule}
use Rattle.pg_run_trace.specs.declared.step.Step.{Step}
use Rattle.pg_run_trace.specs.declared.turn.Turn.{Turn}
use Rattle.pg_run_trace.specs.Races.{reply_in}
use Rattle.pg_run_trace.specs.Steps.{access_of}
use Rattle.pg_run.specs.State.{State, initial}
use Rattle.pg_run.specs.Runs.{event_of, events}
use Rattle.pg_run.proofs.StepsBegin.{ready_made}
use Rattle.pg_law_runs.specs.pg_law_effects.PermittedSteps.{IsDue, none_taken}
use Rattle.pg_law_runs.specs.pg_law_effects.Reached.{IsReached}
use Rattle.pg_law_runs.specs.pg_law_effects.Views.{begun_in, cell_at, local_at}
use Rattle.pg_law_runs.proofs.of_pg_law_effects.ReachedStates.{present, reached_first}
use Rattle.pg_law_runs.specs.Cuts.{CanRun, IsFrontOf}
use Rattle.pg_law_runs.specs.Deeds.{Did, Thread, is_event_at, owners_of}
use Rattle.pg_law_runs.proofs.DeedDependence.{deed_event}
use Rattle.pg_law_runs.proofs.DeedLists.{TellsSo, all_tell, done_told, map_append, told_is, told_of}
use Rattle.pg_law_runs.proofs.StepsWithTurnLeft.{FreeSteps, free_steps}
use Rattle.pg_law_order.specs.Good.{IsGoodRun, replies_of, run_along}
use Rattle.pg_law_course.specs.Course.{before, cells_before, course, local_behind, next_turn, state_at, turns_before, turns_in, turns_of}
use Rattle.pg_law_course.specs.Plan.{first_seen, guided_deeds, is_shared}
use Rattle.pg_law_course.specs.Prints.{number_told}
use Rattle.pg_law_course.specs.Steps.{IsStepOf, IsTurnOf, access_by, accessed, answer_by, happening_by, is_shared_action, made_by, reads_by, thread_named, writes_by}
use Rattle.pg_law_course.proofs.CoursePlaces.{Place, behind_taken, get_length, local_left, own_before, place, steps_of, take_length, thread_behind}
use Rattle.pg_law_course.proofs.GuidedPlan.{is_plan, ordered_full}
use Rattle.pg_law_course.proofs.PrintedTexts.{step_tells}
use Rattle.pg_law_course.proofs.RepliesAlong.{reply_at}
use Rattle.pg_law_course.proofs.StartFunctions.{Knows, due_get, knows_first, knows_more, waits_for}
use Rattle.pg_law_course.proofs.StepFacts as facts
use Rattle.pg_law_course.proofs.StepsInRun.{StepIn, holds_behind, step_in}
use Rattle.pg_law_course.proofs.TurnNumbers.{below, numbered, own_turns}

begun_some : (o : Option LocalState) (l : LocalState) → begun_in o ≡ Some l → o ≡ Some l
begun_some None l e = absurd cc
begun_some (Some y) l e = go y.begun e
  where
    go : (b : Bool) → Path (Option LocalState) (if b then Some y else None) (Some l) → Some y ≡ Some l
    go true q = q
    go false q = absurd cc

begun_none : (y : LocalState) → begun_in (Some y) ≡ None → y.begun ≡ false
begun_none y e = go y.begun refl e
  where
    go : (b : Bool) → y.begun ≡ b → Path (Option LocalState) (if b then Some y else None) None → y.begun ≡ false
    go true q k = absurd cc
    go false q k = q

first_none : (p : NumberedProgram) (t : ℕ) → (first_seen p).locals t ≡ record { local = None; taken = 0 }
unfolding initial fresh
first_none p zero = refl
first_none p (suc t) = refl

zero_plus : (m n : ℕ) → m ≡ 0 + n → m ≡ n
zero_plus m n e = omega (arith, e)

some_of : {A : Type 0} (o : Option A) → is_some o ≡ true → (x : A) × (o ≡ Some x)
some_of None e = absurd cc
some_of (Some x) e = (x, refl)

module _ (p : NumberedProgram) (input : List ℤ) (s : Schedule) (can : CanRun p input) (g : IsGoodRun p input s) where
  pub are_turns : AreTurns deeds (owners_of s.turns) 0 (guided_deeds p input s)
  are_turns = (is_plan p input s can g).turns

  pub free : FreeSteps s.gated p input (initial p) s.turns none_taken (run_along p input s).trace (run_along p input s).state
  free =
      let h = (ordered_full p input s can g).permitted in
      free_steps s.gated p input (initial p) (run_along p input s).state s.turns none_taken (run_along p input s).trace h.run h.in_order (λ t. let b = h.budget t in omega (arith, b))

  pub step_at : (xs : List Did) (d : Did) (ys : List Did) → guided_deeds p input s ≡ xs ++ d ∷ ys → StepIn s.gated p input s.turns (Knows p s.turns) none_taken (first_seen p) 0 xs d
  unfolding guided_deeds
  step_at xs d ys e = step_in s.gated p input s.turns (Knows p s.turns) (λ v x n reached takes due h. knows_more s.gated p input s.turns can.program v x n reached takes due h) can.program can.small
      (initial p) none_taken (first_seen p) 0 (run_along p input s).trace (run_along p input s).state (reached_first p can.program can.bytes) (knows_first p s.turns) (same_refl (first_seen p)) free xs d ys e

  -- what threads know at the end
  pub knows_last : Knows p s.turns (turns_done deeds 0 (guided_deeds p input s)) (run_along p input s).state
  unfolding guided_deeds
  knows_last = holds_behind s.gated p input s.turns (Knows p s.turns) (λ v x n reached takes due h. knows_more s.gated p input s.turns can.program v x n reached takes due h) can.program can.small
      (initial p) none_taken 0 (run_along p input s).trace (run_along p input s).state (reached_first p can.program can.bytes) (knows_first p s.turns) free

  trace_is : (xs : List Did) (d : Did) (ys : List Did) → guided_deeds p input s ≡ xs ++ d ∷ ys → (run_along p input s).trace ≡ told_of xs ++ d.told ∷ told_of ys
  unfolding guided_deeds
  trace_is xs d ys e = sym (told_is p input (initial p) none_taken (run_along p input s).trace) ∙ ap told_of e ∙ map_append (λ (y : Did). y.told) xs (d ∷ ys)

  -- how many turns stand before a step
  pub turns_told : (xs : List Did) (d : Did) (ys : List Did) → guided_deeds p input s ≡ xs ++ d ∷ ys → turns_done deeds 0 xs ≡ length (events (told_of xs))
  unfolding guided_deeds
  turns_told xs d ys e = zero_plus (turns_done deeds 0 xs) (length (events (told_of xs)))
      (done_told 0 xs (all_left TellsSo xs (d ∷ ys) (subst (AllOf TellsSo) e (all_tell p input (initial p) none_taken (run_along p input s).trace))))

  reply_is : (xs : List Did) (d : Did) (ys : List Did) → guided_deeds p input s ≡ xs ++ d ∷ ys → (n : ℕ) → reply_in d.told.kind ≡ Some n → slice_index s.replies (turns_done deeds 0 xs) ≡ n
  reply_is xs d ys e n h = ap (slice_index s.replies) (turns_told xs d ys e)
      ∙ reply_at (told_of xs) d.told (told_of ys) s.replies n (subst (λ (l : List Step). IsFrontOf (replies_of l) s.replies) (trace_is xs d ys e) g.replies) h

  -- ---- the local state

  -- thread t is made, and stands where its steps before leave it
  pub made_at : (t k n : ℕ) (l : LocalState) (v : State) → IsReached p v → Knows p s.turns n v → t < length v.locals
      → local_at v t ≡ (thread_behind ((first_seen p).locals t) (take k (course p input s t))).local → k ≤ length (course p input s t) → state_at p input s t k ≡ Some l
      → slice_get v.locals t ≡ Some l
  made_at t zero n l v reached knows made local few now =
      let y = present v t made in
      let none : begun_in (Some y.0) ≡ None = ap begun_in (sym y.1) ∙ local ∙ ap (λ (h : Thread). h.local) (first_none p t) in
      y.1 ∙ ap (λ (m : LocalState). Some m) (waits_for p s.turns n v t y.0 reached knows y.1 (begun_none y.0 none)) ∙ now
  made_at t (suc j) n l v reached knows made local few now =
      let c = get_length (course p input s t) j (omega (arith, few)) in
      begun_some (slice_get v.locals t) l
      (local ∙ ap (λ (h : Thread). h.local) (behind_taken ((first_seen p).locals t) j (course p input s t) c.0 c.1) ∙ sym (ap local_behind c.1) ∙ now)

  -- a thread that has taken steps is made
  pub never_unmade : (t j : ℕ) (l : LocalState) (v : State) → slice_get v.locals t ≡ None
      → local_at v t ≡ (thread_behind ((first_seen p).locals t) (take (length (course p input s t)) (course p input s t))).local → length (course p input s t) ≡ suc j
      → state_at p input s t (length (course p input s t)) ≡ Some l → ⊥
  never_unmade t j l v none local e now =
      let c = get_length (course p input s t) j (omega (arith, e)) in
      let behind : local_at v t ≡ c.0.to.local = local ∙ ap (λ (n : ℕ). (thread_behind ((first_seen p).locals t) (take n (course p input s t))).local) e
      ∙ ap (λ (h : Thread). h.local) (behind_taken ((first_seen p).locals t) j (course p input s t) c.0 c.1) in
      let mine : c.0.to.local ≡ Some l = sym (ap local_behind c.1) ∙ ap (state_at p input s t) (sym e) ∙ now in
      no_state (ap begun_in (sym none) ∙ behind ∙ mine)
    where
      no_state : Path (Option LocalState) None (Some l) → ⊥
      no_state q = absurd cc

  -- an event's interval ends with its turn
  pub turn_high : (t k : ℕ) (d : Did) → slice_get (course p input s t) k ≡ Some d → deeds.is_event d ≡ true
      → (timed deeds (owners_of s.turns) (turns_before p input s t k) d).high ≡ turns_before p input s t k
  turn_high t k d own e =
      let at = place t k (guided_deeds p input s) d own in
      next_own d.thread (owners_of s.turns) (turns_before p input s t k)
      ((turns_right_of deeds (owners_of s.turns) 0 (before t k (guided_deeds p input s)) (d ∷ at.rest) (subst (AreTurns deeds (owners_of s.turns) 0) at.split are_turns)).0 e)

  module _ (t k : ℕ) (l : LocalState) (d : Did) (own : slice_get (course p input s t) k ≡ Some d) (now : state_at p input s t k ≡ Some l) where
    at : Place t k (guided_deeds p input s) d
    at = place t k (guided_deeds p input s) d own

    abbrev front : List Did
    front = before t k (guided_deeds p input s)

    r : StepIn s.gated p input s.turns (Knows p s.turns) none_taken (first_seen p) 0 front d
    r = step_at front d at.rest at.split

    thread_is : r.told.thread.0 ≡ t
    thread_is = ap (λ (y : Did). y.thread) r.is_deed ∙ at.thread

    told_is_d : r.told ≡ d.told
    told_is_d = ap (λ (y : Did). y.told) r.is_deed

    own_front : steps_of t front ≡ take k (course p input s t)
    own_front = own_before t k (guided_deeds p input s)

    count : r.taken t ≡ k
    count = zero_plus (r.taken t) (length (steps_of t front)) (r.counted t) ∙ ap (λ (ds : List Did). length ds) own_front ∙ take_length (course p input s t) k d own

    local_is : local_at r.state t ≡ (thread_behind ((first_seen p).locals t) (take k (course p input s t))).local
    local_is = ap (λ (h : Thread). h.local) (sym (r.looks.locals t) ∙ local_left (first_seen p) t front ∙ ap (thread_behind ((first_seen p).locals t)) own_front)

    made : slice_get r.state.locals r.told.thread.0 ≡ Some l
    made = ap (slice_get r.state.locals) thread_is ∙ made_at t k (turns_done deeds 0 front) l r.state r.reached r.holds
        (subst (λ (i : ℕ). i < length r.state.locals) thread_is (ready_made p r.state r.told.thread.0 r.takes.is_ready)) local_is
        (let w = slice_get_within (course p input s t) k d own in omega (arith, w)) now

    cells : (c : ℕ) → cells_before p input s t k c ≡ cell_at r.state c
    cells c = r.looks.cells c

    is_event : deeds.is_event d ≡ is_some (event_of r.told)
    is_event = ap (λ (y : Did). deeds.is_event y) (sym r.is_deed) ∙ deed_event s.gated p input r.state r.taken r.told

    -- its turn
    owner : deeds.is_event d ≡ true → slice_get (owners_of s.turns) (turns_done deeds 0 front) ≡ Some t
    owner e = (turns_right_of deeds (owners_of s.turns) 0 front (d ∷ at.rest) (subst (AreTurns deeds (owners_of s.turns) 0) at.split are_turns)).0 e ∙ ap (λ (i : ℕ). Some i) at.thread

    count_turns : turns_in p input s t k ≡ below t (turns_done deeds 0 front) (owners_of s.turns)
    count_turns =
        let k1 = own_turns t (owners_of s.turns) 0 front (turns_left_of deeds (owners_of s.turns) 0 front (d ∷ at.rest) (subst (AreTurns deeds (owners_of s.turns) 0) at.split are_turns)) in
        ap (λ (ds : List Did). length (filter deeds.is_event ds)) (sym own_front)
        ∙ sym (zero_plus (below t (turns_done deeds 0 front) (owners_of s.turns)) (length (filter deeds.is_event (steps_of t front))) k1)

    number : deeds.is_event d ≡ true → next_turn p input s t k ≡ Some (turns_before p input s t k)
    number e = ap (slice_get (turns_of t s.turns)) count_turns ∙ numbered t 0 (turns_done deeds 0 front) (owners_of s.turns) (owner e)
        ∙ ap (λ (n : ℕ). Some n) (zero_plus (0 + turns_done deeds 0 front) (turns_done deeds 0 front) refl)

    turn : deeds.is_event d ≡ true → (u : Turn) × (event_of d.told ≡ Some u) × IsTurnOf p s t l (turns_before p input s t k) u
    turn e =
        let u = some_of (event_of r.told) (sym is_event ∙ e) in
        let f = facts.turn_at s.gated p input r.state r.taken r.told l r.reached r.takes made (cells_before p input s t k) cells u.0 u.1 in (
          u.0,
          ap event_of (sym told_is_d) ∙ u.1,
          record {
            is_there = due_get u.0 s.turns (turns_done deeds 0 front) (subst (λ (o : Option Turn). IsDue o (drop (turns_done deeds 0 front) s.turns)) u.1 r.due);
            thread = f.0 ∙ thread_is;
            instr = f.1;
            happens = subst (λ (i : ℕ). happening_by i u.0.object (next p l) ≡ Some (record { kind = u.0.kind; object = u.0.object })) thread_is f.2;
          },
        )

    reply : (n : ℕ) → reply_in r.told.kind ≡ Some n → slice_index s.replies (turns_before p input s t k) ≡ n
    reply n e = reply_is front d at.rest at.split n (ap (λ (y : Step). reply_in y.kind) (sym told_is_d) ∙ e)

    pub is_step : IsStepOf p input s t k l d
    is_step = record {
      goes = facts.goes s.gated p input r.state r.taken r.told l r.reached r.takes made (cells_before p input s t k) cells;
      within = subst (λ (n : ℕ). n < GUIDED_STEP_LIMIT) (ap r.taken thread_is ∙ count) r.budget;
      shared = subst (λ (y : Did). is_shared y ≡ is_shared_action (next p l)) r.is_deed
          (facts.shared s.gated p input r.state r.taken r.told l r.reached r.takes made (cells_before p input s t k) cells);
      event = subst (λ (y : Did). deeds.is_event y ≡ is_event_at s.gated (id_of l) (next p l)) r.is_deed
          (facts.event s.gated p input r.state r.taken r.told l r.reached r.takes made (cells_before p input s t k) cells);
      thread = subst (λ (i : ℕ). i < THREAD_LIMIT) thread_is (facts.thread s.gated p input r.state r.taken r.told l r.reached r.takes made (cells_before p input s t k) cells);
      named = subst (λ (y : Step). IfSome (thread_named (made_by (event_of y)) (next p l)) (λ (u : ℕ). u < THREAD_LIMIT)) told_is_d
          (facts.named s.gated p input r.state r.taken r.told l r.reached r.takes made (cells_before p input s t k) cells);
      number = number;
      turn = turn;
      access = subst (λ (y : Step). accessed (access_of y) ≡ access_by (cells_before p input s t k) (made_by (event_of y)) (next p l)) told_is_d
          (facts.access s.gated p input r.state r.taken r.told l r.reached r.takes made (cells_before p input s t k) cells);
      reads = λ c. ap (λ (y : Did). y.reads c) (sym r.is_deed) ∙ facts.reads s.gated p input r.state r.taken r.told l r.reached r.takes made (cells_before p input s t k) cells c
          ∙ ap (λ (i : ℕ). reads_by i (next p l) c) thread_is;
      writes = λ c. ap (λ (y : Did). y.writes c) (sym r.is_deed) ∙ facts.writes s.gated p input r.state r.taken r.told l r.reached r.takes made (cells_before p input s t k) cells c
          ∙ ap (λ (i : ℕ). writes_by (cells_before p input s t k) i (made_by (event_of r.told)) (next p l) c) thread_is
          ∙ ap (λ (y : Step). writes_by (cells_before p input s t k) t (made_by (event_of y)) (next p l) c) told_is_d;
      prints = ap (λ (y : Step). number_told y.kind) (sym told_is_d) ∙ (step_tells s.gated p input can.program r.state r.told l r.takes made).1;
      after = ap (λ (y : Did). y.to.local) (sym r.is_deed)
          ∙ facts.resumes s.gated p input r.state r.taken r.told l r.reached r.takes made (cells_before p input s t k) cells (slice_index s.replies (turns_before p input s t k)) reply
          ∙ ap (λ (i : ℕ). Some (after p l (answer_by input (cells_before p input s t k) i (slice_index s.replies (turns_before p input s t k)) (next p l)))) thread_is;
    }
