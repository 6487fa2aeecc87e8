-- What lies under the lock: before the first step, where a step may be taken, and behind it.
use Rattle.std.proofs.Common.{◌≡◌, ℕ, ℤ, zero, suc, ◌+◌, ◌*◌, ◌<◌, ◌≤◌, ◌^◌, List, [], ◌∷◌, ◌++◌, length, length-append, length-set, drop, replicate, Bool, true, false, Option, Some, None, refl, sym, ap, ◌∙◌, subst, sum, arith}
use Rattle.std.specs.Prelude.{◌==◌, cond, is_some, nat_le, nat_lt, slice_index, slice_index_or, slice_set, if◌then◌else◌}
use Rattle.std.specs.List.{cons_option}
use Rattle.std.proofs.lemmas.Bool.{eqb-false, eqb-true, leb-false, ltb-true, ne_eqb}
use Rattle.std.proofs.lemmas.List.{get_or-set_other, get_or-set_same}
use Rattle.std.proofs.lemmas.List.Elements.{filter_map-append}
use Rattle.std.proofs.lemmas.List.Sums.{sum_by-cons, sum_by-le}
use Rattle.pg_law_course.specs.pg_num.declared.limits.TheConstants.{GUIDED_STEP_LIMIT, THREAD_LIMIT}
use Rattle.pg_law_course.specs.pg_ir.declared.ids.InstrId.{InstrId}
use Rattle.pg_law_course.specs.pg_ir.Program.{NumberedProgram}
use Rattle.pg_law_course.specs.pg_run_trace.declared.schedule.Schedule.{Schedule}
use Rattle.pg_law_course.specs.pg_run_trace.declared.step.Step.{Step}
use Rattle.pg_law_course.specs.pg_run_trace.declared.turn.Turn.{Turn}
use Rattle.pg_law_course.specs.pg_run.declared.machine.Next.{Next}
use Rattle.pg_law_course.specs.pg_run.declared.machine.Next.TheVariants as nexts
use Rattle.pg_law_course.specs.pg_run.Bound.{BoundState, next_by, next_step}
use Rattle.pg_law_course.specs.pg_run.Guided.{is_turn}
use Rattle.pg_law_course.specs.pg_run.Machine.{IsMachine}
use Rattle.pg_law_course.specs.pg_run.MachineStep.{Did, ready, step, turn_of}
use Rattle.pg_law_course.specs.pg_run.Permitted.{IsPermitted, has_spent, has_turn, turns_left}
use Rattle.pg_law_course.specs.pg_run.Runs.{event_of, events, steps_of}
use Rattle.pg_law_course.specs.pg_run.State.{initial, next_of}
use Rattle.pg_law_course.specs.pg_law_effects.PermittedSteps.{IsDue, MayTake}
use Rattle.pg_law_course.proofs.of_pg_law_effects.PermittedStepByStep.{count_own, permitted_is, permitted_more, steps_append}
use Rattle.pg_law_course.proofs.of_pg_law_effects.ToldByStep.{event_is, thread_of}
use Rattle.pg_law_course.specs.pg_law_runs.Cuts.{CanRun}
use Rattle.pg_law_course.proofs.of_pg_law_runs.PermittedRuns as law
use Rattle.pg_law_course.specs.pg_law_order.Good.{IsGoodRun, run_along}
use Rattle.pg_law_course.proofs.of_pg_law_order.GoodRunsServe.{whole}
use Rattle.pg_locked.specs.Standing.{Given, IsLocked, Standing, StandsAtCut, bound, given, left}
use Rattle.pg_locked.specs.Tries.{Answers, Steps, refusal, refusal_by, refusal_of, unless_first}
use Rattle.pg_locked.specs.declared.tried.Tried.{Tried}
use Rattle.pg_locked.specs.declared.tried.Tried.TheVariants as tried
use Rattle.pg_locked.proofs.NextTurns.{IsDueStep, Opens, due_turn, next_tells, opens}
use Rattle.pg_locked.proofs.OpenSteps.{IsDone, IsMade, due_takes}

-- ---- before the first step

zero_at : (n i : ℕ) → slice_index (replicate n 0) i ≡ 0
zero_at zero i = refl
zero_at (suc n) zero = refl
zero_at (suc n) (suc i) = zero_at n i

length_zeros : (n : ℕ) → length (replicate {A = ℕ} n 0) ≡ n
length_zeros zero = refl
length_zeros (suc n) = ap suc (length_zeros n)

pub first : (g : Given) (p : NumberedProgram) (s : Schedule) (input : List ℤ) (gs : List InstrId) (m : BoundState) (taken : List ℕ) → given p s input ≡ g → CanRun p input → IsGoodRun p input s
    → m ≡ record { state = initial p; input = input; gated = gs } → gs ≡ s.gated → IsMachine p m.state → taken ≡ replicate THREAD_LIMIT 0 → IsLocked g p s m taken 0
first g p s input gs m taken same can good is gates machine zeros =
    let inputs : m.input ≡ input = ap (λ (v : BoundState). v.input) is in
    record {
      same = ap (given p s) inputs ∙ same;
      gated = ap (λ (v : BoundState). v.gated) is ∙ gates;
      can = subst (CanRun p) (sym inputs) can;
      good = subst (λ (i : List ℤ). IsGoodRun p i s) (sym inputs) good;
      machine = machine;
      wide = ap length zeros ∙ length_zeros THREAD_LIMIT;
      few = omega arith;
      steps = [];
      permitted = (permitted_is p m.input s.turns s.gated [] m.state).1 (sym (ap (λ (v : BoundState). v.state) is));
      done_is = refl;
      counts = λ t lt. ap (λ (l : List ℕ). slice_index l t) zeros ∙ zero_at THREAD_LIMIT t;
    }

-- ---- events and counts

one_event : (x : Step) (o : Option Turn) → event_of x ≡ o → length (events (x ∷ [])) ≡ (if is_some o then 1 else 0)
one_event x None e = ap (λ (v : Option Turn). length (cons_option v [])) e
one_event x (Some u) e = ap (λ (v : Option Turn). length (cons_option v [])) e

events_more : (xs : List Step) (x : Step) (o : Option Turn) → event_of x ≡ o → length (events (xs ++ x ∷ [])) ≡ length (events xs) + (if is_some o then 1 else 0)
events_more xs x o e =
    ap (λ (l : List Turn). length l) (filter_map-append event_of xs (x ∷ [])) ∙ length-append (events xs) (events (x ∷ []))
    ∙ ap (λ (n : ℕ). length (events xs) + n) (one_event x o e)

other_steps : (t : ℕ) (x : Step) → (x.thread.0 == t) ≡ false → steps_of t (x ∷ []) ≡ 0
other_steps t x e = sum_by-cons (λ (y : Step). cond (y.thread.0 == t) 1 0) x [] ∙ ap (λ (b : Bool). cond b 1 0 + 0) e

module _ (taken : List ℕ) (steps : List Step) (counts : (u : ℕ) → u < length taken → slice_index taken u ≡ steps_of u steps) (t : ℕ) (lt : t < length taken) (x : Step) (by : x.thread.0 ≡ t) where
  abbrev more : List ℕ
  more = slice_set taken t (slice_index taken t + 1)

  counts_more : (u : ℕ) → u < length more → slice_index more u ≡ steps_of u (steps ++ x ∷ [])
  counts_more u few = go (u == t) refl
    where
      small : u < length taken
      small = let n = length-set taken t (slice_index taken t + 1) in omega (arith, n, few)

      go : (b : Bool) → (u == t) ≡ b → slice_index more u ≡ steps_of u (steps ++ x ∷ [])
      go true q =
          let same : u ≡ t = eqb-true u t q in
          let own : steps_of u (x ∷ []) ≡ 1 = subst (λ (n : ℕ). steps_of n (x ∷ []) ≡ 1) (by ∙ sym same) (count_own x []) in
          let all = steps_append u steps (x ∷ []) in
          let set : slice_index more u ≡ slice_index taken t + 1 = ap (slice_index more) same ∙ get_or-set_same taken t (slice_index taken t + 1) 0 lt in
          let was = counts t lt in
          let here : steps_of t steps ≡ steps_of u steps = ap (λ (n : ℕ). steps_of n steps) (sym same) in
          omega (arith, own, all, set, was, here)
      go false q =
          let ne = eqb-false u t q in
          let none : steps_of u (x ∷ []) ≡ 0 = other_steps u x (ne_eqb x.thread.0 u (λ e. ne (sym e ∙ by))) in
          let all = steps_append u steps (x ∷ []) in
          let kept : slice_index more u ≡ slice_index taken u = get_or-set_other taken t u (slice_index taken t + 1) 0 ne in
          let was = counts u small in
          omega (arith, none, all, kept, was)

-- a list with one more at a place
sum_more : (xs : List ℕ) (t n : ℕ) → t < length xs → n ≡ slice_index xs t + 1 → sum (slice_set xs t n) ≡ sum xs + 1
sum_more [] t n h e = absurd (omega (arith, h))
sum_more (x ∷ xs) zero n h e =
    let k : n ≡ x + 1 = e in
    let a : sum (slice_set (x ∷ xs) zero n) ≡ n + sum xs = sum_by-cons (λ (y : ℕ). y) n xs in
    let b : sum (x ∷ xs) ≡ x + sum xs = sum_by-cons (λ (y : ℕ). y) x xs in
    omega (arith, k, a, b)
sum_more (x ∷ xs) (suc t) n h e =
    let k : sum (slice_set xs t n) ≡ sum xs + 1 = sum_more xs t n (omega (arith, h)) e in
    let a : sum (slice_set (x ∷ xs) (suc t) n) ≡ x + sum (slice_set xs t n) = sum_by-cons (λ (y : ℕ). y) x (slice_set xs t n) in
    let b : sum (x ∷ xs) ≡ x + sum xs = sum_by-cons (λ (y : ℕ). y) x xs in
    omega (arith, k, a, b)

any_default : (xs : List ℕ) (i d : ℕ) → i < length xs → slice_index_or xs i d ≡ slice_index xs i
any_default [] i d h = absurd (omega (arith, h))
any_default (x ∷ xs) zero d h = refl
any_default (x ∷ xs) (suc i) d h = any_default xs i d (omega (arith, h))

sum_most : (xs : List ℕ) (m : ℕ) → ((i : ℕ) → i < length xs → slice_index xs i ≤ m) → sum xs ≤ length xs * m
sum_most xs m h = sum_by-le (λ (x : ℕ). x) m xs (λ i d lt. subst (λ (n : ℕ). n ≤ m) (sym (any_default xs i d lt)) (h i lt))

bit_most : (b : Bool) → (if b then 1 else 0) ≤ 1
bit_most true = omega arith
bit_most false = omega arith

-- ---- what is there

module _ (g : Given) (p : NumberedProgram) (s : Schedule) (m : BoundState) (taken : List ℕ) (done : ℕ) (h : IsLocked g p s m taken done) where
  abbrev now : Standing
  now = record { state = m.state; taken = taken; done = done }

  pub within_turns : done ≤ length s.turns
  within_turns =
      let a = ap length h.permitted.in_order in
      let b = length-append (events h.steps) (turns_left s.turns h.steps) in
      let c = h.done_is in
      omega (arith, a, b, c)

  pub left_is : turns_left s.turns h.steps ≡ drop done s.turns
  left_is = ap (λ (k : ℕ). drop k s.turns) h.done_is

  -- the machine's gates are the schedule's, and the run is the named one
  pub refusal_is : (t : ℕ) → refusal p m (drop done s.turns) (slice_index taken t) t ≡ refusal_of g t now
  refusal_is t =
      ap (λ (gs : List InstrId). refusal p (record { state = m.state; input = m.input; gated = gs }) (drop done s.turns) (slice_index taken t) t) h.gated
      ∙ ap (λ (k : Given). refusal_of k t now) h.same

  pub turn_is : (t : ℕ) → turn_of m.gated p m.state t ≡ turn_of g.schedule.gated g.program m.state t
  turn_is t = ap (λ (gs : List InstrId). turn_of gs p m.state t) h.gated ∙ ap (λ (k : Given). turn_of k.schedule.gated k.program m.state t) h.same

  -- the same of what contracts see, by what was read
  pub refused : {o : Option Tried} (v : Standing) (t : ℕ) (us : List Turn) (n : ℕ) → now ≡ v → us ≡ drop done s.turns → n ≡ slice_index taken t → refusal p m us n t ≡ o → refusal_of g t v ≡ o
  refused {o} v t us n e us_is n_is r =
      ap (refusal_of g t) (sym e) ∙ sym (refusal_is t) ∙ ap (λ (l : List Turn). refusal p m l (slice_index taken t) t) (sym us_is) ∙ ap (λ (k : ℕ). refusal p m us k t) (sym n_is) ∙ r

  pub told : {b : Bool} (v : Standing) (t : ℕ) → now ≡ v → is_some (turn_of m.gated p m.state t) ≡ b → is_some (turn_of g.schedule.gated g.program v.state t) ≡ b
  told {b} v t e r =
      ap (λ (w : Standing). is_some (turn_of g.schedule.gated g.program w.state t)) (sym e) ∙ ap (λ (o : Option Turn). is_some o) (sym (turn_is t)) ∙ r

  pub stands : StandsAtCut g now
  stands = subst (λ (k : Given). StandsAtCut k now) h.same (record {
    steps = h.steps;
    cut = law.at_cut p m.input s.turns s.gated h.can (run_along p m.input s).trace (run_along p m.input s).state (whole p m.input s h.good) h.steps m.state h.permitted;
    counts = λ t lt. h.counts t (let w = h.wide in omega (arith, w, lt));
    turns = sym h.done_is;
  })

-- a thread that may not take its next step is told why
abbrev IsRefusal : Option Tried → Type 0
IsRefusal (Some tried.Did) = ⊥
IsRefusal (Some tried.OutOfMemory) = ⊥
IsRefusal o = Unit {0}

first_refusal : (v : Turn) (us : List Turn) → IsRefusal (unless_first v us)
first_refusal v [] = tt
first_refusal v (u ∷ us) = go (is_turn v u)
  where
    go : (b : Bool) → IsRefusal (if b then None else Some tried.Waiting)
    go true = tt
    go false = tt

is_refusal : (n : Next) (has spent : Bool) (us : List Turn) → IsRefusal (refusal_by n has spent us)
is_refusal nexts.NotMade has spent us = tt
is_refusal nexts.Ended has spent us = tt
is_refusal (nexts.Trap name id) false spent us = tt
is_refusal (nexts.Trap name id) true spent us = tt
is_refusal (nexts.Event v) false spent us = tt
is_refusal (nexts.Event v) true true us = tt
is_refusal (nexts.Event v) true false us = first_refusal v us
is_refusal (nexts.Other id) false spent us = tt
is_refusal (nexts.Other id) true true us = tt
is_refusal (nexts.Other id) true false us = tt

pub answers : (g : Given) (t : ℕ) (v : Standing) (why : Tried) → refusal_of g t v ≡ Some why → Answers g t v why v
answers g t v why e = go why e (subst IsRefusal e (is_refusal (next_step g.program (bound g v) t) (has_turn t (left g v)) (nat_le GUIDED_STEP_LIMIT (slice_index v.taken t)) (left g v)))
  where
    go : (w : Tried) → refusal_of g t v ≡ Some w → IsRefusal (Some w) → Answers g t v w v
    go tried.NotMade q r = (q, refl)
    go tried.Ended q r = (q, refl)
    go tried.Stopped q r = (q, refl)
    go tried.Waiting q r = (q, refl)
    go tried.Did q r = absurd r
    go tried.OutOfMemory q r = absurd r

-- ---- where a step may be taken

module _ (g : Given) (p : NumberedProgram) (s : Schedule) (m : BoundState) (taken : List ℕ) (done : ℕ) (h : IsLocked g p s m taken done) (t : ℕ)
    (may : refusal_of g t (record { state = m.state; taken = taken; done = done }) ≡ None) where
  abbrev us : List Turn
  us = drop done s.turns

  opened : Opens (next_step p m t) (has_turn t (drop done s.turns)) (nat_le GUIDED_STEP_LIMIT (slice_index taken t)) (drop done s.turns)
  opened = opens (next_step p m t) (has_turn t (drop done s.turns)) (nat_le GUIDED_STEP_LIMIT (slice_index taken t)) (drop done s.turns)
      (refusal_is g p s m taken done h t ∙ may)

  pub budget : slice_index taken t < GUIDED_STEP_LIMIT
  budget = leb-false GUIDED_STEP_LIMIT (slice_index taken t) opened.steps

  -- a thread that isn't there has taken no step
  spent_by : t < length taken → has_spent h.steps t ≡ false
  spent_by lt = ap (nat_le GUIDED_STEP_LIMIT) (sym (h.counts t lt)) ∙ opened.steps

  pub is_there : t < length taken
  is_there = go (nat_lt t (length m.state.locals)) refl opened.due
    where
      go : (b : Bool) → nat_lt t (length m.state.locals) ≡ b
          → IsDueStep (if b then next_by m.gated m.state t (next_of p m.state t)
          else nexts.NotMade) (drop done s.turns) → t < length taken
      go true e d = let k = h.machine.few in let w = h.wide in let lt = ltb-true t (length m.state.locals) e in omega (arith, k, w, lt)
      go false e d = absurd d

  can_take : IsMade p m.input s h.can h.good h.steps m.state h.permitted (drop done s.turns) (left_is g p s m taken done h) t
  can_take = due_takes p m.input s h.can h.good h.steps m.state h.permitted (drop done s.turns) (left_is g p s m taken done h) t opened.owner (spent_by is_there)
      (subst (λ (gs : List InstrId). IsDueStep (next_step p (record { state = m.state; input = m.input; gated = gs }) t) (drop done s.turns)) h.gated opened.due)

  pub done_there : IsDone (step m.gated p m.input m.state t)
  done_there = subst (λ (gs : List InstrId). IsDone (step gs p m.input m.state t)) (sym h.gated) can_take.takes.is_done

  pub ready_there : ready p m.state t ≡ true
  ready_there = can_take.takes.is_ready

  -- no count is too large
  pub few_more : done + 1 < 2 ^ 32
  few_more =
      let each : (i : ℕ) → i < length taken → slice_index taken i ≤ GUIDED_STEP_LIMIT = λ i lt. (let a = h.counts i lt in let b = h.permitted.budget i in omega (arith, a, b)) in
      let most = sum_most taken GUIDED_STEP_LIMIT each in
      let w : length taken * GUIDED_STEP_LIMIT ≡ 320000000 = ap (λ (n : ℕ). n * GUIDED_STEP_LIMIT) h.wide in
      let f = h.few in
      omega (arith, most, w, f)

  -- ---- behind the step

  module _ (w : BoundState) (x : Step) (is_step : step m.gated p m.input m.state t ≡ Did x w.state) (input : w.input ≡ m.input) (gated : w.gated ≡ m.gated) (machine : IsMachine p w.state)
      (more : List ℕ) (more_is : more ≡ slice_set taken t (slice_index taken t + 1)) (b : Bool) (b_is : is_some (turn_of g.schedule.gated g.program m.state t) ≡ b) (k : ℕ) (k_is : k ≡ done + (if b then 1 else 0)) where
    is_step_here : step s.gated p m.input m.state t ≡ Did x w.state
    is_step_here = subst (λ (gs : List InstrId). step gs p m.input m.state t ≡ Did x w.state) h.gated is_step

    by : x.thread.0 ≡ t
    by = thread_of s.gated p m.input m.state w.state t x is_step_here

    event : event_of x ≡ turn_of s.gated p m.state t
    event = event_is s.gated p m.input m.state w.state t x is_step_here

    is_event : is_some (event_of x) ≡ b
    is_event = ap (λ (o : Option Turn). is_some o) (event ∙ ap (λ (gs : List InstrId). turn_of gs p m.state t) (sym h.gated) ∙ turn_is g p s m taken done h t) ∙ b_is

    due : IsDue (event_of x) (drop done s.turns)
    due = subst (λ (o : Option Turn). IsDue o (drop done s.turns)) (ap (λ (gs : List InstrId). turn_of gs p m.state t) h.gated ∙ sym event)
        (due_turn (next_step p m t) (turn_of m.gated p m.state t) (drop done s.turns) (next_tells p m t) opened.due)

    same_left : drop done s.turns ≡ turns_left s.turns h.steps
    same_left = sym (left_is g p s m taken done h)

    may_take : MayTake s.gated p m.input m.state (turns_left s.turns h.steps) (λ u. steps_of u h.steps) x
    may_take = record {
      takes = record {
        after = w.state;
        is_ready = subst (λ (u : ℕ). ready p m.state u ≡ true) (sym by) can_take.takes.is_ready;
        is_step = subst (λ (u : ℕ). step s.gated p m.input m.state u ≡ Did x w.state) (sym by) is_step_here;
      };
      owner = subst (λ (us : List Turn). has_turn x.thread.0 us ≡ true) same_left (subst (λ (u : ℕ). has_turn u (drop done s.turns) ≡ true) (sym by) opened.owner);
      budget = subst (λ (u : ℕ). steps_of u h.steps < GUIDED_STEP_LIMIT) (sym by) (let a = budget in let c = h.counts t is_there in omega (arith, a, c));
      due = subst (λ (us : List Turn). IsDue (event_of x) us) same_left due;
    }

    more_steps : IsPermitted p m.input s.turns s.gated (h.steps ++ x ∷ []) w.state
    unfolding may_take
    more_steps = (permitted_more p m.input s.turns s.gated h.steps x w.state).1 (m.state, h.permitted, (may_take, refl))

    pub stepped : IsLocked g p s w more k
    stepped = record {
      same = ap (given p s) input ∙ h.same;
      gated = gated ∙ h.gated;
      can = subst (CanRun p) (sym input) h.can;
      good = subst (λ (i : List ℤ). IsGoodRun p i s) (sym input) h.good;
      machine = machine;
      wide = ap (λ (l : List ℕ). length l) more_is ∙ length-set taken t (slice_index taken t + 1) ∙ h.wide;
      few = let a = sum_more taken t (slice_index taken t + 1) is_there refl in let e = ap (λ (l : List ℕ). sum l) more_is in let f = h.few in let q = bit_most b in omega (arith, a, e, f, k_is, q);
      steps = h.steps ++ x ∷ [];
      permitted = subst (λ (i : List ℤ). IsPermitted p i s.turns s.gated (h.steps ++ x ∷ []) w.state) (sym input) more_steps;
      done_is = events_more h.steps x (event_of x) refl ∙ ap (λ (i : ℕ). i + (if is_some (event_of x) then 1 else 0)) h.done_is ∙ ap (λ (c : Bool). done + (if c then 1 else 0)) is_event ∙ sym k_is;
      counts = subst (λ (l : List ℕ). (u : ℕ) → u < length l → slice_index l u ≡ steps_of u (h.steps ++ x ∷ [])) (sym more_is)
          (counts_more taken h.steps h.counts t is_there x by);
    }

    -- as contracts see it
    pub one_step : Steps g t (record { state = m.state; taken = taken; done = done }) (record { state = w.state; taken = more; done = k })
    one_step = record {
      taken = x;
      is_step = subst (λ (v : Given). step v.schedule.gated v.program v.input m.state t ≡ Did x w.state) h.same is_step_here;
      counts = more_is;
      turns = k_is ∙ ap (λ (c : Bool). done + (if c then 1 else 0)) (sym is_event);
    }
