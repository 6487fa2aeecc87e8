-- When a worker's next turn is due, and where the worker stands behind it.
use Rattle.std.proofs.Common.{◌≡◌, ℕ, zero, suc, ◌+◌, ◌<◌, ◌≤◌, ◌⊎◌, inl, inr, [], ◌∷◌, ◌++◌, length, List, Bool, true, false, Option, Some, None, refl, sym, ◌∙◌, ap, subst, arith}
use Rattle.std.specs.Prelude.{◌==◌, ◌||◌, slice_get, vec_capacity, if◌then◌else◌}
use Rattle.std.specs.List.{cons_option}
use Rattle.std.proofs.lemmas.Bool.{and_from, and_parts, cases_lt, eq-eqb, eqb-true, eqb-false, leb-true}
use Rattle.std.proofs.lemmas.Option.{slice_get_within}
use Rattle.atomic_table.specs.Seated.{TableId}
use Rattle.pg_seats.specs.pg_num.Places.{ByteRange, IsPlace}
use Rattle.pg_seats.specs.pg_num.declared.limits.TheConstants.{GUIDED_STEP_LIMIT}
use Rattle.pg_seats.specs.pg_ir.declared.ids.InstrId.{InstrId}
use Rattle.pg_seats.specs.pg_run_thread.Step.{after, next}
use Rattle.pg_seats.specs.pg_run_thread.Told.{id_of}
use Rattle.pg_seats.specs.pg_run_thread.declared.action.Action.{Action}
use Rattle.pg_seats.specs.pg_run_thread.declared.action.Action.TheVariants as actions
use Rattle.pg_seats.specs.pg_law_threads.Effects.{deeds, or_old}
use Rattle.pg_seats.specs.pg_law_threads.Intervals.{Timed, timed, turns_done}
use Rattle.pg_seats.specs.pg_law_runs.Deeds.{Did, goes_on, is_event_at, owners_of}
use Rattle.pg_seats.specs.pg_law_course.Course.{course, local_behind, next_turn, shared_in, state_at, turns_before, turns_in, turns_of}
use Rattle.pg_seats.specs.pg_law_course.Plan as plans
use Rattle.pg_seats.specs.pg_law_course.Plan.{guided_deeds, is_shared, turn_count}
use Rattle.pg_seats.specs.pg_law_course.Prints.{number_printed, numbers_printed}
use Rattle.pg_seats.specs.pg_law_course.Rests.{RestsAt, has_spent, is_trap}
use Rattle.pg_seats.specs.pg_law_course.Steps.{is_shared_action}
use Rattle.pg_seats.proofs.of_pg_law_course.CoursePlaces.{count_more}
use Rattle.pg_seats.proofs.of_pg_law_course.CourseSteps.{turn_high}
use Rattle.pg_seats.proofs.of_pg_law_course.OutputByTurns.{more_numbers}
use Rattle.pg_seats.proofs.of_pg_law_course.RestingThreads.{rests_at}
use Rattle.pg_seats.proofs.of_pg_law_course.SharedPlaces.{shared_end, turns_filter}
use Rattle.pg_seats.specs.declared.run.Run.{Run}
use Rattle.pg_seats.specs.declared.run.Standing.{Standing}
use Rattle.pg_seats.specs.declared.run.View.TheVariants as views
use Rattle.pg_seats.specs.Plan.{own_of, plan_of}
use Rattle.pg_seats.specs.Views.{IsAhead, IsNow, advanced, fits, is_due, is_turn, looked, next_of, seen_of}
use Rattle.pg_worker.specs.declared.worker.Worker.{Worker}
use Rattle.pg_worker.specs.Pages.{is_marked, page_of}
use Rattle.pg_worker.specs.Standing.{HasKept, HasMarks, HasToWait, IsAt, IsDue, IsResumed, TookTurn, WentOn, answer_at, is_end, is_now, looks_of, next_turn_of, place_stored, stands_at_event, value_left, waits_there}
use Rattle.pg_worker.proofs.StepLeaves.{marks_more, value_more}
use Rattle.pg_worker.proofs.NextSteps.{HasStep, at_step, inside}
use Rattle.pg_worker.proofs.PlainSteps.{its_next}

-- ---- what waits

pub event_or_end : (x : Action) (b : Bool) → goes_on x ≡ true → (b || is_end x) ≡ true → b ≡ true
event_or_end x true g e = refl
event_or_end actions.Ended false g e = absurd cc
event_or_end actions.Local false g e = absurd cc
event_or_end (actions.In i) false g e = absurd cc
event_or_end actions.InLen false g e = absurd cc
event_or_end (actions.Load q) false g e = absurd cc
event_or_end (actions.Store q n) false g e = absurd cc
event_or_end (actions.Event q) false g e = absurd cc
event_or_end (actions.Trap name) false g e = absurd cc

pub traps_not : (gated : List InstrId) (id : ℕ) (x : Action) → is_trap x ≡ true → (is_event_at gated id x || is_end x) ≡ true → ⊥
traps_not gated id (actions.Trap name) t e = absurd cc
traps_not gated id actions.Ended t e = absurd cc
traps_not gated id actions.Local t e = absurd cc
traps_not gated id (actions.In i) t e = absurd cc
traps_not gated id actions.InLen t e = absurd cc
traps_not gated id (actions.Load q) t e = absurd cc
traps_not gated id (actions.Store q n) t e = absurd cc
traps_not gated id (actions.Event q) t e = absurd cc

event_shared : (gated : List InstrId) (id : ℕ) (x : Action) → is_event_at gated id x ≡ true → is_shared_action x ≡ true
event_shared gated id (actions.Load q) e = refl
event_shared gated id (actions.Store q n) e = refl
event_shared gated id (actions.Event q) e = refl
event_shared gated id (actions.Trap name) e = absurd cc
event_shared gated id actions.Ended e = absurd cc
event_shared gated id actions.Local e = absurd cc
event_shared gated id (actions.In i) e = absurd cc
event_shared gated id actions.InLen e = absurd cc

pub shared_event : (d : Did) → deeds.is_event d ≡ true → is_shared d ≡ true
shared_event d e = rw e refl

pub some_number : (a b : ℕ) → Some a ≡ Some b → a ≡ b
some_number a b e = cc

-- as many turns are in the plan as in the run
plan_turns : (r : Run) → turns_done deeds 0 (plan_of r) ≡ turn_count r.program r.input r.schedule
unfolding plans.plan_of
plan_turns r = turns_filter is_shared shared_event 0 (guided_deeds r.program r.input r.schedule)

-- ---- the number of the next turn

module _ (r : Run) (table : TableId) (parts : ℕ) (a : Worker) (at : IsAt r table parts a) (g : ℕ) (left : next_turn_of a ≡ Some g) where
  pub number_is : next_turn r.program r.input r.schedule a.thread.0 at.taken ≡ Some g
  number_is = ap (λ xs. slice_get xs (turns_in r.program r.input r.schedule a.thread.0 at.taken)) (sym at.turns) ∙ ap (λ m. slice_get a.turns.items m) (sym at.turns_done) ∙ left

  -- a step there that is an event is the turn of this number
  pub turn_is : (n : HasStep r a.thread.0 at.taken a.fiber) → deeds.is_event n.step ≡ true
      → next_of at.standing ≡ Some (timed deeds (owners_of r.schedule.turns) (turns_before r.program r.input r.schedule a.thread.0 at.taken) n.step)
  turn_is n event = its_next r a.thread.0 at.taken parts a.fiber n at.enforced at.standing at.seat (shared_event n.step event)

  pub high_is : (n : HasStep r a.thread.0 at.taken a.fiber) → deeds.is_event n.step ≡ true
      → (timed deeds (owners_of r.schedule.turns) (turns_before r.program r.input r.schedule a.thread.0 at.taken) n.step).high ≡ g
  high_is n event = turn_high r.program r.input r.schedule at.enforced.can at.enforced.good a.thread.0 at.taken n.step n.there event
      ∙ some_number _ g (sym (n.of.number event) ∙ number_is)

-- ---- a look

-- what a read of the turn word that found a number says of turn g
record Tells (w : Standing) (g found : ℕ) : Type 0 where
  due : found ≡ g → is_due w found ≡ true
  early : (found ≡ g → ⊥) → found < g

module _ (r : Run) (table : TableId) (a : Worker) (at : IsAt r table 0 a) (few : 0 < a.left) (g : ℕ) (left : next_turn_of a ≡ Some g) (waits : waits_there r a.fiber ≡ true)
    (found : ℕ) (ahead : IsAhead (views.Worker at.standing) found) where
  at_turn : HasStep r a.thread.0 at.taken a.fiber → Tells at.standing g found
  at_turn n =
      let event : deeds.is_event n.step ≡ true = n.of.event ∙ event_or_end (next r.program a.fiber) (stands_at_event r a.fiber) n.of.goes waits in
      let there = turn_is r table 0 a at g left n event in
      let high = high_is r table 0 a at g left n event in
      record {
        due = λ e. ap (fits (is_turn found)) there ∙ and_from (deeds.is_event n.step) _ event (eq-eqb _ found (high ∙ sym e));
        early = λ e. (let m = ahead.1 _ there event in early_by found g _ high m e);
      }
    where
      early_by : (f g h : ℕ) → h ≡ g → f ≤ h → (f ≡ g → ⊥) → f < g
      early_by f g h e m apart = go (cases_lt f g)
        where
          go : (f < g) ⊎ (g ≤ f) → f < g
          go (inl lt) = lt
          go (inr le) = absurd (apart (omega (arith, e, m, le)))

  at_rest : at.taken ≡ length (course r.program r.input r.schedule a.thread.0) → Tells at.standing g found
  at_rest e =
      let rest = rests_at r.program r.input r.schedule at.enforced.can at.enforced.good a.thread.0 a.fiber g
      (subst (λ (n : ℕ). state_at r.program r.input r.schedule a.thread.0 n ≡ Some a.fiber) e at.local)
      (subst (λ (n : ℕ). next_turn r.program r.input r.schedule a.thread.0 n ≡ Some g) e (number_is r table 0 a at g left)) in
      let bound : found ≤ turn_count r.program r.input r.schedule = subst (λ (n : ℕ). found ≤ n) (ap (λ (q : Run). turns_done deeds 0 (plan_of q)) at.seat.run_is ∙ plan_turns r) ahead.0 in
      let before : turn_count r.program r.input r.schedule < g = strictly rest in
      record { due = λ q. absurd (omega (arith, q, bound, before)); early = λ q. omega (arith, bound, before) }
    where
      held : (is_trap (next r.program a.fiber) || has_spent (length (course r.program r.input r.schedule a.thread.0))) ≡ true → ⊥
      held h = go (is_trap (next r.program a.fiber)) (has_spent (length (course r.program r.input r.schedule a.thread.0))) refl refl h
        where
          go : (x y : Bool) → is_trap (next r.program a.fiber) ≡ x → has_spent (length (course r.program r.input r.schedule a.thread.0)) ≡ y → (x || y) ≡ true → ⊥
          go true y p q k = traps_not r.schedule.gated (id_of a.fiber) (next r.program a.fiber) p waits
          go false true p q k = let s = leb-true GUIDED_STEP_LIMIT (length (course r.program r.input r.schedule a.thread.0)) q in let m = at.steps in omega (arith, s, m, e, few)
          go false false p q k = absurd cc

      strictly : RestsAt r.program r.input r.schedule a.thread.0 (length (course r.program r.input r.schedule a.thread.0)) a.fiber g → turn_count r.program r.input r.schedule < g
      strictly rest = go (cases_lt (turn_count r.program r.input r.schedule) g)
        where
          go : (turn_count r.program r.input r.schedule < g) ⊎ (g ≤ turn_count r.program r.input r.schedule) → turn_count r.program r.input r.schedule < g
          go (inl lt) = lt
          go (inr le) = absurd (held (rest.held (let b = rest.behind in omega (arith, b, le))))

  tells : Tells at.standing g found
  tells = go (cases_lt at.taken (length (course r.program r.input r.schedule a.thread.0)))
    where
      go : (at.taken < length (course r.program r.input r.schedule a.thread.0)) ⊎ (length (course r.program r.input r.schedule a.thread.0) ≤ at.taken) → Tells at.standing g found
      go (inl lt) = at_turn (at_step r at.enforced a.thread.0 at.taken a.fiber at.local lt)
      go (inr le) = at_rest (let i = inside r.program r.input r.schedule a.thread.0 at.taken a.fiber at.local in omega (arith, i, le))

pub same_next : (w : Standing) (due : Bool) (parts seen looks : ℕ) → next_of (record { run = w.run; thread = w.thread; done = w.done; due = due; parts = parts; seen = seen; looks = looks }) ≡ next_of w
unfolding next_of
same_next w due parts seen looks = refl

-- a worker that has read the turn word
module _ (r : Run) (table : TableId) (a b : Worker) (at : IsAt r table 0 a) (few : 0 < a.left) (g : ℕ) (left : next_turn_of a ≡ Some g) (waits : waits_there r a.fiber ≡ true)
    (found : ℕ) (same : b ≡ record a { seat = b.seat }) (own : b.seat.table_id ≡ a.seat.table_id) (view : b.seat.me ≡ (looked a.seat.me.0 found, a.seat.me.1))
    (low : seen_of a.seat.me.0 ≤ found) (ahead : IsAhead a.seat.me.0 found) where
  abbrev standing : Standing
  standing = record { run = at.standing.run; thread = at.standing.thread; done = at.standing.done; due = is_due at.standing found; parts = at.standing.parts; seen = found; looks = suc at.standing.looks }

  view_is : b.seat.me ≡ (views.Worker standing, [])
  view_is = view ∙ ap (λ m. (looked m.0 found, m.1)) at.view

  told : Tells at.standing g found
  told = tells r table a at few g left waits found (subst (λ m. IsAhead m.0 found) at.view ahead)

  low_is : at.standing.seen ≤ found
  low_is = subst (λ m. seen_of m.0 ≤ found) at.view low

  seated : (s : a.seat ≡ a.seat) → IsAt r table 0 (record a { seat = b.seat })
  seated s = record {
    enforced = at.enforced;
    taken = at.taken;
    standing = standing;
    own = own ∙ at.own;
    view = view_is;
    seat = record { run_is = at.seat.run_is; thread = at.seat.thread; parts_done = at.seat.parts_done; done = at.seat.done };
    local = at.local;
    of = at.of;
    steps = at.steps;
    turns = at.turns;
    turns_done = at.turns_done;
    behind = λ i m lt e. (let k = at.behind i m lt e in let l = low_is in omega (arith, k, l));
    prints = at.prints;
    few = at.few;
    room = at.room;
    value = at.value;
    marked = at.marked;
  }

  pub looked_at : IsAt r table 0 b
  looked_at = subst (IsAt r table 0) (sym same) (seated refl)

  same_turn : next_turn_of b ≡ Some g
  same_turn = ap next_turn_of same ∙ left

  pub looked_due : (found == g) ≡ true → IsDue b
  looked_due e k there =
      let q : found ≡ g = eqb-true found g e in
      let m : k ≡ found = some_number k found (sym there ∙ same_turn ∙ ap Some (sym q)) in
      ap (λ v. is_now v.0 k) view_is ∙ and_from (is_due at.standing found) _ (told.due q)
      (ap (fits (is_turn k)) (same_next at.standing (is_due at.standing found) at.standing.parts found (suc at.standing.looks)) ∙ ap (is_due at.standing) m ∙ told.due q)

  pub looked_early : (found == g) ≡ false → HasToWait a b
  looked_early e = record {
    looked = subst (λ m. looks_of a.seat.me.0 < looks_of m.0) (sym view_is) (subst (λ m. looks_of m.0 < suc at.standing.looks) (sym at.view) (omega arith));
    early = λ k there. subst (λ m. seen_of m.0 < k) (sym view_is) (subst (λ (n : ℕ). found < n) (some_number g k (sym same_turn ∙ there)) (told.early (eqb-false found g e)));
  }

  pub looked_went : WentOn a b
  looked_went = record {
    thread = ap (λ w. w.thread) same;
    turns = ap (λ w. w.turns.items) same;
    done = (let d : b.done ≡ a.done = ap (λ w. w.done) same in omega (arith, d));
    left = (let d : b.left ≡ a.left = ap (λ w. w.left) same in omega (arith, d));
    seen = subst (λ m. seen_of a.seat.me.0 ≤ seen_of m.0) (sym view_is) low;
    looks = subst (λ m. looks_of a.seat.me.0 ≤ looks_of m.0) (sym view_is) (subst (λ m. looks_of m.0 ≤ suc at.standing.looks) (sym at.view) (omega arith));
  }

-- ---- what a turn leaves at the worker

pub kept_of : (action : Action) (a x y b : Worker) → x ≡ record a { prints = x.prints } → y ≡ record x { pages = y.pages } → b ≡ record y { value = b.value }
    → x.prints.items ≡ a.prints.items ++ cons_option (number_printed action) [] → vec_capacity a.prints ≤ vec_capacity x.prints
    → ((q : ByteRange) → place_stored action ≡ Some q → IsPlace q × (is_marked y.pages.words.items (page_of q.start) ≡ true))
    → ((page : ℕ) → is_marked x.pages.words.items page ≡ true → is_marked y.pages.words.items page ≡ true)
    → b.value ≡ or_old (value_left action) y.value → HasKept action a b
kept_of action a x y b ex ey eb items room stored marked value = record {
  prints = ap (λ v. v.items) prints ∙ items;
  room = subst (λ v. vec_capacity a.prints ≤ vec_capacity v) (sym prints) room;
  value = value ∙ ap (or_old (value_left action)) (ap (λ (w : Worker). w.value) ey ∙ ap (λ (w : Worker). w.value) ex);
  stored = λ q e. (let s = stored q e in (s.0, ap (λ p. is_marked p.words.items (page_of q.start)) pages ∙ s.1));
  marked = λ page m. ap (λ p. is_marked p.words.items page) pages ∙ marked page (ap (λ (w : Worker). is_marked w.pages.words.items page) ex ∙ m);
  rest = eb ∙ ap (λ (w : Worker). record w { value = b.value }) (ey ∙ ap (λ (w : Worker). record w { pages = y.pages }) ex)
      ∙ ap (λ v. record a { prints = v; value = b.value; pages = y.pages }) (sym prints) ∙ ap (λ v. record a { prints = b.prints; value = b.value; pages = v }) (sym pages);
}
  where
    pages : b.pages ≡ y.pages
    pages = ap (λ (w : Worker). w.pages) eb

    prints : b.prints ≡ x.prints
    prints = ap (λ (w : Worker). w.prints) eb ∙ ap (λ (w : Worker). w.prints) ey

-- ---- the end of a turn

few_one : (o : Option ℕ) (m : ℕ) → length (cons_option o []) ≤ suc m
few_one None m = omega arith
few_one (Some n) m = omega arith

few_numbers : (o : Option ℕ) (xs : List ℕ) (m : ℕ) → length xs ≤ m → length (xs ++ cons_option o []) ≤ suc m
few_numbers o [] m h = few_one o m
few_numbers o (x ∷ xs) zero h = absurd (omega (arith, h))
few_numbers o (x ∷ xs) (suc m) h = let i = few_numbers o xs m (omega (arith, h)) in omega (arith, i)

fits_some : (f : Timed Did → Bool) (o : Option (Timed Did)) → fits f o ≡ true → (x : Timed Did) × ((o ≡ Some x) × (f x ≡ true))
fits_some f None e = absurd cc
fits_some f (Some x) e = (x, (refl, e))

module _ (r : Run) (table : TableId) (parts : ℕ) (a : Worker) (at : IsAt r table parts a) (g : ℕ) (left : next_turn_of a ≡ Some g) (due : IsDue a) where
  is_due_now : is_due at.standing g ≡ true
  is_due_now = (and_parts at.standing.due (is_due at.standing g) (ap (λ m. is_now m.0 g) (sym at.view) ∙ due g left)).1

  left_of : (x : Timed Did) → next_of at.standing ≡ Some x → at.standing.done < length (own_of r a.thread.0)
  unfolding next_of
  left_of x e = slice_get_within (own_of r a.thread.0) at.standing.done x
      (ap (λ (u : ℕ). slice_get (own_of r u) at.standing.done) (sym at.seat.thread) ∙ ap (λ (q : Run). slice_get (own_of q at.standing.thread) at.standing.done) (sym at.seat.run_is) ∙ e)

  shared_left : at.standing.done < length (own_of r a.thread.0)
  shared_left = let x = fits_some (is_turn g) (next_of at.standing) is_due_now in left_of x.0 x.1.0

  -- the run has the turn
  step_due : HasStep r a.thread.0 at.taken a.fiber
  step_due = go (cases_lt at.taken (length (course r.program r.input r.schedule a.thread.0)))
    where
      go : (at.taken < length (course r.program r.input r.schedule a.thread.0)) ⊎ (length (course r.program r.input r.schedule a.thread.0) ≤ at.taken) → HasStep r a.thread.0 at.taken a.fiber
      go (inl lt) = at_step r at.enforced a.thread.0 at.taken a.fiber at.local lt
      go (inr le) =
          let i = inside r.program r.input r.schedule a.thread.0 at.taken a.fiber at.local in
          let e : at.taken ≡ length (course r.program r.input r.schedule a.thread.0) = omega (arith, i, le) in
          let s : length (own_of r a.thread.0) ≡ shared_in r.program r.input r.schedule a.thread.0 at.taken =
          shared_end r.program r.input r.schedule at.enforced.can at.enforced.good a.thread.0 ∙ ap (shared_in r.program r.input r.schedule a.thread.0) (sym e) in
          let d = at.seat.done in let l = shared_left in absurd (omega (arith, s, d, l))

  -- a worker that waits and is due stands at an event
  pub due_stands : waits_there r a.fiber ≡ true → stands_at_event r a.fiber ≡ true
  due_stands waits = event_or_end (next r.program a.fiber) (stands_at_event r a.fiber) step_due.of.goes waits

module _ (r : Run) (table : TableId) (parts : ℕ) (a : Worker) (at : IsAt r table parts a) (g : ℕ) (left : next_turn_of a ≡ Some g) (event : stands_at_event r a.fiber ≡ true) (due : IsDue a) where
  pub due_step : HasStep r a.thread.0 at.taken a.fiber
  due_step = step_due r table parts a at g left due

  pub due_event : deeds.is_event due_step.step ≡ true
  due_event = due_step.of.event ∙ event

  pub due_there : next_of at.standing ≡ Some (timed deeds (owners_of r.schedule.turns) (turns_before r.program r.input r.schedule a.thread.0 at.taken) due_step.step)
  due_there = turn_is r table parts a at g left due_step due_event

  -- the turn that its seat ends is this one
  now_is : (n : ℕ) → is_due at.standing n ≡ true → g ≡ n
  now_is n e =
      let h = high_is r table parts a at g left due_step due_event in
      let k = (and_parts (deeds.is_event due_step.step) _ (ap (fits (is_turn n)) (sym due_there) ∙ e)).1 in
      sym h ∙ eqb-true _ n k

  -- c is the worker with what the turn leaves kept, m is c once its seat has ended the turn, and b is m behind the step of its own state
  module _ (c m b : Worker) (kept : HasKept (next r.program a.fiber) a c) (same : m ≡ record c { seat = m.seat; done = c.done + 1 }) (answer : ℕ) (answered : answer ≡ answer_at r a.thread.0 at.taken a.fiber)
      (own : m.seat.table_id ≡ c.seat.table_id) (n : ℕ) (view : m.seat.me ≡ (advanced c.seat.me.0 n, c.seat.me.1)) (now : IsNow c.seat.me.0 n) (h : IsResumed r.program answer m b) (seat : b.seat ≡ m.seat) where
    seat_same : c.seat ≡ a.seat
    seat_same = ap (λ (w : Worker). w.seat) kept.rest

    fiber : m.fiber ≡ a.fiber
    fiber = ap (λ (w : Worker). w.fiber) same ∙ ap (λ (w : Worker). w.fiber) kept.rest

    thread : m.thread ≡ a.thread
    thread = ap (λ (w : Worker). w.thread) same ∙ ap (λ (w : Worker). w.thread) kept.rest

    turns : m.turns ≡ a.turns
    turns = ap (λ (w : Worker). w.turns) same ∙ ap (λ (w : Worker). w.turns) kept.rest

    done : m.done ≡ suc a.done
    done = (let x : m.done ≡ c.done + 1 = ap (λ (w : Worker). w.done) same in let y : c.done ≡ a.done = ap (λ (w : Worker). w.done) kept.rest in omega (arith, x, y))

    steps : m.left ≡ a.left
    steps = ap (λ (w : Worker). w.left) same ∙ ap (λ (w : Worker). w.left) kept.rest

    prints : m.prints.items ≡ a.prints.items ++ cons_option (number_printed (next r.program a.fiber)) []
    prints = ap (λ (w : Worker). w.prints.items) same ∙ kept.prints

    room : vec_capacity a.prints ≤ vec_capacity m.prints
    room = (let x = ap (λ (w : Worker). vec_capacity w.prints) same in let y = kept.room in omega (arith, x, y))

    value : b.value ≡ or_old (value_left (next r.program a.fiber)) a.value
    value = h.value ∙ ap (λ (w : Worker). w.value) same ∙ kept.value

    pages : b.pages ≡ c.pages
    pages = h.pages ∙ ap (λ (w : Worker). w.pages) same

    abbrev behind_it : Standing
    behind_it = record { run = at.standing.run; thread = at.standing.thread; done = suc at.standing.done; due = false; parts = 0; seen = suc n; looks = at.standing.looks }

    now_standing : IsNow (views.Worker at.standing) n
    now_standing = subst (λ v. IsNow v.0 n) (ap (λ s. s.me) seat_same ∙ at.view) now

    thread_is : a.thread.0 ≡ b.thread.0
    thread_is = ap (λ u. u.0) (sym (h.thread ∙ thread))

    ended_view : b.seat.me ≡ (views.Worker behind_it, [])
    ended_view = ap (λ s. s.me) seat ∙ view ∙ ap (λ v. (advanced v.0 n, v.1)) (ap (λ s. s.me) seat_same ∙ at.view)

    turns_are : b.turns.items ≡ a.turns.items
    turns_are = ap (λ v. v.items) (h.turns ∙ turns)

    done_is : b.done ≡ suc a.done
    done_is = h.done ∙ done

    known : (i q : ℕ) → i < suc a.done → slice_get a.turns.items i ≡ Some q → q < suc n
    known i q lt e = go (cases_lt i a.done)
      where
        go : (i < a.done) ⊎ (a.done ≤ i) → q < suc n
        go (inl l) = (let k = at.behind i q l e in let s = now_standing.1 in omega (arith, k, s))
        go (inr l) =
            let j : i ≡ a.done = omega (arith, lt, l) in
            let k : q ≡ g = some_number q g (sym e ∙ ap (slice_get a.turns.items) j ∙ left) in
            let o = now_is n now_standing.0 in omega (arith, k, o)

    pub turned_at : IsAt r table 0 b
    turned_at = record {
      enforced = at.enforced;
      taken = suc at.taken;
      standing = behind_it;
      own = ap (λ s. s.table_id) seat ∙ own ∙ ap (λ s. s.table_id) seat_same ∙ at.own;
      view = ended_view;
      seat = record {
        run_is = at.seat.run_is;
        thread = at.seat.thread ∙ thread_is;
        parts_done = refl;
        done = ap suc at.seat.done ∙ sym (count_more is_shared (course r.program r.input r.schedule a.thread.0) at.taken due_step.step due_step.there
            ∙ ap (λ (e : Bool). if e then suc (shared_in r.program r.input r.schedule a.thread.0 at.taken) else shared_in r.program r.input r.schedule a.thread.0 at.taken) (shared_event due_step.step due_event))
            ∙ ap (λ (u : ℕ). shared_in r.program r.input r.schedule u (suc at.taken)) thread_is;
      };
      local = ap (λ (u : ℕ). state_at r.program r.input r.schedule u (suc at.taken)) (sym thread_is) ∙ ap local_behind due_step.there ∙ due_step.of.after
          ∙ ap (λ (k : ℕ). Some (after r.program a.fiber k)) (sym answered) ∙ ap (λ l. Some (after r.program l answer)) (sym fiber) ∙ ap Some (sym h.fiber);
      of = h.of;
      steps = (let x = h.left in let y = at.steps in omega (arith, x, y, steps));
      turns = turns_are ∙ at.turns ∙ ap (λ (u : ℕ). turns_of u r.schedule.turns) thread_is;
      turns_done = done_is ∙ ap suc at.turns_done
          ∙ sym (count_more deeds.is_event (course r.program r.input r.schedule a.thread.0) at.taken due_step.step due_step.there
          ∙ ap (λ (e : Bool). if e then suc (turns_in r.program r.input r.schedule a.thread.0 at.taken) else turns_in r.program r.input r.schedule a.thread.0 at.taken) due_event)
          ∙ ap (λ (u : ℕ). turns_in r.program r.input r.schedule u (suc at.taken)) thread_is;
      behind = λ i q lt e. known i q (subst (λ (k : ℕ). i < k) done_is lt) (ap (λ xs. slice_get xs i) (sym turns_are) ∙ e);
      prints = prints_are ∙ ap (λ (xs : List ℕ). xs ++ cons_option (number_printed (next r.program a.fiber)) []) at.prints
          ∙ ap (λ o. numbers_printed r.program r.input r.schedule a.thread.0 at.taken ++ cons_option o []) (sym due_step.of.prints)
          ∙ sym (more_numbers r.program r.input r.schedule a.thread.0 at.taken due_step.step due_step.there)
          ∙ ap (λ (u : ℕ). numbers_printed r.program r.input r.schedule u (suc at.taken)) thread_is;
      few = subst (λ (xs : List ℕ). length xs ≤ b.done) (sym prints_are) (subst (λ (k : ℕ). length (a.prints.items ++ cons_option (number_printed (next r.program a.fiber)) []) ≤ k) (sym done_is)
          (few_numbers (number_printed (next r.program a.fiber)) a.prints.items a.done at.few));
      room = room_is;
      value = λ main. value_more r at.enforced a.thread.0 at.taken a.fiber due_step at.local a.value b.value at.value value (thread_is ∙ main);
      marked = subst (λ (u : ℕ). HasMarks r u (suc at.taken) b.pages.words.items) thread_is (subst (λ p. HasMarks r a.thread.0 (suc at.taken) p.words.items) (sym pages)
          (marks_more r at.enforced a.thread.0 at.taken a.fiber due_step at.local a.pages.words.items c.pages.words.items at.marked kept.marked kept.stored));
    }
      where
        prints_are : b.prints.items ≡ a.prints.items ++ cons_option (number_printed (next r.program a.fiber)) []
        prints_are = ap (λ v. v.items) h.prints ∙ prints

        room_is : length b.turns.items ≤ vec_capacity b.prints
        room_is = subst (λ (xs : List ℕ). length xs ≤ vec_capacity b.prints) (sym turns_are) (subst (λ v. length a.turns.items ≤ vec_capacity v) (sym h.prints) (let x = at.room in omega (arith, x, room)))

    pub turned_took : TookTurn a b
    turned_took = record {
      turn = done_is;
      took = record {
        one = h.left ∙ steps;
        went = record {
          thread = h.thread ∙ thread;
          turns = turns_are;
          done = (let d = done_is in omega (arith, d));
          left = (let l = h.left in omega (arith, l, steps));
          seen = subst (λ v. seen_of v.0 ≤ seen_of b.seat.me.0) (sym at.view) (subst (λ v. at.standing.seen ≤ seen_of v.0) (sym ended_view) (let s = now_standing.1 in omega (arith, s)));
          looks = subst (λ v. looks_of v.0 ≤ looks_of b.seat.me.0) (sym at.view) (subst (λ v. at.standing.looks ≤ looks_of v.0) (sym ended_view) (omega arith));
        };
      };
    }
