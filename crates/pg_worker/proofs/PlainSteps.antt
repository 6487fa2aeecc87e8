-- The steps of a worker that are no turns: each is allowed, and leaves the worker behind one step more.
use Rattle.std.proofs.Common.{◌≡◌, ℕ, ℤ, suc, ◌*◌, ◌<◌, ◌≤◌, ◌^◌, length, Bool, true, false, Option, Some, None, refl, sym, ◌∙◌, ap, subst, arith}
use Rattle.std.specs.Prelude.{◌&&◌, slice_get, if◌then◌else◌}
use Rattle.std.proofs.lemmas.Bool.{eq-eqb}
use Rattle.atomic_table.specs.Seated.{TableId}
use Rattle.pg_seats.specs.pg_num.Inputs.{input_at}
use Rattle.pg_seats.specs.pg_num.Places.{ByteRange, IsPlace}
use Rattle.pg_seats.specs.pg_ir.Program.{NumberedProgram}
use Rattle.pg_seats.specs.pg_run_thread.LocalState.{LocalState}
use Rattle.pg_seats.specs.pg_run_thread.Step.{after, next}
use Rattle.pg_seats.specs.pg_run_thread.Told.{id_of}
use Rattle.pg_seats.specs.pg_run_thread.declared.action.Action.{Action}
use Rattle.pg_seats.specs.pg_run_thread.declared.action.Action.TheVariants as actions
use Rattle.pg_seats.specs.pg_run_trace.declared.step.Access.{Access}
use Rattle.pg_seats.specs.pg_run_trace.Steps.{access_of, event_of}
use Rattle.pg_seats.specs.pg_run.Fits.{ActionFits}
use Rattle.pg_seats.specs.pg_run.MachineStep.{is_gated}
use Rattle.pg_seats.proofs.of_pg_run.FitActions.{action_fits}
use Rattle.pg_seats.specs.pg_law_threads.Effects.{deeds}
use Rattle.pg_seats.specs.pg_law_threads.Intervals.{Timed, timed}
use Rattle.pg_seats.specs.pg_law_runs.Deeds.{Did, goes_on, is_event_at, owners_of}
use Rattle.pg_seats.specs.pg_law_course.Course.{cells_before, course, shared_in, turns_before, turns_in}
use Rattle.pg_seats.specs.pg_law_course.Plan.{is_shared}
use Rattle.pg_seats.specs.pg_law_course.Prints.{number_printed}
use Rattle.pg_seats.specs.pg_law_course.Steps.{Accessed, access_by, accessed, is_shared_action, made_by, number_in}
use Rattle.pg_seats.proofs.of_pg_law_course.ActionCells.{number_same}
use Rattle.pg_seats.proofs.of_pg_law_course.CoursePlaces.{count_more, get_length}
use Rattle.pg_seats.proofs.of_pg_law_course.SharedPlaces.{same_cells, shared_place}
use Rattle.pg_seats.specs.declared.run.Run.{Run}
use Rattle.pg_seats.specs.declared.run.Standing.{Standing}
use Rattle.pg_seats.specs.declared.run.View.{View}
use Rattle.pg_seats.specs.declared.run.View.TheVariants as views
use Rattle.pg_seats.specs.Plan.{IsEnforced, cells_there, own_of}
use Rattle.pg_seats.specs.Views.{fits, has_number, is_plain, may_load, may_store, next_of, number_there, reads_at, seen_of, went_on, writes_at}
use Rattle.pg_worker.specs.declared.worker.Worker.{Worker}
use Rattle.pg_worker.specs.Pages.{is_marked, page_of}
use Rattle.pg_worker.specs.Standing.{IsAt, IsResumed, IsSeatAt, TookOne, answer_at, looks_of, place_stored, value_left}
use Rattle.pg_worker.proofs.NextSteps.{HasStep, has_step, still_at}

-- ---- what an access tells

pub tells_read : (q : ByteRange) (n : ℕ) (o : Option Access) → accessed o ≡ Some (record { at = q; number = n; writes = false }) → reads_at q o ≡ true
tells_read q n None e = absurd cc
tells_read q n (Some x) e =
    let same : Path Accessed _ (record { at = q; number = n; writes = false }) = some_is _ _ e in
    rw (ap (λ (a : Accessed). a.writes) same, eq-eqb _ q.start (ap (λ (a : Accessed). a.at.start) same), eq-eqb _ q.bytes (ap (λ (a : Accessed). a.at.bytes) same)) refl
  where
    some_is : (x y : Accessed) → Some x ≡ Some y → x ≡ y
    some_is x y k = cc

pub tells_write : (q : ByteRange) (n : ℕ) (o : Option Access) → accessed o ≡ Some (record { at = q; number = n; writes = true }) → (writes_at q o && has_number n o) ≡ true
tells_write q n None e = absurd cc
tells_write q n (Some x) e =
    let same : Path Accessed _ (record { at = q; number = n; writes = true }) = some_is _ _ e in
    rw (
      ap (λ (a : Accessed). a.writes) same,
      eq-eqb _ q.start (ap (λ (a : Accessed). a.at.start) same),
      eq-eqb _ q.bytes (ap (λ (a : Accessed). a.at.bytes) same),
      eq-eqb _ n (ap (λ (a : Accessed). a.number) same),
    ) refl
  where
    some_is : (x y : Accessed) → Some x ≡ Some y → x ≡ y
    some_is x y k = cc

same_place : (q z : ByteRange) → Some q ≡ Some z → q ≡ z
same_place q z e = cc

-- ---- the next shared step of a seat

module _ (r : Run) (t k parts : ℕ) (l : LocalState) (n : HasStep r t k l) (can : IsEnforced r) (w : Standing) (h : IsSeatAt r t k parts w) where
  pub its_next : is_shared n.step ≡ true → next_of w ≡ Some (timed deeds (owners_of r.schedule.turns) (turns_before r.program r.input r.schedule t k) n.step)
  unfolding next_of
  its_next chosen = ap (λ (q : Run). slice_get (own_of q w.thread) w.done) h.run_is ∙ ap (λ (u : ℕ). slice_get (own_of r u) w.done) h.thread
      ∙ ap (λ (m : ℕ). slice_get (own_of r t) m) h.done ∙ shared_place r.program r.input r.schedule can.can can.good t k n.step n.there chosen

  pub its_cells : is_shared n.step ≡ true → (c : ℕ) → cells_there w.run w.thread w.done c ≡ cells_before r.program r.input r.schedule t k c
  unfolding cells_there
  its_cells chosen c = ap (λ (q : Run). cells_there q w.thread w.done c) h.run_is ∙ ap (λ (u : ℕ). cells_there r u w.done c) h.thread
      ∙ ap (λ (m : ℕ). cells_there r t m c) h.done ∙ same_cells r.program r.input r.schedule can.can can.good t k n.step n.there chosen c

  pub its_number : is_shared n.step ≡ true → (q : ByteRange) → number_there (views.Worker w) q ≡ number_in (cells_before r.program r.input r.schedule t k) q
  its_number chosen q = number_same (cells_there w.run w.thread w.done) (cells_before r.program r.input r.schedule t k) q.start q.bytes (λ b low high. its_cells chosen b)

-- ---- a worker's next step

module _ (r : Run) (table : TableId) (a : Worker) (at : IsAt r table 0 a) (few : 0 < a.left) (turn : a.done < length a.turns.items) where
  pub step_of : goes_on (next r.program a.fiber) ≡ true → is_event_at r.schedule.gated (id_of a.fiber) (next r.program a.fiber) ≡ false → HasStep r a.thread.0 at.taken a.fiber
  step_of goes plain =
      let g = get_length a.turns.items a.done turn in
      has_step r at.enforced a.thread.0 at.taken a.fiber at.local (let s = at.steps in omega (arith, s, few)) g.0
      (ap (λ xs. slice_get xs (turns_in r.program r.input r.schedule a.thread.0 at.taken)) (sym at.turns) ∙ ap (λ m. slice_get a.turns.items m) (sym at.turns_done) ∙ g.1) goes plain

  -- the seat stays where the step isn't shared, and goes on where it is
  stays : (n : HasStep r a.thread.0 at.taken a.fiber) → is_shared_action (next r.program a.fiber) ≡ false → IsSeatAt r a.thread.0 (suc at.taken) 0 at.standing
  stays n own = record {
    run_is = at.seat.run_is;
    thread = at.seat.thread;
    parts_done = at.seat.parts_done;
    done = at.seat.done ∙ sym (count_more is_shared (course r.program r.input r.schedule a.thread.0) at.taken n.step n.there
        ∙ ap (λ (e : Bool). if e then suc (shared_in r.program r.input r.schedule a.thread.0 at.taken) else shared_in r.program r.input r.schedule a.thread.0 at.taken) (n.of.shared ∙ own));
  }

  abbrev behind_it : Standing
  behind_it = record { run = at.standing.run; thread = at.standing.thread; done = suc at.standing.done; due = false; parts = 0; seen = at.standing.seen; looks = at.standing.looks }

  moves : (n : HasStep r a.thread.0 at.taken a.fiber) → is_shared_action (next r.program a.fiber) ≡ true → IsSeatAt r a.thread.0 (suc at.taken) 0 behind_it
  moves n shared = record {
    run_is = at.seat.run_is;
    thread = at.seat.thread;
    parts_done = refl;
    done = ap suc at.seat.done ∙ sym (count_more is_shared (course r.program r.input r.schedule a.thread.0) at.taken n.step n.there
        ∙ ap (λ (e : Bool). if e then suc (shared_in r.program r.input r.schedule a.thread.0 at.taken) else shared_in r.program r.input r.schedule a.thread.0 at.taken) (n.of.shared ∙ shared));
  }

  no_place : place_stored (next r.program a.fiber) ≡ None → (q : ByteRange) → place_stored (next r.program a.fiber) ≡ Some q → IsPlace q × (is_marked a.pages.words.items (page_of q.start) ≡ true)
  no_place none q e = absurd (not_some q (sym none ∙ e))
    where
      not_some : (q : ByteRange) → Path (Option ByteRange) None (Some q) → ⊥
      not_some q k = cc

  -- ---- steps that only the thread sees

  pub own_at : (action : Action) → next r.program a.fiber ≡ action → goes_on action ≡ true → is_event_at r.schedule.gated (id_of a.fiber) action ≡ false
      → is_shared_action action ≡ false → number_printed action ≡ None → value_left action ≡ None → place_stored action ≡ None → (b : Worker) (answer : ℕ)
      → ((n : HasStep r a.thread.0 at.taken a.fiber) → answer ≡ answer_at r a.thread.0 at.taken a.fiber) → IsResumed r.program answer a b → b.seat ≡ a.seat → IsAt r table 0 b
  own_at action e goes plain own silent valueless nowhere b answer answered h seat =
      let n = step_of (ap goes_on e ∙ goes) (ap (is_event_at r.schedule.gated (id_of a.fiber)) e ∙ plain) in
      still_at r table a b at n answer (n.of.event ∙ ap (is_event_at r.schedule.gated (id_of a.fiber)) e ∙ plain) (ap number_printed e ∙ silent) (ap value_left e ∙ valueless) (no_place (ap place_stored e ∙ nowhere)) (answered n) h
      (ap (λ s. s.table_id) seat ∙ at.own) at.standing (ap (λ s. s.me) seat ∙ at.view) (stays n (ap is_shared_action e ∙ own)) refl

  pub local_at : next r.program a.fiber ≡ actions.Local → (b : Worker) → IsResumed r.program 0 a b → b.seat ≡ a.seat → IsAt r table 0 b
  local_at e b h seat = own_at actions.Local e refl refl refl refl refl refl b 0 (λ n. answer_is e) h seat
    where
      answer_is : next r.program a.fiber ≡ actions.Local → 0 ≡ answer_at r a.thread.0 at.taken a.fiber
      answer_is e = rw e refl

  pub read_at : (i : ℤ) → next r.program a.fiber ≡ actions.In i → (b : Worker) → IsResumed r.program (input_at r.input i) a b → b.seat ≡ a.seat → IsAt r table 0 b
  read_at i e b h seat = own_at (actions.In i) e refl refl refl refl refl refl b (input_at r.input i) (λ n. rw e refl) h seat

  pub count_at : next r.program a.fiber ≡ actions.InLen → (b : Worker) → IsResumed r.program (length r.input) a b → b.seat ≡ a.seat → IsAt r table 0 b
  count_at e b h seat = own_at actions.InLen e refl refl refl refl refl refl b (length r.input) (λ n. rw e refl) h seat

  -- ---- plain accesses

  module _ (q : ByteRange) (e : next r.program a.fiber ≡ actions.Load q) (plain : is_gated r.schedule.gated (id_of a.fiber) ≡ false) where
    load_step : HasStep r a.thread.0 at.taken a.fiber
    load_step = step_of (ap goes_on e) (ap (is_event_at r.schedule.gated (id_of a.fiber)) e ∙ plain)

    load_shared : is_shared load_step.step ≡ true
    load_shared = load_step.of.shared ∙ ap is_shared_action e

    load_plain : deeds.is_event load_step.step ≡ false
    load_plain = load_step.of.event ∙ ap (is_event_at r.schedule.gated (id_of a.fiber)) e ∙ plain

    pub load_may : may_load a.seat.me.0 q ≡ true
    load_may = ap (λ m. may_load m.0 q) at.view
        ∙ ap (fits (λ (x : Timed Did). is_plain x && reads_at q (access_of x.did.told))) (its_next r a.thread.0 at.taken 0 a.fiber load_step at.enforced at.standing at.seat load_shared)
        ∙ rw (
          load_plain,
          tells_read q _ (access_of load_step.step.told) (load_step.of.access
              ∙ ap (access_by (cells_before r.program r.input r.schedule a.thread.0 at.taken) (made_by (event_of load_step.step.told))) e),
        ) refl

    pub load_at : (b : Worker) (answer : ℕ) → answer ≡ number_there a.seat.me.0 q → IsResumed r.program answer a b → b.seat.table_id ≡ a.seat.table_id
        → b.seat.me ≡ (went_on a.seat.me.0, a.seat.me.1) → IsAt r table 0 b
    load_at b answer found h own view =
        still_at r table a b at load_step answer load_plain (ap number_printed e) (ap value_left e) (no_place (ap place_stored e))
        (found ∙ ap (λ m. number_there m.0 q) at.view ∙ its_number r a.thread.0 at.taken 0 a.fiber load_step at.enforced at.standing at.seat load_shared q ∙ rw e refl) h
        (own ∙ at.own) behind_it (view ∙ ap (λ m. (went_on m.0, m.1)) at.view) (moves load_step (ap is_shared_action e)) refl

  module _ (q : ByteRange) (m : ℕ) (e : next r.program a.fiber ≡ actions.Store q m) (plain : is_gated r.schedule.gated (id_of a.fiber) ≡ false) where
    store_step : HasStep r a.thread.0 at.taken a.fiber
    store_step = step_of (ap goes_on e) (ap (is_event_at r.schedule.gated (id_of a.fiber)) e ∙ plain)

    store_shared : is_shared store_step.step ≡ true
    store_shared = store_step.of.shared ∙ ap is_shared_action e

    store_plain : deeds.is_event store_step.step ≡ false
    store_plain = store_step.of.event ∙ ap (is_event_at r.schedule.gated (id_of a.fiber)) e ∙ plain

    pub store_may : may_store a.seat.me.0 q m ≡ true
    store_may = ap (λ s. may_store s.0 q m) at.view
        ∙ ap (fits (λ (x : Timed Did). is_plain x && (writes_at q (access_of x.did.told) && has_number m (access_of x.did.told))))
        (its_next r a.thread.0 at.taken 0 a.fiber store_step at.enforced at.standing at.seat store_shared)
        ∙ rw (
          store_plain,
          tells_write q m (access_of store_step.step.told) (store_step.of.access
              ∙ ap (access_by (cells_before r.program r.input r.schedule a.thread.0 at.taken) (made_by (event_of store_step.step.told))) e),
        ) refl

    pub store_small : m < 2 ^ (8 * q.bytes)
    store_small = subst (ActionFits r.program) e (action_fits r.program a.fiber at.enforced.can.program at.of)

    pub store_at : IsPlace q × (is_marked a.pages.words.items (page_of q.start) ≡ true) → (b : Worker) → IsResumed r.program 0 a b → b.seat.table_id ≡ a.seat.table_id → b.seat.me ≡ (went_on a.seat.me.0, a.seat.me.1) → IsAt r table 0 b
    store_at stored b h own view =
        still_at r table a b at store_step 0 store_plain (ap number_printed e) (ap value_left e) (λ z k. subst (λ y. IsPlace y × (is_marked a.pages.words.items (page_of y.start) ≡ true)) (same_place q z (sym (ap place_stored e) ∙ k)) stored) (rw e refl) h
        (own ∙ at.own) behind_it (view ∙ ap (λ s. (went_on s.0, s.1)) at.view) (moves store_step (ap is_shared_action e)) refl

-- more pages are marked
pub marked_at : (r : Run) (table : TableId) (parts : ℕ) (a m : Worker) (at : IsAt r table parts a) → m ≡ record a { pages = m.pages }
    → ((page : ℕ) → is_marked a.pages.words.items page ≡ true → is_marked m.pages.words.items page ≡ true) → IsAt r table parts m
marked_at r table parts a m at same more = subst (IsAt r table parts) (sym same) (record {
  enforced = at.enforced;
  taken = at.taken;
  standing = at.standing;
  own = at.own;
  view = at.view;
  seat = at.seat;
  local = at.local;
  of = at.of;
  steps = at.steps;
  turns = at.turns;
  turns_done = at.turns_done;
  behind = at.behind;
  prints = at.prints;
  few = at.few;
  room = at.room;
  value = at.value;
  marked = λ i d b lt there small writes. more (page_of b) (at.marked i d b lt there small writes);
})

-- ---- what changes

went : (p : NumberedProgram) (answer : ℕ) (a b : Worker) → IsResumed p answer a b → seen_of a.seat.me.0 ≤ seen_of b.seat.me.0 → looks_of a.seat.me.0 ≤ looks_of b.seat.me.0 → TookOne a b
went p answer a b h seen looks = record {
  one = h.left;
  went = record {
    thread = h.thread;
    turns = ap (λ v. v.items) h.turns;
    done = (let d = h.done in omega (arith, d));
    left = (let l = h.left in omega (arith, l));
    seen = seen;
    looks = looks;
  };
}

-- a step for which the seat isn't asked
pub took : (p : NumberedProgram) (answer : ℕ) (a b : Worker) → IsResumed p answer a b → b.seat ≡ a.seat → TookOne a b
took p answer a b h seat =
    let s = ap (λ x. seen_of x.me.0) seat in let l = ap (λ x. looks_of x.me.0) seat in
    went p answer a b h (omega (arith, s)) (omega (arith, l))

same_seen : (v : View) → seen_of v ≤ seen_of (went_on v)
same_seen (views.Worker w) = omega arith
same_seen (views.Idle q) = omega arith
same_seen (views.Laying q n) = omega arith
same_seen (views.Pool q n m) = omega arith
same_seen (views.Sweeping q n) = omega arith
same_seen (views.Note q n) = omega arith
same_seen views.Spent = omega arith

same_looks : (v : View) → looks_of v ≤ looks_of (went_on v)
same_looks (views.Worker w) = omega arith
same_looks (views.Idle q) = omega arith
same_looks (views.Laying q n) = omega arith
same_looks (views.Pool q n m) = omega arith
same_looks (views.Sweeping q n) = omega arith
same_looks (views.Note q n) = omega arith
same_looks views.Spent = omega arith

-- a plain access
pub took_plain : (p : NumberedProgram) (answer : ℕ) (a b : Worker) → IsResumed p answer a b → b.seat.me ≡ (went_on a.seat.me.0, a.seat.me.1) → TookOne a b
took_plain p answer a b h view =
    went p answer a b h
    (subst (λ m. seen_of a.seat.me.0 ≤ seen_of m.0) (sym view) (same_seen a.seat.me.0))
    (subst (λ m. looks_of a.seat.me.0 ≤ looks_of m.0) (sym view) (same_looks a.seat.me.0))

-- a plain access behind a mark
pub took_marked : (p : NumberedProgram) (answer : ℕ) (a m b : Worker) → m ≡ record a { pages = m.pages } → IsResumed p answer m b → b.seat.me ≡ (went_on m.seat.me.0, m.seat.me.1) → TookOne a b
took_marked p answer a m b same h view =
    let t = subst (λ (w : Worker). TookOne w b) same (took_plain p answer m b h view) in
    record {
      one = t.one;
      went = record { thread = t.went.thread; turns = t.went.turns; done = t.went.done; left = t.went.left; seen = t.went.seen; looks = t.went.looks };
    }

-- a step of its own state is one too where only the seat was changed before it
pub resumed_of : (p : NumberedProgram) (answer : ℕ) (a m b : Worker) → m ≡ record a { seat = m.seat } → IsResumed p answer m b → IsResumed p answer a b
resumed_of p answer a m b same h = record {
  fiber = h.fiber ∙ ap (λ (w : Worker). after p w.fiber answer) same;
  of = h.of;
  left = h.left ∙ ap (λ (w : Worker). w.left) same;
  thread = h.thread ∙ ap (λ (w : Worker). w.thread) same;
  turns = h.turns ∙ ap (λ (w : Worker). w.turns) same;
  done = h.done ∙ ap (λ (w : Worker). w.done) same;
  prints = h.prints ∙ ap (λ (w : Worker). w.prints) same;
  value = h.value ∙ ap (λ (w : Worker). w.value) same;
  pages = h.pages ∙ ap (λ (w : Worker). w.pages) same;
}
