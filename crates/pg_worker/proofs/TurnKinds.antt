-- What each kind of turn may do at its seat, that it is done then, and its answer.
use Rattle.std.proofs.Common.{◌≡◌, ℕ, ℤ, suc, ◌+◌, ◌*◌, ◌^◌, ◌<◌, ◌≤◌, [], length, List, Bool, true, Option, Some, None, refl, sym, ◌∙◌, ap, subst, arith}
use Rattle.std.specs.Prelude.{◌&&◌, IfSome, slice_get, slice_index}
use Rattle.std.proofs.lemmas.Bool.{and_parts}
use Rattle.atomic_table.specs.Seated.{TableId}
use Rattle.atomic_table.specs.declared.shared.Seat.{Seat}
use Rattle.pg_seats.specs.pg_num.Places.{ByteRange}
use Rattle.pg_seats.specs.pg_num.declared.layout.TheConstants.{MEMORY_BYTES}
use Rattle.pg_seats.specs.pg_num.declared.limits.TheConstants.{THREAD_LIMIT}
use Rattle.pg_seats.specs.pg_ir.declared.ids.InstrId.{InstrId}
use Rattle.pg_seats.specs.pg_ir.declared.request.Request.{Request}
use Rattle.pg_seats.specs.pg_ir.declared.request.Request.TheVariants as requests
use Rattle.pg_seats.specs.pg_run.Fits.{ActionFits}
use Rattle.pg_seats.proofs.of_pg_run.FitActions.{action_fits}
use Rattle.pg_seats.specs.pg_run_thread.Step.{next}
use Rattle.pg_seats.specs.pg_run_thread.Told.{id_of}
use Rattle.pg_seats.specs.pg_run_thread.declared.action.Action.{Action}
use Rattle.pg_seats.specs.pg_run_thread.declared.action.Action.TheVariants as actions
use Rattle.pg_seats.specs.pg_law_threads.Effects.{deeds}
use Rattle.pg_seats.specs.pg_law_runs.Deeds.{is_event_at}
use Rattle.pg_seats.specs.pg_law_course.Course.{cells_before, course, shared_in, state_at, turns_before}
use Rattle.pg_seats.specs.pg_law_course.Plan.{is_shared}
use Rattle.pg_seats.specs.pg_law_course.Steps.{answer_by, made_by, number_in, thread_named, word_in}
use Rattle.pg_seats.proofs.of_pg_law_course.CoursePlaces.{get_length}
use Rattle.pg_seats.specs.pg_run_trace.Steps.{event_of}
use Rattle.pg_seats.specs.pg_words.Calls.{NoSlot}
use Rattle.pg_seats.specs.declared.run.Run.{Run}
use Rattle.pg_seats.specs.declared.run.Standing.{Standing}
use Rattle.pg_seats.specs.declared.run.View.{View}
use Rattle.pg_seats.specs.declared.run.View.TheVariants as views
use Rattle.pg_seats.specs.Plan.{IsEnforced}
use Rattle.pg_seats.specs.Steps.{StandsBefore, action_of, parts_of, run_cells}
use Rattle.pg_seats.specs.Views.{fits, is_due, is_turn, may_advance, may_hear, may_put, may_read, may_say, number_there, seen_of, with_part, word_there}
use Rattle.pg_seats.proofs.ThreadSteps as seats
use Rattle.pg_worker.specs.declared.worker.Worker.{Worker}
use Rattle.pg_worker.specs.Standing.{IsAnswered, IsAt, IsDue, IsSeatAt, TookTurn, is_bare, is_now, looks_of, next_turn_of, stands_at_event}
use Rattle.pg_worker.proofs.DueTurns.{due_event, due_step, number_is, same_next, shared_event, some_number}
use Rattle.pg_worker.proofs.NextSteps.{HasStep}

-- a worker whose next turn is due, with so many parts of it done
pub record IsTurnDue (r : Run) (table : TableId) (parts : ℕ) (a : Worker) : Type 0 where
  pub at : IsAt r table parts a
  pub turn : a.done < length a.turns.items
  pub event : stands_at_event r a.fiber ≡ true
  pub due : IsDue a

module _ {r : Run} {table : TableId} {a : Worker} (at : IsAt r table 0 a) (turn : a.done < length a.turns.items) (due : IsDue a) where
  pub turn_due : stands_at_event r a.fiber ≡ true → IsTurnDue r table 0 a
  turn_due event = record { at = at; turn = turn; event = event; due = due }

  pub event_due : {q : Request} → next r.program a.fiber ≡ actions.Event q → IsTurnDue r table 0 a
  event_due e = turn_due (ap (is_event_at r.schedule.gated (id_of a.fiber)) e)

pub bare_parts : (q : Request) → is_bare q ≡ true → parts_of (actions.Event q) ≡ 0
bare_parts requests.Start e = absurd cc
bare_parts (requests.Exit n b) e = absurd cc
bare_parts (requests.Create at f n) e = absurd cc
bare_parts (requests.Join u (Some at)) e = absurd cc
bare_parts (requests.Join u None) e = refl
bare_parts q e = refl

-- requests of other kinds are bare
pub other_bare : (q : Request) → (q ≡ requests.Start → ⊥) → ((n : ℕ) (b : Bool) → q ≡ requests.Exit n b → ⊥) → ((at : ByteRange) (f n : ℕ) → q ≡ requests.Create at f n → ⊥)
    → ((u : ℕ) (at : Option ByteRange) → q ≡ requests.Join u at → ⊥) → is_bare q ≡ true
other_bare requests.Start s e c j = absurd (s refl)
other_bare (requests.Exit n b) s e c j = absurd (e n b refl)
other_bare (requests.Create at f n) s e c j = absurd (c at f n refl)
other_bare (requests.Join u (Some at)) s e c j = absurd (j u (Some at) refl)
other_bare (requests.Join u None) s e c j = refl
other_bare q s e c j = refl

-- and so is a join with no place
pub none_bare : (q : Request) (u : ℕ) (at : Option ByteRange) → q ≡ requests.Join u at → at ≡ None → is_bare q ≡ true
none_bare q u at e n = ap is_bare (e ∙ ap (requests.Join u) n)

-- actions of other kinds are no events
pub other_event : (gated : List InstrId) (id : ℕ) (x : Action) → ((q : ByteRange) → x ≡ actions.Load q → ⊥) → ((q : ByteRange) (n : ℕ) → x ≡ actions.Store q n → ⊥)
    → ((q : Request) → x ≡ actions.Event q → ⊥) → is_event_at gated id x ≡ true → ⊥
other_event gated id (actions.Load q) l s e h = l q refl
other_event gated id (actions.Store q n) l s e h = s q n refl
other_event gated id (actions.Event q) l s e h = e q refl
other_event gated id x l s e h = absurd cc

module _ {r : Run} {table : TableId} {parts : ℕ} {a : Worker} (h : IsTurnDue r table parts a) where
  abbrev number : (g : ℕ) × (next_turn_of a ≡ Some g)
  number = get_length a.turns.items a.done h.turn

  abbrev next_step : HasStep r a.thread.0 h.at.taken a.fiber
  next_step = due_step r table parts a h.at number.0 number.1 h.event h.due

  is_event : deeds.is_event next_step.step ≡ true
  is_event = due_event r table parts a h.at number.0 number.1 h.event h.due

  chosen : is_shared next_step.step ≡ true
  chosen = shared_event next_step.step is_event

  its_due : h.at.standing.due ≡ true
  its_due = (and_parts h.at.standing.due (is_due h.at.standing number.0) (ap (λ m. is_now m.0 number.0) (sym h.at.view) ∙ h.due number.0 number.1)).0

  -- what is said of the seat's run and thread is said of the worker's
  of_seat : {A : Type 0} (f : Run → ℕ → A) → f h.at.standing.run h.at.standing.thread ≡ f r a.thread.0
  of_seat f = ap (λ (q : Run). f q h.at.standing.thread) h.at.seat.run_is ∙ ap (f r) h.at.seat.thread

  stands : StandsBefore h.at.standing h.at.taken a.fiber next_step.step
  stands = record {
    run_is = subst IsEnforced (sym h.at.seat.run_is) h.at.enforced;
    step = of_seat (λ q t. slice_get (course q.program q.input q.schedule t) h.at.taken) ∙ next_step.there;
    local = of_seat (λ q t. state_at q.program q.input q.schedule t h.at.taken) ∙ h.at.local;
    done = h.at.seat.done ∙ sym (of_seat (λ q t. shared_in q.program q.input q.schedule t h.at.taken));
  }

  abbrev cells : ℕ → ℕ
  cells = cells_before r.program r.input r.schedule a.thread.0 h.at.taken

  word_is : (t : ℕ) → word_there a.seat.me.0 t ≡ run_cells h.at.standing h.at.taken (MEMORY_BYTES + t)
  word_is t = ap (λ v. word_there v.0 t) h.at.view ∙ seats.word h.at.standing h.at.taken a.fiber next_step.step stands chosen t

  number_is_there : (q : ByteRange) → number_there a.seat.me.0 q ≡ number_in cells q
  number_is_there q = ap (λ v. number_there v.0 q) h.at.view ∙ seats.number h.at.standing h.at.taken a.fiber next_step.step stands chosen q
      ∙ of_seat (λ e t. number_in (cells_before e.program e.input e.schedule t h.at.taken) q)

  -- ---- the turn with this action

  module _ (action : Action) (e : next r.program a.fiber ≡ action) where
    asks : action_of h.at.standing a.fiber ≡ action
    asks = ap (λ (q : Run). next q.program a.fiber) h.at.seat.run_is ∙ e

    pub all_done : parts ≡ parts_of action → may_advance a.seat.me.0 ≡ true
    all_done n = ap (λ v. may_advance v.0) h.at.view
        ∙ seats.end h.at.standing h.at.taken a.fiber next_step.step stands is_event its_due (h.at.seat.parts_done ∙ n ∙ ap parts_of (sym asks))

    answered_by : (answer : ℕ) → answer ≡ answer_by r.input cells a.thread.0 (slice_index r.schedule.replies (turns_before r.program r.input r.schedule a.thread.0 h.at.taken)) action
        → IsAnswered r table answer a
    answered_by answer f = record {
      parts = parts;
      at = h.at;
      answered = f ∙ ap (answer_by r.input cells a.thread.0 (slice_index r.schedule.replies (turns_before r.program r.input r.schedule a.thread.0 h.at.taken))) (sym e);
    }

  turn_number : turns_before r.program r.input r.schedule a.thread.0 h.at.taken ≡ number.0
  turn_number = some_number _ number.0 (sym (next_step.of.number is_event) ∙ number_is r table parts a h.at number.0 number.1)

  -- it goes on with the schedule's reply, or with what the action makes of that
  pub replied : (action : Action) → next r.program a.fiber ≡ action → (reply answer : ℕ) → ((g : ℕ) → next_turn_of a ≡ Some g → reply ≡ slice_index r.schedule.replies g)
      → ((xs : List ℤ) (c : ℕ → ℕ) (t : ℕ) → answer ≡ answer_by xs c t reply action) → IsAnswered r table answer a
  replied action e reply answer given f = answered_by action e answer (f r.input cells a.thread.0
      ∙ ap (λ (n : ℕ). answer_by r.input cells a.thread.0 n action) (given number.0 number.1 ∙ ap (slice_index r.schedule.replies) (sym turn_number)))

  pub thread_inside : a.thread.0 < THREAD_LIMIT
  thread_inside = next_step.of.thread

  names : (action : Action) → next r.program a.fiber ≡ action → IfSome (thread_named (made_by (event_of next_step.step.told)) action) (λ (u : ℕ). u < THREAD_LIMIT)
  names action e = subst (λ x. IfSome (thread_named (made_by (event_of next_step.step.told)) x) (λ (u : ℕ). u < THREAD_LIMIT)) e next_step.of.named

  its_fit : (action : Action) → next r.program a.fiber ≡ action → ActionFits r.program action
  its_fit action e = subst (ActionFits r.program) e (action_fits r.program a.fiber h.at.enforced.can.program h.at.of)

  -- ---- a load and a store

  pub read_may : (q : ByteRange) → next r.program a.fiber ≡ actions.Load q → may_read a.seat.me.0 q ≡ true
  read_may q e = ap (λ v. may_read v.0 q) h.at.view ∙ seats.read h.at.standing h.at.taken a.fiber next_step.step stands q (asks (actions.Load q) e) its_due

  pub read_answered : (q : ByteRange) → next r.program a.fiber ≡ actions.Load q → (answer : ℕ) → answer ≡ number_there a.seat.me.0 q → IsAnswered r table answer a
  read_answered q e answer f = answered_by (actions.Load q) e answer (f ∙ number_is_there q)

  module _ (q : ByteRange) (m : ℕ) (e : next r.program a.fiber ≡ actions.Store q m) where
    pub put_may : parts ≡ 0 → may_put a.seat.me.0 q m ≡ true
    put_may n = ap (λ v. may_put v.0 q m) h.at.view
        ∙ seats.gated_store h.at.standing h.at.taken a.fiber next_step.step stands q m (asks (actions.Store q m) e) is_event its_due (h.at.seat.parts_done ∙ n)

    pub put_small : m < 2 ^ (8 * q.bytes)
    put_small = its_fit (actions.Store q m) e

    pub put_answered : IsAnswered r table 0 a
    put_answered = answered_by (actions.Store q m) e 0 refl

  -- ---- a start and an exit

  pub start_may : next r.program a.fiber ≡ actions.Event requests.Start → parts ≡ 0 → may_hear a.seat.me.0 a.thread.0 ≡ true
  start_may e n = ap (λ v. may_hear v.0 a.thread.0) h.at.view ∙ ap (may_hear (views.Worker h.at.standing)) (sym h.at.seat.thread)
      ∙ seats.start h.at.standing h.at.taken a.fiber next_step.step stands (asks (actions.Event requests.Start) e) its_due (h.at.seat.parts_done ∙ n)

  pub start_answered : next r.program a.fiber ≡ actions.Event requests.Start → (answer : ℕ) → answer ≡ word_there a.seat.me.0 a.thread.0 → IsAnswered r table answer a
  start_answered e answer f = answered_by (actions.Event requests.Start) e answer (f ∙ word_is a.thread.0
      ∙ of_seat (λ q t. word_in (cells_before q.program q.input q.schedule t h.at.taken) a.thread.0))

  pub exit_may : (m : ℕ) (b : Bool) → next r.program a.fiber ≡ actions.Event (requests.Exit m b) → parts ≡ 0 → may_say a.seat.me.0 a.thread.0 m ≡ true
  exit_may m b e n = ap (λ v. may_say v.0 a.thread.0 m) h.at.view ∙ ap (λ (t : ℕ). may_say (views.Worker h.at.standing) t m) (sym h.at.seat.thread)
      ∙ seats.exit h.at.standing h.at.taken a.fiber next_step.step stands m b (asks (actions.Event (requests.Exit m b)) e) its_due (h.at.seat.parts_done ∙ n)

  -- ---- a create

  module _ (q : ByteRange) (f n made : ℕ) (e : next r.program a.fiber ≡ actions.Event (requests.Create q f n))
      (given : (g : ℕ) → next_turn_of a ≡ Some g → made ≡ made_by (slice_get r.schedule.turns g)) where
    made_is : made ≡ made_by (event_of next_step.step.told)
    made_is = let u = next_step.of.turn is_event in given number.0 number.1 ∙ ap made_by (ap (slice_get r.schedule.turns) (sym turn_number) ∙ u.2.is_there ∙ sym u.1)

    pub made_inside : made < THREAD_LIMIT
    made_inside = subst (λ (i : ℕ). i < THREAD_LIMIT) (sym made_is) (names (actions.Event (requests.Create q f n)) e)

    pub create_may : parts ≡ 0 → may_say a.seat.me.0 made n ≡ true
    create_may none = ap (λ v. may_say v.0 made n) h.at.view ∙ ap (λ (i : ℕ). may_say (views.Worker h.at.standing) i n) made_is
        ∙ seats.create h.at.standing h.at.taken a.fiber next_step.step stands q f n (asks (actions.Event (requests.Create q f n)) e) its_due (h.at.seat.parts_done ∙ none)

    pub create_put : parts ≡ 1 → may_put a.seat.me.0 q made ≡ true
    create_put one = ap (λ v. may_put v.0 q made) h.at.view ∙ ap (may_put (views.Worker h.at.standing) q) made_is
        ∙ seats.create_store h.at.standing h.at.taken a.fiber next_step.step stands q f n (asks (actions.Event (requests.Create q f n)) e) its_due (h.at.seat.parts_done ∙ one)

    pub create_small : made < 2 ^ (8 * q.bytes)
    create_small = subst (λ (i : ℕ). made < 2 ^ (8 * i)) (sym (its_fit (actions.Event (requests.Create q f n)) e).1) (let i = made_inside in omega (arith, i))

  -- ---- a join with a place

  module _ (u : ℕ) (q : ByteRange) (e : next r.program a.fiber ≡ actions.Event (requests.Join u (Some q))) where
    pub join_inside : u < THREAD_LIMIT
    join_inside = names (actions.Event (requests.Join u (Some q))) e

    pub join_may : parts ≡ 0 → may_hear a.seat.me.0 u ≡ true
    join_may none = ap (λ v. may_hear v.0 u) h.at.view
        ∙ seats.join h.at.standing h.at.taken a.fiber next_step.step stands u q (asks (actions.Event (requests.Join u (Some q))) e) its_due (h.at.seat.parts_done ∙ none)

    pub join_put : parts ≡ 0 → (m : ℕ) → m ≡ word_there a.seat.me.0 u → may_put a.seat.me.0 q m ≡ true
    join_put none m is = ap (λ v. may_put v.0 q m) h.at.view ∙ ap (may_put (views.Worker h.at.standing) q) (is ∙ word_is u)
        ∙ seats.join_store h.at.standing h.at.taken a.fiber next_step.step stands u q (asks (actions.Event (requests.Join u (Some q))) e) its_due (h.at.seat.parts_done ∙ none)

    pub join_small : (m : ℕ) → m < 2 ^ 64 → m < 2 ^ (8 * q.bytes)
    join_small m low = subst (λ (i : ℕ). m < 2 ^ (8 * i)) (sym (its_fit (actions.Event (requests.Join u (Some q))) e)) low

  -- ---- the worker once its seat has read a word or done a part of the turn

  module _ (seat : Seat NoSlot View) (own : seat.table_id ≡ a.seat.table_id) where
    at_seat : (done : ℕ) (w : Standing) → seat.me ≡ (views.Worker w, []) → IsSeatAt r a.thread.0 h.at.taken done w → w.seen ≡ h.at.standing.seen → IsAt r table done (record a { seat = seat })
    at_seat done w view place seen = record {
      enforced = h.at.enforced;
      taken = h.at.taken;
      standing = w;
      own = own ∙ h.at.own;
      view = view;
      seat = place;
      local = h.at.local;
      of = h.at.of;
      steps = h.at.steps;
      turns = h.at.turns;
      turns_done = h.at.turns_done;
      behind = λ i q lt e. subst (λ (n : ℕ). q < n) (sym seen) (h.at.behind i q lt e);
      prints = h.at.prints;
      few = h.at.few;
      room = h.at.room;
      value = h.at.value;
      marked = h.at.marked;
    }

    -- a turn that was taken from there was taken from a
    took_seat : (w : Standing) → seat.me ≡ (views.Worker w, []) → w.seen ≡ h.at.standing.seen → w.looks ≡ h.at.standing.looks
        → (b : Worker) → TookTurn (record a { seat = seat }) b → TookTurn a b
    took_seat w view seen looks b took = record {
      turn = took.turn;
      took = record {
        one = took.took.one;
        went = record {
          thread = took.took.went.thread;
          turns = took.took.went.turns;
          done = took.took.went.done;
          left = took.took.went.left;
          seen = subst (λ (n : ℕ). n ≤ seen_of b.seat.me.0) (ap (λ m. seen_of m.0) view ∙ seen ∙ ap (λ m. seen_of m.0) (sym h.at.view)) took.took.went.seen;
          looks = subst (λ (n : ℕ). n ≤ looks_of b.seat.me.0) (ap (λ m. looks_of m.0) view ∙ looks ∙ ap (λ m. looks_of m.0) (sym h.at.view)) took.took.went.looks;
        };
      };
    }

    module _ (view : seat.me ≡ a.seat.me) where
      pub kept : IsTurnDue r table parts (record a { seat = seat })
      kept = record {
        at = at_seat parts h.at.standing (view ∙ h.at.view) h.at.seat refl;
        turn = h.turn;
        event = h.event;
        due = λ g e. ap (λ v. is_now v.0 g) view ∙ h.due g e;
      }

      pub kept_took : (b : Worker) → TookTurn (record a { seat = seat }) b → TookTurn a b
      kept_took = took_seat h.at.standing (view ∙ h.at.view) refl refl

    abbrev with_one : Standing
    with_one = record { run = h.at.standing.run; thread = h.at.standing.thread; done = h.at.standing.done; due = h.at.standing.due; parts = suc h.at.standing.parts; seen = h.at.standing.seen; looks = h.at.standing.looks }

    module _ (view : seat.me ≡ (with_part a.seat.me.0, a.seat.me.1)) where
      part_view : seat.me ≡ (views.Worker with_one, [])
      part_view = view ∙ ap (λ v. (with_part v.0, v.1)) h.at.view

      pub put : IsTurnDue r table (suc parts) (record a { seat = seat })
      put = record {
        at = at_seat (suc parts) with_one part_view
            (record { run_is = h.at.seat.run_is; thread = h.at.seat.thread; parts_done = ap suc h.at.seat.parts_done; done = h.at.seat.done }) refl;
        turn = h.turn;
        event = h.event;
        due = λ g e. ap (λ v. is_now v.0 g) part_view
            ∙ ap (λ o. h.at.standing.due && fits (is_turn g) o) (same_next h.at.standing h.at.standing.due (suc h.at.standing.parts) h.at.standing.seen h.at.standing.looks)
            ∙ ap (λ v. is_now v.0 g) (sym h.at.view) ∙ h.due g e;
      }

      pub put_took : (b : Worker) → TookTurn (record a { seat = seat }) b → TookTurn a b
      put_took = took_seat with_one part_view refl refl
