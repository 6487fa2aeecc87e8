-- A worker before its first step, and one that was told of turns that are done.
use Rattle.std.proofs.Common.{◌≡◌, ℕ, ◌≤◌, [], length, true, false, Some, refl, sym, ◌∙◌, ap, subst, arith}
use Rattle.std.specs.Prelude.{max, vec_capacity}
use Rattle.std.proofs.lemmas.Bool.{eq-eqb}
use Rattle.atomic_table.specs.Seated.{TableId}
use Rattle.pg_seats.specs.pg_num.declared.limits.TheConstants.{GUIDED_STEP_LIMIT}
use Rattle.pg_seats.specs.pg_run_thread.LocalState.{fresh}
use Rattle.pg_seats.specs.pg_run_thread.States.{IsOf}
use Rattle.pg_seats.specs.pg_law_course.Course.{turns_of}
use Rattle.pg_seats.specs.pg_law_course.Threads.{start_function}
use Rattle.pg_seats.specs.declared.run.Run.{Run}
use Rattle.pg_seats.specs.declared.run.Standing.{Standing}
use Rattle.pg_seats.specs.declared.run.View.{View}
use Rattle.pg_seats.specs.declared.run.View.TheVariants as views
use Rattle.pg_seats.specs.Plan.{IsEnforced}
use Rattle.pg_seats.specs.Views.{may_look, may_take, noted, seen_of, told}
use Rattle.pg_worker.specs.declared.worker.Worker.{Worker}
use Rattle.pg_worker.specs.Standing.{IsAt, first_view, looks_of, noted_in}

pub first_at : (r : Run) (table : TableId) (w : Worker) → IsEnforced r → w.seat.table_id ≡ table → w.seat.me ≡ (first_view r w.thread.0, [])
    → w.fiber ≡ fresh r.program w.thread.0 (start_function r.program r.schedule.turns w.thread.0) → IsOf r.program w.fiber → w.left ≡ GUIDED_STEP_LIMIT
    → w.turns.items ≡ turns_of w.thread.0 r.schedule.turns → w.done ≡ 0 → w.prints.items ≡ [] → length w.turns.items ≤ vec_capacity w.prints → w.value ≡ 0 → IsAt r table 0 w
first_at r table w enforced own view fiber of left turns done prints room value = record {
  enforced = enforced;
  taken = 0;
  standing = record { run = r; thread = w.thread.0; done = 0; due = false; parts = 0; seen = 0; looks = 0 };
  own = own;
  view = view;
  seat = record { run_is = refl; thread = refl; parts_done = refl; done = refl };
  local = ap (λ l. Some l) (sym fiber);
  of = of;
  steps = omega (arith, left);
  turns = turns;
  turns_done = done;
  behind = λ i g lt e. absurd (omega (arith, lt, done));
  prints = prints;
  few = subst (λ xs. length xs ≤ w.done) (sym prints) (omega arith);
  room = room;
  value = λ main. value;
  marked = λ i d b lt e. absurd (omega (arith, lt));
}

-- ---- notes

module _ (r : Run) (table : TableId) (a b : Worker) (at : IsAt r table 0 a) (same : b ≡ record a { seat = b.seat }) (own : b.seat.table_id ≡ a.seat.table_id) where
  seen_at : (w : Standing) → b.seat.me ≡ (views.Worker w, []) → w.run ≡ at.standing.run → w.thread ≡ at.standing.thread → w.parts ≡ at.standing.parts → w.done ≡ at.standing.done
      → at.standing.seen ≤ w.seen → IsAt r table 0 (record a { seat = b.seat })
  seen_at w view run thread parts done seen = record {
    enforced = at.enforced;
    taken = at.taken;
    standing = w;
    own = own ∙ at.own;
    view = view;
    seat = record { run_is = run ∙ at.seat.run_is; thread = thread ∙ at.seat.thread; parts_done = parts ∙ at.seat.parts_done; done = done ∙ at.seat.done };
    local = at.local;
    of = at.of;
    steps = at.steps;
    turns = at.turns;
    turns_done = at.turns_done;
    behind = λ i g lt e. (let k = at.behind i g lt e in omega (arith, k, seen));
    prints = at.prints;
    few = at.few;
    room = at.room;
    value = at.value;
    marked = at.marked;
  }

  pub noted_at : b.seat.me ≡ a.seat.me → IsAt r table 0 b
  noted_at view = subst (IsAt r table 0) (sym same) (seen_at at.standing (view ∙ at.view) refl refl refl refl (omega arith))

  pub told_at : (v : View) (n : ℕ) → v ≡ views.Note r n → b.seat.me ≡ (told a.seat.me.0 v, a.seat.me.1) → IsAt r table 0 b
  told_at v n e view = subst (IsAt r table 0) (sym same)
      (seen_at (record { run = at.standing.run; thread = at.standing.thread; done = at.standing.done; due = at.standing.due; parts = at.standing.parts; seen = max at.standing.seen n; looks = at.standing.looks })
      (view ∙ ap (λ m. (told m.0 v, m.1)) at.view ∙ ap (λ u. (told (views.Worker at.standing) u, [])) e) refl refl refl refl (omega arith))

module _ (r : Run) (table : TableId) (a : Worker) (at : IsAt r table 0 a) where
  pub looks_may : may_look a.seat.me.0 ≡ true
  looks_may = ap (λ m. may_look m.0) at.view

  pub note_is : noted a.seat.me.0 ≡ views.Note r (seen_of a.seat.me.0)
  note_is = ap (λ m. noted m.0) at.view ∙ ap (λ (q : Run). views.Note q at.standing.seen) at.seat.run_is ∙ ap (λ m. views.Note r (seen_of m.0)) (sym at.view)

  pub take_may : (v : View) (n : ℕ) → v ≡ views.Note r n → may_take a.seat.me.0 v ≡ true
  take_may v n e = ap (λ m. may_take m.0 v) at.view ∙ ap (may_take (views.Worker at.standing)) e
      ∙ eq-eqb r.epoch at.standing.run.epoch (ap (λ (q : Run). q.epoch) (sym at.seat.run_is))

  pub told_seen : (v : View) (n : ℕ) → v ≡ views.Note r n → seen_of (told a.seat.me.0 v) ≡ max (seen_of a.seat.me.0) (noted_in v)
  told_seen v n e = ap (λ m. seen_of (told m.0 v)) at.view ∙ ap (λ u. seen_of (told (views.Worker at.standing) u)) e
      ∙ ap (λ u. max at.standing.seen (noted_in u)) (sym e) ∙ ap (λ m. max (seen_of m.0) (noted_in v)) (sym at.view)

  pub told_looks : (v : View) (n : ℕ) → v ≡ views.Note r n → looks_of (told a.seat.me.0 v) ≡ looks_of a.seat.me.0
  told_looks v n e = ap (λ m. looks_of (told m.0 v)) at.view ∙ ap (λ u. looks_of (told (views.Worker at.standing) u)) e ∙ ap (λ m. looks_of m.0) (sym at.view)
