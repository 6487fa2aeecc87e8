-- The next step of a worker's thread in the full guided run, and where the worker stands behind it.
use Rattle.std.proofs.Common.{◌≡◌, ℕ, ℤ, zero, suc, ◌<◌, ◌≤◌, ◌⊎◌, inl, inr, [], ◌∷◌, ◌++◌, length, Bool, true, false, Option, Some, None, refl, sym, ◌∙◌, ap, subst, arith}
use Rattle.std.specs.Prelude.{List, slice_get, vec_capacity, if◌then◌else◌}
use Rattle.std.specs.List.{cons_option}
use Rattle.std.proofs.lemmas.Bool.{cases_lt, leb-true}
use Rattle.std.proofs.lemmas.Option.{slice_get_within}
use Rattle.atomic_table.specs.Seated.{TableId}
use Rattle.pg_seats.specs.pg_num.declared.limits.TheConstants.{GUIDED_STEP_LIMIT}
use Rattle.pg_seats.specs.pg_ir.Program.{NumberedProgram}
use Rattle.pg_seats.specs.pg_law_threads.Effects.{deeds}
use Rattle.pg_seats.specs.pg_run_thread.LocalState.{LocalState}
use Rattle.pg_seats.specs.pg_run_thread.Step.{after, next}
use Rattle.pg_seats.specs.pg_run_thread.Told.{id_of}
use Rattle.pg_seats.specs.pg_run_trace.declared.schedule.Schedule.{Schedule}
use Rattle.pg_seats.specs.pg_law_runs.Deeds.{Did, goes_on, is_event_at}
use Rattle.pg_seats.specs.pg_law_course.Course.{cells_before, course, local_behind, next_turn, shared_in, state_at, turns_before, turns_in}
use Rattle.pg_seats.specs.pg_law_course.Prints.{number_printed, numbers_printed}
use Rattle.pg_seats.specs.pg_law_course.Rests.{RestsAt, has_spent}
use Rattle.pg_seats.proofs.of_pg_law_course.CoursePlaces.{count_more, get_length}
use Rattle.pg_seats.proofs.of_pg_law_course.CourseSteps.{is_step}
use Rattle.pg_seats.proofs.of_pg_law_course.OutputByTurns.{more_numbers}
use Rattle.pg_seats.proofs.of_pg_law_course.RestingThreads.{rests_at}
use Rattle.pg_seats.specs.declared.run.Run.{Run}
use Rattle.pg_seats.specs.declared.run.Standing.{Standing}
use Rattle.pg_seats.specs.declared.run.View.TheVariants as views
use Rattle.pg_seats.specs.Plan.{IsEnforced}
use Rattle.pg_worker.specs.declared.worker.Worker.{Worker}
use Rattle.pg_seats.specs.pg_num.Places.{ByteRange, IsPlace}
use Rattle.pg_seats.specs.pg_law_threads.Effects.{or_old}
use Rattle.pg_worker.specs.Pages.{is_marked, page_of}
use Rattle.pg_worker.specs.Standing.{HasMarks, IsAt, IsResumed, IsSeatAt, answer_at, place_stored, value_left}
pub use Rattle.pg_worker.proofs.StepLeaves.{HasStep}
use Rattle.pg_worker.proofs.StepLeaves.{marks_more, value_more}

pub inside : (p : NumberedProgram) (input : List ℤ) (s : Schedule) (t k : ℕ) (l : LocalState) → state_at p input s t k ≡ Some l → k ≤ length (course p input s t)
inside p input s t zero l e = omega arith
inside p input s t (suc k) l e = go (slice_get (course p input s t) k) refl e
  where
    go : (o : Option Did) → slice_get (course p input s t) k ≡ o → local_behind o ≡ Some l → suc k ≤ length (course p input s t)
    go None q f = absurd cc
    go (Some d) q f = let a = slice_get_within (course p input s t) k d q in omega (arith, a)

pub not_both : (b : Bool) → b ≡ true → b ≡ false → ⊥
not_both true e f = cc
not_both false e f = cc

module _ (r : Run) (h : IsEnforced r) (t k : ℕ) (l : LocalState) (local : state_at r.program r.input r.schedule t k ≡ Some l) where
  abbrev pub p : NumberedProgram
  p = r.program

  pub at_step : k < length (course p r.input r.schedule t) → HasStep r t k l
  at_step lt =
      let g = get_length (course p r.input r.schedule t) k lt in
      record { step = g.0; there = g.1; of = is_step p r.input r.schedule h.can h.good t k l g.0 g.1 local }

  -- a thread with steps and a turn left, whose next action is no event and goes on, has a step left in the run
  pub has_step : k < GUIDED_STEP_LIMIT → (g : ℕ) → next_turn p r.input r.schedule t k ≡ Some g → goes_on (next p l) ≡ true
      → is_event_at r.schedule.gated (id_of l) (next p l) ≡ false → HasStep r t k l
  has_step few g left goes plain = go (cases_lt k (length (course p r.input r.schedule t)))
    where
      at_end : k ≡ length (course p r.input r.schedule t) → RestsAt p r.input r.schedule t (length (course p r.input r.schedule t)) l g
      at_end e = rests_at p r.input r.schedule h.can h.good t l g
          (subst (λ (n : ℕ). state_at p r.input r.schedule t n ≡ Some l) e local)
          (subst (λ (n : ℕ). next_turn p r.input r.schedule t n ≡ Some g) e left)

      rests_not : k ≡ length (course p r.input r.schedule t)
          → ((goes_on (next p l) ≡ false) ⊎ (has_spent (length (course p r.input r.schedule t)) ≡ true)) ⊎ (is_event_at r.schedule.gated (id_of l) (next p l) ≡ true) → ⊥
      rests_not e (inl (inl f)) = not_both (goes_on (next p l)) goes f
      rests_not e (inl (inr f)) = let a = leb-true GUIDED_STEP_LIMIT (length (course p r.input r.schedule t)) f in omega (arith, a, e, few)
      rests_not e (inr f) = not_both (is_event_at r.schedule.gated (id_of l) (next p l)) f plain

      go : (k < length (course p r.input r.schedule t)) ⊎ (length (course p r.input r.schedule t) ≤ k) → HasStep r t k l
      go (inl lt) = at_step lt
      go (inr le) =
          let a = inside p r.input r.schedule t k l local in
          let e : k ≡ length (course p r.input r.schedule t) = omega (arith, a, le) in
          absurd (rests_not e (at_end e).rests)

-- ---- behind a step that is no turn

no_number : (xs : List ℕ) (o : Option ℕ) → o ≡ None → xs ++ cons_option o [] ≡ xs
no_number xs None e = nothing xs
  where
    nothing : (xs : List ℕ) → xs ++ [] ≡ xs
    nothing [] = refl
    nothing (x ∷ xs) = ap (λ (l : List ℕ). x ∷ l) (nothing xs)
no_number xs (Some n) e = absurd cc

module _ (r : Run) (table : TableId) (a b : Worker) (at : IsAt r table 0 a) (n : HasStep r a.thread.0 at.taken a.fiber) where
  pub still_at : (answer : ℕ) → deeds.is_event n.step ≡ false → number_printed (next r.program a.fiber) ≡ None → value_left (next r.program a.fiber) ≡ None
      → ((q : ByteRange) → place_stored (next r.program a.fiber) ≡ Some q → IsPlace q × (is_marked a.pages.words.items (page_of q.start) ≡ true)) → answer ≡ answer_at r a.thread.0 at.taken a.fiber
      → IsResumed r.program answer a b → b.seat.table_id ≡ table → (w : Standing) → b.seat.me ≡ (views.Worker w, [])
      → IsSeatAt r a.thread.0 (suc at.taken) 0 w → w.seen ≡ at.standing.seen → IsAt r table 0 b
  still_at answer plain silent stays stored answered h own w view seat seen = record {
    enforced = at.enforced;
    taken = suc at.taken;
    standing = w;
    own = own;
    view = view;
    seat = subst (λ (u : ℕ). IsSeatAt r u (suc at.taken) 0 w) thread seat;
    local = ap (λ (u : ℕ). state_at r.program r.input r.schedule u (suc at.taken)) (sym thread) ∙ ap local_behind n.there ∙ n.of.after
        ∙ ap (λ (m : ℕ). Some (after r.program a.fiber m)) (sym answered) ∙ ap Some (sym h.fiber);
    of = h.of;
    steps = (let x = h.left in let y = at.steps in omega (arith, x, y));
    turns = ap (λ v. v.items) h.turns ∙ at.turns ∙ ap (λ (u : ℕ). Rattle.pg_seats.specs.pg_law_course.Course.turns_of u r.schedule.turns) thread;
    turns_done = h.done ∙ at.turns_done
        ∙ sym (count_more deeds.is_event (course r.program r.input r.schedule a.thread.0) at.taken n.step n.there
        ∙ ap (λ (e : Bool). if e then suc (turns_in r.program r.input r.schedule a.thread.0 at.taken) else turns_in r.program r.input r.schedule a.thread.0 at.taken) plain)
        ∙ ap (λ (u : ℕ). turns_in r.program r.input r.schedule u (suc at.taken)) thread;
    behind = λ i g lt e. subst (λ (m : ℕ). g < m) (sym seen) (at.behind i g (subst (λ (m : ℕ). i < m) h.done lt) (ap (λ v. slice_get v.items i) (sym h.turns) ∙ e));
    prints = ap (λ v. v.items) h.prints ∙ at.prints
        ∙ sym (more_numbers r.program r.input r.schedule a.thread.0 at.taken n.step n.there ∙ no_number _ _ (n.of.prints ∙ silent))
        ∙ ap (λ (u : ℕ). numbers_printed r.program r.input r.schedule u (suc at.taken)) thread;
    few = subst (λ (m : ℕ). length b.prints.items ≤ m) (sym h.done) (subst (λ v. length v.items ≤ a.done) (sym h.prints) at.few);
    room = subst (λ v. length v.items ≤ vec_capacity b.prints) (sym h.turns) (subst (λ v. length a.turns.items ≤ vec_capacity v) (sym h.prints) at.room);
    value = λ main. h.value ∙ value_more r at.enforced a.thread.0 at.taken a.fiber n at.local a.value a.value at.value (ap (λ (o : Option ℕ). or_old o a.value) (sym stays)) (thread ∙ main);
    marked = subst (λ (u : ℕ). HasMarks r u (suc at.taken) b.pages.words.items) thread (subst (λ p. HasMarks r a.thread.0 (suc at.taken) p.words.items) (sym h.pages)
        (marks_more r at.enforced a.thread.0 at.taken a.fiber n at.local a.pages.words.items a.pages.words.items at.marked (λ page m. m) stored));
  }
    where
      thread : a.thread.0 ≡ b.thread.0
      thread = ap (λ u. u.0) (sym h.thread)
