-- What a pause of a worker says of the full guided run: that the worker did all of its thread's steps.
use Rattle.std.proofs.Common.{◌≡◌, ℕ, suc, ◌+◌, ◌<◌, ◌≤◌, ◌⊎◌, inl, inr, List, [], ◌∷◌, length, take, Bool, true, false, Some, refl, sym, ◌∙◌, ap, subst, arith}
use Rattle.std.specs.Prelude.{◌==◌, ◌||◌, is_some, nat_le, slice_get, if◌then◌else◌}
use Rattle.std.specs.List.{AllByRecursion}
use Rattle.std.proofs.lemmas.Bool.{cases_lt, eqb-false, eqb-true, false_from_ne_true}
use Rattle.std.proofs.lemmas.Bool.Decides.{nat_tests}
use Rattle.atomic_table.specs.Seated.{TableId}
use Rattle.pg_seats.specs.pg_num.declared.layout.TheConstants.{MEMORY_BYTES}
use Rattle.pg_seats.specs.pg_num.declared.limits.TheConstants.{GUIDED_STEP_LIMIT}
use Rattle.pg_seats.specs.pg_run.declared.guided_end.GuidedEnd.TheVariants as ends
use Rattle.pg_seats.specs.pg_run_thread.declared.action.Action.{Action}
use Rattle.pg_seats.specs.pg_run_thread.declared.action.Action.TheVariants as actions
use Rattle.pg_seats.specs.pg_run_thread.Step.{next}
use Rattle.pg_seats.specs.pg_run_thread.Told.{id_of}
use Rattle.pg_seats.specs.pg_law_threads.Effects.{deeds}
use Rattle.pg_seats.specs.pg_law_runs.Deeds.{Did, goes_on}
use Rattle.pg_seats.specs.pg_law_order.Good.{run_along}
use Rattle.pg_seats.specs.pg_law_course.Course.{course, next_turn, state_at, turns_before}
use Rattle.pg_seats.specs.pg_law_course.Plan.{turn_count}
use Rattle.pg_seats.specs.pg_law_course.Prints.{numbers_printed, word_behind}
use Rattle.pg_seats.specs.pg_law_course.Rests.{held_end, is_trap, trap_end}
use Rattle.pg_seats.proofs.of_pg_law_course.CoursePlaces.{take_all}
use Rattle.pg_seats.proofs.of_pg_law_course.RestingThreads.{rests_at}
use Rattle.pg_seats.specs.declared.run.Run.{Run}
use Rattle.pg_worker.specs.declared.worker.Worker.{Worker}
use Rattle.pg_worker.specs.Pages.{is_marked, page_of}
use Rattle.pg_worker.specs.Standing.{IsAt, end_by, is_stopped, next_turn_of, stands_at_event, waits_there}
use Rattle.pg_worker.proofs.DueTurns.{event_or_end, number_is, some_number}
use Rattle.pg_worker.proofs.NextSteps.{HasStep, at_step, inside, not_both}
use Rattle.pg_worker.proofs.TurnsLeft.{is_done, turn_left}

no_trap : (x : Action) → is_trap x ≡ true → goes_on x ≡ false
no_trap (actions.Trap name) e = refl
no_trap actions.Ended e = absurd cc
no_trap actions.Local e = absurd cc
no_trap (actions.In i) e = absurd cc
no_trap actions.InLen e = absurd cc
no_trap (actions.Load q) e = absurd cc
no_trap (actions.Store q n) e = absurd cc
no_trap (actions.Event q) e = absurd cc

all_get : (P : Did → Type 0) (xs : List Did) → ((i : ℕ) (d : Did) → slice_get xs i ≡ Some d → P d) → AllByRecursion P xs
all_get P [] h = tt
all_get P (x ∷ xs) h = (h 0 x refl, all_get P xs (λ i d e. h (suc i) d e))

spends : (left taken limit : ℕ) → left + taken ≡ limit → nat_le limit taken ≡ (left == 0)
spends left taken limit h = go (left == 0) refl
  where
    go : (b : Bool) → (left == 0) ≡ b → nat_le limit taken ≡ b
    go true q = (let z = eqb-true left 0 q in let le : limit ≤ taken = omega (arith, h, z) in is_le limit taken le)
      where
        is_le : (a c : ℕ) → a ≤ c → nat_le a c ≡ true
        is_le a c k = grind (arith, nat_tests)
    go false q = (let n = eqb-false left 0 q in let lt : taken < limit = above n in not_le limit taken lt)
      where
        above : (left ≡ 0 → ⊥) → taken < limit
        above n = cases (cases_lt taken limit)
          where
            cases : (taken < limit) ⊎ (limit ≤ taken) → taken < limit
            cases (inl lt) = lt
            cases (inr le) = absurd (n (omega (arith, h, le)))

        not_le : (a c : ℕ) → c < a → nat_le a c ≡ false
        not_le a c k = grind (arith, nat_tests)

module _ (r : Run) (table : TableId) (w : Worker) (at : IsAt r table 0 w) where
  abbrev steps : List Did
  steps = course r.program r.input r.schedule w.thread.0

  abbrev IsAtEnd : Type 0
  IsAtEnd = at.taken ≡ length steps

  at_end : (at.taken < length steps → ⊥) → IsAtEnd
  at_end not = go (cases_lt at.taken (length steps))
    where
      go : (at.taken < length steps) ⊎ (length steps ≤ at.taken) → IsAtEnd
      go (inl lt) = absurd (not lt)
      go (inr le) = (let i = inside r.program r.input r.schedule w.thread.0 at.taken w.fiber at.local in omega (arith, i, le))

  its_step : at.taken < length steps → HasStep r w.thread.0 at.taken w.fiber
  its_step lt = at_step r at.enforced w.thread.0 at.taken w.fiber at.local lt

  -- ---- where it rests

  -- no turn is left
  pub done_rests : length w.turns.items ≤ w.done → IsAtEnd
  done_rests e = at_end (λ lt.
      (let n = its_step lt in
      let left = turn_left r.program r.input r.schedule at.enforced.can at.enforced.good w.thread.0 at.taken n.step n.there in
      let d = at.turns_done in
      let t = ap (λ (xs : List ℕ). length xs) at.turns in
      omega (arith, e, left, d, t)))

  -- it is stopped
  pub stopped_rests : is_stopped r.program w ≡ true → IsAtEnd
  stopped_rests e = at_end (λ lt. (let n = its_step lt in go (is_trap (next r.program w.fiber)) refl (w.left == 0) refl n e))
    where
      go : (a : Bool) → is_trap (next r.program w.fiber) ≡ a → (b : Bool) → (w.left == 0) ≡ b → HasStep r w.thread.0 at.taken w.fiber → (is_trap (next r.program w.fiber) || (w.left == 0)) ≡ true → ⊥
      go true p b q n h = not_both (goes_on (next r.program w.fiber)) n.of.goes (no_trap (next r.program w.fiber) p)
      go false p true q n h = (let z = eqb-true w.left 0 q in let s = at.steps in let b = n.of.within in omega (arith, z, s, b))
      go false p false q n h = absurd (let k : false ≡ true = sym (ap (λ (x : Bool). x || (w.left == 0)) p ∙ q) ∙ h in cc)

  -- it waits for a turn that the run doesn't do
  pub waiting_rests : (g : ℕ) → next_turn_of w ≡ Some g → turn_count r.program r.input r.schedule ≤ g → waits_there r w.fiber ≡ true → IsAtEnd
  waiting_rests g left late waits = at_end (λ lt.
      (let n = its_step lt in
      let event : deeds.is_event n.step ≡ true = n.of.event ∙ event_or_end (next r.program w.fiber) (stands_at_event r w.fiber) n.of.goes waits in
      let number : turns_before r.program r.input r.schedule w.thread.0 at.taken ≡ g = some_number _ g (sym (n.of.number event) ∙ number_is r table 0 w at g left) in
      let done = is_done r.program r.input r.schedule at.enforced.can at.enforced.good w.thread.0 at.taken n.step n.there event in
      omega (arith, number, done, late)))

  -- ---- what it leaves there

  -- the run's end, where the worker owns the first turn that the run doesn't do
  pub its_end : next_turn_of w ≡ Some (turn_count r.program r.input r.schedule) → is_stopped r.program w ≡ true → (run_along r.program r.input r.schedule).end ≡ end_by r.program w
  its_end left e =
      let q = stopped_rests e in
      let rest = rests_at r.program r.input r.schedule at.enforced.can at.enforced.good w.thread.0 w.fiber (turn_count r.program r.input r.schedule)
      (subst (λ (n : ℕ). state_at r.program r.input r.schedule w.thread.0 n ≡ Some w.fiber) q at.local)
      (subst (λ (n : ℕ). next_turn r.program r.input r.schedule w.thread.0 n ≡ Some (turn_count r.program r.input r.schedule)) q (number_is r table 0 w at (turn_count r.program r.input r.schedule) left)) in
      rest.end refl ∙ ap (λ (n : ℕ). held_end r.program w.thread.0 n w.fiber) (sym q)
      ∙ ap (λ (b : Bool). if b then ends.Budget w.thread else trap_end (id_of w.fiber) (next r.program w.fiber)) (spends w.left at.taken GUIDED_STEP_LIMIT at.steps)

  -- what it prints in all
  pub its_prints : IsAtEnd → w.prints.items ≡ numbers_printed r.program r.input r.schedule w.thread.0 (length steps)
  its_prints q = at.prints ∙ ap (numbers_printed r.program r.input r.schedule w.thread.0) q

  -- the main thread's word
  pub its_value : IsAtEnd → w.thread.0 ≡ 0 → w.value ≡ word_behind 0 0 (course r.program r.input r.schedule 0)
  its_value q main = at.value main
      ∙ ap (λ (n : ℕ). word_behind 0 0 (take n (course r.program r.input r.schedule 0))) (q ∙ ap (λ (u : ℕ). length (course r.program r.input r.schedule u)) main)
      ∙ ap (word_behind 0 0) (take_all (course r.program r.input r.schedule 0))

  -- its thread never writes a byte of a page that isn't marked
  pub never_writes : IsAtEnd → (b : ℕ) → b < MEMORY_BYTES → is_marked w.pages.words.items (page_of b) ≡ false → AllByRecursion (λ (d : Did). is_some (d.writes b) ≡ false) steps
  never_writes q b small free = all_get (λ (d : Did). is_some (d.writes b) ≡ false) steps (λ i d e.
      false_from_ne_true (is_some (d.writes b)) (λ writes. not_both (is_marked w.pages.words.items (page_of b))
      (at.marked i d b (let k = Rattle.std.proofs.lemmas.Option.slice_get_within steps i d e in omega (arith, k, q)) e small writes) free))
