-- The end of a run of workers is that of the guided run.
use Rattle.std.proofs.Common.{◌≡◌, ℕ, ◌*◌, ◌<◌, ◌≤◌, inl, inr, List, length, Option, Some, None, sym, ◌∙◌, ap, subst, arith}
use Rattle.std.specs.Prelude.{slice_get, slice_index_or}
use Rattle.std.proofs.lemmas.Option.{slice_get-get_or}
use Rattle.std.proofs.lemmas.Nat.{mul-le}
use Rattle.atomic_table.specs.Seated.{TableId}
use Rattle.pg_room.specs.pg_num.declared.limits.TheConstants.{GUIDED_STEP_LIMIT, THREAD_LIMIT}
use Rattle.pg_room.specs.pg_law_threads.Effects.{deeds}
use Rattle.pg_room.specs.pg_law_runs.Deeds.{owners_of}
use Rattle.pg_room.specs.pg_law_course.Course.{course, turns_in}
use Rattle.pg_room.specs.pg_law_course.Plan.{turn_count}
use Rattle.pg_room.proofs.of_pg_law_course.CoursePlaces.{get_length}
use Rattle.pg_room.proofs.of_pg_law_course.TurnNumbers.{below}
use Rattle.pg_room.specs.pg_law_order.Good.{run_along}
use Rattle.pg_room.specs.pg_seats.declared.run.Run.{Run}
use Rattle.pg_room.specs.pg_worker.declared.worker.Paused.{Paused}
use Rattle.pg_room.specs.pg_worker.declared.worker.Paused.TheVariants as pauses
use Rattle.pg_room.specs.pg_worker.declared.worker.Worker.{Worker}
use Rattle.pg_room.specs.pg_worker.Standing.{HasPaused, IsAt, end_by, next_turn_of}
use Rattle.pg_room.proofs.of_pg_worker.WorkerRests.{done_rests, its_end, stopped_rests, waiting_rests}
use Rattle.pg_room.specs.pg_crew.Workers.{AreWorkers, done_by, turns_between}
use Rattle.pg_room.specs.Workers.{AreFirst}
use Rattle.pg_rounds.specs.Turns.{AreDone, HaveDone, HavePaused, IsHeld, IsOver}
use Rattle.pg_rounds.proofs.RunTurns.{chosen_below, count_few}
use Rattle.pg_rounds.proofs.TurnSums.{all_below, sum_few, sum_first, sum_same, turns_first}
use Rattle.pg_rounds.proofs.WorkerTurns.{all_done, done_all, next_few, next_late, owner_there}

module _ (r : Run) (table : TableId) (w : Worker) (at : IsAt r table 0 w) where
  abbrev HasRested : Type 0
  HasRested = at.taken ≡ length (course r.program r.input r.schedule w.thread.0)

  -- a worker that paused, and whose next turn the run doesn't do, has done all steps of its thread
  pub paused_rests : (a : Worker) (why : Paused) → HasPaused r why a w → ((g : ℕ) → next_turn_of w ≡ Some g → turn_count r.program r.input r.schedule ≤ g) → HasRested
  paused_rests a pauses.Done h late = done_rests r table w at h
  paused_rests a pauses.Stopped h late = stopped_rests r table w at h.1
  paused_rests a pauses.Waiting h late =
      let g = get_length w.turns.items w.done h.turn in
      waiting_rests r table w at g.0 g.1 (late g.0 g.1) h.stands

  pub done_within : w.done ≤ GUIDED_STEP_LIMIT
  done_within =
      let few : turns_in r.program r.input r.schedule w.thread.0 at.taken ≤ at.taken = chosen_below deeds.is_event at.taken (course r.program r.input r.schedule w.thread.0) in
      let done : w.done ≡ turns_in r.program r.input r.schedule w.thread.0 at.taken = at.turns_done in
      let steps = at.steps in
      omega (arith, few, done, steps)

module _ (r : Run) (table : TableId) (ws : List Worker) (d : Worker) (are : AreWorkers r table ws) (paused : HavePaused r ws) where
  abbrev owners : List ℕ
  owners = owners_of r.schedule.turns

  abbrev last : ℕ
  last = turn_count r.program r.input r.schedule

  abbrev worker : ℕ → Worker
  worker t = slice_index_or ws t d

  -- the turns that are left come behind those of the run
  abbrev AreLate : Type 0
  AreLate = (t g : ℕ) → t < length ws → next_turn_of (worker t) ≡ Some g → last ≤ g

  pub held_last : (t g : ℕ) → IsHeld r.program ws t g → g ≡ last
  held_last t g h =
      let few = next_few r table ws d are t g h.next in
      let at = are.at t d h.next.within in
      let late = next_late r table (worker t) at (stopped_rests r table (worker t) at (h.stopped d)) g (h.next.own d) in
      omega (arith, few, late)

  pub over_late : IsOver r.program ws → AreLate
  over_late (inl done) t g lt e = let k : Path (Option ℕ) None (Some g) = sym (done t d lt) ∙ e in absurd cc
  over_late (inr h) t g lt e =
      let q = held_last h.0 h.1 h.2 in
      let least = h.2.next.least t g d lt e in
      omega (arith, q, least)

  pub over_rests : IsOver r.program ws → (t : ℕ) → (lt : t < length ws) → HasRested r table (worker t) (are.at t d lt)
  over_rests over t lt =
      let h = paused t d lt in
      paused_rests r table (worker t) (are.at t d lt) h.0 h.1 h.2 (λ g e. over_late over t g lt e)

  -- where no turn is left, the run does as many as the schedule has
  pub all_turns : AreDone ws → last ≡ length owners
  all_turns done =
      let more = all_done r table ws d are done in
      let few = count_few r.program r.input r.schedule are.enforced.can are.enforced.good in
      omega (arith, more, few)

  -- where the owner of the next turn is stopped, that is the run's end
  pub held_end_is : (t g : ℕ) → IsHeld r.program ws t g → (run_along r.program r.input r.schedule).end ≡ end_by r.program (worker t)
  held_end_is t g h = its_end r table (worker t) (are.at t d h.next.within)
      (subst (λ (n : ℕ). next_turn_of (worker t) ≡ Some n) (held_last t g h) (h.next.own d)) (h.stopped d)

  -- ---- how many turns were done in all

  done_is : (t : ℕ) → t < length ws → done_by (slice_get ws t) ≡ (worker t).done
  done_is t lt = ap done_by (slice_get-get_or ws t d lt)

  pub done_sum : IsOver r.program ws → sum_first (length ws) (λ t. done_by (slice_get ws t)) ≡ last
  done_sum over =
      sum_same (length ws) (λ t. done_by (slice_get ws t)) (λ t. below t last owners) each
      ∙ all_below (length ws) last owners (count_few r.program r.input r.schedule are.enforced.can are.enforced.good) (λ h t lt e. owner_there r table ws d are h t e (omega (arith, lt)))
    where
      each : (t : ℕ) → t < length ws → done_by (slice_get ws t) ≡ below t last owners
      each t lt = done_is t lt ∙ done_all r table (worker t) (are.at t d lt) (over_rests over t lt) ∙ ap (λ (u : ℕ). below u last owners) (are.thread t d lt)

  pub last_few : IsOver r.program ws → last ≤ THREAD_LIMIT * GUIDED_STEP_LIMIT
  last_few over =
      let sum = done_sum over in
      let few = sum_few (length ws) GUIDED_STEP_LIMIT (λ t. done_by (slice_get ws t))
      (λ t lt. (let q = done_is t lt in let k = done_within r table (worker t) (are.at t d lt) in omega (arith, q, k))) in
      let most = mul-le (length ws) GUIDED_STEP_LIMIT THREAD_LIMIT GUIDED_STEP_LIMIT are.few (omega arith) in
      omega (arith, sum, few, most)

  -- all of the turns that the run does were done by these workers
  pub turns_in_all : (first : List Worker) → AreFirst first → HaveDone first ws → IsOver r.program ws → turns_between first ws ≡ last
  turns_in_all first none done over =
      turns_first (length first) first ws (λ t lt. undone t (get_length first t lt).0 lt)
      ∙ ap (λ (n : ℕ). sum_first n (λ t. done_by (slice_get ws t))) (sym done.count) ∙ done_sum over
    where
      undone : (t : ℕ) (w : Worker) → t < length first → done_by (slice_get first t) ≡ 0
      undone t w lt = ap done_by (slice_get-get_or first t w lt) ∙ none t w lt
