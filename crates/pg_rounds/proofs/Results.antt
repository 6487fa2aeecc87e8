-- What workers printed, the end and the number of turns are those of the guided run.
use Rattle.std.proofs.Common.{◌≡◌, ℕ, zero, suc, ◌*◌, ◌<◌, ◌≤◌, inl, inr, List, [], ◌∷◌, length, true, Option, Some, None, refl, sym, ◌∙◌, ap, subst, arith}
use Rattle.std.specs.Prelude.{slice_get, slice_index_or, take}
use Rattle.std.proofs.lemmas.Option.{slice_get-get_or, slice_get_within}
use Rattle.atomic_table.specs.Seated.{TableId}
use Rattle.pg_room.specs.pg_num.Numbers.{signed, truncated}
use Rattle.pg_room.specs.pg_num.declared.limits.TheConstants.{GUIDED_STEP_LIMIT, THREAD_LIMIT}
use Rattle.pg_room.specs.pg_num.declared.width.Width.TheVariants.{W32}
use Rattle.pg_room.specs.pg_run.declared.guided_end.GuidedEnd.TheVariants as ends
use Rattle.pg_room.specs.pg_run_trace.declared.turn.Turn.{Turn}
use Rattle.pg_room.specs.pg_law_runs.Deeds.{owners_of}
use Rattle.pg_room.proofs.of_pg_law_order.FullRunOutput.{full_goes_on}
use Rattle.pg_room.proofs.of_pg_law_order.GoodRunsServe.{same_end}
use Rattle.pg_room.specs.pg_law_order.Served.{guided_along}
use Rattle.pg_room.specs.pg_law_course.Course.{course}
use Rattle.pg_room.specs.pg_law_course.Plan.{turn_count}
use Rattle.pg_room.specs.pg_law_course.Prints.{numbers_printed, output_along, word_behind}
use Rattle.pg_room.proofs.of_pg_law_course.CoursePlaces.{take_all}
use Rattle.pg_room.proofs.of_pg_law_course.GuidedOutput.{same_turns}
use Rattle.pg_room.proofs.of_pg_law_course.MainWord.{main_word}
use Rattle.pg_room.proofs.of_pg_law_course.OutputByTurns.{output_by_turns}
use Rattle.pg_room.proofs.of_pg_law_course.RestingThreads.{exits}
use Rattle.pg_room.specs.pg_seats.declared.run.Run.{Run}
use Rattle.pg_room.specs.pg_worker.declared.worker.Worker.{Worker}
use Rattle.pg_room.specs.pg_worker.Standing.{end_by, is_stopped}
use Rattle.pg_room.proofs.of_pg_worker.WorkerRests.{its_prints, its_value}
use Rattle.pg_room.specs.pg_crew.Workers.{AreWorkers, HaveEnded, counted, turns_between}
use Rattle.pg_room.proofs.of_pg_crew.WorkerLists.{some_worker}
use Rattle.pg_rounds.specs.Prints.{main_value, numbers_of, printed_by, value_by}
use Rattle.pg_room.specs.Workers.{AreFirst}
use Rattle.pg_rounds.specs.Turns.{AreDone, HaveDone, HavePaused, IsHeld, IsNext, IsOver}
use Rattle.pg_rounds.proofs.PrintOrder.{AreAlike, same_output}
use Rattle.pg_rounds.proofs.RunEnds.{all_turns, held_end_is, held_last, last_few, over_rests, turns_in_all}
use Rattle.pg_rounds.proofs.WorkerTurns.{next_owned, owner_there}

-- the owners of the first turns
take_owner : (n : ℕ) (us : List Turn) (g t : ℕ) → slice_get (owners_of (take n us)) g ≡ Some t → (g < n) × (slice_get (owners_of us) g ≡ Some t)
take_owner zero [] g t e = absurd cc
take_owner zero (u ∷ us) g t e = absurd cc
take_owner (suc n) [] g t e = absurd cc
take_owner (suc n) (u ∷ us) zero t e = (omega arith, e)
take_owner (suc n) (u ∷ us) (suc g) t e = let h = take_owner n us g t e in (let l = h.0 in omega (arith, l), h.1)

-- as many of the first elements as are asked for
pub take_count : {A : Type 0} (n : ℕ) (xs : List A) → n ≤ length xs → n ≡ length (take n xs)
take_count zero [] l = refl
take_count zero (x ∷ xs) l = refl
take_count (suc n) [] l = absurd (omega (arith, l))
take_count (suc n) (x ∷ xs) l = ap suc (take_count n xs (omega (arith, l)))

pub owners_count : (us : List Turn) → length (owners_of us) ≡ length us
owners_count [] = refl
owners_count (u ∷ us) = ap suc (owners_count us)

module _ (r : Run) (table : TableId) (ws : List Worker) (d : Worker) (are : AreWorkers r table ws) (paused : HavePaused r ws) (over : IsOver r.program ws) where
  abbrev last : ℕ
  last = turn_count r.program r.input r.schedule

  abbrev worker : ℕ → Worker
  worker t = slice_index_or ws t d

  abbrev all_numbers : ℕ → List ℕ
  all_numbers t = numbers_printed r.program r.input r.schedule t (length (course r.program r.input r.schedule t))

  numbers_are : (t : ℕ) → t < length ws → numbers_of ws t ≡ all_numbers t
  numbers_are t lt =
      ap printed_by (slice_get-get_or ws t d lt)
      ∙ its_prints r table (worker t) (are.at t d lt) (over_rests r table ws d are paused over t lt)
      ∙ ap all_numbers (are.thread t d lt)

  alike : AreAlike (owners_of (take last r.schedule.turns)) (numbers_of ws) all_numbers
  alike g t e =
      let h = take_owner last r.schedule.turns g t e in
      let l = h.0 in
      numbers_are t (owner_there r table ws d are g t h.1 (omega (arith, l)))

  pub output_is : output_along r.program (take last r.schedule.turns) (numbers_of ws) ≡ (guided_along r.program r.input r.schedule).state.printed
  output_is =
      same_output r.program (take last r.schedule.turns) (numbers_of ws) all_numbers alike
      ∙ sym (output_by_turns r.program r.input r.schedule are.enforced.can are.enforced.good)
      ∙ (full_goes_on r.schedule.gated r.program r.input r.schedule.turns).printed

  pub turns_are : last ≡ (guided_along r.program r.input r.schedule).turns
  turns_are = sym (same_turns r.program r.input r.schedule)

  -- ---- where no turn is left

  value_is : main_value ws ≡ word_behind 0 0 (course r.program r.input r.schedule 0)
  value_is =
      ap value_by (slice_get-get_or ws 0 d are.main)
      ∙ its_value r table (worker 0) (are.at 0 d are.main) (over_rests r table ws d are paused over 0 are.main) (are.thread 0 d are.main)

  pub done_turns : AreDone ws → length r.schedule.turns ≡ last
  done_turns done = sym (owners_count r.schedule.turns) ∙ sym (all_turns r table ws d are paused done)

  pub done_end : AreDone ws → ends.Exit (signed W32 (truncated W32 (main_value ws))) ≡ (guided_along r.program r.input r.schedule).end
  done_end done =
      ap (λ (n : ℕ). ends.Exit (signed W32 (truncated W32 n))) (value_is ∙ sym (main_word r.program r.input r.schedule are.enforced.can are.enforced.good))
      ∙ sym (exits r.program r.input r.schedule are.enforced.can are.enforced.good (sym (done_turns done)))
      ∙ same_end r.program r.input r.schedule

  take_all_turns : AreDone ws → r.schedule.turns ≡ take last r.schedule.turns
  take_all_turns done = sym (take_all r.schedule.turns) ∙ ap (λ (n : ℕ). take n r.schedule.turns) (done_turns done)

  pub done_output : AreDone ws → output_along r.program r.schedule.turns (numbers_of ws) ≡ (guided_along r.program r.input r.schedule).state.printed
  done_output done = ap (λ (us : List Turn). output_along r.program us (numbers_of ws)) (take_all_turns done) ∙ output_is

  -- ---- where the owner of the next turn is stopped

  -- the next turn is the one whose owner is stopped
  pub next_held : (t g : ℕ) → IsNext ws t g → IsHeld r.program ws t g
  next_held t g n = by over
    where
      by : IsOver r.program ws → IsHeld r.program ws t g
      by (inl done) = let k : Path (Option ℕ) None (Some g) = sym (done t d n.within) ∙ n.own d in absurd cc
      by (inr h) =
          let held = h.2 in
          let first = n.least h.0 h.1 d held.next.within (held.next.own d) in
          let second = held.next.least t g d n.within (n.own d) in
          let same : h.1 ≡ g = omega (arith, first, second) in
          let mine = next_owned r table (worker t) (are.at t d n.within) g (n.own d) ∙ ap (λ (i : ℕ). Some i) (are.thread t d n.within) in
          let its = next_owned r table (worker h.0) (are.at h.0 d held.next.within) h.1 (held.next.own d) ∙ ap (λ (i : ℕ). Some i) (are.thread h.0 d held.next.within) in
          let both : Path (Option ℕ) (Some h.0) (Some t) = sym its ∙ ap (slice_get (owners_of r.schedule.turns)) same ∙ mine in
          let own : h.0 ≡ t = cc in
          record { next = n; stopped = λ e. subst (λ (i : ℕ). is_stopped r.program (slice_index_or ws i e) ≡ true) own (held.stopped e) }

  pub next_last : (t g : ℕ) → IsNext ws t g → g ≡ last
  next_last t g n = held_last r table ws d are paused t g (next_held t g n)

  pub held_end : (t g : ℕ) → IsNext ws t g → end_by r.program (worker t) ≡ (guided_along r.program r.input r.schedule).end
  held_end t g n = sym (held_end_is r table ws d are paused t g (next_held t g n)) ∙ same_end r.program r.input r.schedule

  pub held_output : (t g : ℕ) → IsNext ws t g → output_along r.program (take g r.schedule.turns) (numbers_of ws) ≡ (guided_along r.program r.input r.schedule).state.printed
  held_output t g n = ap (λ (m : ℕ). output_along r.program (take m r.schedule.turns) (numbers_of ws)) (next_last t g n) ∙ output_is

  pub held_few : (t g : ℕ) → IsNext ws t g → g ≤ length r.schedule.turns
  held_few t g n =
      let lt = slice_get_within (owners_of r.schedule.turns) g _ (next_owned r table (worker t) (are.at t d n.within) g (n.own d)) in
      let c = owners_count r.schedule.turns in
      omega (arith, lt, c)

  -- ---- their steps

  pub few_turns : last ≤ THREAD_LIMIT * GUIDED_STEP_LIMIT
  few_turns = last_few r table ws d are paused over

pub have_ended : (r : Run) (table : TableId) (ws : List Worker) → AreWorkers r table ws → HavePaused r ws → IsOver r.program ws → HaveEnded r table ws
have_ended r table ws are paused over t d lt =
    (are.at t d lt, over_rests r table ws d are paused over t lt ∙ ap (λ (u : ℕ). length (course r.program r.input r.schedule u)) (are.thread t d lt))

-- the count of the crew rose by the turns of the guided run
pub counted_all : (r : Run) (table : TableId) (first ws : List Worker) → AreWorkers r table ws → HavePaused r ws → AreFirst first → HaveDone first ws → IsOver r.program ws
    → (count more turns : ℕ) → more ≡ counted count (turns_between first ws) → turns ≡ (guided_along r.program r.input r.schedule).turns → more ≡ counted count turns
counted_all r table first ws are paused none done over count more turns e q =
    let d = some_worker r table ws are in
    e ∙ ap (counted count) (turns_in_all r table ws d are paused first none done over ∙ turns_are r table ws d are paused over ∙ sym q)
