-- A thread's steps of the full guided run come before its last turn.
use Rattle.std.proofs.Common.{◌≡◌, ℕ, ℤ, zero, suc, ◌+◌, ◌<◌, ◌≤◌, List, [], ◌∷◌, ◌++◌, length, take, drop, Bool, true, false, Option, Some, refl, sym, ◌∙◌, ap, subst, arith}
use Rattle.std.specs.Prelude.{◌==◌, ◌||◌, IfSome, slice_get, if◌then◌else◌}
use Rattle.std.specs.List.{filter}
use Rattle.std.proofs.lemmas.Bool.{eqb-true}
use Rattle.std.proofs.lemmas.Option.{slice_get_within}
use Rattle.pg_seats.specs.pg_ir.Program.{NumberedProgram}
use Rattle.pg_seats.specs.pg_run_trace.declared.schedule.Schedule.{Schedule}
use Rattle.pg_seats.specs.pg_run_trace.declared.step.Step.{Step}
use Rattle.pg_seats.specs.pg_run_trace.declared.turn.Turn.{Turn}
use Rattle.pg_seats.specs.pg_run.Permitted.{has_turn, turns_left}
use Rattle.pg_seats.specs.pg_run.State.{initial}
use Rattle.pg_seats.specs.pg_law_effects.PermittedSteps.{none_taken}
use Rattle.pg_seats.specs.pg_law_threads.Effects.{deeds}
use Rattle.pg_seats.specs.pg_law_threads.Intervals.{AreTurns, done_after, turns_done}
use Rattle.pg_seats.proofs.of_pg_law_threads.TimedSteps.{turns_left_of}
use Rattle.pg_seats.specs.pg_law_runs.Cuts.{CanRun}
use Rattle.pg_seats.specs.pg_law_runs.Deeds.{Did, owners_of}
use Rattle.pg_seats.proofs.of_pg_law_runs.DeedDependence.{get_behind}
use Rattle.pg_seats.proofs.of_pg_law_runs.DeedLists.{map_append, told_is, told_of}
use Rattle.pg_seats.specs.pg_law_order.Good.{IsGoodRun, run_along}
use Rattle.pg_seats.specs.pg_law_course.Course.{before, course, turns_before, turns_in, turns_of}
use Rattle.pg_seats.specs.pg_law_course.Plan.{first_seen, guided_deeds, turn_count}
use Rattle.pg_seats.proofs.of_pg_law_course.CoursePlaces.{Place, own_before, place, steps_of}
use Rattle.pg_seats.proofs.of_pg_law_course.CourseSteps.{are_turns, step_at, turns_told}
use Rattle.pg_seats.proofs.of_pg_law_course.GuidedPlan.{ordered_full}
use Rattle.pg_seats.proofs.of_pg_law_course.StartFunctions.{Knows}
use Rattle.pg_seats.proofs.of_pg_law_course.StepsInRun.{StepIn}
use Rattle.pg_seats.proofs.of_pg_law_course.TurnNumbers.{below, numbered, own_turns}

-- ---- lists

get_front : (xs ys : List Step) (x : Step) → slice_get (xs ++ x ∷ ys) (length xs) ≡ Some x
get_front [] ys x = refl
get_front (z ∷ xs) ys x = get_front xs ys x

take_front : (xs ys : List Step) → take (length xs) (xs ++ ys) ≡ xs
take_front [] ys = refl
take_front (z ∷ xs) ys = ap (λ (l : List Step). z ∷ l) (take_front xs ys)

any_there : (t : ℕ) (us : List Turn) → has_turn t us ≡ true → (j : ℕ) × (slice_get (owners_of us) j ≡ Some t)
any_there t [] e = absurd cc
any_there t (u ∷ us) e = go (u.thread.0 == t) refl (any_there t us)
  where
    go : (b : Bool) → (u.thread.0 == t) ≡ b → (has_turn t us ≡ true → (j : ℕ) × (slice_get (owners_of us) j ≡ Some t)) → (j : ℕ) × (slice_get (owners_of (u ∷ us)) j ≡ Some t)
    go true q rest = (0, ap (λ (n : ℕ). Some n) (eqb-true u.thread.0 t q))
    go false q rest = let m = rest (ap (λ (b : Bool). b || has_turn t us) (sym q) ∙ e) in (suc m.0, m.1)

fewer_below : (t g m : ℕ) (T : List ℕ) → g ≤ m → below t g T ≤ below t m T
fewer_below t zero m T h = omega arith
fewer_below t (suc g) zero T h = absurd (omega (arith, h))
fewer_below t (suc g) (suc m) [] h = omega arith
fewer_below t (suc g) (suc m) (o ∷ T) h = go (t == o) (fewer_below t g m T (omega (arith, h)))
  where
    go : (b : Bool) → below t g T ≤ below t m T → (if b then suc (below t g T) else below t g T) ≤ (if b then suc (below t m T) else below t m T)
    go true k = omega (arith, k)
    go false k = k

-- ---- how many turns are done

grows : (g : ℕ) (ds : List Did) → g ≤ turns_done deeds g ds
grows g [] = omega arith
grows g (d ∷ ds) = go (deeds.is_event d) (λ n. grows n ds)
  where
    go : (b : Bool) → ((n : ℕ) → n ≤ turns_done deeds n ds) → g ≤ turns_done deeds (done_after b g) ds
    go true rest = (let k = rest (suc g) in omega (arith, k))
    go false rest = rest g

pub passes : (g : ℕ) (xs : List Did) (d : Did) (ys : List Did) → deeds.is_event d ≡ true → suc (turns_done deeds g xs) ≤ turns_done deeds g (xs ++ d ∷ ys)
passes g [] d ys e = subst (λ (b : Bool). suc g ≤ turns_done deeds (done_after b g) ys) (sym e) (grows (suc g) ys)
passes g (x ∷ xs) d ys e = passes (done_after (deeds.is_event x) g) xs d ys e

module _ (p : NumberedProgram) (input : List ℤ) (s : Schedule) (can : CanRun p input) (g : IsGoodRun p input s) (t k : ℕ) (d : Did) (own : slice_get (course p input s t) k ≡ Some d) where
  at : Place t k (guided_deeds p input s) d
  at = place t k (guided_deeds p input s) d own

  abbrev front : List Did
  front = before t k (guided_deeds p input s)

  r : StepIn s.gated p input s.turns (Knows p s.turns) none_taken (first_seen p) 0 front d
  r = step_at p input s can g front d at.rest at.split

  -- a step that is an event is one of the turns that the run does
  pub is_done : deeds.is_event d ≡ true → turns_before p input s t k < turn_count p input s
  is_done e = (let h = passes 0 front d at.rest e in let q = ap (λ (ds : List Did). turns_done deeds 0 ds) at.split in omega (arith, h, q))

  thread_is : d.told.thread.0 ≡ t
  thread_is = ap (λ (x : Step). x.thread.0) (sym (ap (λ (y : Did). y.told) r.is_deed)) ∙ ap (λ (y : Did). y.thread) r.is_deed ∙ at.thread

  trace_is : (run_along p input s).trace ≡ told_of front ++ d.told ∷ told_of at.rest
  unfolding guided_deeds
  trace_is = sym (told_is p input (initial p) none_taken (run_along p input s).trace) ∙ ap told_of at.split ∙ map_append (λ (y : Did). y.told) front (d ∷ at.rest)

  abbrev HasTurn : List Step → Type 0
  HasTurn zs = IfSome (slice_get zs (length (told_of front))) (λ (x : Step). has_turn x.thread.0 (turns_left s.turns (take (length (told_of front)) zs)) ≡ true)

  has : has_turn t (drop (turns_before p input s t k) s.turns) ≡ true
  has =
      let h : HasTurn (told_of front ++ d.told ∷ told_of at.rest) = subst HasTurn trace_is ((ordered_full p input s can g).permitted.owners (length (told_of front))) in
      let m : has_turn d.told.thread.0 (turns_left s.turns (take (length (told_of front)) (told_of front ++ d.told ∷ told_of at.rest))) ≡ true =
      subst (λ (o : Option Step). IfSome o (λ (x : Step). has_turn x.thread.0 (turns_left s.turns (take (length (told_of front)) (told_of front ++ d.told ∷ told_of at.rest))) ≡ true))
      (get_front (told_of front) (told_of at.rest) d.told) h in
      ap (λ (n : ℕ). has_turn t (drop n s.turns)) (turns_told p input s can g front d at.rest at.split)
      ∙ ap (λ (zs : List Step). has_turn t (turns_left s.turns zs)) (sym (take_front (told_of front) (d.told ∷ told_of at.rest)))
      ∙ ap (λ (u : ℕ). has_turn u (turns_left s.turns (take (length (told_of front)) (told_of front ++ d.told ∷ told_of at.rest)))) (sym thread_is) ∙ m

  -- before its step the thread has a turn left
  pub turn_left : turns_in p input s t k < length (turns_of t s.turns)
  turn_left =
      let own_front : steps_of t front ≡ take k (course p input s t) = own_before t k (guided_deeds p input s) in
      let counted = own_turns t (owners_of s.turns) 0 front (turns_left_of deeds (owners_of s.turns) 0 front (d ∷ at.rest) (subst (AreTurns deeds (owners_of s.turns) 0) at.split (are_turns p input s can g))) in
      let same = ap (λ (ds : List Did). length (filter deeds.is_event ds)) own_front in
      let j = any_there t (drop (turns_before p input s t k) s.turns) has in
      let there : slice_get (owners_of s.turns) (turns_before p input s t k + j.0) ≡ Some t = sym (get_behind s.gated p input (turns_before p input s t k) s.turns j.0) ∙ j.1 in
      let number = slice_get_within (turns_of t s.turns) (below t (turns_before p input s t k + j.0) (owners_of s.turns)) _ (numbered t 0 (turns_before p input s t k + j.0) (owners_of s.turns) there) in
      let few = fewer_below t (turns_before p input s t k) (turns_before p input s t k + j.0) (owners_of s.turns) (omega arith) in
      omega (arith, counted, same, number, few)
