-- The turns of a good run, and their owners.
use Rattle.std.proofs.Common.{◌≡◌, ℕ, ℤ, zero, suc, ◌+◌, ◌<◌, ◌≤◌, ◌⊎◌, inl, inr, List, [], ◌∷◌, length, Bool, true, false, Some, refl, sym, ◌∙◌, ap, subst, arith}
use Rattle.std.specs.Prelude.{◌==◌, ◌||◌, slice_get, take, cond, if◌then◌else◌}
use Rattle.std.specs.List.{filter}
use Rattle.std.proofs.lemmas.Bool.{cases_lt, leb-true}
use Rattle.std.proofs.lemmas.Option.{slice_get_within}
use Rattle.pg_room.specs.pg_num.declared.limits.TheConstants.{GUIDED_STEP_LIMIT, THREAD_LIMIT}
use Rattle.pg_room.specs.pg_ir.declared.request.Request.TheVariants as requests
use Rattle.pg_room.specs.pg_ir.Program.{NumberedProgram}
use Rattle.pg_room.specs.pg_law_threads.Effects.{deeds}
use Rattle.pg_room.specs.pg_law_threads.Intervals.{AreTurns, done_after, turns_done}
use Rattle.pg_room.specs.pg_run_thread.declared.action.Action.TheVariants as actions
use Rattle.pg_room.specs.pg_run_thread.LocalState.{fresh}
use Rattle.pg_room.specs.pg_run_thread.Step.{next}
use Rattle.pg_room.specs.pg_run_trace.declared.schedule.Schedule.{Schedule}
use Rattle.pg_room.specs.pg_law_runs.Cuts.{CanRun}
use Rattle.pg_room.specs.pg_law_runs.Deeds.{Did, owners_of}
use Rattle.pg_room.proofs.of_pg_law_runs.StepRules.{next_fresh}
use Rattle.pg_room.specs.pg_law_order.Good.{IsGoodRun}
use Rattle.pg_room.specs.pg_law_course.Course.{course, state_at, turns_in, turns_of}
use Rattle.pg_room.specs.pg_law_course.Plan.{guided_deeds, turn_count}
use Rattle.pg_room.specs.pg_law_course.Rests.{has_spent, is_trap}
use Rattle.pg_room.specs.pg_law_course.Threads.{start_function}
use Rattle.pg_room.proofs.of_pg_law_course.CoursePlaces.{get_length, take_all}
use Rattle.pg_room.proofs.of_pg_law_course.CourseSteps.{are_turns, is_step}
use Rattle.pg_room.proofs.of_pg_law_course.RestingThreads.{rests_at}
use Rattle.pg_room.proofs.of_pg_law_course.TurnNumbers.{below, numbered, own_turns}

pub fewer_below : (t g m : ℕ) (T : List ℕ) → g ≤ m → below t g T ≤ below t m T
fewer_below t zero m T h = omega arith
fewer_below t (suc g) zero T h = absurd (omega (arith, h))
fewer_below t (suc g) (suc m) [] h = omega arith
fewer_below t (suc g) (suc m) (o ∷ T) h = go (t == o) (fewer_below t g m T (omega (arith, h)))
  where
    go : (b : Bool) → below t g T ≤ below t m T → (if b then suc (below t g T) else below t g T) ≤ (if b then suc (below t m T) else below t m T)
    go true k = omega (arith, k)
    go false k = k

-- no more turns are done than there are
few_turns : (T : List ℕ) (g : ℕ) (ds : List Did) → g ≤ length T → AreTurns deeds T g ds → turns_done deeds g ds ≤ length T
few_turns T g [] l h = l
few_turns T g (d ∷ ds) l h = go (deeds.is_event d) refl (few_turns T (suc g) ds) (few_turns T g ds)
  where
    go : (b : Bool) → deeds.is_event d ≡ b → (suc g ≤ length T → AreTurns deeds T (suc g) ds → turns_done deeds (suc g) ds ≤ length T)
        → (g ≤ length T → AreTurns deeds T g ds → turns_done deeds g ds ≤ length T) → turns_done deeds (done_after (deeds.is_event d) g) ds ≤ length T
    go true e more rest =
        let lt : g < length T = slice_get_within T g d.thread (h.0 e) in
        subst (λ (b : Bool). turns_done deeds (done_after b g) ds ≤ length T) (sym e)
        (more (omega (arith, lt)) (subst (λ (b : Bool). AreTurns deeds T (done_after b g) ds) e h.1))
    go false e more rest = subst (λ (b : Bool). turns_done deeds (done_after b g) ds ≤ length T) (sym e) (rest l (subst (λ (b : Bool). AreTurns deeds T (done_after b g) ds) e h.1))

pub chosen_few : {A : Type 0} (f : A → Bool) (k : ℕ) (xs : List A) → length (filter f (take k xs)) ≤ length (filter f xs)
chosen_few f k [] = none k
  where
    none : (k : ℕ) → length (filter f (take k [])) ≤ 0
    none zero = let z : 0 ≤ 0 = omega arith in z
    none (suc k) = let z : 0 ≤ 0 = omega arith in z
chosen_few f zero (x ∷ xs) = let z : 0 ≤ length (filter f (x ∷ xs)) = omega arith in z
chosen_few f (suc k) (x ∷ xs) = go (f x) (chosen_few f k xs)
  where
    go : (b : Bool) → length (filter f (take k xs)) ≤ length (filter f xs) → length (cond b (x ∷ filter f (take k xs)) (filter f (take k xs))) ≤ length (cond b (x ∷ filter f xs) (filter f xs))
    go true h = omega (arith, h)
    go false h = h

pub chosen_below : {A : Type 0} (f : A → Bool) (k : ℕ) (xs : List A) → length (filter f (take k xs)) ≤ k
chosen_below f k [] = none k
  where
    none : (k : ℕ) → length (filter f (take k [])) ≤ k
    none zero = let z : 0 ≤ 0 = omega arith in z
    none (suc k) = let z : 0 ≤ suc k = omega arith in z
chosen_below f zero (x ∷ xs) = let z : 0 ≤ 0 = omega arith in z
chosen_below f (suc k) (x ∷ xs) = go (f x) (chosen_below f k xs)
  where
    go : (b : Bool) → length (filter f (take k xs)) ≤ k → length (cond b (x ∷ filter f (take k xs)) (filter f (take k xs))) ≤ suc k
    go true h = omega (arith, h)
    go false h = omega (arith, h)

module _ (p : NumberedProgram) (input : List ℤ) (s : Schedule) (can : CanRun p input) (g : IsGoodRun p input s) where
  abbrev T : List ℕ
  T = owners_of s.turns

  pub count_few : turn_count p input s ≤ length T
  count_few = few_turns T 0 (guided_deeds p input s) (omega arith) (are_turns p input s can g)

  -- the run does the turns of a thread that are among the turns that it does
  pub own_count : (t : ℕ) → length (filter deeds.is_event (course p input s t)) ≡ below t (turn_count p input s) T
  own_count t = sym (plus_zero (own_turns t T 0 (guided_deeds p input s) (are_turns p input s can g)))
    where
      plus_zero : {m k : ℕ} → m ≡ 0 + k → m ≡ k
      plus_zero e = omega (arith, e)

  pub end_count : (t : ℕ) → turns_in p input s t (length (course p input s t)) ≡ below t (turn_count p input s) T
  end_count t = ap (λ (ds : List Did). length (filter deeds.is_event ds)) (take_all (course p input s t)) ∙ own_count t

  pub number_at : (t h : ℕ) → slice_get T h ≡ Some t → slice_get (turns_of t s.turns) (below t h T) ≡ Some h
  number_at t h e = numbered t 0 h T e ∙ ap (λ (n : ℕ). Some n) (let q : 0 + h ≡ h = omega arith in q)

  -- a thread without steps is before its start
  begins : (t : ℕ) → next p (fresh p t (start_function p s.turns t)) ≡ actions.Event requests.Start
  begins t = next_fresh p t (start_function p s.turns t)

  -- a thread past the limit takes no step
  no_steps : (t : ℕ) → THREAD_LIMIT ≤ t → length (course p input s t) ≡ 0
  no_steps t l = go (cases_lt 0 (length (course p input s t)))
    where
      go : (0 < length (course p input s t)) ⊎ (length (course p input s t) ≤ 0) → length (course p input s t) ≡ 0
      go (inl lt) =
          let d = get_length (course p input s t) 0 lt in
          let few = (is_step p input s can g t 0 (fresh p t (start_function p s.turns t)) d.0 d.1 refl).thread in
          absurd (omega (arith, few, l))
      go (inr le) = omega (arith, le)

  -- so it owns no turn up to the first that the run doesn't do
  pub owner_few : (h t : ℕ) → slice_get T h ≡ Some t → h ≤ turn_count p input s → t < THREAD_LIMIT
  owner_few h t e l = go (cases_lt t THREAD_LIMIT)
    where
      never : THREAD_LIMIT ≤ t → ⊥
      never past =
          let none = no_steps t past in
          let few = fewer_below t h (turn_count p input s) T l in
          let counted = end_count t in
          let in_none : turns_in p input s t (length (course p input s t)) ≡ 0 = ap (λ (n : ℕ). turns_in p input s t n) none ∙ nothing (course p input s t) in
          let first : below t h T ≡ turns_in p input s t (length (course p input s t)) = omega (arith, few, counted, in_none) in
          let rest = rests_at p input s can g t (fresh p t (start_function p s.turns t)) h
          (ap (λ (n : ℕ). state_at p input s t n) none)
          (ap (slice_get (turns_of t s.turns)) (sym first) ∙ number_at t h e) in
          let behind = rest.behind in
          let held = rest.held (omega (arith, behind, l)) in
          let spent : has_spent (length (course p input s t)) ≡ true = ap (λ a. is_trap a || has_spent (length (course p input s t))) (sym (begins t)) ∙ held in
          let many : GUIDED_STEP_LIMIT ≤ length (course p input s t) = leb-true GUIDED_STEP_LIMIT (length (course p input s t)) spent in
          let some : 0 < GUIDED_STEP_LIMIT = omega arith in
          omega (arith, many, none, some)
        where
          nothing : (xs : List Did) → length (filter deeds.is_event (take 0 xs)) ≡ 0
          nothing [] = refl
          nothing (x ∷ xs) = refl

      go : (t < THREAD_LIMIT) ⊎ (THREAD_LIMIT ≤ t) → t < THREAD_LIMIT
      go (inl lt) = lt
      go (inr le) = absurd (never le)
