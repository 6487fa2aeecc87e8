-- The main thread alone writes its word.
use Rattle.std.proofs.Common.{◌≡◌, ℕ, ℤ, ◌+◌, ◌-◌, ◌<◌, List, [], ◌∷◌, length, Bool, true, false, Option, Some, None, refl, ◌∙◌, ap, subst, arith}
use Rattle.std.specs.Prelude.{◌==◌, nat_lt, slice_index, if◌then◌else◌}
use Rattle.std.specs.List.{AllByRecursion as AllOf, filter}
use Rattle.std.proofs.lemmas.Bool.Decides.{nat_tests}
use Rattle.pg_num.specs.declared.layout.TheConstants.{MEMORY_BYTES}
use Rattle.pg_ir.specs.declared.ids.InstrId.{InstrId}
use Rattle.pg_ir.specs.declared.request.Request.TheVariants as requests
use Rattle.pg_ir.specs.Program.{NumberedProgram}
use Rattle.pg_law_threads.specs.Effects.{effect, effects, or_old}
use Rattle.pg_law_threads.specs.Plans.{is_of_thread}
use Rattle.pg_run_thread.specs.declared.action.Action.{Action}
use Rattle.pg_run_thread.specs.declared.action.Action.TheVariants as actions
use Rattle.pg_run_thread.specs.LocalState.{fresh}
use Rattle.pg_run_trace.specs.declared.schedule.Schedule.{Schedule}
use Rattle.pg_run_trace.specs.declared.step.Step.{Step}
use Rattle.pg_run.specs.State.{State, initial, next_of}
use Rattle.pg_run.specs.Runs.{IsRun, Takes}
use Rattle.pg_run.proofs.StepsBegin.{ready_made}
use Rattle.pg_law_runs.specs.pg_law_effects.Effect as machine
use Rattle.pg_law_runs.specs.pg_law_effects.Effect.{effect_of, request_effect, write_of}
use Rattle.pg_law_runs.specs.pg_law_effects.Meets.{byte_in}
use Rattle.pg_law_runs.specs.pg_law_effects.PermittedSteps.{none_taken, one_more}
use Rattle.pg_law_runs.specs.pg_law_effects.Views.{cell_at, word_in as effect_word}
use Rattle.pg_law_runs.proofs.of_pg_law_effects.ReachedStates.{fresh_number}
use Rattle.pg_law_runs.proofs.of_pg_law_effects.StepsApart.{left_by}
use Rattle.pg_law_runs.specs.Cuts.{CanRun}
use Rattle.pg_law_runs.specs.Deeds.{Did, Seen, deed_of, deeds_of}
use Rattle.pg_law_runs.proofs.RunsAsDeeds.{flipped}
use Rattle.pg_law_order.specs.Good.{IsGoodRun, run_along}
use Rattle.pg_law_course.specs.Course.{course}
use Rattle.pg_law_course.specs.Plan.{first_seen, guided_deeds}
use Rattle.pg_law_course.specs.Prints.{word_behind}
use Rattle.pg_law_course.specs.Rests.{cells_left}
use Rattle.pg_law_course.specs.Steps.{word_in}
use Rattle.pg_law_course.proofs.ActionCells.{word_same}
use Rattle.pg_law_course.proofs.GuidedPlan.{ordered_full}

no_word : (b : Bool) → Path (Option ℕ) (if b then None else None) None
no_word true = refl
no_word false = refl

-- another thread's step leaves it
other_word : (p : NumberedProgram) (s : State) (t : ℕ) (action : Action) → (t == 0) ≡ false → 0 < length s.locals → effect_word t (request_effect p s t action) 0 ≡ None
other_word p s t (actions.Event (requests.Create q f n)) e made =
    let i : ((fresh p (length s.locals) f).thread == 0) ≡ false = ap (λ (i : ℕ). i == 0) (fresh_number p (length s.locals) f) ∙ not_first (length s.locals) made in
    ap (λ (b : Bool). if b then Some n else (if t == 0 then None else None)) i ∙ no_word (t == 0)
  where
    not_first : (n : ℕ) → 0 < n → (n == 0) ≡ false
    not_first n h = grind (arith, nat_tests)
other_word p s t (actions.Event (requests.Exit n is_return)) e made = ap (λ (b : Bool). if b then Some n else None) e
other_word p s t (actions.Event r) e made = no_word (t == 0)
other_word p s t action e made = refl

flip : (t : ℕ) → (0 == t) ≡ false → (t == 0) ≡ false
flip t e = flipped 0 t false e

abbrev LeavesWord : Did → Type 0
LeavesWord d = (0 == d.thread) ≡ false → d.writes (MEMORY_BYTES + 0) ≡ None

module _ (gated : List InstrId) (p : NumberedProgram) (input : List ℤ) where
  writes_there : (s : State) (counts : ℕ → ℕ) (x : Step) (c : ℕ) → (deed_of p input s counts x).writes c
      ≡ (if nat_lt c MEMORY_BYTES then byte_in (write_of s (next_of p s x.thread.0)) c else effect_word x.thread.0 (request_effect p s x.thread.0 (next_of p s x.thread.0)) (c - MEMORY_BYTES))
  unfolding effect_of
  writes_there s counts x c = refl

  leaves_word : (s : State) (counts : ℕ → ℕ) (x : Step) → Takes gated p input s x → LeavesWord (deed_of p input s counts x)
  leaves_word s counts x h e =
      let made = ready_made p s x.thread.0 h.is_ready in
      writes_there s counts x (MEMORY_BYTES + 0)
      ∙ ap (λ (b : Bool). if b then byte_in (write_of s (next_of p s x.thread.0)) (MEMORY_BYTES + 0) else effect_word x.thread.0 (request_effect p s x.thread.0 (next_of p s x.thread.0)) (MEMORY_BYTES + 0 - MEMORY_BYTES))
      (above MEMORY_BYTES)
      ∙ ap (effect_word x.thread.0 (request_effect p s x.thread.0 (next_of p s x.thread.0))) (behind MEMORY_BYTES)
      ∙ other_word p s x.thread.0 (next_of p s x.thread.0) (flip x.thread.0 e) (omega (arith, made))
    where
      above : (m : ℕ) → nat_lt (m + 0) m ≡ false
      above m = grind (arith, nat_tests)

      behind : (m : ℕ) → m + 0 - m ≡ 0
      behind m = omega arith

  all_leave : (s : State) (counts : ℕ → ℕ) (xs : List Step) (z : State) → IsRun gated p input s xs z → AllOf LeavesWord (deeds_of p input s counts xs)
  unfolding deeds_of
  all_leave s counts [] z h = tt
  all_leave s counts (x ∷ xs) z h = (
    leaves_word s counts x h.0,
    all_leave (machine.effect s (effect_of p input s x.thread.0)) (one_more x.thread.0 counts) xs z
        (subst (λ (v : State). IsRun gated p input v xs z) (left_by gated p input s h.0.after x.thread.0 x h.0.is_step) h.1),
  )

word_of_own : (s : Seen) (ds : List Did) → AllOf LeavesWord ds → (effects s ds).cells (MEMORY_BYTES + 0) ≡ word_behind 0 (s.cells (MEMORY_BYTES + 0)) (filter (is_of_thread 0) ds)
word_of_own s [] h = refl
word_of_own s (d ∷ ds) h = word_of_own (effect s d) ds h.1 ∙ go (0 == d.thread) refl
  where
    go : (b : Bool) → (0 == d.thread) ≡ b
        → word_behind 0 (or_old (d.writes (MEMORY_BYTES + 0)) (s.cells (MEMORY_BYTES + 0))) (filter (is_of_thread 0) ds)
        ≡ word_behind 0 (s.cells (MEMORY_BYTES + 0)) (filter (is_of_thread 0) (d ∷ ds))
    go true q = rw q refl
    go false q = rw q (ap (λ (o : Option ℕ). word_behind 0 (or_old o (s.cells (MEMORY_BYTES + 0))) (filter (is_of_thread 0) ds)) (h.0 q))

zero_word : (p : NumberedProgram) → slice_index (initial p).words 0 ≡ 0
unfolding initial
zero_word p = refl

first_word : (p : NumberedProgram) → (first_seen p).cells (MEMORY_BYTES + 0) ≡ 0
first_word p = word_same (initial p) (cell_at (initial p)) (λ c. refl) 0 ∙ zero_word p

pub main_word : (p : NumberedProgram) (input : List ℤ) (s : Schedule) → CanRun p input → IsGoodRun p input s → word_in (cells_left p input s) 0 ≡ word_behind 0 0 (course p input s 0)
unfolding guided_deeds
main_word p input s can g =
    word_of_own (first_seen p) (guided_deeds p input s)
    (all_leave s.gated p input (initial p) none_taken (run_along p input s).trace (run_along p input s).state (ordered_full p input s can g).permitted.run)
    ∙ ap (λ (n : ℕ). word_behind 0 n (course p input s 0)) (first_word p)
