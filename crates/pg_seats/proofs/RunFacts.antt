-- The plan of a run that is enforced: it is one, and its deeds have their shapes.
use Rattle.std.proofs.Common.{◌≡◌, ℕ, ℤ, ◌<◌, ◌^◌, List, [], ◌∷◌, length, Some, zero, suc, refl, ap, subst, arith}
use Rattle.std.specs.Prelude.{slice_get, ◌==◌}
use Rattle.std.specs.List.{AllByRecursion as AllOf}
use Rattle.pg_law_course.specs.pg_law_threads.Effects.{deeds}
use Rattle.pg_law_course.specs.pg_law_threads.Intervals.{Timed, done_after, times, turns_done}
use Rattle.pg_law_course.specs.pg_law_threads.Plans.{IsPlan}
use Rattle.pg_law_course.proofs.of_pg_law_threads.ChosenSteps.{all_filter}
use Rattle.pg_law_course.proofs.of_pg_law_threads.TimedSteps.{within_end}
use Rattle.pg_law_course.specs.pg_run_trace.declared.turn.Turn.{Turn}
use Rattle.pg_law_course.specs.pg_run.State.{initial}
use Rattle.pg_law_course.specs.pg_law_effects.PermittedSteps.{none_taken}
use Rattle.pg_law_course.specs.pg_law_runs.Cuts.{CanRun}
use Rattle.pg_law_course.specs.pg_law_runs.Deeds.{Did, owners_of}
use Rattle.pg_law_course.specs.Plan as plans
use Rattle.pg_law_course.proofs.GuidedPlan.{shared_plan}
use Rattle.pg_law_course.specs.pg_law_order.Good.{IsGoodRun, run_along}
use Rattle.pg_law_course.specs.pg_ir.Program.{NumberedProgram}
use Rattle.pg_law_course.specs.pg_run_trace.declared.schedule.Schedule.{Schedule}
use Rattle.pg_law_course.proofs.of_pg_law_order.GoodRunsServe.{whole}
use Rattle.pg_seats.specs.declared.run.Run.{Run}
use Rattle.pg_seats.specs.Plan.{IsEnforced, own_of, plan_of, turns_in}
use Rattle.pg_seats.proofs.StepShapes.{IsShaped, all_shaped}

pub plan : (r : Run) → IsEnforced r → IsPlan deeds (turns_in r) (plan_of r)
plan r h = shared_plan r.program r.input r.schedule h.can h.good

module _ (p : NumberedProgram) (input : List ℤ) (s : Schedule) (can : CanRun p input) (good : IsGoodRun p input s) where
  shapes : AllOf IsShaped (plans.plan_of p input s)
  unfolding plans.plan_of plans.guided_deeds
  shapes = all_filter plans.is_shared IsShaped (plans.guided_deeds p input s)
      (all_shaped s.gated p input (initial p) none_taken (run_along p input s).trace (run_along p input s).state (whole p input s good).permitted.run)

pub timed_all : (P : Did → Type 0) (T : List ℕ) (k : ℕ) (ds : List Did) → AllOf P ds → AllOf (λ x. P x.did) (times deeds T k ds)
timed_all P T k [] h = tt
timed_all P T k (d ∷ ds) h = (h.0, timed_all P T (done_after (deeds.is_event d) k) ds h.1)

pub all_get : {A : Type 0} (P : A → Type 0) (xs : List A) (m : ℕ) (x : A) → AllOf P xs → slice_get xs m ≡ Some x → P x
all_get P [] m x h e = absurd cc
all_get P (y ∷ ys) zero x h e = subst P (let q : Some y ≡ Some x = e in cc) h.0
all_get P (y ∷ ys) (suc m) x h e = all_get P ys m x h.1 e

-- a step of a thread has the shape that is told of it
pub shape : (r : Run) → IsEnforced r → (t m : ℕ) (x : Timed Did) → slice_get (own_of r t) m ≡ Some x → IsShaped x.did
shape r h t m x e = all_get (λ y. IsShaped y.did) (own_of r t) m x
    (all_filter (λ y. t == y.did.thread) (λ y. IsShaped y.did) (times deeds (turns_in r) 0 (plan_of r)) (timed_all IsShaped (turns_in r) 0 (plan_of r) (shapes r.program r.input r.schedule h.can h.good))) e

owners_length : (turns : List Turn) → length (owners_of turns) ≡ length turns
owners_length [] = refl
owners_length (u ∷ us) = ap suc (owners_length us)

-- its turns are few enough to be counted in a word
pub few : (r : Run) → IsEnforced r → turns_done deeds 0 (plan_of r) < 2 ^ 64
few r h =
    let a = within_end deeds (turns_in r) 0 (plan_of r) (omega arith) (plan r h).turns in
    let b = owners_length r.schedule.turns in
    let c = h.few in omega (arith, a, b, c)
