-- What a step of a run on an input needs to fit a unit of the plan.
use Rattle.std.specs.Prelude.{◌≡◌, ℕ, ℤ, List, [], ◌∷◌, ◌++◌, map, true, false, Some, slice_get}
use Rattle.std.specs.List.{AllByRecursion}
use Rattle.pg_law_threads.specs.Effects.{effects}
use Rattle.pg_run_thread.specs.LocalState.{fresh}
use Rattle.pg_law_effects.specs.Views.{local_at, objects_of}
use Rattle.pg_slice_rules.specs.Known.{Taken, fresh_registers, thread_of}
use Rattle.pg_slice_rules.specs.Moments.{thread_in}
use Rattle.pg_law_plan.specs.Likes.{IsCellLike, IsThreadLike, PlanThread}
use Rattle.pg_law_plan.specs.Moves.{RunState}
use Rattle.pg_law_plan.specs.Units.{PlanUnit, ReferenceRun, cell_known, deed_of, is_event_at, is_instance, plan_start, reads_cell, standing_of, units_of}

-- the thread of a unit before it
abbrev pub thread_before : PlanUnit → PlanThread
thread_before u = record { standing = standing_of (local_at u.state (thread_in u.seen.moment)) (thread_of u.seen.before (thread_in u.seen.moment)).calls; units = u.units }

-- in the run state a all is alike that the unit rests on: its thread, the cells that it reads, and for an event the objects
pub record IsAlikeFor (input : List ℤ) (d : Taken) (u : PlanUnit) (a : RunState) : Type 0 where
  pub thread : IsThreadLike input (thread_before u) (a.locals (thread_in u.seen.moment))
  pub cells : (c : ℕ) → reads_cell d u.seen c ≡ true → IsCellLike input (cell_known u.seen.before c) (a.cells c)
  pub objects : is_event_at u.seen ≡ true → objects_of u.state ≡ a.objects

-- nothing is known yet of the registers of a thread that is to begin
abbrev pub StartsAreFresh : ReferenceRun → Taken → Type 0
StartsAreFresh r d = AllByRecursion (λ (u : PlanUnit). (f : ℕ) → slice_get u.state.locals (thread_in u.seen.moment) ≡ Some (fresh r.program (thread_in u.seen.moment) f) →
    (thread_of u.seen.before (thread_in u.seen.moment)).calls ≡ fresh_registers r.program f ∷ []) (units_of r d)

-- ---- the state of a plan

-- what the units before this one leave is what is known before it, and where its thread stands there
pub record IsRemembered (r : ReferenceRun) (d : Taken) (us : List PlanUnit) (u : PlanUnit) : Type 0 where
  pub thread : (effects (plan_start r) (map (deed_of d) us)).locals (thread_in u.seen.moment) ≡ thread_before u
  pub cells : (c : ℕ) → (effects (plan_start r) (map (deed_of d) us)).cells c ≡ cell_known u.seen.before c
  pub objects : (effects (plan_start r) (map (deed_of d) us)).objects ≡ objects_of u.state

abbrev pub PlanRemembers : ReferenceRun → Taken → Type 0
PlanRemembers r d = (us : List PlanUnit) (u : PlanUnit) (vs : List PlanUnit) → units_of r d ≡ us ++ u ∷ vs → IsRemembered r d us u

-- each unit is a single step: no live branch step is left free
abbrev pub IsWithoutInstances : ReferenceRun → Taken → Type 0
IsWithoutInstances r d = AllByRecursion (λ (u : PlanUnit). is_instance d u.seen ≡ false) (units_of r d)
