-- A recorded run, a closed set of its decisions, and an input that they admit.
use Rattle.std.proofs.Common.{◌<◌, ◌^◌, ◌≡◌, List, Option, length, true, ℕ, ℤ}
use Rattle.pg_run_objects.specs.Sync as sync
use Rattle.pg_run_trace.specs.Steps.{events}
use Rattle.pg_run_trace.specs.declared.turn.Turn.{Turn}
use Rattle.pg_region_accesses.specs.Accesses.{RootedList}
use Rattle.pg_run.specs.State.{State}
use Rattle.pg_slice_rules.specs.Closed.{IsClosed, admits}
use Rattle.pg_slice_rules.specs.Known.{Taken}
use Rattle.pg_slice_rules.specs.Moments.{thread_in}
use Rattle.pg_law_effects.specs.Reached.{IsReached}
use Rattle.pg_law_plan.specs.pg_law_runs.Deeds.{owners_of}
use Rattle.pg_law_plan.specs.Fits.{IsAlikeFor}
use Rattle.pg_law_plan.specs.Lists.{Has}
use Rattle.pg_law_plan.specs.Moves.{LooksTo, RunState, moved}
use Rattle.pg_law_plan.specs.Order.{IsOrderedRun}
use Rattle.pg_law_plan.specs.Units.{ExtentsArePlain, PlanUnit, ReferenceRun, is_instance, reference_of, turns_of, units_of}
use Rattle.pg_law_admitted.specs.Free.{BeginsInstance, UnitsJoinAgain}

pub record IsAdmitted (r : ReferenceRun) (d : Taken) (input : List ℤ) (sums : ℕ → Option RootedList) (turns : List Turn) : Type 0 where
  pub reference : IsOrderedRun r
  pub plain : ExtentsArePlain r d
  pub closed : IsClosed (reference_of r) d
  pub admitted : admits (reference_of r) d input ≡ true
  pub small : length input < 2 ^ 64
  pub same_turns : owners_of turns ≡ turns_of r
  pub again : UnitsJoinAgain r sums d
  pub own_turns : events r.steps ≡ turns
  pub over : sync.over reference.last.sync ≡ true
  -- a freeable step's instance begins where the run stands as at the step
  pub begins : (u : PlanUnit) (a : RunState) (z : State) (c : ℕ → ℕ) → Has (units_of r d) u → is_instance d u.seen ≡ true → IsAlikeFor input d u a
      → LooksTo (thread_in u.seen.moment) a (moved z c) → IsReached r.program z → BeginsInstance r sums u z
