-- What is asked of the run along a schedule, so that threads may run on their own along its turns.
use Rattle.std.specs.Prelude.{◌≡◌, ◌≢◌, ℕ, ℤ, List, ◌∷◌}
use Rattle.std.specs.List.{filter_map}
use Rattle.pg_ir.specs.declared.ids.InstrId.{InstrId}
use Rattle.pg_ir.specs.declared.request.TrapName.{TrapName}
use Rattle.pg_ir.specs.Program.{NumberedProgram}
use Rattle.pg_run_thread.specs.declared.action.Action.TheVariants as actions
use Rattle.pg_run_trace.specs.declared.schedule.Schedule.{Schedule}
use Rattle.pg_run_trace.specs.declared.step.Step.{Step}
use Rattle.pg_run_trace.specs.declared.turn.Turn.{Turn}
use Rattle.pg_run_trace.specs.Races.{reply_in}
use Rattle.pg_run.specs.declared.guided_end.GuidedEnd.TheVariants as ends
use Rattle.pg_run.specs.FullGuided.{full_guided_of}
use Rattle.pg_run.specs.Guided.{GuidedRun}
use Rattle.pg_run.specs.Permitted.{turns_left}
use Rattle.pg_run.specs.State.{next_of}
use Rattle.pg_law_runs.specs.Cuts.{IsFrontOf, IsOrderedAlong}

-- the numbers that the pthread calls of the events returned, 0 for other events
abbrev pub replies_of : List Step → List ℕ
replies_of xs = filter_map (λ (x : Step). reply_in x.kind) xs

-- the full guided run along a schedule
abbrev pub run_along : NumberedProgram → List ℤ → Schedule → GuidedRun
run_along p input s = full_guided_of p input s.turns s.gated

-- the full guided run along the schedule is as it must be:
pub record IsGoodRun (p : NumberedProgram) (input : List ℤ) (s : Schedule) : Type 0 where
  -- it doesn't stray
  pub arrives : (run_along p input s).end ≢ ends.Strayed
  -- it is ordered
  pub ordered : IsOrderedAlong s.turns (run_along p input s).trace
  -- where it ends by a trap, the owner of the next turn traps by itself, and by no check on the objects
  pub objects : (next : Turn) (later : List Turn) (name : TrapName) (id : InstrId) → turns_left s.turns (run_along p input s).trace ≡ next ∷ later
      → (run_along p input s).end ≡ ends.Trap name id →
      next_of p (run_along p input s).state next.thread.0 ≡ actions.Trap name
  -- each turn that it does returned its number of the schedule's replies
  pub replies : IsFrontOf (replies_of (run_along p input s).trace) s.replies
