-- Inputs that the turns of a schedule serve: each run that the turns permit is as the guided run along them.
use Rattle.std.specs.Prelude.{◌≡◌, ◌≢◌, ◌≤◌, ◌⊎◌, ℕ, ℤ, List, length, take}
use Rattle.pg_ir.specs.Program.{NumberedProgram}
use Rattle.pg_run_trace.specs.declared.schedule.Schedule.{Schedule}
use Rattle.pg_run_trace.specs.declared.step.Step.{Step}
use Rattle.pg_run.specs.declared.guided_end.GuidedEnd.TheVariants as ends
use Rattle.pg_run.specs.Guided.{GuidedRun, guided_of}
use Rattle.pg_run.specs.Permitted.{IsFull, IsPermitted, full_end}
use Rattle.pg_run.specs.Runs.{events}
use Rattle.pg_run.specs.State.{State}
use Rattle.pg_law_runs.specs.Cuts.{CanStep, IsAtCut, IsFrontOf, IsOrderedAlong, steps_by}
use Rattle.pg_law_order.specs.Good.{replies_of, run_along}

-- the guided run of a program on an input along a schedule's turns
abbrev pub guided_along : NumberedProgram → List ℤ → Schedule → GuidedRun
guided_along p input s = guided_of p input s.turns s.gated

-- the steps xs, which lead to z, are as far as they go those of the full guided run:
pub record RunsAsGuided (p : NumberedProgram) (input : List ℤ) (s : Schedule) (xs : List Step) (z : State) : Type 0 where
  -- they stand at a cut of it, at which each thread has done the first of its steps
  pub cut : IsAtCut p input s.turns s.gated (run_along p input s).trace xs z
  -- they are ordered
  pub ordered : IsOrderedAlong s.turns xs
  -- each turn returned its number of the schedule's replies
  pub replies : IsFrontOf (replies_of xs) s.replies
  -- the run isn't stuck: it is full, or some thread can step
  pub goes_on : IsFull s.gated p s.turns xs z ⊎ ((t : ℕ) × CanStep p input s.turns s.gated xs t)
  -- so that it becomes full, since it has no more steps than that run
  pub steps : length xs ≤ length (run_along p input s).trace

-- a full run, which has the steps xs and leads to z, ends as the guided run:
pub record EndsAsGuided (p : NumberedProgram) (input : List ℤ) (s : Schedule) (xs : List Step) (z : State) : Type 0 where
  -- it printed the same bytes
  pub output : z.printed ≡ (guided_along p input s).state.printed
  -- it exits with the same value, or ends by the same trap at the same instruction or by the same thread's spent budget
  pub end : full_end p s.turns xs z ≡ (guided_along p input s).end
  -- it did the same turns
  pub turns : events xs ≡ take (guided_along p input s).turns s.turns
  -- and in each thread the steps of the full guided run
  pub steps : (t : ℕ) → steps_by t xs ≡ steps_by t (run_along p input s).trace

-- the schedule serves the input:
pub record IsServed (p : NumberedProgram) (input : List ℤ) (s : Schedule) : Type 0 where
  -- the guided run along its turns doesn't stray
  pub arrives : (guided_along p input s).end ≢ ends.Strayed
  -- each run that the turns permit is as that run, as far as it goes
  pub runs : (xs : List Step) (z : State) → IsPermitted p input s.turns s.gated xs z → RunsAsGuided p input s xs z
  -- and where it is full ends as that run
  pub full : (xs : List Step) (z : State) → IsPermitted p input s.turns s.gated xs z → IsFull s.gated p s.turns xs z → EndsAsGuided p input s xs z
