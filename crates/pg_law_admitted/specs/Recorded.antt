-- A recorded run along its schedule, and the decisions under which other inputs use that schedule.
use Rattle.std.specs.Prelude.{◌≡◌, ◌<◌, ◌^◌, ℕ, ℤ, List, length, Option, true}
use Rattle.pg_ir.specs.Program.{NumberedProgram}
use Rattle.pg_region_accesses.specs.Accesses.{RootedList}
use Rattle.pg_run_trace.specs.declared.schedule.Schedule.{Schedule}
use Rattle.pg_run_trace.specs.declared.step.Step.{Step}
use Rattle.pg_law_plan.specs.pg_law_runs.Cuts.{IsOrderedAlong}
use Rattle.pg_slice_rules.specs.Closed.{IsClosed, admits}
use Rattle.pg_slice_rules.specs.Freeable.{Regions}
use Rattle.pg_slice_rules.specs.Known.{Taken}
use Rattle.pg_law_instances.specs.References.{IsReferenceRun}
use Rattle.pg_law_order.specs.Good.{replies_of}
use Rattle.pg_law_plan.specs.Units.{ReferenceRun, reference_of}

-- the guided run along the schedule on the recorded input exits with the steps xs, which are ordered and have its replies
pub record IsOrderedReference (p : NumberedProgram) (recorded : List ℤ) (s : Schedule) (sums : ℕ → Option RootedList) (regions : Regions) (xs : List Step) : Type 0 where
  pub reference : IsReferenceRun p recorded s.turns s.gated sums regions xs
  pub ordered : IsOrderedAlong s.turns xs
  pub replies : replies_of xs ≡ s.replies

-- that run, as decisions see it
abbrev pub recording : NumberedProgram → List ℤ → Schedule → Regions → List Step → ReferenceRun
recording p recorded s regions xs = record { program = p; input = recorded; gated = s.gated; regions = regions; steps = xs }

-- the decisions are closed on it, and admit the input
pub record Admits (p : NumberedProgram) (recorded : List ℤ) (s : Schedule) (regions : Regions) (xs : List Step) (d : Taken) (input : List ℤ) : Type 0 where
  pub closed : IsClosed (reference_of (recording p recorded s regions xs)) d
  pub admitted : admits (reference_of (recording p recorded s regions xs)) d input ≡ true
  pub small : length input < 2 ^ 64
