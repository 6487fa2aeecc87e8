-- Runs that are ready to go.
use Rattle.std.specs.Prelude.{◌≡◌, ℕ, ℤ, ◌*◌, ◌≤◌, List, [], length, Vec, vec_capacity}
use Rattle.std.specs.Global.{Global}
use Rattle.pg_rounds.specs.pg_ir.Program.{NumberedProgram}
use Rattle.pg_rounds.specs.pg_run_trace.declared.schedule.Schedule.{Schedule}
use Rattle.pg_rounds.specs.pg_room.declared.parts.Ready.{Ready}
use Rattle.pg_rounds.specs.pg_room.Ready.{IsReady}
use Rattle.pg_rounds.specs.pg_room.Workers.{AreFirst}
use Rattle.pg_rounds.specs.declared.merge.TheConstants.{TEXT_LIMIT}

-- what a run is computed from
pub record Given : Type 0 where
  pub program : NumberedProgram
  pub schedule : Schedule
  pub input : List ℤ

abbrev pub given : NumberedProgram → Schedule → List ℤ → Given
given p s input = record { program = p; schedule = s; input = input }

abbrev pub given_in : Ready → Given
given_in r = given r.shared.program.now r.shared.schedule.now r.shared.input.now

-- its workers are ready and did no turn, and there is room for what the schedule's turns may print
pub record IsPrepared (r : Ready) (output : Vec ℕ Global) : Type 0 where
  pub ready : IsReady r
  pub first : AreFirst r.workers.items
  pub empty : output.items ≡ []
  pub room : TEXT_LIMIT * length r.shared.schedule.now.turns ≤ vec_capacity output
