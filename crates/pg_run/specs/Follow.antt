-- What following a schedule gives: the guided run with its trace, where it exits within the limit on the
-- steps of a recording.
use Rattle.std.specs.Prelude.{ℕ, nat_lt, ℤ, List, length, if◌then◌else◌}
use Rattle.pg_run_trace.specs.pg_num.declared.limits.TheConstants.{RECORDING_STEP_LIMIT}
use Rattle.pg_run_trace.specs.pg_ir.declared.ids.InstrId.{InstrId}
use Rattle.pg_run_trace.specs.pg_ir.Program.{NumberedProgram}
use Rattle.pg_run_trace.specs.declared.turn.Turn.{Turn}
use Rattle.pg_run_trace.specs.declared.step.Step.{Step}
use Rattle.pg_run.specs.declared.guided_end.GuidedEnd.{GuidedEnd}
use Rattle.pg_run.specs.declared.guided_end.GuidedEnd.TheVariants as ends
use Rattle.pg_run.specs.declared.guided_follow.Followed.{Followed}
use Rattle.pg_run.specs.declared.guided_follow.Followed.TheVariants as answers
use Rattle.pg_run.specs.Guided.{GuidedRun, guided_of}

-- the trace, the printed bytes and main's value; or the turn at which the run strays; or neither
pub data Following : Type 0 where
  Exits : List Step → List ℕ → ℤ → Following
  Strays : ℕ → Following
  Breaks : Following

-- by the trace, the printed bytes, the number of turns and the end
abbrev pub reached : List Step → List ℕ → ℕ → GuidedEnd → Following
reached trace printed turns (ends.Exit value) = Exits trace printed value
reached trace printed turns ends.Strayed = Strays turns
reached trace printed turns e = Breaks

-- a run that takes one step more than a recording may have is unfinished, however it ends
abbrev pub following : GuidedRun → Following
following r = if nat_lt RECORDING_STEP_LIMIT (length r.trace) then Breaks else reached r.trace r.state.printed r.turns r.end

unfoldable pub following_of : NumberedProgram → List ℤ → List Turn → List InstrId → Following
following_of p input turns gated = following (guided_of p input turns gated)

-- how an answer with these steps reads
abbrev pub followed_as : Followed → List Step → Following
followed_as (answers.Exit output value) xs = Exits xs output.items value
followed_as (answers.Strayed k) xs = Strays k
followed_as answers.Unfinished xs = Breaks
