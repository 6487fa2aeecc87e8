-- The end line of `once` by the rotation run alone.
use Rattle.std.specs.Prelude.{List, length, codes, ℕ}
use Rattle.pg_session_book.specs.pg_run_trace.declared.step.Step.{Step}
use Rattle.pg_session_book.specs.pg_run_trace.Races.{schedule_of}
use Rattle.pg_session_book.specs.pg_run.declared.outcome.Outcome.{Outcome}
use Rattle.pg_session_book.specs.pg_run.declared.outcome.Outcome.TheVariants.{Exit, Refused}
use Rattle.pg_session_book.specs.pg_run.declared.outcome.Refusal.TheVariants.{Trap, Budget}
use Rattle.pg_commands.specs.Texts.{exit_line, trap_line}

-- how a run ended, with the number of its turns where it exited
abbrev pub line_of : Outcome → ℕ → List ℕ
line_of (Exit value) n = exit_line value n
line_of (Refused (Trap name id)) n = trap_line name id
line_of (Refused Budget) n = codes "budget\n"

-- a run of these steps that exits does as many turns along its schedule as that has
abbrev pub end_line : List Step → Outcome → List ℕ
end_line xs end = line_of end (length (schedule_of xs).turns)
