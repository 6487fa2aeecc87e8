-- The turns of a run with their replies.
use Rattle.std.specs.Prelude.{◌≡◌, ℕ, List, ◌++◌, map, filter, Option}
use Rattle.pg_run_trace.specs.declared.step.Step.{Step}
use Rattle.pg_run_trace.specs.declared.turn.Turn.{Turn}
use Rattle.pg_run_trace.specs.Races.{recorded, reply_in}
use Rattle.pg_run_trace.specs.Steps.{event_of}

-- an event: its turn, and the reply that it had
pub record Answered : Type 0 where
  pub turn : Option Turn
  pub reply : Option ℕ

abbrev pub answered : Step → Answered
answered x = record { turn = event_of x; reply = reply_in x.kind }

-- the events of a run, in order
abbrev pub answers : List Step → List Answered
answers xs = map answered (filter recorded.is_event xs)

-- the first of these are those
abbrev pub AreFirst : List Answered → List Answered → Type 0
AreFirst xs ys = (rest : List Answered) × (xs ++ rest ≡ ys)
