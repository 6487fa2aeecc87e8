-- The steps of a thread up to its next event stand together in a guided run.
use Rattle.std.specs.Prelude.{◌≡◌, ℕ, ℤ, List, [], ◌∷◌, None}
use Rattle.pg_ir.specs.declared.ids.InstrId.{InstrId}
use Rattle.pg_ir.specs.Program.{NumberedProgram}
use Rattle.pg_run_trace.specs.declared.step.Step.{Step}
use Rattle.pg_run_trace.specs.declared.turn.Turn.{Turn}
use Rattle.pg_run_trace.specs.Steps.{event_of}
use Rattle.pg_run.specs.Follow.{Exits, following_of}

-- the first of the steps is of thread t
abbrev pub IsNext : ℕ → List Step → Type 0
IsNext t [] = ⊥
IsNext t (x ∷ xs) = x.thread.0 ≡ t

-- a step that is no event is followed by one of its thread
abbrev pub AreTogether : List Step → Type 0
AreTogether [] = Unit {0}
AreTogether (x ∷ xs) = (event_of x ≡ None → IsNext x.thread.0 xs) × AreTogether xs

abbrev pub ExtentsStandTogether : Type 0
ExtentsStandTogether = (p : NumberedProgram) (input : List ℤ) (turns : List Turn) (gated : List InstrId) (xs : List Step) (printed : List ℕ) (value : ℤ) →
    following_of p input turns gated ≡ Exits xs printed value → AreTogether xs
