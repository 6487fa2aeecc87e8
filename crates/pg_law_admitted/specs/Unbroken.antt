-- Runs in which a thread, once it has taken a step that is no event, goes on, or takes no more steps.
use Rattle.std.specs.Prelude.{◌≡◌, ◌⊎◌, ℕ, List, ◌∷◌, [], None}
use Rattle.pg_run_trace.specs.declared.step.Step.{Step}
use Rattle.pg_run.specs.Runs.{event_of, steps_of}

-- the first of these steps is of thread t
unfoldable pub BeginsWith : ℕ → List Step → Type 0
BeginsWith t [] = ⊥
BeginsWith t (x ∷ xs) = x.thread.0 ≡ t

-- behind each step that is no event stands a step of its thread, or comes none
unfoldable pub IsUnbroken : List Step → Type 0
IsUnbroken [] = Unit {0}
IsUnbroken (x ∷ xs) = (event_of x ≡ None → BeginsWith x.thread.0 xs ⊎ (steps_of x.thread.0 xs ≡ 0)) × IsUnbroken xs
