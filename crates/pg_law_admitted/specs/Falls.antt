-- Runs whose steps fall into moves.
use Rattle.std.specs.Prelude.{◌≡◌, ℕ, ℤ, List, [], ◌∷◌, ◌++◌, Option, true, false, is_some}
use Rattle.std.specs.List.{AllByRecursion}
use Rattle.pg_region_accesses.specs.Accesses.{RootedList}
use Rattle.pg_law_threads.specs.Effects.{deeds}
use Rattle.pg_law_threads.specs.Plans.{Moves}
use Rattle.pg_run_trace.specs.declared.step.Step.{Step}
use Rattle.pg_run_trace.specs.declared.turn.Turn.{Turn}
use Rattle.pg_run_trace.specs.Races.{recorded}
use Rattle.pg_run.specs.State.{initial}
use Rattle.pg_law_effects.specs.PermittedSteps.{none_taken}
use Rattle.pg_slice_rules.specs.Known.{Taken}
use Rattle.pg_law_plan.specs.Moves.{RunDeed, moved}
use Rattle.pg_law_plan.specs.Units.{ReferenceRun}
use Rattle.pg_law_admitted.specs.Free.{IsAnyMove}

-- a step of the move's thread, which reads and writes no more cells than the move
pub record IsStepOf (e : RunDeed) (x : Step) : Type 0 where
  pub thread : x.thread.0 ≡ e.thread
  pub reads : (c : ℕ) → recorded.reads x c ≡ true → e.reads c ≡ true
  pub writes : (c : ℕ) → recorded.writes x c ≡ true → is_some (e.writes c) ≡ true

-- these steps begin with those of the move: its first step, which is an event where the move is one and then stands alone, and
-- further ones that are no events
pub record BeginWithMove (e : RunDeed) (xs : List Step) : Type 0 where
  pub first : Step
  pub inner : List Step
  pub rest : List Step
  pub whole : xs ≡ first ∷ (inner ++ rest)
  pub told : e.told ≡ first
  pub event : recorded.is_event first ≡ deeds.is_event e
  pub plain : AllByRecursion (λ (x : Step). recorded.is_event x ≡ false) inner
  pub single : deeds.is_event e ≡ true → inner ≡ []
  pub steps : AllByRecursion (IsStepOf e) (first ∷ inner)

-- the steps are those of the moves, one move behind another
abbrev pub FallInto : List Step → List RunDeed → Type 0
FallInto xs [] = xs ≡ []
FallInto xs (e ∷ es) = (b : BeginWithMove e xs) × FallInto b.rest es

-- the steps of a run from the first state on fall into moves along these turns
pub record FallIntoMoves (r : ReferenceRun) (d : Taken) (input : List ℤ) (sums : ℕ → Option RootedList) (turns : List Turn) (xs : List Step) : Type 0 where
  pub moves : List RunDeed
  pub are : Moves (IsAnyMove r d input sums turns) (moved (initial r.program) none_taken) 0 moves
  pub fall : FallInto xs moves
