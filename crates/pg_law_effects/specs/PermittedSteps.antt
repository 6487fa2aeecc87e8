-- Permitted runs, one step at a time.
use Rattle.std.specs.Prelude.{◌≡◌, ℕ, suc, ◌==◌, ◌<◌, ℤ, List, [], ◌∷◌, drop, true, Option, Some, None, if◌then◌else◌}
use Rattle.pg_num.specs.declared.limits.TheConstants.{GUIDED_STEP_LIMIT}
use Rattle.pg_ir.specs.declared.ids.InstrId.{InstrId}
use Rattle.pg_ir.specs.Program.{NumberedProgram}
use Rattle.pg_run.specs.pg_run_trace.declared.turn.Turn.{Turn}
use Rattle.pg_run.specs.pg_run_trace.declared.step.Step.{Step}
use Rattle.pg_run.specs.State.{State}
use Rattle.pg_run.specs.Runs.{Takes, event_of}
use Rattle.pg_run.specs.Permitted.{has_turn}

-- an event is the next of the turns that are left
abbrev pub IsDue : Option Turn → List Turn → Type 0
IsDue None us = Unit {0}
IsDue (Some v) [] = ⊥
IsDue (Some v) (u ∷ us) = v ≡ u

-- the turns that are left behind a step
abbrev pub turns_behind : Option Turn → List Turn → List Turn
turns_behind None us = us
turns_behind (Some v) us = drop 1 us

-- how many steps each thread has taken, with one more of thread t
abbrev pub one_more : ℕ → (ℕ → ℕ) → ℕ → ℕ
one_more t counts u = if t == u then suc (counts u) else counts u

-- in s, where these turns are left and each thread has taken so many steps, x may be taken: its thread is ready
-- and its step is x, it has a turn left and a step left, and an event is the next turn
pub record MayTake (gated : List InstrId) (p : NumberedProgram) (input : List ℤ) (s : State) (us : List Turn) (counts : ℕ → ℕ) (x : Step) : Type 0 where
  pub takes : Takes gated p input s x
  pub owner : has_turn x.thread.0 us ≡ true
  pub budget : counts x.thread.0 < GUIDED_STEP_LIMIT
  pub due : IsDue (event_of x) us

-- from s on these steps may be taken one after another, and the last leaves z
abbrev pub PermittedSteps : List InstrId → NumberedProgram → List ℤ → State → List Turn → (ℕ → ℕ) → List Step → State → Type 0
PermittedSteps gated p input s us counts [] z = s ≡ z
PermittedSteps gated p input s us counts (x ∷ xs) z =
    (m : MayTake gated p input s us counts x) × PermittedSteps gated p input m.takes.after (turns_behind (event_of x) us) (one_more x.thread.0 counts) xs z

-- no thread has taken a step
abbrev pub none_taken : ℕ → ℕ
none_taken t = 0
