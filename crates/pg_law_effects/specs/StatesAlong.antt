-- Runs as functions of the threads that step: the steps, the state behind them, and their effects.
use Rattle.std.specs.Prelude.{ℕ, ℤ, List, [], ◌∷◌, map, Bool, Option, Some, None, if◌then◌else◌}
use Rattle.pg_ir.specs.declared.ids.InstrId.{InstrId}
use Rattle.pg_ir.specs.Program.{NumberedProgram}
use Rattle.pg_run.specs.pg_run_trace.declared.step.Step.{Step}
use Rattle.pg_run.specs.State.{State}
use Rattle.pg_run.specs.MachineStep.{Stepped, Did, Trapped, ready, step}
use Rattle.pg_law_effects.specs.Effect.{Effect, effect, effect_of}

-- the steps of a run, and the state behind them
pub record Ran : Type 0 where
  pub steps : List Step
  pub state : State

abbrev pub behind : Step → Option Ran → Option Ran
behind x None = None
behind x (Some r) = Some (record { steps = x ∷ r.steps; state = r.state })

abbrev pub on_stepped : Stepped → (State → Option Ran) → Option Ran
on_stepped (Trapped name id) more = None
on_stepped (Did x z) more = behind x (more z)

-- these threads step one after another, if each is ready and doesn't trap
unfoldable pub run_of : List InstrId → NumberedProgram → List ℤ → State → List ℕ → Option Ran
run_of gated p input s [] = Some (record { steps = []; state = s })
run_of gated p input s (t ∷ ts) = if ready p s t then on_stepped (step gated p input s t) (λ z. run_of gated p input z ts) else None

-- the threads of steps, in order
abbrev pub threads_of : List Step → List ℕ
threads_of xs = map (λ (x : Step). x.thread.0) xs

abbrev pub state_in : Option Ran → Option State
state_in None = None
state_in (Some r) = Some r.state

-- the state after the threads of these steps have stepped
abbrev pub state_after : List InstrId → NumberedProgram → List ℤ → State → List Step → Option State
state_after gated p input s xs = state_in (run_of gated p input s (threads_of xs))

-- ---- by effects

-- the effects of the steps that these threads take one after another, where none traps
unfoldable pub effects_of : NumberedProgram → List ℤ → State → List ℕ → List Effect
effects_of p input s [] = []
effects_of p input s (t ∷ ts) = effect_of p input s t ∷ effects_of p input (effect s (effect_of p input s t)) ts

-- the state after effects
unfoldable pub after_effects : State → List Effect → State
after_effects s [] = s
after_effects s (e ∷ es) = after_effects (effect s e) es
