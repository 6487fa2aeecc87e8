-- What holds of each state that a run reaches, by the definitions alone.
use Rattle.std.specs.Prelude.{◌≡◌, ℕ, ◌<◌, ◌^◌, false, List, [], ◌∷◌, IfSome, slice_get, slice_index}
use Rattle.pg_ir.specs.declared.function.GlobalInfo.{GlobalInfo}
use Rattle.pg_ir.specs.Program.{NumberedProgram}
use Rattle.pg_run.specs.pg_run_memory.Memory.{IsMemory}
use Rattle.pg_run_thread.specs.LocalState.{LocalState, fresh}
use Rattle.pg_run.specs.State.{State}
use Rattle.pg_run.specs.Machine.{IsMachine}

-- the local state of thread t has its number; where it hasn't begun, it is the fresh one of the function with which
-- it will begin
pub record IsThread (p : NumberedProgram) (t : ℕ) (l : LocalState) : Type 0 where
  pub number : l.thread ≡ t
  pub waiting : l.begun ≡ false → (f : ℕ) × (l ≡ fresh p t f)

-- a state of the machine whose memory is one, whose words have 64 bits, whose threads have their numbers, and whose
-- value of main is main's word
pub record IsReached (p : NumberedProgram) (s : State) : Type 0 where
  pub machine : IsMachine p s
  pub memory : IsMemory s.memory
  pub words : (t : ℕ) → slice_index s.words t < 2 ^ 64
  pub threads : (t : ℕ) → IfSome (slice_get s.locals t) (IsThread p t)
  pub value : s.value ≡ slice_index s.words 0

-- the globals begin with bytes
abbrev pub HoldBytes : List GlobalInfo → Type 0
HoldBytes [] = Unit {0}
HoldBytes (g ∷ gs) = ((i : ℕ) → slice_index g.bytes i < 2 ^ 8) × HoldBytes gs
