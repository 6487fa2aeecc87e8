-- A permitted run along a list of turns: any run whose k-th event is the k-th turn.
use Rattle.std.specs.Prelude.{◌≡◌, ◌≢◌, ℕ, ◌==◌, ◌≤◌, ◌||◌, nat_le, ℤ, List, [], ◌∷◌, ◌++◌, length, take, drop, Bool, true, false, Option, Some, None}
use Rattle.std.specs.Prelude.{is_some, IfSome, slice_get, if◌then◌else◌}
use Rattle.std.specs.List.{list_any}
use Rattle.pg_run_trace.specs.pg_num.declared.limits.TheConstants.{GUIDED_STEP_LIMIT}
use Rattle.pg_run_trace.specs.pg_ir.declared.ids.InstrId.{InstrId}
use Rattle.pg_run_trace.specs.pg_ir.declared.request.TrapName.{TrapName}
use Rattle.pg_run_trace.specs.pg_ir.Program.{NumberedProgram}
use Rattle.pg_run_objects.specs.Sync as sync
use Rattle.pg_run_trace.specs.declared.turn.Turn.{Turn}
use Rattle.pg_run_trace.specs.declared.step.Step.{Step}
use Rattle.pg_run.specs.declared.guided_end.GuidedEnd.{GuidedEnd}
use Rattle.pg_run.specs.declared.guided_end.GuidedEnd.TheVariants as ends
use Rattle.pg_run.specs.State.{State, initial, next_of, instr_of}
use Rattle.pg_run.specs.MachineStep.{trap_of, is_ended, turn_of}
use Rattle.pg_run.specs.Runs.{IsRun, events, steps_of}
use Rattle.pg_run.specs.Guided.{end_after}

-- ---- turns that are left

-- the turns that are left after these steps
abbrev pub turns_left : List Turn → List Step → List Turn
turns_left turns xs = drop (length (events xs)) turns

-- thread t has one of these turns
abbrev pub has_turn : ℕ → List Turn → Bool
has_turn t us = list_any (λ (u : Turn). u.thread.0 == t) us

-- ---- permitted runs

-- the steps xs lead from the first state to s; their k-th event is the k-th turn; no thread takes more
-- than its steps; and each step's thread had a turn left before it
pub record IsPermitted (p : NumberedProgram) (input : List ℤ) (turns : List Turn) (gated : List InstrId) (xs : List Step) (s : State) : Type 0 where
  pub run : IsRun gated p input (initial p) xs s
  pub in_order : events xs ++ turns_left turns xs ≡ turns
  pub budget : (t : ℕ) → steps_of t xs ≤ GUIDED_STEP_LIMIT
  pub owners : (i : ℕ) → IfSome (slice_get xs i) (λ (x : Step). has_turn x.thread.0 (turns_left turns (take i xs)) ≡ true)

-- ---- full runs

-- thread t's next action traps
abbrev pub traps : NumberedProgram → State → ℕ → Bool
traps p s t = is_some (trap_of s t (next_of p s t))

-- thread t has taken all of its steps
abbrev pub has_spent : List Step → ℕ → Bool
has_spent xs t = nat_le GUIDED_STEP_LIMIT (steps_of t xs)

-- thread t isn't made or has ended, traps, has spent its steps, or stands at an event
abbrev pub rests : List InstrId → NumberedProgram → List Step → State → ℕ → Bool
rests gated p xs s t = is_ended (next_of p s t) || traps p s t || has_spent xs t || is_some (turn_of gated p s t)

-- the run isn't over, the owner of the next turn traps or has spent its steps, and each other thread that
-- has a turn left rests
pub record IsHeld (gated : List InstrId) (p : NumberedProgram) (xs : List Step) (s : State) (next : Turn) (later : List Turn) : Type 0 where
  pub going : sync.over s.sync ≡ false
  pub owner : (traps p s next.thread.0 || has_spent xs next.thread.0) ≡ true
  pub others : (t : ℕ) → t ≢ next.thread.0 → has_turn t later ≡ true → rests gated p xs s t ≡ true

abbrev pub IsHeldBy : List InstrId → NumberedProgram → List Step → State → List Turn → Type 0
IsHeldBy gated p xs s [] = Unit {0}
IsHeldBy gated p xs s (next ∷ later) = IsHeld gated p xs s next later

-- a permitted run is full if it has all turns, or can't go on
abbrev pub IsFull : List InstrId → NumberedProgram → List Turn → List Step → State → Type 0
IsFull gated p turns xs s = IsHeldBy gated p xs s (turns_left turns xs)

-- ---- how a full run ends

abbrev pub trapped : State → ℕ → Option TrapName → GuidedEnd
trapped s t None = ends.Strayed
trapped s t (Some name) = ends.Trap name (record { 0 = instr_of s t })

abbrev pub end_before : NumberedProgram → List Step → State → List Turn → GuidedEnd
end_before p xs s [] = end_after s
end_before p xs s (u ∷ us) = if has_spent xs u.thread.0 then ends.Budget u.thread else trapped s u.thread.0 (trap_of s u.thread.0 (next_of p s u.thread.0))

-- where it has all turns, main's value; else by the owner of its next turn: by the budget where that has
-- spent its steps, else by the trap of its next action
abbrev pub full_end : NumberedProgram → List Turn → List Step → State → GuidedEnd
full_end p turns xs s = end_before p xs s (turns_left turns xs)
