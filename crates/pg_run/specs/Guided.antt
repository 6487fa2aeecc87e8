-- The guided run along a list of turns: the owner of the next turn alone takes steps until it has done an
-- event.
use Rattle.std.specs.Prelude.{ℕ, zero, suc, ◌+◌, ◌==◌, ◌&&◌, ◌||◌, ℤ, List, [], ◌∷◌, ◌++◌, replicate, Bool, true, false, Option, Some, None, Result, Ok, Err}
use Rattle.std.specs.Prelude.{slice_set, slice_index, if◌then◌else◌}
use Rattle.pg_run_trace.specs.pg_num.declared.limits.TheConstants.{THREAD_LIMIT, GUIDED_STEP_LIMIT}
use Rattle.pg_run_trace.specs.pg_ir.declared.ids.InstrId.{InstrId}
use Rattle.pg_run_trace.specs.pg_ir.declared.request.TrapName.{TrapName}
use Rattle.pg_run_trace.specs.pg_ir.Program.{NumberedProgram}
use Rattle.pg_run_objects.specs.Sync as sync
use Rattle.pg_run_thread.specs.declared.action.Action.{Action}
use Rattle.pg_run_trace.specs.declared.turn.Turn.{Turn}
use Rattle.pg_run_trace.specs.declared.step.Step.{Step}
use Rattle.pg_run_trace.specs.Kinds.{kind_number}
use Rattle.pg_run.specs.declared.guided_end.GuidedEnd.{GuidedEnd}
use Rattle.pg_run.specs.declared.guided_end.GuidedEnd.TheVariants as ends
use Rattle.pg_run.specs.State.{State, initial, exit_value_of, next_of, instr_of}
use Rattle.pg_run.specs.MachineStep.{Stepped, Did, Trapped, trap_of, is_ended, may_act, happening_of, turn_with, step}

-- ---- the tests before a step

-- two turns are equal: their kinds have one number, as only a kind has with itself
abbrev pub is_turn : Turn → Turn → Bool
is_turn a b = a.thread.0 == b.thread.0 && a.instr.0 == b.instr.0 && kind_number a.kind == kind_number b.kind && a.object == b.object

-- the run is over, or the thread of this action isn't made or has ended
abbrev pub cannot_go : State → Action → Bool
cannot_go s action = sync.over s.sync || is_ended action

-- a trap of thread t comes before what follows
abbrev pub trap_or : State → ℕ → Option TrapName → Result Bool GuidedEnd → Result Bool GuidedEnd
trap_or s t None otherwise = otherwise
trap_or s t (Some name) otherwise = Err (ends.Trap name (record { 0 = instr_of s t }))

-- an event must be the wanted turn, and ready; tells whether the step is the turn
abbrev pub on_event : Turn → Bool → Option Turn → Result Bool GuidedEnd
on_event u is_ready None = Ok false
on_event u is_ready (Some v) = if is_turn v u && is_ready then Ok true else Err ends.Strayed

-- whether the next step of the owner of turn u is this turn, or the end that comes before it: the owner
-- can't go, its next action traps, or is an event that isn't u or isn't ready
abbrev pub due_by : List InstrId → Turn → State → Action → Result Bool GuidedEnd
due_by gated u s action =
    if cannot_go s action then Err ends.Strayed
    else trap_or s u.thread.0 (trap_of s u.thread.0 action)
    (on_event u (may_act s u.thread.0 action) (turn_with s u.thread.0 (happening_of gated s u.thread.0 action)))

unfoldable pub due : List InstrId → NumberedProgram → Turn → State → Result Bool GuidedEnd
due gated p u s = due_by gated u s (next_of p s u.thread.0)

-- the end where the owner has no step left: that it can't go comes before all else
unfoldable pub spent : NumberedProgram → Turn → State → GuidedEnd
spent p u s = if cannot_go s (next_of p s u.thread.0) then ends.Strayed else ends.Budget u.thread

-- ---- the steps on the way to one turn

-- the steps, the state behind them, how many steps the owner has left, and the end of the run where the
-- turn wasn't done
pub record Walk : Type 0 where
  pub trace : List Step
  pub state : State
  pub left : ℕ
  pub end : Option GuidedEnd

abbrev pub here : State → ℕ → Option GuidedEnd → Walk
here s n e = record { trace = []; state = s; left = n; end = e }

abbrev pub behind : List Step → Walk → Walk
behind xs w = record w { trace = xs ++ w.trace }

-- the turn is done, or the owner goes on. No step traps here: the tests have found its trap
abbrev pub on_step : State → ℕ → Bool → Stepped → (State → Walk) → Walk
on_step s n is_due (Trapped name id) more = here s (suc n) (Some (ends.Trap name (record { 0 = id })))
on_step s n true (Did x t) more = behind (x ∷ []) (here t n None)
on_step s n false (Did x t) more = behind (x ∷ []) (more t)

abbrev pub on_due : State → ℕ → Result Bool GuidedEnd → (Bool → Walk) → Walk
on_due s n (Err e) step_it = here s (suc n) (Some e)
on_due s n (Ok is_due) step_it = step_it is_due

-- the owner of turn u, with so many steps left, steps until it has done an event
unfoldable pub walk : ℕ → List InstrId → NumberedProgram → List ℤ → Turn → State → Walk
walk zero gated p input u s = here s 0 (Some (spent p u s))
walk (suc n) gated p input u s =
    on_due s n (due gated p u s) (λ is_due. on_step s n is_due (step gated p input s u.thread.0) (λ t. walk n gated p input u t))

-- ---- the run

-- the steps, the state behind them, how many steps each thread has left, how many turns were done, and the
-- end
pub record GuidedRun : Type 0 where
  pub trace : List Step
  pub state : State
  pub left : List ℕ
  pub turns : ℕ
  pub end : GuidedEnd

-- main's value where the run is over
abbrev pub end_after : State → GuidedEnd
end_after s = if sync.over s.sync then ends.Exit (exit_value_of s) else ends.Strayed

abbrev pub onto : List Step → GuidedRun → GuidedRun
onto xs r = record r { trace = xs ++ r.trace }

abbrev pub ended_at : Walk → List ℕ → ℕ → Option GuidedEnd → (State → List ℕ → GuidedRun) → GuidedRun
ended_at w left k None more = onto w.trace (more w.state left)
ended_at w left k (Some e) more = record { trace = w.trace; state = w.state; left = left; turns = k; end = e }

-- after a walk to turn k of thread t
abbrev pub on_walk : List ℕ → ℕ → ℕ → Walk → (State → List ℕ → GuidedRun) → GuidedRun
on_walk left k t w more = ended_at w (slice_set left t w.left) k w.end more

-- from turn k on, where each thread has so many steps left
unfoldable pub guided : List InstrId → NumberedProgram → List ℤ → List Turn → ℕ → State → List ℕ → GuidedRun
guided gated p input [] k s left = record { trace = []; state = s; left = left; turns = k; end = end_after s }
guided gated p input (u ∷ us) k s left =
    on_walk left k u.thread.0 (walk (slice_index left u.thread.0) gated p input u s) (λ t rest. guided gated p input us (k + 1) t rest)

-- each thread has all of its steps left
unfoldable pub all_left : List ℕ
all_left = replicate THREAD_LIMIT GUIDED_STEP_LIMIT

-- the guided run of a program on an input along turns
unfoldable pub guided_of : NumberedProgram → List ℤ → List Turn → List InstrId → GuidedRun
guided_of p input turns gated = guided gated p input turns 0 (initial p) all_left
