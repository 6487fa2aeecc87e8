-- The rotation run: threads take their turns in number order, each with up to a quantum of steps.
use Rattle.std.specs.Prelude.{ℕ, zero, suc, ◌+◌, ◌-◌, ◌%◌, ◌&&◌, not, nat_lt, ℤ, List, [], ◌∷◌, ◌++◌, length, Bool, Option, Some, None, Result, Ok, Err}
use Rattle.std.specs.Prelude.{if◌then◌else◌}
use Rattle.pg_run_trace.specs.pg_num.declared.limits.TheConstants.{RECORDING_STEP_LIMIT}
use Rattle.pg_run_trace.specs.pg_ir.declared.request.TrapName.TheVariants.{Deadlock}
use Rattle.pg_run_trace.specs.pg_ir.Program.{NumberedProgram}
use Rattle.pg_run_objects.specs.Sync as sync
use Rattle.pg_run_trace.specs.declared.step.Step.{Step}
use Rattle.pg_run.specs.declared.outcome.Outcome.{Outcome}
use Rattle.pg_run.specs.declared.outcome.Outcome.TheVariants as ends
use Rattle.pg_run.specs.declared.outcome.Refusal.TheVariants as refusals
use Rattle.pg_run.specs.declared.share.Share.{Share}
use Rattle.pg_run.specs.State.{State, initial, exit_value_of, next_of, instr_of}
use Rattle.pg_run.specs.MachineStep.{Stepped, Did, Trapped, is_ended, ready, step}

-- ---- whose step is next

-- the least number below n at which f holds
abbrev pub or_at : (ℕ → Bool) → ℕ → Option ℕ → Option ℕ
or_at f n (Some i) = Some i
or_at f n None = if f n then Some n else None

unfoldable pub first_true : (ℕ → Bool) → ℕ → Option ℕ
first_true f zero = None
first_true f (suc n) = or_at f n (first_true f n)

-- the thread that comes d after the one after t, going round
abbrev pub around : State → ℕ → ℕ → ℕ
around s t d = (t + 1 + d) % length s.locals

abbrev pub share_to : State → ℕ → ℕ → Option ℕ → Option Share
share_to s q t None = None
share_to s q t (Some d) = Some (record { thread = record { 0 = around s t d }; left = q })

-- the present thread goes on while it is ready and has steps left; else the next that is ready begins
unfoldable pub next_share : NumberedProgram → ℕ → State → Share → Option Share
next_share p q s u =
    if ready p s u.thread.0 && nat_lt 0 u.left then Some u
    else share_to s q u.thread.0 (first_true (λ d. ready p s (around s u.thread.0 d)) (length s.locals))

-- ---- how a run ends

abbrev pub exit_of : State → Outcome
exit_of s = ends.Exit (exit_value_of s)

abbrev pub lowest : Option ℕ → ℕ
lowest None = 0
lowest (Some t) = t

abbrev pub hasnt_ended : NumberedProgram → State → ℕ → Bool
hasnt_ended p s t = not (is_ended (next_of p s t))

-- no thread is ready: the next instruction of the lowest-numbered thread that hasn't ended
unfoldable pub deadlock_of : NumberedProgram → State → Outcome
deadlock_of p s = ends.Refused (refusals.Trap Deadlock (record { 0 = instr_of s (lowest (first_true (hasnt_ended p s) (length s.locals))) }))

-- ---- the run

pub record RunResult : Type 0 where
  pub trace : List Step
  pub state : State
  pub end : Outcome

abbrev pub stop : State → Outcome → RunResult
stop s e = record { trace = []; state = s; end = e }

abbrev pub onto : List Step → RunResult → RunResult
onto xs r = record r { trace = xs ++ r.trace }

abbrev pub or_deadlock : NumberedProgram → State → Option Share → Result Share Outcome
or_deadlock p s None = Err (deadlock_of p s)
or_deadlock p s (Some u) = Ok u

-- whose step it is, or the end that comes before it: the run is over, or no thread is ready
unfoldable pub chosen : NumberedProgram → ℕ → State → Share → Result Share Outcome
chosen p q s u = if sync.over s.sync then Err (exit_of s) else or_deadlock p s (next_share p q s u)

abbrev pub on_chosen : State → Result Share Outcome → (Share → RunResult) → RunResult
on_chosen s (Err e) more = stop s e
on_chosen s (Ok u) more = more u

abbrev pub on_step : State → Share → Stepped → (State → Share → RunResult) → RunResult
on_step s u (Trapped name id) more = stop s (ends.Refused (refusals.Trap name (record { 0 = id })))
on_step s u (Did x t) more = onto (x ∷ []) (more t (record { thread = u.thread; left = u.left - 1 }))

-- a run of at most n further steps: after the ends of `chosen` comes the budget, and then a trap
unfoldable pub run : ℕ → NumberedProgram → List ℤ → ℕ → State → Share → RunResult
run zero p input q s u = on_chosen s (chosen p q s u) (λ v. stop s (ends.Refused refusals.Budget))
run (suc n) p input q s u = on_chosen s (chosen p q s u) (λ v. on_step s v (step [] p input s v.thread.0) (λ t w. run n p input q t w))

-- thread 0 begins
abbrev pub first_share : ℕ → Share
first_share q = record { thread = record { 0 = 0 }; left = q }

-- the rotation run with quantum q
unfoldable pub rotation_of : NumberedProgram → List ℤ → ℕ → RunResult
rotation_of p input q = run RECORDING_STEP_LIMIT p input q (initial p) (first_share q)
