-- The full guided run: after a trap or a spent budget the threads with turns left go on to their next events.
use Rattle.std.specs.Prelude.{ℕ, zero, suc, ◌==◌, ◌&&◌, ◌||◌, not, ℤ, List, [], ◌∷◌, ◌++◌, drop, Bool, true, false, None, is_some, slice_set, slice_index}
use Rattle.std.specs.Prelude.{if◌then◌else◌}
use Rattle.pg_run_trace.specs.pg_num.declared.limits.TheConstants.{THREAD_LIMIT}
use Rattle.pg_run_trace.specs.pg_ir.declared.ids.InstrId.{InstrId}
use Rattle.pg_run_trace.specs.pg_ir.Program.{NumberedProgram}
use Rattle.pg_run_trace.specs.declared.turn.Turn.{Turn}
use Rattle.pg_run.specs.declared.guided_end.GuidedEnd.{GuidedEnd}
use Rattle.pg_run.specs.declared.guided_end.GuidedEnd.TheVariants as ends
use Rattle.pg_run.specs.State.{State, next_of}
use Rattle.pg_run.specs.MachineStep.{Stepped, Did, Trapped, is_ended, turn_of, step}
use Rattle.pg_run.specs.Guided.{GuidedRun, Walk, here, behind, guided_of}
use Rattle.pg_run.specs.Permitted.{has_turn, traps}

-- thread t isn't made or has ended, traps, or stands at an event
abbrev pub stands : List InstrId → NumberedProgram → State → ℕ → Bool
stands gated p s t = is_ended (next_of p s t) || traps p s t || is_some (turn_of gated p s t)

abbrev pub on_plain : State → ℕ → Stepped → (State → Walk) → Walk
on_plain s n (Trapped name id) more = here s (suc n) None
on_plain s n (Did x z) more = behind (x ∷ []) (more z)

-- thread t, with so many steps left, steps until it stands
unfoldable pub walk_alone : ℕ → List InstrId → NumberedProgram → List ℤ → ℕ → State → Walk
walk_alone zero gated p input t s = here s 0 None
walk_alone (suc n) gated p input t s =
    if stands gated p s t then here s (suc n) None
    else on_plain s n (step gated p input s t) (λ z. walk_alone n gated p input t z)

abbrev pub with_walk : GuidedRun → ℕ → Walk → GuidedRun
with_walk r t w = record r { trace = r.trace ++ w.trace; state = w.state; left = slice_set r.left t w.left }

abbrev pub with_thread : List InstrId → NumberedProgram → List ℤ → Turn → List Turn → ℕ → GuidedRun → GuidedRun
with_thread gated p input next later t r =
    if not (t == next.thread.0) && has_turn t later
    then with_walk r t (walk_alone (slice_index r.left t) gated p input t r.state)
    else r

-- the threads below n that have a turn left, but for the owner of the next one, in number order
unfoldable pub with_others : ℕ → List InstrId → NumberedProgram → List ℤ → Turn → List Turn → GuidedRun → GuidedRun
with_others zero gated p input next later r = r
with_others (suc t) gated p input next later r = with_thread gated p input next later t (with_others t gated p input next later r)

abbrev pub gone_on : List InstrId → NumberedProgram → List ℤ → List Turn → GuidedRun → GuidedRun
gone_on gated p input [] r = r
gone_on gated p input (next ∷ later) r = with_others THREAD_LIMIT gated p input next later r

abbrev pub stops_early : GuidedEnd → Bool
stops_early (ends.Trap name id) = true
stops_early (ends.Budget t) = true
stops_early e = false

abbrev pub completed : List InstrId → NumberedProgram → List ℤ → List Turn → GuidedRun → GuidedRun
completed gated p input turns r = if stops_early r.end then gone_on gated p input (drop r.turns turns) r else r

unfoldable pub full_guided_of : NumberedProgram → List ℤ → List Turn → List InstrId → GuidedRun
full_guided_of p input turns gated = completed gated p input turns (guided_of p input turns gated)
