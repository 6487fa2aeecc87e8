-- The guided run of `once` exits with the rotation run's value, prints the same, and does all turns of the schedule.
use Rattle.std.proofs.Common.{◌≡◌, ℕ, ℤ, zero, suc, ◌+◌, ◌<◌, ◌≤◌, List, [], ◌∷◌, ◌++◌, length, drop, take, Bool, true, false, Option, Some, None, refl}
use Rattle.std.proofs.Common.{sym, ap, ap₂, ◌∙◌, subst, arith}
use Rattle.std.specs.Prelude.{All, ◌^◌, if◌then◌else◌}
use Rattle.pg_ir.specs.declared.ids.InstrId.{InstrId}
use Rattle.pg_ir.specs.declared.request.TrapName.{TrapName}
use Rattle.pg_ir.specs.Program.{NumberedProgram}
use Rattle.pg_ir.specs.WellFormed.{IsProgram}
use Rattle.pg_check.specs.pg_check_rules.Numbered.{program_of}
use Rattle.pg_check.specs.pg_check_rules.Conditions.{IsUnrefused}
use Rattle.pg_read_ast.specs.Syntax.{Tree}
use Rattle.pg_read_grammar.specs.Accepted.{IsModule}
use Rattle.pg_session_book.specs.pg_run_trace.declared.step.Step.{Step}
use Rattle.pg_session_book.specs.pg_run_trace.declared.turn.Turn.{Turn}
use Rattle.pg_session_book.specs.pg_run_trace.Races.{schedule_of}
use Rattle.pg_session_book.specs.pg_run.declared.outcome.Outcome.{Outcome}
use Rattle.pg_session_book.specs.pg_run.declared.outcome.Outcome.TheVariants as outcomes
use Rattle.pg_session_book.specs.pg_run.declared.outcome.Refusal.TheVariants as refusals
use Rattle.pg_session_book.specs.pg_run.declared.guided_end.GuidedEnd.{GuidedEnd}
use Rattle.pg_session_book.specs.pg_run.declared.guided_end.GuidedEnd.TheVariants as ends
use Rattle.pg_session_book.specs.pg_run.State.{State, exit_value_of, next_of}
use Rattle.pg_session_book.specs.pg_run.MachineStep.{trap_of}
use Rattle.pg_session_book.specs.pg_run.Rotation.{RunResult, rotation_of}
use Rattle.pg_session_book.specs.pg_run.Guided.{guided_of}
use Rattle.pg_session_book.specs.pg_run.Runs.{events}
use Rattle.pg_session_book.specs.pg_run.Permitted.{end_before, full_end, has_spent, trapped, turns_left}
use Rattle.pg_session_book.specs.pg_law_effects.Reached.{HoldBytes}
use Rattle.pg_session_book.specs.pg_law_runs.Cuts.{CanRun}
use Rattle.pg_session_book.specs.pg_law_order.Schedules.{GuidesAs}
use Rattle.pg_commands.specs.Texts.{IsAccepted, guided_line, once_text, run_along, text_by}
use Rattle.pg_commands.specs.EndLines.{end_line}
use Rattle.pg_commands.proofs.GlobalBytes.{globals_hold_bytes}
use Rattle.pg_session_book.proofs.TurnCounts.{done_turns}

-- ---- a guided run that exits has done all turns

-- the end of a full run with a turn left is no exit
no_exit : (p : NumberedProgram) (xs : List Step) (s : State) (us : List Turn) (value : ℤ) → end_before p xs s us ≡ ends.Exit value → us ≡ []
no_exit p xs s [] value e = refl
no_exit p xs s (u ∷ us) value e = absurd (by (has_spent xs u.thread.0) (trap_of s u.thread.0 (next_of p s u.thread.0)) e)
  where
    by : (b : Bool) (o : Option TrapName) → (if b then ends.Budget u.thread else trapped s u.thread.0 o) ≡ ends.Exit value → ⊥
    by true o q = cc
    by false None q = cc
    by false (Some name) q = cc

none_behind : (n : ℕ) (us : List Turn) → drop n us ≡ [] → length us ≤ n
none_behind n [] e = omega arith
none_behind zero (u ∷ us) e = absurd cc
none_behind (suc n) (u ∷ us) e = let h = none_behind n us e in omega (arith, h)

taken : (n : ℕ) (us : List Turn) → length (take n us) ≤ n
taken zero us = omega arith
taken (suc n) [] = omega arith
taken (suc n) (u ∷ us) = let h = taken n us in omega (arith, h)

-- the run is full with an exit at its end, and its events are the turns that it did
pub all_turns : (p : NumberedProgram) (input : List ℤ) (us : List Turn) (gated : List InstrId) (value : ℤ)
    → full_end p us (guided_of p input us gated).trace (guided_of p input us gated).state ≡ ends.Exit value
    → events (guided_of p input us gated).trace ≡ take (guided_of p input us gated).turns us → (guided_of p input us gated).turns ≡ length us
all_turns p input us gated value e done =
    let r = guided_of p input us gated in
    let none : turns_left us r.trace ≡ [] = no_exit p r.trace r.state (turns_left us r.trace) value e in
    let a : length us ≤ length (events r.trace) = none_behind (length (events r.trace)) us none in
    let b : length (events r.trace) ≤ r.turns = subst (λ (vs : List Turn). length vs ≤ r.turns) (sym done) (taken r.turns us) in
    let c : r.turns ≤ length us = done_turns p input us gated in
    omega (arith, a, b, c)

-- ---- the guided run of `once`

pub guided_end : (p : NumberedProgram) (input : List ℤ) (r : RunResult) (value : ℤ) → value ≡ exit_value_of r.state
    → GuidesAs p input (schedule_of r.trace) r.trace r.state → (run_along p input r.trace).end ≡ ends.Exit value
guided_end p input r value v g = g.end ∙ ap (λ (w : ℤ). ends.Exit w) (sym v)

-- ---- the text of `once`

-- what the law says of the guided run of `once`
pub record RunsAs (p : NumberedProgram) (input : List ℤ) (r : RunResult) (value : ℤ) : Type 0 where
  pub end : (run_along p input r.trace).end ≡ ends.Exit value
  pub printed : (run_along p input r.trace).state.printed ≡ r.state.printed
  pub turns : (run_along p input r.trace).turns ≡ length (schedule_of r.trace).turns

pub once_is : (p : NumberedProgram) (quantum : ℕ) (input : List ℤ)
    → ((value : ℤ) → (rotation_of p input quantum).end ≡ outcomes.Exit value → RunsAs p input (rotation_of p input quantum) value)
    → once_text p quantum input ≡ (rotation_of p input quantum).state.printed ++ end_line (rotation_of p input quantum).trace (rotation_of p input quantum).end
unfolding once_text
once_is p quantum input runs_as = by (rotation_of p input quantum).end refl
  where
    by : (e : Outcome) → (rotation_of p input quantum).end ≡ e
        → text_by p input (rotation_of p input quantum) e ≡ (rotation_of p input quantum).state.printed ++ end_line (rotation_of p input quantum).trace e
    by (outcomes.Exit value) h =
        let k = runs_as value h in
        ap₂ (λ (xs ys : List ℕ). xs ++ ys) k.printed
        (ap₂ (λ (n : ℕ) (e : GuidedEnd). guided_line n e) k.turns k.end)
    by (outcomes.Refused (refusals.Trap name id)) h = refl
    by (outcomes.Refused refusals.Budget) h = refl

-- ---- which programs can run

pub accepted_can_run : (text : List ℕ) (p : NumberedProgram) (input : List ℤ) → ((m : Tree) → IsModule text m → IsUnrefused m → IsProgram (program_of m))
    → All (λ b. b < 256) text → IsAccepted text p → length input < 2 ^ 64 → CanRun p input
accepted_can_run text p input programs bytes a small = record {
  program = subst IsProgram (sym a.program) (programs a.tree a.is_module a.unrefused);
  bytes = subst (λ (q : NumberedProgram). HoldBytes q.globals) (sym a.program) (globals_hold_bytes text a.tree bytes a.is_module);
  small = small;
}
