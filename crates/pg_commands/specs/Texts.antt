-- What a command writes: the text of `once`, and the line of a program that is refused.
use Rattle.std.specs.Prelude.{◌≡◌, ℕ, ◌≤◌, List, [], ◌++◌, length, codes, ℤ}
use Rattle.std.specs.Fmt.{decimal, signed_decimal}
use Rattle.pg_num.specs.declared.limits.TheConstants.{PROGRAM_TEXT_LIMIT}
use Rattle.pg_read_ast.specs.Syntax.{Tree}
use Rattle.pg_read_grammar.specs.Accepted.{IsModule}
use Rattle.pg_ir.specs.declared.ids.InstrId.{InstrId}
use Rattle.pg_ir.specs.declared.request.TrapName.{TrapName}
use Rattle.pg_ir.specs.Program.{NumberedProgram}
use Rattle.pg_ir.specs.TrapNames.{trap_text}
use Rattle.pg_check.specs.pg_check_rules.Conditions.{IsUnrefused}
use Rattle.pg_check.specs.pg_check_rules.Numbered.{program_of}
use Rattle.pg_session_book.specs.pg_run_trace.declared.step.Step.{Step}
use Rattle.pg_session_book.specs.pg_run_trace.Races.{schedule_of}
use Rattle.pg_session_book.specs.pg_run.Rotation.{RunResult, rotation_of}
use Rattle.pg_session_book.specs.pg_run.Guided.{GuidedRun, guided_of}
use Rattle.pg_session_book.specs.pg_run.declared.outcome.Outcome.{Outcome}
use Rattle.pg_session_book.specs.pg_run.declared.outcome.Outcome.TheVariants.{Exit, Refused}
use Rattle.pg_session_book.specs.pg_run.declared.outcome.Refusal.TheVariants.{Trap, Budget}
use Rattle.pg_session_book.specs.pg_run.declared.guided_end.GuidedEnd.{GuidedEnd}
use Rattle.pg_session_book.specs.pg_run.declared.guided_end.GuidedEnd.TheVariants as guided
use Rattle.pg_commands.specs.declared.refusals.TextRefusal.{TextRefusal}
use Rattle.pg_commands.specs.Refusals.{IsRefusedFor, refusal_line}

-- ---- the text of a run

-- how many turns were done
abbrev pub after_turns : ℕ → List ℕ
after_turns turns = codes " after " ++ (decimal turns ++ codes " turns\n")

-- main returned this value after so many turns
abbrev pub exit_line : ℤ → ℕ → List ℕ
exit_line value turns = codes "exit " ++ (signed_decimal value ++ after_turns turns)

-- how a guided run ended, after so many turns; one that strays has no line, and none of `once` does
abbrev pub guided_line : ℕ → GuidedEnd → List ℕ
guided_line turns (guided.Exit value) = exit_line value turns
guided_line turns (guided.Trap name id) = codes "trap " ++ (trap_text name ++ (codes " at " ++ (decimal id.0 ++ after_turns turns)))
guided_line turns (guided.Budget thread) = codes "budget in thread " ++ (decimal thread.0 ++ after_turns turns)
guided_line turns guided.Strayed = []

-- what a guided run prints, and then its end
abbrev pub guided_text : GuidedRun → List ℕ
guided_text r = r.state.printed ++ guided_line r.turns r.end

-- the guided run on this input along the schedule of a recorded run's steps
abbrev pub run_along : NumberedProgram → List ℤ → List Step → GuidedRun
run_along p input xs = guided_of p input (schedule_of xs).turns (schedule_of xs).gated

-- a step of this instruction couldn't be taken
abbrev pub trap_line : TrapName → InstrId → List ℕ
trap_line name id = codes "trap " ++ (trap_text name ++ (codes " at " ++ (decimal id.0 ++ codes "\n")))

-- the text where the rotation run ended so: where it exits, that of the guided run along its schedule; else what it
-- printed, and then its end
abbrev pub text_by : NumberedProgram → List ℤ → RunResult → Outcome → List ℕ
text_by p input r (Exit value) = guided_text (run_along p input r.trace)
text_by p input r (Refused (Trap name id)) = r.state.printed ++ trap_line name id
text_by p input r (Refused Budget) = r.state.printed ++ codes "budget\n"

-- the text of `once` for a program, a quantum and an input
unfoldable pub once_text : NumberedProgram → ℕ → List ℤ → List ℕ
once_text p quantum input = text_by p input (rotation_of p input quantum) (rotation_of p input quantum).end

-- ---- which texts are run

-- a program text that is run: no longer than the limit, and a module that no check refuses, with its numbered program
pub record IsAccepted (text : List ℕ) (p : NumberedProgram) : Type 0 where
  pub within : length text ≤ PROGRAM_TEXT_LIMIT
  pub tree : Tree
  pub is_module : IsModule text tree
  pub unrefused : IsUnrefused tree
  pub program : p ≡ program_of tree

-- ---- the texts of program texts

-- the text of `once` for a program text, a quantum and an input
pub record IsOnceText (text : List ℕ) (quantum : ℕ) (input : List ℤ) (written : List ℕ) : Type 0 where
  pub program : NumberedProgram
  pub accepted : IsAccepted text program
  pub whole : written ≡ once_text program quantum input

-- the line of a program text that is refused
pub record IsRefusalLine (text written : List ℕ) : Type 0 where
  pub refusal : TextRefusal
  pub cause : IsRefusedFor text refusal
  pub whole : written ≡ refusal_line text refusal
