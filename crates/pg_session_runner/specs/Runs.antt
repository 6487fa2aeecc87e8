-- What a session asks of the runs of a program: what comes of recording an input, and of a run along an entry's schedule.
use Rattle.std.specs.Prelude.{◌≡◌, ◌<◌, ◌≤◌, ◌^◌, ℕ, ℤ, pos, Bool, List, length, Option, Some, None}
use Rattle.pg_go.specs.pg_num.declared.limits.TheConstants.{QUANTUM_LIMIT}
use Rattle.pg_go.specs.pg_ir.Program.{NumberedProgram}
use Rattle.pg_law_reuse.specs.pg_precondition.Values.{is_admitted}
use Rattle.pg_go.specs.pg_run.declared.guided_end.GuidedEnd.{GuidedEnd}
use Rattle.pg_go.specs.pg_run.declared.guided_end.GuidedEnd.TheVariants as guided
use Rattle.pg_go.specs.pg_run.declared.outcome.Outcome.{Outcome}
use Rattle.pg_go.specs.pg_run.declared.outcome.Outcome.TheVariants as outcomes
use Rattle.pg_go.specs.pg_run.Recordings.{IsRecording}
use Rattle.pg_go.specs.pg_run.Rotation.{rotation_of}
use Rattle.pg_go.specs.pg_run.State.{State}
use Rattle.pg_go.specs.pg_run_trace.declared.step.Step.{Step}
use Rattle.pg_law_reuse.specs.pg_law_runs.Cuts.{CanRun}
use Rattle.pg_session.specs.pg_session_texts.ConditionTexts.{conditions_text}
use Rattle.pg_session.specs.pg_session_texts.declared.reply.EndLine.{EndLine}
use Rattle.pg_session.specs.pg_session_texts.declared.reply.EndLine.TheVariants as ends
use Rattle.pg_session.specs.pg_session_texts.Shows.{show_text}
use Rattle.pg_law_reuse.specs.Entries.{EntryParts, IsEntry, IsEntryOfTurns}
use Rattle.pg_law_reuse.specs.pg_law_order.Served.{IsServed, guided_along}
use Rattle.pg_go.specs.pg_run.declared.outcome.Refusal.{Refusal}
use Rattle.pg_session.specs.Counts.{Counts}
use Rattle.pg_session.specs.Sessions.{Runs}

-- ---- recording

-- how inputs are recorded: by rotation with this quantum, with the threads in any order in which they are ready, or not at all
pub data Way : Type 0 where
  rotating : ℕ → Way
  freely : Way
  tested : Way

-- these steps are a recording of the program on the input that was made so, lead to the state z, and end so
abbrev pub IsRecordedBy : NumberedProgram → Way → List ℤ → List Step → State → Outcome → Type 0
IsRecordedBy p (rotating quantum) input xs z end =
    (xs ≡ (rotation_of p input quantum).trace) × (z ≡ (rotation_of p input quantum).state) × (end ≡ (rotation_of p input quantum).end)
IsRecordedBy p freely input xs z end = IsRecording p input xs z end
IsRecordedBy p tested input xs z end = ⊥

-- nothing is recorded
abbrev pub RecordsNothing : Way → Type 0
RecordsNothing (rotating quantum) = ⊥
RecordsNothing freely = ⊥
RecordsNothing tested = Unit {0}

-- a recording of the program on the input exits: this is the entry of that run, this is what it printed, and this is how
-- the guided run along the entry's schedule ends, which does all turns; and
pub record IsKept (p : NumberedProgram) (way : Way) (input : List ℤ) (entry : EntryParts) (output : List ℕ) (end : EndLine) : Type 0 where
  pub steps : List Step
  pub state : State
  pub value : ℤ
  pub exits : IsRecordedBy p way input steps state (outcomes.Exit value)
  pub is_entry : IsEntry p input steps state entry
  pub printed : output ≡ state.printed
  pub ends : end ≡ ends.Exit value (length entry.schedule.turns)
  -- each run of the program on the input that the entry's turns permit is as that run: it goes on until it is full, and then
  -- has printed the same and ends in the same way
  pub served : IsServed p input entry.schedule

-- a recording of the program on the input ends so, and this is what it printed
pub record IsNotKept (p : NumberedProgram) (way : Way) (input : List ℤ) (refusal : Refusal) (output : List ℕ) : Type 0 where
  pub steps : List Step
  pub state : State
  pub ends : IsRecordedBy p way input steps state (outcomes.Refused refusal)
  pub printed : output ≡ state.printed

-- ---- given turns

-- an entry of given turns: that of the guided run on its input along its turns, where its loads and stores are turns
abbrev pub IsGiven : NumberedProgram → EntryParts → Type 0
IsGiven p entry = IsEntryOfTurns p entry.input entry.schedule.turns entry.schedule.gated entry

-- ---- runs along an entry's schedule

-- the end line of a guided run that did so many turns; one that strays has none
abbrev pub end_line_of : ℕ → GuidedEnd → Option EndLine
end_line_of turns (guided.Exit value) = Some (ends.Exit value turns)
end_line_of turns (guided.Trap name id) = Some (ends.Trap name id turns)
end_line_of turns (guided.Budget thread) = Some (ends.Budget thread turns)
end_line_of turns guided.Strayed = None

-- the guided run of the program on the input along the entry's schedule printed this and ended so, and
pub record RunsAlong (p : NumberedProgram) (entry : EntryParts) (input : List ℤ) (output : List ℕ) (end : EndLine) : Type 0 where
  pub printed : output ≡ (guided_along p input entry.schedule).state.printed
  pub ends : end_line_of (guided_along p input entry.schedule).turns (guided_along p input entry.schedule).end ≡ Some end
  -- each run of the program on the input that the entry's turns permit is as that run: it goes on until it is full, and then
  -- has printed the same and ends in the same way
  pub served : IsServed p input entry.schedule

-- ---- sessions

-- a program, and how its inputs are recorded
pub record Subject : Type 0 where
  pub program : NumberedProgram
  pub way : Way

-- the same, and what was counted of its runs so far
pub record Running : Type 0 where
  pub subject : Subject
  pub counts : Counts

-- the runs of a program, recorded in this way
abbrev pub runs_by : NumberedProgram → Way → Runs EntryParts
runs_by p way = record { recorded = IsKept p way; refused = IsNotKept p way; untested = λ _. RecordsNothing way; along = RunsAlong p; given = IsGiven p }

-- the runs of a program, recorded by rotation with this quantum
abbrev pub runs_of : NumberedProgram → ℕ → Runs EntryParts
runs_of p quantum = runs_by p (rotating quantum)

-- what an input must give so that an entry's schedule serves it
abbrev pub entry_admits : EntryParts → List ℤ → Bool
entry_admits entry input = is_admitted input entry.precondition

-- the quantum of a rotation is within its limits
abbrev pub IsWay : Way → Type 0
IsWay (rotating quantum) = (1 ≤ quantum) × (quantum ≤ QUANTUM_LIMIT)
IsWay freely = Unit {0}
IsWay tested = Unit {0}

-- the program can run on each input of a session, and the quantum of a rotation is within its limits
pub record CanServe (s : Subject) : Type 0 where
  pub can_run : (input : List ℤ) → length input < 2 ^ 64 → CanRun s.program input
  pub way : IsWay s.way

-- ---- what is shown of an entry

abbrev pub exit_value : EndLine → ℤ
exit_value (ends.Exit value turns) = value
exit_value (ends.Trap name id turns) = pos 0
exit_value (ends.Budget thread turns) = pos 0

-- the text of `show` for an entry, with what was printed and how the run along its schedule ended
abbrev pub shown : EntryParts → List ℕ → EndLine → List ℕ
shown entry output end = show_text entry.schedule entry.ids entry.pinned entry.exact entry.races output (exit_value end)

-- the text of `conditions` for an entry: its precondition, whatever the run along its schedule printed and however that ended
abbrev pub conditions_of : EntryParts → List ℕ → EndLine → List ℕ
conditions_of entry output end = conditions_text entry.precondition
