-- What a session promises of each line of input that it records or answers by reuse: the reply is that of every run of the
-- program on the line's input that the turns of the entry permit.
use Rattle.std.specs.Prelude.{◌≡◌, ◌≤◌, ◌<◌, ◌⊎◌, ◌+◌, ℕ, ℤ, List, count_by, length, take, true, Option, Some, slice_get}
use Rattle.pg_go.specs.pg_ir.Program.{NumberedProgram}
use Rattle.pg_law_reuse.specs.pg_precondition.Values.{is_admitted}
use Rattle.pg_go.specs.pg_run_trace.declared.schedule.Schedule.{Schedule}
use Rattle.pg_go.specs.pg_run_trace.declared.step.Step.{Step}
use Rattle.pg_go.specs.pg_run.Permitted.{IsFull, IsPermitted, full_end}
use Rattle.pg_go.specs.pg_run.Runs.{events}
use Rattle.pg_go.specs.pg_run.State.{State}
use Rattle.pg_law_reuse.specs.pg_law_runs.Cuts.{CanStep, IsOrderedAlong}
use Rattle.pg_law_reuse.specs.pg_law_order.Good.{run_along}
use Rattle.pg_session.specs.pg_session_texts.declared.reply.EndLine.{EndLine}
use Rattle.pg_session.specs.pg_session_texts.declared.reply.ReplyKind.TheVariants.{Recorded, Reused}
use Rattle.pg_law_reuse.specs.Entries.{EntryParts}
use Rattle.pg_law_reuse.specs.pg_law_order.Served.{IsServed, guided_along}
use Rattle.pg_session.specs.Sessions.{Answer}
use Rattle.pg_session.specs.Trials.{is_recorded}
use Rattle.pg_session_runner.specs.Runs.{IsGiven, IsKept, Way, end_line_of}

-- ---- runs that the turns of a schedule permit

-- a run of the program on an input that the schedule's turns permit, with the steps xs that lead to z, as far as it came:
pub record GoesOn (p : NumberedProgram) (input : List ℤ) (s : Schedule) (xs : List Step) (z : State) : Type 0 where
  -- the turns order each two of its steps that conflict
  pub ordered : IsOrderedAlong s.turns xs
  -- it isn't stuck: it is full, or some thread can step
  pub goes_on : IsFull s.gated p s.turns xs z ⊎ ((t : ℕ) × CanStep p input s.turns s.gated xs t)
  -- and it becomes full, since it never has more steps than this
  pub steps : length xs ≤ length (run_along p input s).trace

-- and once it is full, it is as a reply says:
pub record IsAsReplied (p : NumberedProgram) (s : Schedule) (xs : List Step) (z : State) (output : List ℕ) (end : EndLine) : Type 0 where
  -- it printed these bytes
  pub printed : z.printed ≡ output
  -- it ended so: with this value of main, by this trap at this instruction, or by this thread's spent budget, after so many turns
  pub ends : end_line_of (length (events xs)) (full_end p s.turns xs z) ≡ Some end

-- ---- a line that was recorded

-- in a session that began with these entries, the line of this place was recorded, and its entry got this number
pub record IsRecordedLine (p : NumberedProgram) (way : Way) (given : List EntryParts) (inputs : List (Option (List ℤ))) (answers : List Answer) (line number : ℕ) (entry : EntryParts) : Type 0 where
  -- the line was this input, and this was answered
  pub input : List ℤ
  pub is_input : slice_get inputs line ≡ Some (Some input)
  pub output : List ℕ
  pub end : EndLine
  pub is_answer : slice_get answers line ≡ Some (record { kind = Recorded number; output = output; end = Some end })
  -- so many entries were given, and so many lines before it were recorded
  pub numbered : number ≡ length given + count_by (λ (a : Answer). is_recorded a.kind) (take line answers)
  -- the entry is that of the recording of the program on that input
  pub recording : IsKept p way input entry output end

-- and the reply is that of every run of the program on the line's input that the entry's turns permit:
pub record IsServedRecording (p : NumberedProgram) (way : Way) (given : List EntryParts) (inputs : List (Option (List ℤ))) (answers : List Answer) (line number : ℕ) : Type 0 where
  pub entry : EntryParts
  pub made : IsRecordedLine p way given inputs answers line number entry
  -- each goes on until it is full,
  pub goes_on : (xs : List Step) (z : State) → IsPermitted p made.input entry.schedule.turns entry.schedule.gated xs z → GoesOn p made.input entry.schedule xs z
  -- and then is as the reply says
  pub full : (xs : List Step) (z : State) → IsPermitted p made.input entry.schedule.turns entry.schedule.gated xs z → IsFull entry.schedule.gated p entry.schedule.turns xs z
      → IsAsReplied p entry.schedule xs z made.output made.end
  pub served : IsServed p made.input entry.schedule

-- ---- a line that was answered by reuse

-- where the entry of this number comes from, by which the line of this place was answered
pub data HasOrigin (p : NumberedProgram) (way : Way) (given : List EntryParts) (inputs : List (Option (List ℤ))) (answers : List Answer) (line number : ℕ) (entry : EntryParts) : Type 0 where
  -- an earlier line was recorded as the entry of that number
  of_line : (earlier : ℕ) → earlier < line → IsRecordedLine p way given inputs answers earlier number entry
      → HasOrigin p way given inputs answers line number entry
  -- the session began with it under that number, and it is one of given turns
  of_given : slice_get given number ≡ Some entry → IsGiven p entry → HasOrigin p way given inputs answers line number entry

-- in a session that began with these entries, the line of this place was answered by the entry of this number:
pub record IsReusedLine (p : NumberedProgram) (way : Way) (given : List EntryParts) (inputs : List (Option (List ℤ))) (answers : List Answer) (line number : ℕ) : Type 0 where
  -- the line was this input, and this was answered: what was printed, and how the run ended
  pub input : List ℤ
  pub is_input : slice_get inputs line ≡ Some (Some input)
  pub output : List ℕ
  pub end : EndLine
  pub is_answer : slice_get answers line ≡ Some (record { kind = Reused number; output = output; end = Some end })
  -- an earlier line was recorded as the entry of that number, or the session began with it
  pub entry : EntryParts
  pub origin : HasOrigin p way given inputs answers line number entry
  -- the entry's precondition admits the input
  pub admitted : is_admitted input entry.precondition ≡ true
  -- the reply is that of the guided run along the entry's schedule
  pub printed : output ≡ (guided_along p input entry.schedule).state.printed
  pub ends : end_line_of (guided_along p input entry.schedule).turns (guided_along p input entry.schedule).end ≡ Some end
  -- each run of the program on the input that the entry's turns permit goes on until it is full,
  pub goes_on : (xs : List Step) (z : State) → IsPermitted p input entry.schedule.turns entry.schedule.gated xs z → GoesOn p input entry.schedule xs z
  -- and then is as the reply says
  pub full : (xs : List Step) (z : State) → IsPermitted p input entry.schedule.turns entry.schedule.gated xs z → IsFull entry.schedule.gated p entry.schedule.turns xs z
      → IsAsReplied p entry.schedule xs z output end
  -- and more is said of these runs there: their cuts, the replies of their calls, and the steps of each thread
  pub served : IsServed p input entry.schedule
