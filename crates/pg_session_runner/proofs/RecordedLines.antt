-- What is said of a line that was recorded, for the runs of a program.
use Rattle.std.proofs.Common.{◌≡◌, ℕ, ℤ, Bool, true, false, List, [], ◌∷◌, ◌++◌, length, Option, Some, None, refl, sym, ap, ◌∙◌, subst, append-nil}
use Rattle.std.specs.Prelude.{if◌then◌else◌, slice_get}
use Rattle.pg_cache.specs.Kept.{Kept}
use Rattle.pg_go.specs.pg_ir.declared.ids.InstrId.{InstrId}
use Rattle.pg_go.specs.pg_ir.declared.request.TrapName.{TrapName}
use Rattle.pg_go.specs.pg_ir.Program.{NumberedProgram}
use Rattle.pg_go.specs.pg_run_trace.declared.step.Step.{Step}
use Rattle.pg_go.specs.pg_run_trace.declared.turn.Turn.{Turn}
use Rattle.pg_go.specs.pg_run.declared.guided_end.GuidedEnd.{GuidedEnd}
use Rattle.pg_go.specs.pg_run.declared.guided_end.GuidedEnd.TheVariants as guided
use Rattle.pg_go.specs.pg_run.declared.outcome.Outcome.TheVariants as outcomes
use Rattle.pg_go.specs.pg_run.MachineStep.{trap_of}
use Rattle.pg_go.specs.pg_run.Follow.{Exits, following_of}
use Rattle.pg_go.specs.pg_run.Permitted.{IsPermitted, end_before, full_end, has_spent, trapped, turns_left}
use Rattle.pg_go.specs.pg_run.Recordings.{IsRecording}
use Rattle.pg_go.specs.pg_run.Rotation.{rotation_of}
use Rattle.pg_go.specs.pg_run.Runs.{events}
use Rattle.pg_go.specs.pg_run.State.{State, exit_value_of, next_of}
use Rattle.pg_session.specs.pg_session_texts.declared.reply.EndLine.{EndLine}
use Rattle.pg_session.specs.pg_session_texts.declared.reply.ReplyKind.TheVariants.{Recorded}
use Rattle.pg_law_reuse.specs.Entries.{EntryParts}
use Rattle.pg_law_reuse.specs.pg_law_order.Served.{EndsAsGuided, guided_along}
use Rattle.pg_law_reuse.proofs.of_pg_law_order.ExitsHaveAllTurns.{exits_with}
use Rattle.pg_session.specs.Sessions.{Answer, AnswersAll, opened}
use Rattle.pg_session_runner.specs.Headline.{IsAsReplied, IsRecordedLine, IsServedRecording}
use Rattle.pg_session_runner.specs.Runs.{IsKept, Way, end_line_of, entry_admits, runs_by}
use Rattle.pg_session_runner.proofs.RecordedWays.{is_recording}
use Rattle.pg_session_runner.proofs.ReusedLines.{goes_on}
use Rattle.pg_session_runner.proofs.RecordedEntries.{Records, records}

-- ---- a full run that exits has all turns

no_exit : (p : NumberedProgram) (xs : List Step) (s : State) (us : List Turn) (value : ℤ) → end_before p xs s us ≡ guided.Exit value → us ≡ []
no_exit p xs s [] value e = refl
no_exit p xs s (u ∷ us) value e = absurd (by (has_spent xs u.thread.0) (trap_of s u.thread.0 (next_of p s u.thread.0)) e)
  where
    by : (b : Bool) (o : Option TrapName) → (if b then guided.Budget u.thread else trapped s u.thread.0 o) ≡ guided.Exit value → ⊥
    by true o q = cc
    by false None q = cc
    by false (Some name) q = cc

all_turns : (p : NumberedProgram) (input : List ℤ) (us : List Turn) (gated : List InstrId) (xs : List Step) (z : State) (value : ℤ) → IsPermitted p input us gated xs z
    → full_end p us xs z ≡ guided.Exit value → length (events xs) ≡ length us
all_turns p input us gated xs z value h e =
    let none : turns_left us xs ≡ [] = no_exit p xs z (turns_left us xs) value e in
    ap (λ (l : List Turn). length l) (sym (append-nil (events xs)) ∙ ap (λ (l : List Turn). events xs ++ l) (sym none) ∙ h.in_order)

-- ---- what the laws say of recordings

module _ (p : NumberedProgram) (way : Way) where
  -- each rotation is a recording
  abbrev pub AreRecordings : Type 0
  AreRecordings = (own : List ℤ) (quantum : ℕ) → IsRecording p own (rotation_of p own quantum).trace (rotation_of p own quantum).state (rotation_of p own quantum).end

  -- the guided run along its schedule exits with that value, having printed the same
  exits_along : (own : List ℤ) (e : EntryParts) (output : List ℕ) (end : EndLine) → (k : IsKept p way own e output end)
      → ((guided_along p own e.schedule).end ≡ guided.Exit (exit_value_of k.state)) × ((guided_along p own e.schedule).state.printed ≡ k.state.printed)
  exits_along own e output end k =
      let z = k.state in
      let i = k.is_entry in
      exits_with p own e.schedule.turns e.schedule.gated i.steps z.printed (exit_value_of z)
      (subst (λ (l : List ℤ). following_of p l e.schedule.turns e.schedule.gated ≡ Exits i.steps z.printed (exit_value_of z)) i.same_input i.serves.exits)

  as_replied : (own : List ℤ) (e : EntryParts) (output : List ℕ) (end : EndLine) (xs : List Step) (z : State) → (k : IsKept p way own e output end)
      → k.value ≡ exit_value_of k.state → IsPermitted p own e.schedule.turns e.schedule.gated xs z → EndsAsGuided p own e.schedule xs z → IsAsReplied p e.schedule xs z output end
  as_replied own e output end xs z k v permitted h =
      let g = exits_along own e output end k in
      let ended : full_end p e.schedule.turns xs z ≡ guided.Exit k.value = h.end ∙ g.0 ∙ ap (λ (n : ℤ). guided.Exit n) (sym v) in
      let turns = all_turns p own e.schedule.turns e.schedule.gated xs z k.value permitted ended in
      record {
        printed = h.output ∙ g.1 ∙ sym k.printed;
        ends = ap (λ (n : ℕ). end_line_of n (full_end p e.schedule.turns xs z)) turns ∙ ap (λ (f : GuidedEnd). end_line_of (length e.schedule.turns) f) ended
            ∙ ap (λ (l : EndLine). Some l) (sym k.ends);
      }

  -- ---- a line that was recorded

  module _ (given : List EntryParts) (inputs : List (Option (List ℤ))) (answers : List Answer) (line number : ℕ) where
    abbrev recorded_line : (r : Records entry_admits (runs_by p way) (length given) inputs answers line number) → IsRecordedLine p way given inputs answers line number r.entry
    recorded_line r = record {
      input = r.reply.input;
      is_input = r.reply.is_input;
      output = r.reply.output;
      end = r.reply.end;
      is_answer = r.reply.is_answer;
      numbered = r.numbered;
      recording = r.recording;
    }

    served_line : AreRecordings → Records entry_admits (runs_by p way) (length given) inputs answers line number → IsServedRecording p way given inputs answers line number
    served_line rotations r =
        let own = r.reply.input in
        let e = r.entry in
        let k = r.recording in
        let v = (is_recording p way own k.steps k.state (outcomes.Exit k.value) (rotations own) k.exits).ends.1 in
        record {
          entry = e;
          made = recorded_line r;
          goes_on = λ xs z permitted. goes_on p own e xs z (k.served.runs xs z permitted);
          full = λ xs z permitted is_full. as_replied own e r.reply.output r.reply.end xs z k v permitted (k.served.full xs z permitted is_full);
          served = k.served;
        }

    pub line_is_served : AreRecordings → (kept : Kept EntryParts) → AnswersAll entry_admits (runs_by p way) (opened given) inputs answers kept
        → (a : Answer) → slice_get answers line ≡ Some a → a.kind ≡ Recorded number → IsServedRecording p way given inputs answers line number
    line_is_served rotations kept h a g k = served_line rotations (records entry_admits (runs_by p way) (opened given) kept inputs answers h line number a g k)
