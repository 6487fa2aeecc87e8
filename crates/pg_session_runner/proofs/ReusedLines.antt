-- What is said of a line that is answered by reuse, for the runs of a program.
use Rattle.std.proofs.Common.{◌≡◌, ◌⊎◌, ℕ, ℤ, ◌-◌, All, List, length, Option, Some, sym, ap, ◌∙◌, arith, inl, inr}
use Rattle.std.specs.Prelude.{slice_get}
use Rattle.pg_cache.specs.Kept.{Kept, oldest, value_of}
use Rattle.pg_go.specs.pg_ir.Program.{NumberedProgram}
use Rattle.pg_go.specs.pg_run_trace.declared.step.Step.{Step}
use Rattle.pg_go.specs.pg_run_trace.declared.turn.Turn.{Turn}
use Rattle.pg_go.specs.pg_run.declared.guided_end.GuidedEnd.{GuidedEnd}
use Rattle.pg_go.specs.pg_run.Permitted.{full_end}
use Rattle.pg_go.specs.pg_run.Runs.{events}
use Rattle.pg_go.specs.pg_run.State.{State}
use Rattle.pg_session.specs.pg_session_texts.declared.reply.EndLine.{EndLine}
use Rattle.pg_session.specs.pg_session_texts.declared.reply.ReplyKind.TheVariants.{Reused}
use Rattle.pg_law_reuse.specs.Entries.{EntryParts}
use Rattle.pg_law_reuse.specs.pg_law_order.Served.{EndsAsGuided, RunsAsGuided, guided_along}
use Rattle.pg_session.specs.Sessions.{Answer, AnswersAll, opened}
use Rattle.pg_session.proofs.KeptEntries.{at_place}
use Rattle.pg_session_runner.specs.Headline.{GoesOn, HasOrigin, IsAsReplied, IsRecordedLine, IsReusedLine, of_given, of_line}
use Rattle.pg_session_runner.specs.Runs.{IsGiven, RunsAlong, Way, end_line_of, entry_admits, runs_by}
use Rattle.pg_session_runner.proofs.KeptInsertions.{Fits, from_oldest}
use Rattle.pg_session_runner.proofs.ReusedEntries.{Made, Reuses, reuses}
use Rattle.pg_session_runner.proofs.TurnCounts.{turns_taken}

pub goes_on : (p : NumberedProgram) (input : List ℤ) (e : EntryParts) (xs : List Step) (z : State) → RunsAsGuided p input e.schedule xs z → GoesOn p input e.schedule xs z
goes_on p input e xs z h = record { ordered = h.ordered; goes_on = h.goes_on; steps = h.steps }

as_replied : (p : NumberedProgram) (input : List ℤ) (e : EntryParts) (output : List ℕ) (end : EndLine) (xs : List Step) (z : State)
    → RunsAlong p e input output end → EndsAsGuided p input e.schedule xs z → IsAsReplied p e.schedule xs z output end
as_replied p input e output end xs z r h =
    let turns : length (events xs) ≡ (guided_along p input e.schedule).turns = ap (λ (us : List Turn). length us) h.turns ∙ turns_taken p input e.schedule.turns e.schedule.gated in
    record {
      printed = h.output ∙ sym r.printed;
      ends = ap (λ (n : ℕ). end_line_of n (full_end p e.schedule.turns xs z)) turns ∙ ap (λ (f : GuidedEnd). end_line_of (guided_along p input e.schedule).turns f) h.end ∙ r.ends;
    }

-- what is kept at first under a number stands at its place among the given entries
given_at : (given : List EntryParts) (n : ℕ) (e : EntryParts) → value_of (opened given) n ≡ Some e → slice_get given n ≡ Some e
given_at given n e h =
    let k = from_oldest (opened given) n e h in
    let place : n ≡ n - oldest (opened given) = omega arith in
    ap (slice_get given) place ∙ k.1

-- ---- a line

module _ (p : NumberedProgram) (way : Way) (given : List EntryParts) (inputs : List (Option (List ℤ))) (answers : List Answer) (line number : ℕ) where
  recorded_line : (entry : EntryParts) (m : Made entry_admits (runs_by p way) (length given) inputs answers line number entry) → IsRecordedLine p way given inputs answers m.earlier number entry
  recorded_line entry m = record {
    input = m.reply.input;
    is_input = m.reply.is_input;
    output = m.reply.output;
    end = m.reply.end;
    is_answer = m.reply.is_answer;
    numbered = m.numbered;
    recording = m.recording;
  }

  origin : (entry : EntryParts) → All (IsGiven p) given
      → (value_of (opened given) number ≡ Some entry) ⊎ Made entry_admits (runs_by p way) (length given) inputs answers line number entry
      → HasOrigin p way given inputs answers line number entry
  origin entry are_given (inl h) =
      let e = given_at given number entry h in
      of_given e (at_place (IsGiven p) given number entry are_given e)
  origin entry are_given (inr m) = of_line m.earlier m.before (recorded_line entry m)

  reused_line : All (IsGiven p) given → Reuses entry_admits (runs_by p way) (opened given) inputs answers line number
      → IsReusedLine p way given inputs answers line number
  reused_line are_given r =
      record {
        input = r.reply.input;
        is_input = r.reply.is_input;
        output = r.reply.output;
        end = r.reply.end;
        is_answer = r.reply.is_answer;
        entry = r.entry;
        origin = origin r.entry are_given r.origin;
        admitted = r.admitted;
        printed = r.run.printed;
        ends = r.run.ends;
        goes_on = λ xs z permitted. goes_on p r.reply.input r.entry xs z (r.run.served.runs xs z permitted);
        full = λ xs z permitted is_full. as_replied p r.reply.input r.entry r.reply.output r.reply.end xs z r.run (r.run.served.full xs z permitted is_full);
        served = r.run.served;
      }

  pub line_is_served : All (IsGiven p) given → (kept : Kept EntryParts) → AnswersAll entry_admits (runs_by p way) (opened given) inputs answers kept
      → (a : Answer) → slice_get answers line ≡ Some a → a.kind ≡ Reused number → IsReusedLine p way given inputs answers line number
  line_is_served are_given kept h a g k =
      let fits : Fits (opened given) = omega arith in
      reused_line are_given (reuses entry_admits (runs_by p way) (opened given) kept inputs answers fits h line number a g k)
