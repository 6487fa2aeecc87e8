-- What a session answers that records nothing: each line by itself, and by the entries with which the session began.
use Rattle.std.specs.Prelude.{◌≡◌, ℕ, ℤ, List, [], Option, Some, None}
use Rattle.pg_cache.specs.Kept.{Kept, value_of}
use Rattle.pg_go.specs.pg_ir.Program.{NumberedProgram}
use Rattle.pg_session.specs.pg_session_texts.declared.reply.EndLine.{EndLine}
use Rattle.pg_session.specs.pg_session_texts.declared.reply.ReplyKind.TheVariants.{Reused, RefusedUntested}
use Rattle.pg_law_reuse.specs.Entries.{EntryParts}
use Rattle.pg_session.specs.Sessions.{Answer, found, refused_line}
use Rattle.pg_session_runner.specs.Runs.{RunsAlong, entry_admits}

-- the least of the first entries that admits the input answers, by the guided run along its schedule
pub record IsTestedReuse (p : NumberedProgram) (first : Kept EntryParts) (input : List ℤ) (answer : Answer) : Type 0 where
  pub number : ℕ
  pub entry : EntryParts
  pub output : List ℕ
  pub end : EndLine
  pub least : found entry_admits first input ≡ Some number
  pub is_first : value_of first number ≡ Some entry
  pub run : RunsAlong p entry input output end
  pub is_answer : answer ≡ record { kind = Reused number; output = output; end = Some end }

-- the answer to a line that is this input: by one of the first entries, or that none of them admits it
pub data IsTestedInput (p : NumberedProgram) (first : Kept EntryParts) (input : List ℤ) (answer : Answer) : Type 0 where
  reused : IsTestedReuse p first input answer → IsTestedInput p first input answer
  untested : found entry_admits first input ≡ None → answer ≡ record { kind = RefusedUntested; output = []; end = None }
      → IsTestedInput p first input answer

-- the answer to a line that is this input, or none, of a session that began with these entries and records nothing
abbrev pub IsTestedAnswer : NumberedProgram → Kept EntryParts → Option (List ℤ) → Answer → Type 0
IsTestedAnswer p first None answer = answer ≡ refused_line
IsTestedAnswer p first (Some input) answer = IsTestedInput p first input answer
