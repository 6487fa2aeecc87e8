-- What `show` writes of an input.
use Rattle.std.specs.Prelude.{◌≡◌, ℕ, ℤ, List, None}
use Rattle.pg_session_texts.specs.declared.reply.EndLine.{EndLine}
use Rattle.pg_session_texts.specs.Replies.{kind_of, reply_text}
use Rattle.pg_session.specs.Sessions.{Runs}
use Rattle.pg_session_texts.specs.pg_run.declared.outcome.Refusal.{Refusal}

-- a recording gives an entry: what is shown of it, with what the run along its schedule printed and how that ended
pub record ShowsEntry {M : Type 0} (runs : Runs M) (shown : M → List ℕ → EndLine → List ℕ) (input : List ℤ) (text : List ℕ) : Type 0 where
  pub entry : M
  pub output : List ℕ
  pub end : EndLine
  pub recording : runs.recorded input entry output end
  pub whole : text ≡ shown entry output end

-- a recording gives no entry: what a new session would reply
pub record ShowsRefusal {M : Type 0} (runs : Runs M) (input : List ℤ) (text : List ℕ) : Type 0 where
  pub refusal : Refusal
  pub output : List ℕ
  pub recording : runs.refused input refusal output
  pub whole : text ≡ reply_text (kind_of refusal) output None

-- the text of `show` for an input, as the first line of a session
pub data IsShowText {M : Type 0} (runs : Runs M) (shown : M → List ℕ → EndLine → List ℕ) (input : List ℤ) (text : List ℕ) : Type 0 where
  of_entry : ShowsEntry runs shown input text → IsShowText runs shown input text
  of_refusal : ShowsRefusal runs input text → IsShowText runs shown input text
