-- What a session writes.
use Rattle.std.specs.Prelude.{◌≡◌, ℕ, ℤ, ◌<◌, ◌≤◌, Bool, List, map, length, take, Option, IfSome}
use Rattle.std.specs.Io.KnownBytes.{Appends, Consumes}
use Rattle.pg_io.specs.Streams.{AppendsFront}
use Rattle.pg_cache.specs.Kept.{Kept}
use Rattle.pg_num.specs.declared.limits.TheConstants.{SESSION_INPUT_LIMIT}
use Rattle.pg_session_texts.specs.declared.forms.ReplyForm.{ReplyForm}
use Rattle.pg_session.specs.Lines.{ended_lines, input_of, lines_of}
use Rattle.pg_session.specs.Sessions.{Answer, AnswersAll, IsSessionText, Runs}

-- bytes of which this holds; where some are told, it is these
abbrev pub HasBytes : Option (List ℕ) → (List ℕ → Type 0) → Type 0
HasBytes told Says = (bytes : List ℕ) × IfSome told (λ t. bytes ≡ t) × Says bytes

abbrev pub inputs_of : List (List ℕ) → List (Option (List ℤ))
inputs_of lines = map input_of lines

-- the text of the session over these lines was put behind what the sink told
pub record Serves {M : Type 0} (form : ReplyForm) (admits : M → List ℤ → Bool) (runs : Runs M) (first : Kept M) (lines : List (List ℕ)) (old new : Option (List ℕ)) : Type 0 where
  pub text : List ℕ
  pub session : IsSessionText form admits runs first (inputs_of lines) text
  pub appended : Appends old new text

-- a front of that text was put behind what the sink told: the answers to the first lines, and a part of the next
pub record ServesFront {M : Type 0} (form : ReplyForm) (admits : M → List ℤ → Bool) (runs : Runs M) (first : Kept M) (lines : List (List ℕ)) (old new : Option (List ℕ)) : Type 0 where
  pub count : ℕ
  pub text : List ℕ
  pub session : IsSessionText form admits runs first (inputs_of (take count lines)) text
  pub appended : AppendsFront old new text

-- an input that is no longer than the limit: all its lines are answered
pub record ServesAll {M : Type 0} (form : ReplyForm) (admits : M → List ℤ → Bool) (runs : Runs M) (first : Kept M) (old new : Option (List ℕ)) (input : List ℕ) : Type 0 where
  pub within : length input ≤ SESSION_INPUT_LIMIT
  pub serves : Serves form admits runs first (lines_of input) old new

-- an input that is longer than the limit: the lines are answered that end within it
pub record ServesLimit {M : Type 0} (form : ReplyForm) (admits : M → List ℤ → Bool) (runs : Runs M) (first : Kept M) (old new : Option (List ℕ)) (input : List ℕ) : Type 0 where
  pub beyond : SESSION_INPUT_LIMIT < length input
  pub serves : Serves form admits runs first (ended_lines (take SESSION_INPUT_LIMIT input)) old new

-- a read that failed: these bytes were taken of what the source had, and this is the rest of it. The lines are answered that end in them
pub record ServesTaken {M : Type 0} (form : ReplyForm) (admits : M → List ℤ → Bool) (runs : Runs M) (first : Kept M) (left rest old new : Option (List ℕ)) : Type 0 where
  pub taken : List ℕ
  pub consumed : Consumes left rest taken
  pub within : length taken ≤ SESSION_INPUT_LIMIT
  pub serves : Serves form admits runs first (ended_lines taken) old new

-- what is kept once all lines of an input that is no longer than the limit were answered
pub record KeepsAll {M : Type 0} (admits : M → List ℤ → Bool) (runs : Runs M) (first last : Kept M) (input : List ℕ) : Type 0 where
  pub within : length input ≤ SESSION_INPUT_LIMIT
  pub answers : List Answer
  pub session : AnswersAll admits runs first (inputs_of (lines_of input)) answers last
