-- How far a session has come: the bytes that it took, the answers that it wrote.
use Rattle.std.specs.Prelude.{◌≡◌, ℕ, ℤ, ◌+◌, ◌≤◌, Bool, true, false, ◌==◌, if◌then◌else◌, All, IfSome, Option}
use Rattle.std.specs.Prelude.{List, [], ◌∷◌, ◌++◌, flat_map, length, map, take}
use Rattle.std.specs.Io.KnownBytes.{Appends, Consumes, IsAtEnd}
use Rattle.pg_io.specs.Streams.{AppendsFront}
use Rattle.pg_cache.specs.Kept.{Kept}
use Rattle.pg_num.specs.declared.limits.TheConstants.{CACHE_LIMIT, LINE_LIMIT, SESSION_INPUT_LIMIT}
use Rattle.pg_session_texts.specs.declared.forms.ReplyForm.{ReplyForm}
use Rattle.pg_session.specs.Counts.{AreCounted, Counts, Told}
use Rattle.pg_session.specs.Lines.{input_of}
use Rattle.pg_session.specs.Sessions.{Runs, Answer, AnswersAll, AnswersLine, IsEntryOf, answer_text}

-- ---- a line that has begun, of which no more bytes are kept than show that it is too long

abbrev pub keep : List ℕ → ℕ → List ℕ
keep begun byte = take (LINE_LIMIT + 1) (begun ++ byte ∷ [])

-- the lines that end at a line feed, where this one has begun
abbrev pub ended_after : List ℕ → List ℕ → List (List ℕ)
ended_after begun [] = []
ended_after begun (byte ∷ bytes) = if byte == 10 then begun ∷ ended_after [] bytes else ended_after (keep begun byte) bytes

-- the line that has begun then
abbrev pub begun_after : List ℕ → List ℕ → List ℕ
begun_after begun [] = begun
begun_after begun (byte ∷ bytes) = if byte == 10 then begun_after [] bytes else begun_after (keep begun byte) bytes

-- the inputs that the lines which end in these bytes are
abbrev pub inputs_after : List ℕ → List ℕ → List (Option (List ℤ))
inputs_after begun bytes = map input_of (ended_after begun bytes)

-- ---- what is kept

-- there is room for entries, and those that are kept are of the program
pub record Stands {M : Type 0} (runs : Runs M) (kept : Kept M) : Type 0 where
  pub size : kept.size ≡ CACHE_LIMIT
  pub entries : All (IsEntryOf runs) kept.values

-- ---- the answers that were written

-- each of these inputs was answered, all answers were put behind what the sink told, and what they took was counted
pub record Answered {M : Type 0} (form : ReplyForm) (admits : M → List ℤ → Bool) (runs : Runs M) (kept : Kept M) (inputs : List (Option (List ℤ))) (next : Kept M) (old new : Told) : Type 0 where
  pub answers : List Answer
  pub session : AnswersAll admits runs kept inputs answers next
  pub written : Appends old.taken new.taken (flat_map (answer_text form) answers)
  pub counted : AreCounted answers old.counts new.counts

-- a front of the answers to the first of these inputs was put behind what the sink told
pub record CutShort {M : Type 0} (form : ReplyForm) (admits : M → List ℤ → Bool) (runs : Runs M) (kept : Kept M) (inputs : List (Option (List ℤ))) (old new : Option (List ℕ)) : Type 0 where
  pub count : ℕ
  pub within : count ≤ length inputs
  pub answers : List Answer
  pub next : Kept M
  pub session : AnswersAll admits runs kept (take count inputs) answers next
  pub written : AppendsFront old new (flat_map (answer_text form) answers)

-- a reply to a line, and the counts before it and after it
pub record IsReplyTo {M : Type 0} (form : ReplyForm) (admits : M → List ℤ → Bool) (runs : Runs M) (kept : Kept M) (line : List ℕ) (next : Kept M) (text : List ℕ) (before after : Counts) : Type 0 where
  pub answer : Answer
  pub answered : AnswersLine admits runs kept (input_of line) answer next
  pub whole : text ≡ answer_text form answer
  pub counted : AreCounted (answer ∷ []) before after

-- ---- the bytes that were taken

-- these bytes were taken, no more than a session takes: to the end of the source, or as many as a session takes. The lines that
-- end in them were answered, and this one has begun
pub record HasTaken {M : Type 0} (form : ReplyForm) (admits : M → List ℤ → Bool) (runs : Runs M) (first : Kept M) (left rest : Option (List ℕ)) (before after : Told) (kept : Kept M) (line : List ℕ) (ended : Bool) : Type 0 where
  pub bytes : List ℕ
  pub consumed : Consumes left rest bytes
  pub within : length bytes ≤ SESSION_INPUT_LIMIT
  pub at_end : ended ≡ true → IsAtEnd rest
  pub full : ended ≡ false → length bytes ≡ SESSION_INPUT_LIMIT
  pub answered : Answered form admits runs first (inputs_after [] bytes) kept before after
  pub begun : line ≡ begun_after [] bytes

-- these bytes were taken before a read failed, and the lines that end in them were answered
pub record HasAnswered {M : Type 0} (form : ReplyForm) (admits : M → List ℤ → Bool) (runs : Runs M) (first : Kept M) (left rest : Option (List ℕ)) (before after : Told) : Type 0 where
  pub bytes : List ℕ
  pub consumed : Consumes left rest bytes
  pub within : length bytes ≤ SESSION_INPUT_LIMIT
  pub kept : Kept M
  pub answered : Answered form admits runs first (inputs_after [] bytes) kept before after

-- these bytes were taken, and a front of the answers to the lines that end in them was written
pub record HasCut {M : Type 0} (form : ReplyForm) (admits : M → List ℤ → Bool) (runs : Runs M) (first : Kept M) (left rest before after : Option (List ℕ)) : Type 0 where
  pub bytes : List ℕ
  pub consumed : Consumes left rest bytes
  pub cut : CutShort form admits runs first (inputs_after [] bytes) before after

-- these were all bytes, no more than a session takes. The lines that end in them were answered, and this one has begun
pub record HasAll {M : Type 0} (form : ReplyForm) (admits : M → List ℤ → Bool) (runs : Runs M) (first : Kept M) (left : Option (List ℕ)) (before after : Told) (kept : Kept M) (line : List ℕ) : Type 0 where
  pub bytes : List ℕ
  pub whole : IfSome left (λ input. bytes ≡ input)
  pub within : length bytes ≤ SESSION_INPUT_LIMIT
  pub answered : Answered form admits runs first (inputs_after [] bytes) kept before after
  pub begun : line ≡ begun_after [] bytes
