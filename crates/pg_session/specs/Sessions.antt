-- A session: what is answered to each line of input, and what is kept then.
use Rattle.std.specs.Prelude.{◌≡◌, ℕ, ℤ, Bool, List, [], ◌∷◌, flat_map, length, map, Option, Some, None}
use Rattle.pg_cache.specs.Kept.{Kept, first_from, oldest, value_of, with_value}
use Rattle.pg_num.specs.declared.limits.TheConstants.{CACHE_LIMIT}
use Rattle.pg_session_texts.specs.declared.reply.ReplyKind.{ReplyKind}
use Rattle.pg_session_texts.specs.declared.reply.ReplyKind.TheVariants.{Recorded, Reused, RefusedLine, RefusedUntested}
use Rattle.pg_session_texts.specs.declared.reply.EndLine.{EndLine}
use Rattle.pg_session_texts.specs.Replies.{kind_of}
use Rattle.pg_session_texts.specs.ReplyForms.{text_in}
use Rattle.pg_session_texts.specs.declared.forms.ReplyForm.{ReplyForm}
use Rattle.pg_session_texts.specs.pg_run.declared.outcome.Refusal.{Refusal}

-- what a session asks of the runs of a program. M is the type of entries
pub record Runs (M : Type 0) : Type 1 where
  -- recording this input gives this entry, and the run on it along the entry's schedule prints this and ends so
  pub recorded : List ℤ → M → List ℕ → EndLine → Type 0
  -- recording this input gives no entry, for this reason, and prints this
  pub refused : List ℤ → Refusal → List ℕ → Type 0
  -- nothing is recorded of this input
  pub untested : List ℤ → Type 0
  -- the run along the entry's schedule on this input prints this and ends so
  pub along : M → List ℤ → List ℕ → EndLine → Type 0
  -- this entry is one of turns that were given
  pub given : M → Type 0

-- what is answered to a line of input
pub record Answer : Type 0 where
  pub kind : ReplyKind
  -- what was printed
  pub output : List ℕ
  -- how the run along a schedule ended
  pub end : Option EndLine

-- its text, in this form
abbrev pub answer_text : ReplyForm → Answer → List ℕ
answer_text form a = text_in form a.kind a.output a.end

-- the least number of an entry that is kept and admits the input
abbrev pub found : {M : Type 0} → (M → List ℤ → Bool) → Kept M → List ℤ → Option ℕ
found admits kept input = first_from (oldest kept) (map (λ m. admits m input) kept.values)

-- an entry admits the input: the least one answers, and the entries stay
pub record IsReused {M : Type 0} (admits : M → List ℤ → Bool) (runs : Runs M) (kept : Kept M) (input : List ℤ) (answer : Answer) (next : Kept M) : Type 0 where
  pub number : ℕ
  pub entry : M
  pub end : EndLine
  pub least : found admits kept input ≡ Some number
  pub is_kept : value_of kept number ≡ Some entry
  pub run : runs.along entry input answer.output end
  pub kind : answer.kind ≡ Reused number
  pub ends : answer.end ≡ Some end
  pub stays : next ≡ kept

-- no entry admits the input, and recording it gives one: it is kept under the next number
pub record IsKeptRecording {M : Type 0} (admits : M → List ℤ → Bool) (runs : Runs M) (kept : Kept M) (input : List ℤ) (answer : Answer) (next : Kept M) : Type 0 where
  pub entry : M
  pub end : EndLine
  pub none : found admits kept input ≡ None
  pub recording : runs.recorded input entry answer.output end
  pub kind : answer.kind ≡ Recorded kept.inserted
  pub ends : answer.end ≡ Some end
  pub grows : next ≡ with_value entry kept

-- no entry admits the input, and recording it gives none: the entries stay
pub record IsRefused {M : Type 0} (admits : M → List ℤ → Bool) (runs : Runs M) (kept : Kept M) (input : List ℤ) (answer : Answer) (next : Kept M) : Type 0 where
  pub refusal : Refusal
  pub none : found admits kept input ≡ None
  pub recording : runs.refused input refusal answer.output
  pub kind : answer.kind ≡ kind_of refusal
  pub ends : answer.end ≡ None
  pub stays : next ≡ kept

-- no entry admits the input, and nothing is recorded of it: the entries stay
pub record IsUntested {M : Type 0} (admits : M → List ℤ → Bool) (runs : Runs M) (kept : Kept M) (input : List ℤ) (answer : Answer) (next : Kept M) : Type 0 where
  pub none : found admits kept input ≡ None
  pub untested : runs.untested input
  pub kind : answer.kind ≡ RefusedUntested
  pub prints : answer.output ≡ []
  pub ends : answer.end ≡ None
  pub stays : next ≡ kept

-- what is answered to an input, from what is kept, and what is kept then
pub data Answers {M : Type 0} (admits : M → List ℤ → Bool) (runs : Runs M) (kept : Kept M) (input : List ℤ) (answer : Answer) (next : Kept M) : Type 0 where
  by_reuse : IsReused admits runs kept input answer next → Answers admits runs kept input answer next
  by_recording : IsKeptRecording admits runs kept input answer next → Answers admits runs kept input answer next
  by_refusal : IsRefused admits runs kept input answer next → Answers admits runs kept input answer next
  by_untested : IsUntested admits runs kept input answer next → Answers admits runs kept input answer next

abbrev pub refused_line : Answer
refused_line = record { kind = RefusedLine; output = []; end = None }

-- what is answered to a line that is this input, or none
abbrev pub AnswersLine : {M : Type 0} → (M → List ℤ → Bool) → Runs M → Kept M → Option (List ℤ) → Answer → Kept M → Type 0
AnswersLine admits runs kept None answer next = (answer ≡ refused_line) × (next ≡ kept)
AnswersLine admits runs kept (Some input) answer next = Answers admits runs kept input answer next

-- what is answered to a first line, and then to the others
pub record AnswersThen {M : Type 0} (First : Answer → Kept M → Type 0) (Rest : Kept M → List Answer → Type 0) (answers : List Answer) : Type 0 where
  pub first : Answer
  pub next : Kept M
  pub rest : List Answer
  pub all : answers ≡ first ∷ rest
  pub is_first : First first next
  pub are_rest : Rest next rest

-- what is answered to lines that are these inputs, or none, one after another, and what is kept in the end
abbrev pub AnswersAll : {M : Type 0} → (M → List ℤ → Bool) → Runs M → Kept M → List (Option (List ℤ)) → List Answer → Kept M → Type 0
AnswersAll admits runs kept [] answers last = (answers ≡ []) × (last ≡ kept)
AnswersAll admits runs kept (input ∷ inputs) answers last =
    AnswersThen (AnswersLine admits runs kept input) (λ next rest. AnswersAll admits runs next inputs rest last) answers

-- what a session keeps at first that begins with these entries: they have the numbers from 0 on, and it keeps at most so many later
abbrev pub opened : {M : Type 0} → List M → Kept M
opened entries = record { size = CACHE_LIMIT; inserted = length entries; values = entries }

-- what a session keeps at first that begins with none
abbrev pub begin : {M : Type 0} → Kept M
begin = opened []

-- the text of a session in this form, over lines that are these inputs, or none, where this is kept at first
pub record IsSessionText {M : Type 0} (form : ReplyForm) (admits : M → List ℤ → Bool) (runs : Runs M) (first : Kept M) (inputs : List (Option (List ℤ))) (text : List ℕ) : Type 0 where
  pub answers : List Answer
  pub kept : Kept M
  pub session : AnswersAll admits runs first inputs answers kept
  pub whole : text ≡ flat_map (answer_text form) answers

-- ---- entries of a session

-- an entry that recording an input gives
pub record IsRecordedEntry {M : Type 0} (runs : Runs M) (entry : M) : Type 0 where
  pub input : List ℤ
  pub output : List ℕ
  pub end : EndLine
  pub recording : runs.recorded input entry output end

-- an entry of this program: one of a recording, or one of given turns
pub data IsEntryOf {M : Type 0} (runs : Runs M) (entry : M) : Type 0 where
  of_recording : IsRecordedEntry runs entry → IsEntryOf runs entry
  of_turns : runs.given entry → IsEntryOf runs entry

-- the test of what an entry stands for
abbrev pub admits_by : {V M : Type 0} → (V → M) → (M → List ℤ → Bool) → V → List ℤ → Bool
admits_by meaning test entry input = test (meaning entry) input

-- an entry is all that it stands for
abbrev pub IsExact : {V M : Type 0} → (V → M) → Type 0
IsExact {V} meaning = (x y : V) → meaning x ≡ meaning y → x ≡ y
