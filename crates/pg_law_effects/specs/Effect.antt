-- A step as data: what it reads, and what it changes of the state.
use Rattle.std.specs.Prelude.{ℕ, ◌==◌, List, [], ◌∷◌, ◌++◌, length, Option, Some, None, slice_get, slice_set, slice_index, if◌then◌else◌, ℤ}
use Rattle.pg_num.specs.Places.{ByteRange}
use Rattle.pg_ir.specs.declared.request.Request.{Request}
use Rattle.pg_ir.specs.declared.request.Request.TheVariants as requests
use Rattle.pg_ir.specs.Program.{NumberedProgram}
use Rattle.pg_run.specs.pg_run_memory.Memory as memory
use Rattle.pg_run.specs.pg_run_objects.Sync as sync
use Rattle.pg_run_thread.specs.declared.action.Action.{Action}
use Rattle.pg_run_thread.specs.declared.action.Action.TheVariants as actions
use Rattle.pg_run_thread.specs.LocalState.{LocalState, fresh}
use Rattle.pg_run_thread.specs.Step.{after}
use Rattle.pg_run.specs.State.{State, next_of}
use Rattle.pg_run.specs.MachineStep.{answer_of}
use Rattle.pg_num.specs.Inputs.{input_at}
use Rattle.pg_run.specs.Texts.{printed_by}

-- a number in a range of memory
pub record Write : Type 0 where
  pub at : ByteRange
  pub number : ℕ

-- a thread that a create makes, with its word
pub record MadeThread : Type 0 where
  pub local : LocalState
  pub word : ℕ

-- what a request changes beside memory and its thread's local state: the objects, the thread's word and
-- main's value at an exit, the printed bytes, and the threads that there are
pub record RequestEffect : Type 0 where
  pub objects : sync.Sync
  pub word : Option ℕ
  pub value : Option ℕ
  pub printed : List ℕ
  pub made : Option MadeThread

-- what a step does: its thread, the local state that this comes to, if it was made; the range of memory and
-- the thread's word that the step reads; its write to memory; and what it does as a request, if it is one
pub record Effect : Type 0 where
  pub thread : ℕ
  pub local : Option LocalState
  pub reads : Option ByteRange
  pub word_read : Option ℕ
  pub writes : Option Write
  pub request : Option RequestEffect

-- ---- the state after an effect

abbrev pub local_set : ℕ → Option LocalState → List LocalState → List LocalState
local_set t None ls = ls
local_set t (Some l) ls = slice_set ls t l

abbrev pub with_local : Option MadeThread → List LocalState → List LocalState
with_local None ls = ls
with_local (Some m) ls = ls ++ m.local ∷ []

abbrev pub locals_with : Option RequestEffect → List LocalState → List LocalState
locals_with None ls = ls
locals_with (Some r) ls = with_local r.made ls

abbrev pub memory_with : Option Write → memory.Words → memory.Words
memory_with None m = m
memory_with (Some w) m = memory.written m w.at w.number

abbrev pub sync_with : Option RequestEffect → sync.Sync → sync.Sync
sync_with None y = y
sync_with (Some r) y = r.objects

abbrev pub word_set : ℕ → Option ℕ → List ℕ → List ℕ
word_set t None ws = ws
word_set t (Some n) ws = slice_set ws t n

abbrev pub with_word : Option MadeThread → List ℕ → List ℕ
with_word None ws = ws
with_word (Some m) ws = ws ++ m.word ∷ []

abbrev pub words_with : ℕ → Option RequestEffect → List ℕ → List ℕ
words_with t None ws = ws
words_with t (Some r) ws = with_word r.made (word_set t r.word ws)

abbrev pub printed_with : Option RequestEffect → List ℕ → List ℕ
printed_with None bytes = bytes
printed_with (Some r) bytes = bytes ++ r.printed

abbrev pub or_old : Option ℕ → ℕ → ℕ
or_old None n = n
or_old (Some m) n = m

abbrev pub value_with : Option RequestEffect → ℕ → ℕ
value_with None n = n
value_with (Some r) n = or_old r.value n

-- each part of the state after a step that did this
unfoldable pub effect : State → Effect → State
effect s e = record {
  locals = local_set e.thread e.local (locals_with e.request s.locals);
  memory = memory_with e.writes s.memory;
  sync = sync_with e.request s.sync;
  words = words_with e.thread e.request s.words;
  printed = printed_with e.request s.printed;
  value = value_with e.request s.value;
}

-- ---- the effect of a step

-- the answer to an action of thread t
abbrev pub answer_to : List ℤ → State → ℕ → Action → ℕ
answer_to input s t (actions.In i) = input_at input i
answer_to input s t actions.InLen = length input
answer_to input s t (actions.Load r) = memory.read s.memory r
answer_to input s t (actions.Event r) = answer_of s t (sync.done s.sync t r).1 r
answer_to input s t action = 0

-- the thread's local state after this answer
abbrev pub own_after : NumberedProgram → ℕ → Option LocalState → Option LocalState
own_after p answer None = None
own_after p answer (Some l) = Some (after p l answer)

abbrev pub range_read : Action → Option ByteRange
range_read (actions.Load r) = Some r
range_read action = None

-- a start reads its thread's argument, a join with a place the exit value of the thread that it joins
abbrev pub word_asked : ℕ → Request → Option ℕ
word_asked t requests.Start = Some t
word_asked t (requests.Join n (Some r)) = Some n
word_asked t r = None

abbrev pub word_read_by : ℕ → Action → Option ℕ
word_read_by t (actions.Event r) = word_asked t r
word_read_by t action = None

-- a create writes the number of the new thread, a join with a place the exit value
abbrev pub request_write : State → Request → Option Write
request_write s (requests.Create r f n) = Some (record { at = r; number = length s.locals })
request_write s (requests.Join n (Some r)) = Some (record { at = r; number = slice_index s.words n })
request_write s r = None

abbrev pub write_of : State → Action → Option Write
write_of s (actions.Store r n) = Some (record { at = r; number = n })
write_of s (actions.Event r) = request_write s r
write_of s action = None

-- an exit leaves its value as the thread's word, and main's as main's value
abbrev pub word_left : Request → Option ℕ
word_left (requests.Exit n is_return) = Some n
word_left r = None

abbrev pub value_left : ℕ → Request → Option ℕ
value_left t (requests.Exit n is_return) = if t == 0 then Some n else None
value_left t r = None

abbrev pub thread_made : NumberedProgram → State → Request → Option MadeThread
thread_made p s (requests.Create r f n) = Some (record { local = fresh p (length s.locals) f; word = n })
thread_made p s r = None

abbrev pub request_effect : NumberedProgram → State → ℕ → Action → Option RequestEffect
request_effect p s t (actions.Event r) = Some (record {
  objects = (sync.done s.sync t r).0;
  word = word_left r;
  value = value_left t r;
  printed = printed_by r;
  made = thread_made p s r;
})
request_effect p s t action = None

abbrev pub effect_by : NumberedProgram → List ℤ → State → ℕ → Action → Effect
effect_by p input s t action = record {
  thread = t;
  local = own_after p (answer_to input s t action) (slice_get s.locals t);
  reads = range_read action;
  word_read = word_read_by t action;
  writes = write_of s action;
  request = request_effect p s t action;
}

-- what the next step of thread t does, where it doesn't trap
unfoldable pub effect_of : NumberedProgram → List ℤ → State → ℕ → Effect
effect_of p input s t = effect_by p input s t (next_of p s t)
