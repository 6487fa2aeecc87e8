-- What a step of a thread is, by the thread's local state before it.
use Rattle.std.specs.Prelude.{◌≡◌, ℕ, ℤ, ◌+◌, ◌-◌, ◌%◌, ◌<◌, ◌==◌, nat_lt, List, length, Bool, true, false, Option, Some, None, IfSome, slice_get, slice_index, if◌then◌else◌}
use Rattle.pg_num.specs.Inputs.{input_at}
use Rattle.pg_num.specs.Places.{ByteRange}
use Rattle.pg_num.specs.declared.layout.TheConstants.{MEMORY_BYTES}
use Rattle.pg_num.specs.declared.limits.TheConstants.{GUIDED_STEP_LIMIT, THREAD_LIMIT}
use Rattle.pg_ir.specs.declared.request.Request.TheVariants as requests
use Rattle.pg_ir.specs.Program.{NumberedProgram}
use Rattle.pg_law_threads.specs.Effects.{deeds}
use Rattle.pg_run_memory.specs.Bytes.{number_of}
use Rattle.pg_run_thread.specs.declared.action.Action.{Action}
use Rattle.pg_run_thread.specs.declared.action.Action.TheVariants as actions
use Rattle.pg_run_thread.specs.LocalState.{LocalState}
use Rattle.pg_run_thread.specs.Step.{after, next}
use Rattle.pg_run_thread.specs.Told.{id_of}
use Rattle.pg_run_trace.specs.declared.schedule.Schedule.{Schedule}
use Rattle.pg_run_trace.specs.declared.step.Access.{Access}
use Rattle.pg_run_trace.specs.declared.step.Happening.{Happening}
use Rattle.pg_run_trace.specs.declared.turn.Turn.{Turn}
use Rattle.pg_run_trace.specs.declared.turn.TurnKind.TheVariants as kinds
use Rattle.pg_run_trace.specs.Kinds.{kind_of, object_of}
use Rattle.pg_run_trace.specs.Steps.{access_of, event_of, range_of}
use Rattle.pg_law_runs.specs.pg_law_effects.Effect.{Write, range_read, word_read_by}
use Rattle.pg_law_runs.specs.pg_law_effects.Meets.{byte_in, is_in_range}
use Rattle.pg_law_runs.specs.pg_law_effects.Views.{is_thread}
use Rattle.pg_law_runs.specs.Deeds.{Did, goes_on, is_event_at}
use Rattle.pg_law_course.specs.Course.{cells_before, next_turn, turns_before}
use Rattle.pg_law_course.specs.Plan.{is_shared}
use Rattle.pg_law_course.specs.Prints.{number_printed, number_told}

-- ---- what an action of thread t reads and writes, where it finds these cells. A create makes the thread `made`

abbrev pub number_in : (ℕ → ℕ) → ByteRange → ℕ
number_in cells q = number_of cells q.start q.bytes

-- the thread's word: its argument until it exits, and then its exit value
abbrev pub word_in : (ℕ → ℕ) → ℕ → ℕ
word_in cells t = cells (MEMORY_BYTES + t)

abbrev pub reads_by : ℕ → Action → ℕ → Bool
reads_by t action c = if nat_lt c MEMORY_BYTES then is_in_range (range_read action) c else is_thread (word_read_by t action) (c - MEMORY_BYTES)

-- its write to memory
abbrev pub write_by : (ℕ → ℕ) → ℕ → Action → Option Write
write_by cells made (actions.Store q n) = Some (record { at = q; number = n })
write_by cells made (actions.Event (requests.Create q f n)) = Some (record { at = q; number = made })
write_by cells made (actions.Event (requests.Join u (Some q))) = Some (record { at = q; number = word_in cells u })
write_by cells made action = None

-- what it writes to the word of thread u: a create the new thread's argument, an exit its value
abbrev pub word_by : ℕ → ℕ → Action → ℕ → Option ℕ
word_by t made (actions.Event (requests.Create q f n)) u = if made == u then Some n else None
word_by t made (actions.Event (requests.Exit n is_return)) u = if t == u then Some n else None
word_by t made action u = None

abbrev pub writes_by : (ℕ → ℕ) → ℕ → ℕ → Action → ℕ → Option ℕ
writes_by cells t made action c = if nat_lt c MEMORY_BYTES then byte_in (write_by cells made action) c else word_by t made action (c - MEMORY_BYTES)

-- the answer: to a load the number that it finds, to a start the thread's word, to a pthread call the schedule's reply
abbrev pub answer_by : List ℤ → (ℕ → ℕ) → ℕ → ℕ → Action → ℕ
answer_by input cells t reply (actions.In i) = input_at input i
answer_by input cells t reply actions.InLen = length input
answer_by input cells t reply (actions.Load q) = number_in cells q
answer_by input cells t reply (actions.Event requests.Start) = word_in cells t
answer_by input cells t reply (actions.Event (requests.Putchar n)) = n % 256
answer_by input cells t reply (actions.Event r) = reply
answer_by input cells t reply action = 0

-- the thread that an action names: the new one of a create, that of a join
abbrev pub thread_named : ℕ → Action → Option ℕ
thread_named made (actions.Event (requests.Create q f n)) = Some made
thread_named made (actions.Event (requests.Join u q)) = Some u
thread_named made action = None

-- an action that others see
abbrev pub is_shared_action : Action → Bool
is_shared_action (actions.Load q) = true
is_shared_action (actions.Store q n) = true
is_shared_action (actions.Event r) = true
is_shared_action action = false

-- ---- what is told of it

-- an access by its bytes, its number, and whether it writes
pub record Accessed : Type 0 where
  pub at : ByteRange
  pub number : ℕ
  pub writes : Bool

abbrev pub accessed : Option Access → Option Accessed
accessed None = None
accessed (Some a) = Some (record { at = range_of a; number = a.number; writes = a.writes })

abbrev pub stored : Option Write → Option Accessed
stored None = None
stored (Some w) = Some (record { at = w.at; number = w.number; writes = true })

abbrev pub access_by : (ℕ → ℕ) → ℕ → Action → Option Accessed
access_by cells made (actions.Load q) = Some (record { at = q; number = number_in cells q; writes = false })
access_by cells made action = stored (write_by cells made action)

-- the kind and the object of an action that may be an event
abbrev pub happening_by : ℕ → ℕ → Action → Option Happening
happening_by t made (actions.Load q) = Some (record { kind = kinds.Load; object = q.start })
happening_by t made (actions.Store q n) = Some (record { kind = kinds.Store; object = q.start })
happening_by t made (actions.Event r) = Some (record { kind = kind_of r; object = object_of t made r })
happening_by t made action = None

-- ---- the step

-- the turn of the schedule with this number, as its thread does it in the local state l
pub record IsTurnOf (p : NumberedProgram) (s : Schedule) (t : ℕ) (l : LocalState) (g : ℕ) (u : Turn) : Type 0 where
  pub is_there : slice_get s.turns g ≡ Some u
  pub thread : u.thread.0 ≡ t
  pub instr : u.instr.0 ≡ id_of l
  pub happens : happening_by t u.object (next p l) ≡ Some (record { kind = u.kind; object = u.object })

-- the number of the thread that the turn creates
abbrev pub made_by : Option Turn → ℕ
made_by None = 0
made_by (Some u) = u.object

-- d is step k of thread t, counted from 0, where l is the thread's local state before it
pub record IsStepOf (p : NumberedProgram) (input : List ℤ) (s : Schedule) (t k : ℕ) (l : LocalState) (d : Did) : Type 0 where
  -- the thread hasn't ended, doesn't trap by itself, and has steps left
  pub goes : goes_on (next p l) ≡ true
  pub within : k < GUIDED_STEP_LIMIT
  pub shared : is_shared d ≡ is_shared_action (next p l)
  -- it is an event where its action is one, and then the thread's next turn of the schedule
  pub event : deeds.is_event d ≡ is_event_at s.gated (id_of l) (next p l)
  pub number : deeds.is_event d ≡ true → next_turn p input s t k ≡ Some (turns_before p input s t k)
  pub turn : deeds.is_event d ≡ true → (u : Turn) × (event_of d.told ≡ Some u) × IsTurnOf p s t l (turns_before p input s t k) u
  -- the thread, and that which it names, are among the first so many
  pub thread : t < THREAD_LIMIT
  pub named : IfSome (thread_named (made_by (event_of d.told)) (next p l)) (λ (u : ℕ). u < THREAD_LIMIT)
  -- what it tells of its access, and what it reads and writes
  pub access : accessed (access_of d.told) ≡ access_by (cells_before p input s t k) (made_by (event_of d.told)) (next p l)
  pub reads : (c : ℕ) → d.reads c ≡ reads_by t (next p l) c
  pub writes : (c : ℕ) → d.writes c ≡ writes_by (cells_before p input s t k) t (made_by (event_of d.told)) (next p l) c
  -- the number that it prints
  pub prints : number_told d.told.kind ≡ number_printed (next p l)
  -- the thread goes on with the answer to its action
  pub after : d.to.local ≡ Some (after p l (answer_by input (cells_before p input s t k) t (slice_index s.replies (turns_before p input s t k)) (next p l)))
