-- What a step of a run tells of itself: its access to memory, and its event.
use Rattle.std.specs.Prelude.{ℕ, ◌==◌, List, Bool, true, false, Option, Some, None, is_some, count_by, if◌then◌else◌}
use Rattle.std.specs.List.{filter_map}
use Rattle.pg_ir.specs.pg_num.Places.{ByteRange}
use Rattle.pg_ir.specs.pg_num.Pointers.{byte_place}
use Rattle.pg_run_trace.specs.declared.turn.TurnKind.{TurnKind}
use Rattle.pg_run_trace.specs.declared.turn.TurnKind.TheVariants as turns
use Rattle.pg_run_trace.specs.declared.turn.Turn.{Turn}
use Rattle.pg_run_trace.specs.declared.step.Step.{Step}
use Rattle.pg_run_trace.specs.declared.step.StepKind.{StepKind}
use Rattle.pg_run_trace.specs.declared.step.StepKind.TheVariants as kinds
use Rattle.pg_run_trace.specs.declared.step.Access.{Access}
use Rattle.pg_run_trace.specs.declared.step.Write.{Write}
use Rattle.pg_run_trace.specs.declared.step.Happening.{Happening}

-- ---- accesses

-- a write of eight bytes by an event
abbrev pub write_by : Write → Access
write_by w = record { pointer = w.pointer; number = w.number; bytes = 8; writes = true; event = true }

abbrev pub access_by : Option Write → Option Access
access_by None = None
access_by (Some w) = Some (write_by w)

abbrev pub access_in : StepKind → Option Access
access_in (kinds.Access a) = Some a
access_in (kinds.Event e) = access_by e.write
access_in k = None

-- the access of a step to memory: that of a load or a store, or the write of a create or of a join
abbrev pub access_of : Step → Option Access
access_of x = access_in x.kind

-- its bytes
abbrev pub range_of : Access → ByteRange
range_of a = record { start = byte_place a.pointer; bytes = a.bytes }

-- ---- events

abbrev pub access_kind : Bool → TurnKind
access_kind true = turns.Store
access_kind false = turns.Load

-- a load or a store that is an event names its first byte
abbrev pub access_happening : Access → Option Happening
access_happening a = if a.event then Some (record { kind = access_kind a.writes; object = byte_place a.pointer }) else None

abbrev pub happening_in : StepKind → Option Happening
happening_in (kinds.Access a) = access_happening a
happening_in (kinds.Event e) = Some (record { kind = e.kind; object = e.object })
happening_in k = None

abbrev pub turn_at : Step → Option Happening → Option Turn
turn_at x None = None
turn_at x (Some h) = Some (record { thread = x.thread; instr = x.instr; kind = h.kind; object = h.object })

-- the event that a step was, if it was one, as a turn
abbrev pub event_of : Step → Option Turn
event_of x = turn_at x (happening_in x.kind)

-- the events of steps, in order
abbrev pub events : List Step → List Turn
events xs = filter_map event_of xs

-- how many of the steps are events
abbrev pub event_count : List Step → ℕ
event_count xs = count_by (λ (x : Step). is_some (event_of x)) xs

-- how many of the steps are thread t's
abbrev pub steps_of : ℕ → List Step → ℕ
steps_of t xs = count_by (λ (x : Step). x.thread.0 == t) xs
