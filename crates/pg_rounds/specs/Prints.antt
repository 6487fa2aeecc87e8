-- The numbers that workers printed.
use Rattle.std.specs.Prelude.{ℕ, List, [], drop, Option, Some, None, slice_get, slice_index, if◌then◌else◌}
use Rattle.pg_room.specs.pg_ir.Program.{NumberedProgram}
use Rattle.pg_room.specs.pg_run_trace.declared.turn.Turn.{Turn}
use Rattle.pg_room.specs.pg_law_course.Prints.{is_print, text_of, without_first}
use Rattle.pg_room.specs.pg_worker.declared.worker.Worker.{Worker}

abbrev pub printed_by : Option Worker → List ℕ
printed_by None = []
printed_by (Some w) = w.prints.items

-- by each thread
abbrev pub numbers_of : List Worker → ℕ → List ℕ
numbers_of ws t = printed_by (slice_get ws t)

-- without those that were read
abbrev pub numbers_left : List Worker → List ℕ → ℕ → List ℕ
numbers_left ws read t = drop (slice_index read t) (numbers_of ws t)

-- what a turn of the program prints, where each thread has these numbers left
abbrev pub added : NumberedProgram → Turn → (ℕ → List ℕ) → List ℕ
added p u left = if is_print u.kind then text_of (slice_get p.instrs u.instr.0) u.kind (slice_index (left u.thread.0) 0) else []

-- and the numbers that are left behind it
abbrev pub left_behind : Turn → (ℕ → List ℕ) → ℕ → List ℕ
left_behind u left t = if is_print u.kind then without_first u.thread.0 left t else left t

-- the value with which the main thread's worker exited
abbrev pub value_by : Option Worker → ℕ
value_by None = 0
value_by (Some w) = w.value

abbrev pub main_value : List Worker → ℕ
main_value ws = value_by (slice_get ws 0)
