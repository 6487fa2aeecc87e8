-- What a request leaves beside the objects, where it makes no thread, but for what it prints.
use Rattle.std.specs.Prelude.{ℕ, Result, Ok, Err, slice_set, slice_index}
use Rattle.pg_run_trace.specs.pg_ir.declared.request.Request.{Request}
use Rattle.pg_run_trace.specs.pg_ir.declared.request.Request.TheVariants as requests
use Rattle.pg_run_trace.specs.pg_ir.declared.request.TrapName.{TrapName}
use Rattle.pg_run_objects.specs.declared.reply.Reply.{Reply}
use Rattle.pg_run_objects.specs.Sync as sync
use Rattle.pg_run.specs.State.{State}
use Rattle.pg_run.specs.MachineStep.{Answered, answer_of, value_with, written_if}

abbrev pub completed : State → ℕ → Request → State
completed s t (requests.Exit n is_return) = record s { words = slice_set s.words t n; value = value_with t n s.value }
completed s t (requests.Join n r) = record s { memory = written_if r (slice_index s.words n) s.memory }
completed s t r = s

abbrev pub on_completed : State → ℕ → Request → sync.Sync × Result Reply TrapName → Answered
on_completed s t r (y, Err name) = (record s { sync = y }, Err name)
on_completed s t r (y, Ok reply) = (completed (record s { sync = y }) t r, Ok (answer_of s t reply r))
