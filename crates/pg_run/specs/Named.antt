-- Where a thread's action is in memory, by the numbers of its step's operands.
use Rattle.std.specs.Prelude.{◌≡◌, ℕ, List, Ok, Some, slice_index}
use Rattle.pg_run_trace.specs.pg_num.Pointers.{place_of}
use Rattle.pg_run_trace.specs.pg_ir.declared.request.Request.{Request}
use Rattle.pg_run_trace.specs.pg_ir.declared.request.Request.TheVariants as requests
use Rattle.pg_run_thread.specs.declared.action.Action.{Action}
use Rattle.pg_run_thread.specs.declared.action.Action.TheVariants as actions

-- a create writes at its first operand, a join at its second
abbrev pub IsRequestNamed : List ℕ → Request → Type 0
IsRequestNamed ns (requests.Create r f n) = place_of (slice_index ns 0) 8 ≡ Ok r
IsRequestNamed ns (requests.Join n (Some r)) = place_of (slice_index ns 1) 8 ≡ Ok r
IsRequestNamed ns r = Unit {0}

-- a load is at its operand, a store at its second
abbrev pub IsNamed : List ℕ → Action → Type 0
IsNamed ns (actions.Load r) = place_of (slice_index ns 0) r.bytes ≡ Ok r
IsNamed ns (actions.Store r n) = place_of (slice_index ns 1) r.bytes ≡ Ok r
IsNamed ns (actions.Event r) = IsRequestNamed ns r
IsNamed ns action = Unit {0}
