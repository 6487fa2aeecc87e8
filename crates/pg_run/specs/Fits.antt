-- What holds of each action of a program's thread.
use Rattle.std.specs.Prelude.{◌≡◌, ◌*◌, ◌^◌, ◌<◌, Some, slice_get}
use Rattle.pg_run_trace.specs.pg_ir.declared.request.Request.{Request}
use Rattle.pg_run_trace.specs.pg_ir.declared.request.Request.TheVariants as requests
use Rattle.pg_run_trace.specs.pg_ir.Program.{NumberedProgram}
use Rattle.pg_run_trace.specs.pg_ir.WellFormed.{BeginsThread}
use Rattle.pg_run_thread.specs.declared.action.Action.{Action}
use Rattle.pg_run_thread.specs.declared.action.Action.TheVariants as actions

-- the place of a join is one of eight bytes
abbrev pub JoinFits : Request → Type 0
JoinFits (requests.Join n (Some r)) = r.bytes ≡ 8
JoinFits r = Unit {0}

-- a thread can begin with the function of a create, whose place is one of eight bytes, as that of a join
abbrev pub RequestFits : NumberedProgram → Request → Type 0
RequestFits p (requests.Create r f n) = BeginsThread (slice_get p.functions f) × (r.bytes ≡ 8)
RequestFits p (requests.Join n (Some r)) = r.bytes ≡ 8
RequestFits p r = Unit {0}

-- the number of a store fits its bytes
abbrev pub ActionFits : NumberedProgram → Action → Type 0
ActionFits p (actions.Store r n) = n < 2 ^ (8 * r.bytes)
ActionFits p (actions.Event r) = RequestFits p r
ActionFits p action = Unit {0}
