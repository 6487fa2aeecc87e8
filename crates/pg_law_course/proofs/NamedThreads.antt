-- The threads that requests name are made.
use Rattle.std.proofs.Common.{◌≡◌, ℕ, ◌<◌, length, Option, Some, None, refl, arith}
use Rattle.std.specs.Prelude.{IfSome, slice_get}
use Rattle.std.proofs.lemmas.Option.{slice_get_within}
use Rattle.pg_num.specs.declared.limits.TheConstants.{THREAD_LIMIT}
use Rattle.pg_num.specs.Places.{ByteRange}
use Rattle.pg_ir.specs.declared.request.Request.TheVariants as requests
use Rattle.pg_ir.specs.declared.request.TrapName.TheVariants.{BadJoin}
use Rattle.pg_ir.specs.Program.{NumberedProgram}
use Rattle.pg_run_objects.specs.declared.status.Status.{Status}
use Rattle.pg_run_objects.specs.Sync as sync
use Rattle.pg_run_thread.specs.declared.action.Action.{Action}
use Rattle.pg_run_thread.specs.declared.action.Action.TheVariants as actions
use Rattle.pg_run.specs.Machine.{IsMachine}
use Rattle.pg_run.specs.State.{State}
use Rattle.pg_run.proofs.Steps.{room}
use Rattle.pg_law_runs.proofs.of_pg_law_effects.ThreadLimits.{IsAllowed}
use Rattle.pg_law_course.specs.Steps.{thread_named}
use Rattle.pg_law_course.proofs.ActionCells.{Makes}

join_named : (y : sync.Sync) (t n : ℕ) (at : Option ByteRange) → sync.check y t (requests.Join n at) ≡ None → n < length y.threads
unfolding sync.check
join_named y t n at e = go (slice_get y.threads n) refl e
  where
    go : (o : Option Status) → slice_get y.threads n ≡ o → sync.unless (sync.may_join t n o) BadJoin ≡ None → n < length y.threads
    go None k q = absurd cc
    go (Some s) k q = slice_get_within y.threads n s k

pub few_named : (p : NumberedProgram) (s : State) (t made : ℕ) (action : Action) → IsMachine p s → IsAllowed s t action → Makes s made action
    → IfSome (thread_named made action) (λ u. u < THREAD_LIMIT)
few_named p s t made (actions.Event (requests.Create q f n)) h a m = let k = room s.sync t f n q a in let e = h.threads in omega (arith, k, e, m)
few_named p s t made (actions.Event (requests.Join n at)) h a m = let k = join_named s.sync t n at a in let e = h.threads in let f = h.few in omega (arith, k, e, f)
few_named p s t made (actions.Event r) h a m = tt
few_named p s t made action h a m = tt
