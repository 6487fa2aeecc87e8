-- A request that is done in two parts, of which one may want memory.
use Rattle.std.proofs.Common.{◌≡◌, ℕ, Bool, List, ◌++◌, Some, None, Ok, Err, refl, ◌∙◌, subst, sym, ap}
use Rattle.pg_run_trace.specs.pg_ir.declared.request.Request.{Request}
use Rattle.pg_run_trace.specs.pg_ir.declared.request.Request.TheVariants as requests
use Rattle.pg_run_trace.specs.pg_ir.declared.request.TrapName.{TrapName}
use Rattle.pg_run_trace.specs.pg_ir.Program.{NumberedProgram}
use Rattle.pg_run_objects.specs.Sync as sync
use Rattle.pg_run.specs.Completed.{on_completed}
use Rattle.pg_run.specs.MachineStep.{Answered, on_applied}
use Rattle.pg_run.specs.State.{State}
use Rattle.pg_run.specs.Texts.{printed_by}

-- a check that fails leaves all as it was
pub refused : (p : NumberedProgram) (s : State) (t : ℕ) (r : Request) (name : TrapName) → sync.check s.sync t r ≡ Some name
    → Path Answered (s, Err name) (on_applied p s t r (sync.applied s.sync t r))
unfolding sync.applied
refused p s t r name e = rw e refl

-- a print is printed first, since it always succeeds
pub out_first : (p : NumberedProgram) (s z : State) (t n : ℕ) (line : Bool) (r : Request) (text : List ℕ) → r ≡ requests.Out n line → text ≡ printed_by (requests.Out n line)
    → z ≡ record s { printed = s.printed ++ text } → on_completed z t r (sync.applied z.sync t r) ≡ on_applied p s t r (sync.applied s.sync t r)
unfolding sync.applied sync.check
out_first p s z t n line r text e h k = rw (k, e, h) refl

pub putchar_first : (p : NumberedProgram) (s z : State) (t n : ℕ) (r : Request) (text : List ℕ) → r ≡ requests.Putchar n → text ≡ printed_by (requests.Putchar n)
    → z ≡ record s { printed = s.printed ++ text } → on_completed z t r (sync.applied z.sync t r) ≡ on_applied p s t r (sync.applied s.sync t r)
unfolding sync.applied sync.check
putchar_first p s z t n r text e h k = rw (k, e, h) refl
