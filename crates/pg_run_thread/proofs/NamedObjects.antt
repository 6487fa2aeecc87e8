-- The action of a call that names one object.
use Rattle.std.proofs.Common.{◌≡◌, ℕ, List, Option, Bool, refl}
use Rattle.pg_ir.specs.declared.library_call.LibraryCall.{LibraryCall}
use Rattle.pg_ir.specs.declared.library_call.LibraryCall.TheVariants as known
use Rattle.pg_ir.specs.declared.value.Value.{Value}
use Rattle.pg_ir.specs.Program.{NumberedProgram}
use Rattle.pg_run_thread.specs.Step.{library_action, object_action}
use Rattle.pg_run_thread.specs.Needs.{NamesObject, object_request}

pub object_is : (p : NumberedProgram) (t : ℕ) (halfway : Bool) (rs : List (Option ℕ)) (k : LibraryCall) (args : List Value) → NamesObject k
    → object_action p rs args (λ o. object_request halfway k o) ≡ library_action p t halfway rs k args
object_is p t halfway rs known.PthreadMutexLock args h = refl
object_is p t halfway rs known.PthreadMutexTrylock args h = refl
object_is p t halfway rs known.PthreadMutexUnlock args h = refl
object_is p t halfway rs known.PthreadMutexDestroy args h = refl
object_is p t halfway rs known.PthreadCondSignal args h = refl
object_is p t halfway rs known.PthreadCondBroadcast args h = refl
object_is p t halfway rs known.PthreadCondDestroy args h = refl
object_is p t halfway rs known.PthreadBarrierWait args h = refl
object_is p t halfway rs known.PthreadBarrierDestroy args h = refl
object_is p t halfway rs k args h = absurd h
