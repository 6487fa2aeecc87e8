-- A step fits, whatever its instruction.
use Rattle.std.proofs.Common.{◌≡◌, ℕ, ℤ, ◌<◌, ◌^◌, Bool, true, false, List, ◌∷◌, length, Option, refl, ap, ◌∙◌}
use Rattle.std.specs.Prelude.{◌==◌}
use Rattle.pg_ir.specs.declared.instr.Op.{Op}
use Rattle.pg_ir.specs.declared.instr.Op.TheVariants as op
use Rattle.pg_ir.specs.declared.library_call.LibraryCall.{LibraryCall}
use Rattle.pg_ir.specs.declared.library_call.LibraryCall.TheVariants as known
use Rattle.pg_ir.specs.declared.value.Value.{Value}
use Rattle.pg_ir.specs.WellFormed.{IsProgram}
use Rattle.pg_law_threads.specs.Plans.{Fits}
use Rattle.pg_run_thread.specs.Compute.{computes}
use Rattle.pg_run_trace.specs.declared.step.Step.{Step}
use Rattle.pg_run.specs.State.{State}
use Rattle.pg_law_effects.specs.Views.{cell_at, objects_of}
use Rattle.pg_slice_rules.specs.Known.{Taken}
use Rattle.pg_law_plan.specs.Likes.{IsCellLike, like}
use Rattle.pg_law_plan.specs.Moves.{deed_moved}
use Rattle.pg_law_plan.specs.Units.{PlanUnit, ReferenceRun, cell_known, deed_of, is_event_at, reads_cell, reference_of}
use Rattle.pg_law_plan.proofs.AllocationFits.{alloca_fits, free_fits, malloc_fits, pg_in_fits, pg_in_len_fits}
use Rattle.pg_law_plan.proofs.BranchFits.{br_fits, can_at, cond_fits, switch_fits}
use Rattle.pg_law_plan.proofs.CallFits.{call_fits, ret_fits}
use Rattle.pg_law_plan.proofs.ComputationFits.{computing_fits}
use Rattle.pg_law_plan.proofs.ThreadEndFits.{pthread_exit_fits, ret_exit_fits}
use Rattle.pg_law_plan.proofs.ThreadEventFits.{out_fits, print_fits, putchar_fits}
use Rattle.pg_law_plan.proofs.ObjectEventFits.{object_fits}
use Rattle.pg_law_plan.proofs.StepChecks.{IsGood}
use Rattle.pg_law_plan.proofs.LocalStepFits.{Pair}
use Rattle.pg_law_plan.proofs.LoadFits.{load_fits}
use Rattle.pg_law_plan.proofs.StoreFits.{store_fits}
use Rattle.pg_law_plan.proofs.CreateAndJoinFit.{create_fits, join_fits}

module _ (r : ReferenceRun) (d : Taken) (input : List ℤ) (program : IsProgram r.program) (small : length input < 2 ^ 64) (u : PlanUnit) (st : State) (moves : ℕ → ℕ) (y : Step)
    (q : Pair r d input u st moves y)
    (good : IsGood (reference_of r) d input u.seen) (objects : is_event_at u.seen ≡ true → objects_of u.state ≡ objects_of st) (words : length u.seen.before.words ≡ length u.state.locals)
    (cells : (c : ℕ) → reads_cell d u.seen c ≡ true → IsCellLike input (cell_known u.seen.before c) (cell_at st c)) where
  abbrev Here : Type 0
  Here = Fits (like input) (deed_of d u) (deed_moved r.program input st moves y)

  object : (k : LibraryCall) (args : List Value) → q.both.x.op ≡ op.CallLibrary k args → Rattle.pg_law_plan.proofs.RequestEffects.names_object k ≡ true
      → Rattle.pg_law_plan.proofs.LikeRequests.is_checked k ≡ true → Fits (like input) (deed_of d u) (deed_moved r.program input st moves y)
  object k args e a b = object_fits r d input program u st moves y q good objects k args e a b

  library_fits : (k : LibraryCall) (args : List Value) → q.both.x.op ≡ op.CallLibrary k args → Fits (like input) (deed_of d u) (deed_moved r.program input st moves y)
  library_fits known.PgIn args e = pg_in_fits r d input program u st moves y q args e
  library_fits known.PgInLen args e = pg_in_len_fits r d input program u st moves y q args small e
  library_fits known.PgOut args e = out_fits r d input program u st moves y q good objects args e
  library_fits known.PgPrint args e = print_fits r d input program u st moves y q good objects args e
  library_fits known.Putchar args e = putchar_fits r d input program u st moves y q good objects args e
  library_fits known.Malloc args e = malloc_fits r d input program u st moves y q good args e
  library_fits known.Free args e = free_fits r d input program u st moves y q args e
  library_fits known.PthreadCreate args e = create_fits r d input program u st moves y q good objects words args e
  library_fits known.PthreadJoin args e = join_fits r d input program u st moves y q good objects words cells args e
  library_fits known.PthreadExit args e = pthread_exit_fits r d input program u st moves y q good objects words args e
  library_fits known.PthreadMutexInit args e = object known.PthreadMutexInit args e refl refl
  library_fits known.PthreadMutexLock args e = object known.PthreadMutexLock args e refl refl
  library_fits known.PthreadMutexTrylock args e = object known.PthreadMutexTrylock args e refl refl
  library_fits known.PthreadMutexUnlock args e = object known.PthreadMutexUnlock args e refl refl
  library_fits known.PthreadMutexDestroy args e = object known.PthreadMutexDestroy args e refl refl
  library_fits known.PthreadCondInit args e = object known.PthreadCondInit args e refl refl
  library_fits known.PthreadCondWait args e = object known.PthreadCondWait args e refl refl
  library_fits known.PthreadCondSignal args e = object known.PthreadCondSignal args e refl refl
  library_fits known.PthreadCondBroadcast args e = object known.PthreadCondBroadcast args e refl refl
  library_fits known.PthreadCondDestroy args e = object known.PthreadCondDestroy args e refl refl
  library_fits known.PthreadBarrierInit args e = object known.PthreadBarrierInit args e refl refl
  library_fits known.PthreadBarrierWait args e = object known.PthreadBarrierWait args e refl refl
  library_fits known.PthreadBarrierDestroy args e = object known.PthreadBarrierDestroy args e refl refl

  returns : (v : Option Value) → q.both.x.op ≡ op.Ret v → (b : Bool) → (length (q.both.f0 ∷ q.both.fs0) == 1) ≡ b
      → Fits (like input) (deed_of d u) (deed_moved r.program input st moves y)
  returns v e true h = ret_exit_fits r d input program u st moves y q good objects words v e h
  returns v e false h = ret_fits r d input program u st moves y q v e h

  computing : (o : Op) → q.both.x.op ≡ o → computes o ≡ true → Fits (like input) (deed_of d u) (deed_moved r.program input st moves y)
  computing o e c = computing_fits r d input program u st moves y q (ap computes e ∙ c)

  op_fits : (o : Op) → q.both.x.op ≡ o → Fits (like input) (deed_of d u) (deed_moved r.program input st moves y)
  op_fits (op.Add w a b) e = computing (op.Add w a b) e refl
  op_fits (op.Sub w a b) e = computing (op.Sub w a b) e refl
  op_fits (op.Mul w a b) e = computing (op.Mul w a b) e refl
  op_fits (op.Divide z w a b) e = computing (op.Divide z w a b) e refl
  op_fits (op.Shift z w a b) e = computing (op.Shift z w a b) e refl
  op_fits (op.Bits z w a b) e = computing (op.Bits z w a b) e refl
  op_fits (op.Compare z w a b) e = computing (op.Compare z w a b) e refl
  op_fits (op.Trunc from to v) e = computing (op.Trunc from to v) e refl
  op_fits (op.Zext from to v) e = computing (op.Zext from to v) e refl
  op_fits (op.Sext from to v) e = computing (op.Sext from to v) e refl
  op_fits (op.PtrToInt from to v) e = computing (op.PtrToInt from to v) e refl
  op_fits (op.IntToPtr from to v) e = computing (op.IntToPtr from to v) e refl
  op_fits (op.Select c a b) e = computing (op.Select c a b) e refl
  op_fits (op.Gep base indices) e = computing (op.Gep base indices) e refl
  op_fits (op.Phi from) e = absurd (can_at r d input u st moves y q (op.Phi from) e)
  op_fits (op.Br to) e = br_fits r d input u st moves y q to e
  op_fits (op.CondBr c a b) e = cond_fits r d input u st moves y q good c a b e
  op_fits (op.Switch w on other cs) e = switch_fits r d input u st moves y q good w on other cs e
  op_fits (op.Call g args) e = call_fits r d input program u st moves y q g args e
  op_fits (op.Ret v) e = returns v e (length (q.both.f0 ∷ q.both.fs0) == 1) refl
  op_fits op.Unreachable e = absurd (can_at r d input u st moves y q op.Unreachable e)
  op_fits (op.Alloca bytes) e = alloca_fits r d input program u st moves y q bytes e
  op_fits (op.Load w from) e = load_fits r d input program u st moves y q good objects cells w from e
  op_fits (op.Store w v at) e = store_fits r d input program u st moves y q good objects w v at e
  op_fits (op.CallLibrary k args) e = library_fits k args e

  pub both_fits : Fits (like input) (deed_of d u) (deed_moved r.program input st moves y)
  both_fits = op_fits q.both.x.op refl
