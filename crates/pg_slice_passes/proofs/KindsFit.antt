-- What a step tells of its action fits its instruction.
use Rattle.std.proofs.Common.{◌≡◌, ℕ, ◌<◌, ◌≤◌, List, length, Bool, true, false, Option, Some, None, arith, refl, sym, subst, inr}
use Rattle.std.specs.Prelude.{slice_get, ◌==◌}
use Rattle.std.proofs.lemmas.Option.{slice_get_within}
use Rattle.pg_num.specs.Numbers.{divided}
use Rattle.pg_num.specs.declared.width.Width.{Width}
use Rattle.pg_num.specs.declared.width.Width.TheVariants.{W1, W8, W16, W32, W64}
use Rattle.pg_ir.specs.declared.function.Function.{Function}
use Rattle.pg_ir.specs.declared.ids.InstrId.{InstrId}
use Rattle.pg_ir.specs.declared.library_call.LibraryCall.{LibraryCall}
use Rattle.pg_ir.specs.declared.library_call.LibraryCall.TheVariants as known
use Rattle.pg_ir.specs.declared.value.Value.{Value}
use Rattle.pg_ir.specs.declared.instr.Op.{Op}
use Rattle.pg_ir.specs.declared.instr.Op.TheVariants as op
use Rattle.pg_ir.specs.declared.request.Request.TheVariants as requests
use Rattle.pg_ir.specs.Program.{NumberedProgram}
use Rattle.pg_ir.specs.WellFormed.{BeginsThread, granules_for}
use Rattle.pg_run_thread.specs.declared.action.Action.{Action}
use Rattle.pg_run_thread.specs.declared.action.Action.TheVariants as actions
use Rattle.pg_run_thread.specs.declared.thread_memory.ThreadMemory.{ThreadMemory}
use Rattle.pg_run_thread.specs.Operands.{first_four, given, operand, operands_of}
use Rattle.pg_run_thread.specs.Compute.{chosen}
use Rattle.pg_run_thread.specs.EdgeStep.{case_of}
use Rattle.pg_run_thread.specs.Step.{bytes_of, has_room, library_action, op_action, returning_action}
use Rattle.pg_run_thread.specs.States.{CanStep}
use Rattle.pg_run_trace.specs.declared.step.StepKind.{StepKind}
use Rattle.pg_run.specs.Fits.{ActionFits}
use Rattle.pg_run.specs.MachineStep.{instr_told, kind_told, op_told}
use Rattle.pg_run.specs.State.{State, instr_of}
use Rattle.pg_run.proofs.Actions.{OfTraps, barrier_init_is, call_is, create_is, divided_is, edge_is, either, init_is, join_is, number_is, object_is, on_all_is, on_place_is, on_value_is}
use Rattle.pg_run.proofs.Actions.{room_is, wait_is}
use Rattle.pg_slice_passes.specs.Given.{FitsCreate, FitsKind}

-- what is told of a step fits an instruction
abbrev pub Fitting : NumberedProgram → Op → StepKind → Type 0
Fitting p o k = FitsKind o k × FitsCreate p k

bytes_between : (w : Width) (n : ℕ) → n ≡ bytes_of w → (1 ≤ n) × (n ≤ 8)
bytes_between W1 n e = (omega (arith, e), omega (arith, e))
bytes_between W8 n e = (omega (arith, e), omega (arith, e))
bytes_between W16 n e = (omega (arith, e), omega (arith, e))
bytes_between W32 n e = (omega (arith, e), omega (arith, e))
bytes_between W64 n e = (omega (arith, e), omega (arith, e))

begins_below : (p : NumberedProgram) (f : ℕ) (o : Option Function) → slice_get p.functions f ≡ o → BeginsThread o → f < length p.functions
begins_below p f None e h = absurd h
begins_below p f (Some x) e h = slice_get_within p.functions f x e

module _ (gated : List InstrId) (p : NumberedProgram) (s : State) (t answer number : ℕ) where
  -- what is told of an action that may be done fits, where these are the numbers of the operands
  abbrev pub IsTold : List ℕ → Op → Action → Type 0
  IsTold ns o a = ActionFits p a → CanStep a → Fitting p o (kind_told gated p s t ns answer number a)

  traps_told : (ns : List ℕ) (o : Op) → OfTraps (IsTold ns o)
  traps_told ns o n f c = absurd c

  -- the present instruction is this operation
  abbrev pub IsPresent : List ℕ → Op → Type 0
  IsPresent ns o = instr_told ns number (slice_get p.instrs (instr_of s t)) ≡ op_told ns number o

  local_told : (ns : List ℕ) (o : Op) → IsPresent ns o → Fitting p o (op_told ns number o) → IsTold ns o actions.Local
  local_told ns o e h f c = subst (Fitting p o) (sym e) h

  library_told : (u : ℕ) (halfway : Bool) (rs : List (Option ℕ)) (k : LibraryCall) (args : List Value) → IsPresent (first_four p rs args) (op.CallLibrary k args)
      → IsTold (first_four p rs args) (op.CallLibrary k args) (library_action p u halfway rs k args)
  library_told u halfway rs known.PgIn args e = number_is (IsTold (first_four p rs args) (op.CallLibrary known.PgIn args)) p rs args _ (λ n h c. absurd c) (λ n f c. (refl, tt))
  library_told u halfway rs known.PgInLen args e = λ f c. (refl, tt)
  library_told u halfway rs known.PgOut args e = number_is (IsTold (first_four p rs args) (op.CallLibrary known.PgOut args)) p rs args _ (λ n h c. absurd c) (λ n h c. (tt, λ q. absurd cc))
  library_told u halfway rs known.PgPrint args e = number_is (IsTold (first_four p rs args) (op.CallLibrary known.PgPrint args)) p rs args _ (λ n h c. absurd c) (λ n h c. (tt, λ q. absurd cc))
  library_told u halfway rs known.Putchar args e = number_is (IsTold (first_four p rs args) (op.CallLibrary known.Putchar args)) p rs args _ (λ n h c. absurd c) (λ n h c. (tt, λ q. absurd cc))
  library_told u halfway rs known.Malloc args e = number_is (IsTold (first_four p rs args) (op.CallLibrary known.Malloc args)) p rs args _ (λ n h c. absurd c)
      (λ n. local_told (first_four p rs args) (op.CallLibrary known.Malloc args) e (refl, tt))
  library_told u halfway rs known.Free args e = number_is (IsTold (first_four p rs args) (op.CallLibrary known.Free args)) p rs args _ (λ n h c. absurd c)
      (λ n. local_told (first_four p rs args) (op.CallLibrary known.Free args) e (refl, tt))
  library_told u halfway rs known.PthreadCreate args e = create_is (IsTold (first_four p rs args) (op.CallLibrary known.PthreadCreate args)) p rs args (λ n h c. absurd c)
      (λ r g n k q f c. (tt, λ h. subst (λ (o : Option ℕ). given o < length p.functions) (sym q) (begins_below p g (slice_get p.functions g) refl f.0)))
  library_told u halfway rs known.PthreadJoin args e = join_is (IsTold (first_four p rs args) (op.CallLibrary known.PthreadJoin args)) p rs args (λ n h c. absurd c) (λ n h c. (tt, λ q. absurd cc))
      (λ n r k h c. (tt, λ q. absurd cc))
  library_told u halfway rs known.PthreadExit args e = number_is (IsTold (first_four p rs args) (op.CallLibrary known.PthreadExit args)) p rs args _ (λ n h c. absurd c) (λ n h c. (tt, λ q. absurd cc))
  library_told u halfway rs known.PthreadMutexInit args e = init_is (IsTold (first_four p rs args) (op.CallLibrary known.PthreadMutexInit args)) p rs args _ (λ n h c. absurd c)
      (λ o h c. (tt, λ q. absurd cc))
  library_told u halfway rs known.PthreadMutexLock args e = object_is (IsTold (first_four p rs args) (op.CallLibrary known.PthreadMutexLock args)) p rs args _ (λ n h c. absurd c)
      (λ o h c. (tt, λ q. absurd cc))
  library_told u halfway rs known.PthreadMutexTrylock args e = object_is (IsTold (first_four p rs args) (op.CallLibrary known.PthreadMutexTrylock args)) p rs args _ (λ n h c. absurd c)
      (λ o h c. (tt, λ q. absurd cc))
  library_told u halfway rs known.PthreadMutexUnlock args e = object_is (IsTold (first_four p rs args) (op.CallLibrary known.PthreadMutexUnlock args)) p rs args _ (λ n h c. absurd c)
      (λ o h c. (tt, λ q. absurd cc))
  library_told u halfway rs known.PthreadMutexDestroy args e = object_is (IsTold (first_four p rs args) (op.CallLibrary known.PthreadMutexDestroy args)) p rs args _ (λ n h c. absurd c)
      (λ o h c. (tt, λ q. absurd cc))
  library_told u halfway rs known.PthreadCondInit args e = init_is (IsTold (first_four p rs args) (op.CallLibrary known.PthreadCondInit args)) p rs args _ (λ n h c. absurd c)
      (λ o h c. (tt, λ q. absurd cc))
  library_told u true rs known.PthreadCondWait args e = wait_is (IsTold (first_four p rs args) (op.CallLibrary known.PthreadCondWait args)) p true rs args (λ n h c. absurd c)
      (λ v m h c. (tt, λ q. absurd cc))
  library_told u false rs known.PthreadCondWait args e = wait_is (IsTold (first_four p rs args) (op.CallLibrary known.PthreadCondWait args)) p false rs args (λ n h c. absurd c)
      (λ v m h c. (tt, λ q. absurd cc))
  library_told u halfway rs known.PthreadCondSignal args e = object_is (IsTold (first_four p rs args) (op.CallLibrary known.PthreadCondSignal args)) p rs args _ (λ n h c. absurd c)
      (λ o h c. (tt, λ q. absurd cc))
  library_told u halfway rs known.PthreadCondBroadcast args e = object_is (IsTold (first_four p rs args) (op.CallLibrary known.PthreadCondBroadcast args)) p rs args _ (λ n h c. absurd c)
      (λ o h c. (tt, λ q. absurd cc))
  library_told u halfway rs known.PthreadCondDestroy args e = object_is (IsTold (first_four p rs args) (op.CallLibrary known.PthreadCondDestroy args)) p rs args _ (λ n h c. absurd c)
      (λ o h c. (tt, λ q. absurd cc))
  library_told u halfway rs known.PthreadBarrierInit args e = barrier_init_is (IsTold (first_four p rs args) (op.CallLibrary known.PthreadBarrierInit args)) p rs args (λ n h c. absurd c)
      (λ o n h c. (tt, λ q. absurd cc))
  library_told u true rs known.PthreadBarrierWait args e = object_is (IsTold (first_four p rs args) (op.CallLibrary known.PthreadBarrierWait args)) p rs args _ (λ n h c. absurd c)
      (λ o h c. (tt, λ q. absurd cc))
  library_told u false rs known.PthreadBarrierWait args e = object_is (IsTold (first_four p rs args) (op.CallLibrary known.PthreadBarrierWait args)) p rs args _ (λ n h c. absurd c)
      (λ o h c. (tt, λ q. absurd cc))
  library_told u halfway rs known.PthreadBarrierDestroy args e = object_is (IsTold (first_four p rs args) (op.CallLibrary known.PthreadBarrierDestroy args)) p rs args _ (λ n h c. absurd c)
      (λ o h c. (tt, λ q. absurd cc))

  exit_told : (ns : List ℕ) (v : Option Value) (n : ℕ) → IsTold ns (op.Ret v) (actions.Event (requests.Exit n true))
  exit_told ns v n f c = ((inr refl, refl), λ q. absurd cc)

  returning_told : (ns : List ℕ) (rs : List (Option ℕ)) (depth : ℕ) (v o : Option Value) → IsPresent ns (op.Ret o) → IsTold ns (op.Ret o) (returning_action p rs depth v)
  returning_told ns rs depth None o e = either (IsTold ns (op.Ret o)) (depth == 1) _ _ (exit_told ns o 0) (local_told ns (op.Ret o) e (refl, tt))
  returning_told ns rs depth (Some v) o e = on_value_is (IsTold ns (op.Ret o)) (operand p rs v) _ (traps_told ns (op.Ret o))
      (λ n q. either (IsTold ns (op.Ret o)) (depth == 1) _ _ (exit_told ns o n) (local_told ns (op.Ret o) e (refl, tt)))

  access_fits : (w : Width) (n : ℕ) → n ≡ bytes_of w → Unit {0} × (1 ≤ n) × (n ≤ 8)
  access_fits w n e = let b = bytes_between w n e in (tt, b.0, b.1)

  -- what is told of the action of the present operation fits it
  pub present_told : (rs : List (Option ℕ)) (r : ThreadMemory) (halfway : Bool) (depth used block : ℕ) (o : Op) → IsPresent (first_four p rs (operands_of o)) o
      → IsTold (first_four p rs (operands_of o)) o (op_action p r halfway rs depth used block o)
  present_told rs r halfway depth used block (op.Divide d w a b) e =
      let Q = IsTold (first_four p rs (operands_of (op.Divide d w a b))) (op.Divide d w a b) in
      on_value_is Q (operand p rs a) _ (λ n h c. absurd c)
      (λ m f. on_value_is Q (operand p rs b) _ (λ n h c. absurd c)
      (λ n g. divided_is Q (divided d w m n) (λ n h c. absurd c) (local_told (first_four p rs (operands_of (op.Divide d w a b))) (op.Divide d w a b) e (refl, tt))))
  present_told rs r halfway depth used block (op.Phi from) e = λ f c. absurd c
  present_told rs r halfway depth used block (op.Br to) e = edge_is (IsTold (first_four p rs (operands_of (op.Br to))) (op.Br to)) p rs block to.0 (λ n h c. absurd c)
      (local_told (first_four p rs (operands_of (op.Br to))) (op.Br to) e (refl, tt))
  present_told rs r halfway depth used block (op.CondBr c a b) e =
      let Q = IsTold (first_four p rs (operands_of (op.CondBr c a b))) (op.CondBr c a b) in
      on_value_is Q (operand p rs c) _ (λ n h c. absurd c)
      (λ n f. edge_is Q p rs block (chosen n a.0 b.0) (λ n h c. absurd c) (local_told (first_four p rs (operands_of (op.CondBr c a b))) (op.CondBr c a b) e (tt, tt)))
  present_told rs r halfway depth used block (op.Switch w on other cases) e =
      let Q = IsTold (first_four p rs (operands_of (op.Switch w on other cases))) (op.Switch w on other cases) in
      on_value_is Q (operand p rs on) _ (λ n h c. absurd c)
      (λ n f. edge_is Q p rs block (case_of cases other.0 n) (λ n h c. absurd c)
      (local_told (first_four p rs (operands_of (op.Switch w on other cases))) (op.Switch w on other cases) e (tt, tt)))
  present_told rs r halfway depth used block (op.Call g args) e =
      let Q = IsTold (first_four p rs (operands_of (op.Call g args))) (op.Call g args) in
      on_all_is Q p rs args _ (λ n h c. absurd c) (call_is Q p g depth used (λ n h c. absurd c) (local_told (first_four p rs (operands_of (op.Call g args))) (op.Call g args) e (refl, tt)))
  present_told rs r halfway depth used block (op.Ret v) e = returning_told (first_four p rs (operands_of (op.Ret v))) rs depth v v e
  present_told rs r halfway depth used block op.Unreachable e = λ f c. absurd c
  present_told rs r halfway depth used block (op.Alloca bytes) e = room_is (IsTold (first_four p rs (operands_of (op.Alloca bytes))) (op.Alloca bytes)) (has_room r (granules_for bytes))
      (λ n h c. absurd c) (local_told (first_four p rs (operands_of (op.Alloca bytes))) (op.Alloca bytes) e (refl, tt))
  present_told rs r halfway depth used block (op.Load w from) e =
      let Q = IsTold (first_four p rs (operands_of (op.Load w from))) (op.Load w from) in
      on_value_is Q (operand p rs from) _ (λ n h c. absurd c) (λ a f. on_place_is Q a (bytes_of w) _ (λ n h c. absurd c) (λ q k g c. (access_fits w q.bytes k, tt)))
  present_told rs r halfway depth used block (op.Store w v at) e =
      let Q = IsTold (first_four p rs (operands_of (op.Store w v at))) (op.Store w v at) in
      on_value_is Q (operand p rs v) _ (λ n h c. absurd c)
      (λ n f. on_value_is Q (operand p rs at) _ (λ n h c. absurd c) (λ a h. on_place_is Q a (bytes_of w) _ (λ n h c. absurd c) (λ q k g c. (access_fits w q.bytes k, tt))))
  present_told rs r halfway depth used block (op.CallLibrary k args) e = library_told r.thread halfway rs k args e
  present_told rs r halfway depth used block o e = on_all_is (IsTold (first_four p rs (operands_of o)) o) p rs (operands_of o) _ (λ n h c. absurd c)
      (local_told (first_four p rs (operands_of o)) o e (refl, tt))
