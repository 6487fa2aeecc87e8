-- Each action of a program's thread fits: a create's function can begin a thread, and the numbers of
-- stores fit their bytes.
use Rattle.std.proofs.Common.{◌≡◌, ℕ, ◌<◌, ◌^◌, ◌*◌, List, [], ◌∷◌, length, Bool, true, false, Option, Some, None, arith, lit<, refl, sym, subst, inl, inr}
use Rattle.std.specs.Prelude.{slice_get, ◌==◌}
use Rattle.pg_run_trace.specs.pg_num.Numbers.{modulus, divided}
use Rattle.pg_run_trace.specs.pg_num.Places.{ByteRange}
use Rattle.pg_run_trace.specs.pg_num.declared.width.Width.{Width}
use Rattle.pg_run_trace.specs.pg_num.declared.width.Width.TheVariants.{W1, W8, W16, W32, W64}
use Rattle.pg_run_trace.specs.pg_ir.declared.library_call.LibraryCall.{LibraryCall}
use Rattle.pg_run_trace.specs.pg_ir.declared.library_call.LibraryCall.TheVariants as known
use Rattle.pg_run_trace.specs.pg_ir.declared.value.Scalar.{Scalar}
use Rattle.pg_run_trace.specs.pg_ir.declared.value.Scalar.TheVariants.{Int, Ptr}
use Rattle.pg_run_trace.specs.pg_ir.declared.value.Value.{Value}
use Rattle.pg_run_trace.specs.pg_ir.declared.value.Value.TheVariants as value
use Rattle.pg_run_trace.specs.pg_ir.declared.instr.Op.{Op}
use Rattle.pg_run_trace.specs.pg_ir.declared.instr.Op.TheVariants as op
use Rattle.pg_run_trace.specs.pg_ir.declared.instr.Instr.{Instr}
use Rattle.pg_run_trace.specs.pg_ir.Program.{NumberedProgram, types_of, function_of, result_of}
use Rattle.pg_run_trace.specs.pg_ir.WellFormed.{IsProgram, FitsOp, FitsStored, FitLibraryCall, FitCreate, StartsThread, BeginsThread, type_at}
use Rattle.pg_run_thread.specs.declared.thread_memory.ThreadMemory.{ThreadMemory}
use Rattle.pg_run_thread.specs.LocalState.{Frame, LocalState, own_memory}
use Rattle.pg_run_thread.specs.Operands.{operand, argument, given, operands_of}
use Rattle.pg_run_thread.specs.Compute.{chosen}
use Rattle.pg_run_thread.specs.EdgeStep.{case_of}
use Rattle.pg_run_thread.specs.Step.{next, frames_action, instr_action, op_action, library_action, return_action, returning_action, bytes_of, total, has_room}
use Rattle.pg_run_thread.specs.States.{IsOf, AreFramesOf, AreValuesOf, StandsAt}
use Rattle.pg_run_thread.proofs.Typed.{typed_number}
use Rattle.pg_run_trace.specs.pg_ir.WellFormed.{granules_for}
use Rattle.pg_run.specs.Fits.{ActionFits}
use Rattle.pg_run.proofs.Actions.{OfTraps, on_value_is, on_all_is, on_place_is, number_is, object_is, init_is, barrier_init_is, wait_is, create_is, join_is, either, edge_is, call_is}
use Rattle.pg_run.proofs.Actions.{divided_is, room_is}

traps_fit : (p : NumberedProgram) → OfTraps (ActionFits p)
traps_fit p n = tt

-- ---- numbers of stores

within_bytes : (w : Width) (n bytes : ℕ) → n < modulus w → bytes ≡ bytes_of w → n < 2 ^ (8 * bytes)
within_bytes W1 n bytes h e = rw e (let k : n < 2 = h in let z : 2 < 2 ^ 8 = lit< tt in omega (arith, k, z))
within_bytes W8 n bytes h e = rw e h
within_bytes W16 n bytes h e = rw e h
within_bytes W32 n bytes h e = rw e h
within_bytes W64 n bytes h e = rw e h

stored_small : (p : NumberedProgram) (types : List Scalar) (rs : List (Option ℕ)) (w : Width) (v : Value) → IsProgram p → AreValuesOf types rs → FitsStored p types w v
    → given (operand p rs v) < modulus w
stored_small p types rs w v program h (inl t) = typed_number p types rs (Int w) v program h t
stored_small p types rs w v program h (inr t) = subst (λ (u : Width). given (operand p rs v) < modulus u) (sym t.0) (typed_number p types rs Ptr v program h t.1)

store_fits : (p : NumberedProgram) (types : List Scalar) (rs : List (Option ℕ)) (w : Width) (v : Value) (n : ℕ) (r : ByteRange) → IsProgram p → AreValuesOf types rs
    → FitsStored p types w v → operand p rs v ≡ Some n → r.bytes ≡ bytes_of w → n < 2 ^ (8 * r.bytes)
store_fits p types rs w v n r program h t e k = within_bytes w n r.bytes (subst (λ (o : Option ℕ). given o < modulus w) e (stored_small p types rs w v program h t)) k

-- ---- creates

function_begins : (p : NumberedProgram) (rs : List (Option ℕ)) (v : Value) (f : ℕ) → StartsThread p v → operand p rs v ≡ Some f → BeginsThread (slice_get p.functions f)
function_begins p rs (value.Function g) f h e = let same : g ≡ f = cc in subst (λ (n : ℕ). BeginsThread (slice_get p.functions n)) same h
function_begins p rs (value.Register r) f h e = absurd h
function_begins p rs (value.Const c) f h e = absurd h
function_begins p rs (value.Global g) f h e = absurd h

third_begins : (p : NumberedProgram) (types : List Scalar) (rs : List (Option ℕ)) (args : List Value) (f : ℕ) → FitCreate p types args → argument p rs args 2 ≡ Some f
    → BeginsThread (slice_get p.functions f)
third_begins p types rs (a ∷ b ∷ g ∷ c ∷ []) f h e = function_begins p rs g f h.2 e
third_begins p types rs [] f h e = absurd h
third_begins p types rs (a ∷ []) f h e = absurd h
third_begins p types rs (a ∷ b ∷ []) f h e = absurd h
third_begins p types rs (a ∷ b ∷ g ∷ []) f h e = absurd h
third_begins p types rs (a ∷ b ∷ g ∷ c ∷ d ∷ more) f h e = absurd h

-- ---- calls of known functions

library_fits : (p : NumberedProgram) (types : List Scalar) (t : ℕ) (halfway : Bool) (rs : List (Option ℕ)) (k : LibraryCall) (args : List Value) → FitLibraryCall p types k args
    → ActionFits p (library_action p t halfway rs k args)
library_fits p types t halfway rs known.PgIn args h = number_is (ActionFits p) p rs args _ (traps_fit p) (λ n. tt)
library_fits p types t halfway rs known.PgInLen args h = tt
library_fits p types t halfway rs known.PgOut args h = number_is (ActionFits p) p rs args _ (traps_fit p) (λ n. tt)
library_fits p types t halfway rs known.PgPrint args h = number_is (ActionFits p) p rs args _ (traps_fit p) (λ n. tt)
library_fits p types t halfway rs known.Putchar args h = number_is (ActionFits p) p rs args _ (traps_fit p) (λ n. tt)
library_fits p types t halfway rs known.Malloc args h = number_is (ActionFits p) p rs args _ (traps_fit p) (λ n. tt)
library_fits p types t halfway rs known.Free args h = number_is (ActionFits p) p rs args _ (traps_fit p) (λ n. tt)
library_fits p types t halfway rs known.PthreadCreate args h = create_is (ActionFits p) p rs args (traps_fit p) (λ r f n k e. (third_begins p types rs args f h e, k))
library_fits p types t halfway rs known.PthreadJoin args h = join_is (ActionFits p) p rs args (traps_fit p) (λ n. tt) (λ n r k. k)
library_fits p types t halfway rs known.PthreadExit args h = number_is (ActionFits p) p rs args _ (traps_fit p) (λ n. tt)
library_fits p types t halfway rs known.PthreadMutexInit args h = init_is (ActionFits p) p rs args _ (traps_fit p) (λ o. tt)
library_fits p types t halfway rs known.PthreadMutexLock args h = object_is (ActionFits p) p rs args _ (traps_fit p) (λ o. tt)
library_fits p types t halfway rs known.PthreadMutexTrylock args h = object_is (ActionFits p) p rs args _ (traps_fit p) (λ o. tt)
library_fits p types t halfway rs known.PthreadMutexUnlock args h = object_is (ActionFits p) p rs args _ (traps_fit p) (λ o. tt)
library_fits p types t halfway rs known.PthreadMutexDestroy args h = object_is (ActionFits p) p rs args _ (traps_fit p) (λ o. tt)
library_fits p types t halfway rs known.PthreadCondInit args h = init_is (ActionFits p) p rs args _ (traps_fit p) (λ o. tt)
library_fits p types t true rs known.PthreadCondWait args h = wait_is (ActionFits p) p true rs args (traps_fit p) (λ c m. tt)
library_fits p types t false rs known.PthreadCondWait args h = wait_is (ActionFits p) p false rs args (traps_fit p) (λ c m. tt)
library_fits p types t halfway rs known.PthreadCondSignal args h = object_is (ActionFits p) p rs args _ (traps_fit p) (λ o. tt)
library_fits p types t halfway rs known.PthreadCondBroadcast args h = object_is (ActionFits p) p rs args _ (traps_fit p) (λ o. tt)
library_fits p types t halfway rs known.PthreadCondDestroy args h = object_is (ActionFits p) p rs args _ (traps_fit p) (λ o. tt)
library_fits p types t halfway rs known.PthreadBarrierInit args h = barrier_init_is (ActionFits p) p rs args (traps_fit p) (λ o n. tt)
library_fits p types t true rs known.PthreadBarrierWait args h = object_is (ActionFits p) p rs args _ (traps_fit p) (λ o. tt)
library_fits p types t false rs known.PthreadBarrierWait args h = object_is (ActionFits p) p rs args _ (traps_fit p) (λ o. tt)
library_fits p types t halfway rs known.PthreadBarrierDestroy args h = object_is (ActionFits p) p rs args _ (traps_fit p) (λ o. tt)

-- ---- operations

return_fits : (p : NumberedProgram) (depth n : ℕ) → ActionFits p (return_action depth n)
return_fits p depth n = either (ActionFits p) (depth == 1) _ _ tt tt

returning_fits : (p : NumberedProgram) (rs : List (Option ℕ)) (depth : ℕ) (v : Option Value) → ActionFits p (returning_action p rs depth v)
returning_fits p rs depth None = return_fits p depth 0
returning_fits p rs depth (Some v) = on_value_is (ActionFits p) (operand p rs v) _ (traps_fit p) (λ n e. return_fits p depth n)

op_fits : (p : NumberedProgram) (types : List Scalar) (rs : List (Option ℕ)) (returns result : Option Scalar) (r : ThreadMemory) (halfway : Bool) (depth used block : ℕ) (o : Op) → IsProgram p
    → AreValuesOf types rs → FitsOp p types returns result o → ActionFits p (op_action p r halfway rs depth used block o)
op_fits p types rs returns result r halfway depth used block (op.Divide d w a b) program h t =
    on_value_is (ActionFits p) (operand p rs a) _ (traps_fit p)
    (λ m e. on_value_is (ActionFits p) (operand p rs b) _ (traps_fit p) (λ n f. divided_is (ActionFits p) (divided d w m n) (traps_fit p) tt))
op_fits p types rs returns result r halfway depth used block (op.Phi from) program h t = tt
op_fits p types rs returns result r halfway depth used block (op.Br to) program h t = edge_is (ActionFits p) p rs block to.0 (traps_fit p) tt
op_fits p types rs returns result r halfway depth used block (op.CondBr c a b) program h t =
    on_value_is (ActionFits p) (operand p rs c) _ (traps_fit p) (λ n e. edge_is (ActionFits p) p rs block (chosen n a.0 b.0) (traps_fit p) tt)
op_fits p types rs returns result r halfway depth used block (op.Switch w on other cases) program h t =
    on_value_is (ActionFits p) (operand p rs on) _ (traps_fit p) (λ n e. edge_is (ActionFits p) p rs block (case_of cases other.0 n) (traps_fit p) tt)
op_fits p types rs returns result r halfway depth used block (op.Call g args) program h t = on_all_is (ActionFits p) p rs args _ (traps_fit p) (call_is (ActionFits p) p g depth used (traps_fit p) tt)
op_fits p types rs returns result r halfway depth used block (op.Ret v) program h t = returning_fits p rs depth v
op_fits p types rs returns result r halfway depth used block op.Unreachable program h t = tt
op_fits p types rs returns result r halfway depth used block (op.Alloca bytes) program h t = room_is (ActionFits p) (has_room r (granules_for bytes)) (traps_fit p) tt
op_fits p types rs returns result r halfway depth used block (op.Load w from) program h t =
    on_value_is (ActionFits p) (operand p rs from) _ (traps_fit p) (λ a e. on_place_is (ActionFits p) a (bytes_of w) _ (traps_fit p) (λ q k. tt))
op_fits p types rs returns result r halfway depth used block (op.Store w v at) program h t =
    on_value_is (ActionFits p) (operand p rs v) _ (traps_fit p) (λ n e.
    on_value_is (ActionFits p) (operand p rs at) _ (traps_fit p) (λ a f.
    on_place_is (ActionFits p) a (bytes_of w) _ (traps_fit p) (λ q k. store_fits p types rs w v n q program h t.1 e k)))
op_fits p types rs returns result r halfway depth used block (op.CallLibrary k args) program h t = library_fits p types r.thread halfway rs k args t.1
op_fits p types rs returns result r halfway depth used block o program h t = on_all_is (ActionFits p) p rs (operands_of o) _ (traps_fit p) tt

-- ---- the next action

instr_fits : (p : NumberedProgram) (l : LocalState) (f : Frame) (fs : List Frame) (o : Option Instr) → IsProgram p → AreValuesOf (types_of p f.function) f.registers
    → slice_get p.instrs f.place ≡ o → StandsAt p f.function o → ActionFits p (instr_action p l f fs o)
instr_fits p l f fs None program h e s = tt
instr_fits p l f fs (Some x) program h e s =
    let types = types_of p (function_of p x.block.0) in
    let values : AreValuesOf types f.registers = subst (λ (g : ℕ). AreValuesOf (types_of p g) f.registers) (sym s.0) h in
    op_fits p types f.registers (result_of p (function_of p x.block.0)) (type_at types x.result) (own_memory l) l.halfway (length (f ∷ fs)) (total (f ∷ fs)) x.block.0 x.op program values
    (program.instrs f.place x e).op

frames_fit : (p : NumberedProgram) (l : LocalState) (begun : Bool) (fs : List Frame) → IsProgram p → AreFramesOf p fs → ActionFits p (frames_action p l begun fs)
frames_fit p l begun [] program h = tt
frames_fit p l false (f ∷ fs) program h = tt
frames_fit p l true (f ∷ fs) program h = instr_fits p l f fs (slice_get p.instrs f.place) program h.0.registers refl h.0.place

pub action_fits : (p : NumberedProgram) (l : LocalState) → IsProgram p → IsOf p l → ActionFits p (next p l)
unfolding IsOf next
action_fits p l program h = frames_fit p l l.begun l.frames program h.frames
