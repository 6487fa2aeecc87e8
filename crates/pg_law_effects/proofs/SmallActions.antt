-- Each action of a program's thread is small: a load reads at most eight bytes, and the value of an exit and the
-- argument of a create have 64 bits.
use Rattle.std.proofs.Common.{◌≡◌, ℕ, ◌<◌, ◌^◌, ◌*◌, List, [], ◌∷◌, length, Bool, true, false, Option, Some, None, arith, lit<, refl, sym, subst, inl, inr}
use Rattle.std.specs.Prelude.{slice_get, ◌==◌, if◌then◌else◌}
use Rattle.pg_num.specs.Numbers.{modulus, divided}
use Rattle.pg_num.specs.Places.{ByteRange}
use Rattle.pg_num.specs.declared.width.Width.{Width}
use Rattle.pg_num.specs.declared.width.Width.TheVariants.{W1, W8, W16, W32, W64}
use Rattle.pg_ir.specs.declared.library_call.LibraryCall.{LibraryCall}
use Rattle.pg_ir.specs.declared.library_call.LibraryCall.TheVariants as known
use Rattle.pg_ir.specs.declared.request.Request.TheVariants as requests
use Rattle.pg_ir.specs.declared.value.Scalar.{Scalar}
use Rattle.pg_ir.specs.declared.value.Scalar.TheVariants.{Int, Ptr}
use Rattle.pg_ir.specs.declared.value.Value.{Value}
use Rattle.pg_ir.specs.declared.value.Value.TheVariants as value
use Rattle.pg_ir.specs.declared.instr.Op.{Op}
use Rattle.pg_ir.specs.declared.instr.Op.TheVariants as op
use Rattle.pg_ir.specs.declared.instr.Instr.{Instr}
use Rattle.pg_ir.specs.Program.{NumberedProgram, types_of, function_of, result_of}
use Rattle.pg_ir.specs.WellFormed.{IsProgram, FitsOp, FitLibraryCall, FitCreate, FitsReturn, HasType, HaveTypes, type_at, width_of}
use Rattle.pg_run_thread.specs.declared.thread_memory.ThreadMemory.{ThreadMemory}
use Rattle.pg_run_thread.specs.declared.action.Action.{Action}
use Rattle.pg_run_thread.specs.declared.action.Action.TheVariants as actions
use Rattle.pg_run_thread.specs.LocalState.{Frame, LocalState, own_memory}
use Rattle.pg_run_thread.specs.Operands.{operand, argument, given, operands_of}
use Rattle.pg_run_thread.specs.Compute.{chosen}
use Rattle.pg_run_thread.specs.EdgeStep.{case_of}
use Rattle.pg_run_thread.specs.Step.{next, frames_action, instr_action, op_action, create_action, exit_value, library_action, return_action, returning_action, bytes_of, total, has_room}
use Rattle.pg_run_thread.specs.States.{IsOf, AreFramesOf, AreValuesOf, StandsAt}
use Rattle.pg_run_thread.proofs.Typed.{typed_number}
use Rattle.pg_ir.specs.WellFormed.{granules_for}
use Rattle.pg_run.proofs.Actions.{OfTraps, on_value_is, on_all_is, on_place_is, on_null_is, number_is, object_is, init_is, barrier_init_is, wait_is, join_is, either, edge_is, call_is}
use Rattle.pg_run.proofs.Actions.{divided_is, room_is}

abbrev pub IsSmall : Action → Type 0
IsSmall (actions.Load r) = (w : Width) × (r.bytes ≡ bytes_of w)
IsSmall (actions.Event (requests.Exit n is_return)) = n < 2 ^ 64
IsSmall (actions.Event (requests.Create r f n)) = n < 2 ^ 64
IsSmall action = Unit {0}

traps_small : OfTraps IsSmall
traps_small n = tt

-- ---- values

modulus_small : (s : Scalar) (n : ℕ) → n < modulus (width_of s) → n < 2 ^ 64
modulus_small (Int W1) n h = let k : n < 2 = h in let z : 2 < 2 ^ 64 = lit< tt in omega (arith, k, z)
modulus_small (Int W8) n h = let z : 2 ^ 8 < 2 ^ 64 = lit< tt in omega (arith, h, z)
modulus_small (Int W16) n h = let z : 2 ^ 16 < 2 ^ 64 = lit< tt in omega (arith, h, z)
modulus_small (Int W32) n h = let z : 2 ^ 32 < 2 ^ 64 = lit< tt in omega (arith, h, z)
modulus_small (Int W64) n h = h
modulus_small Ptr n h = h

typed_small : (p : NumberedProgram) (types : List Scalar) (rs : List (Option ℕ)) (s : Scalar) (v : Value) (n : ℕ) → IsProgram p → AreValuesOf types rs → HasType p types s v
    → operand p rs v ≡ Some n → n < 2 ^ 64
typed_small p types rs s v n program h t e = modulus_small s n (subst (λ (o : Option ℕ). given o < modulus (width_of s)) e (typed_number p types rs s v program h t))

-- a call with one argument of this type
first_small : (p : NumberedProgram) (types : List Scalar) (rs : List (Option ℕ)) (args : List Value) (n : ℕ) → IsProgram p → AreValuesOf types rs → HaveTypes p types (Ptr ∷ []) args
    → argument p rs args 0 ≡ Some n → n < 2 ^ 64
first_small p types rs [] n program h t e = absurd t
first_small p types rs (v ∷ vs) n program h t e = typed_small p types rs Ptr v n program h t.0 e

-- main's exit has the value 0
choice_small : (c : Bool) (n : ℕ) → n < 2 ^ 64 → (if c then 0 else n) < 2 ^ 64
choice_small true n h = lit< tt
choice_small false n h = h

exit_small : (t n : ℕ) → n < 2 ^ 64 → exit_value t n < 2 ^ 64
exit_small t n h = choice_small (t == 0) n h

fourth_small : (p : NumberedProgram) (types : List Scalar) (rs : List (Option ℕ)) (args : List Value) (n : ℕ) → IsProgram p → AreValuesOf types rs → FitCreate p types args
    → argument p rs args 3 ≡ Some n → n < 2 ^ 64
fourth_small p types rs (a ∷ b ∷ g ∷ c ∷ []) n program h t e = typed_small p types rs Ptr c n program h t.3 e
fourth_small p types rs [] n program h t e = absurd t
fourth_small p types rs (a ∷ []) n program h t e = absurd t
fourth_small p types rs (a ∷ b ∷ []) n program h t e = absurd t
fourth_small p types rs (a ∷ b ∷ g ∷ []) n program h t e = absurd t
fourth_small p types rs (a ∷ b ∷ g ∷ c ∷ d ∷ more) n program h t e = absurd t

create_small : (p : NumberedProgram) (types : List Scalar) (rs : List (Option ℕ)) (args : List Value) → IsProgram p → AreValuesOf types rs → FitCreate p types args
    → IsSmall (create_action p rs args)
create_small p types rs args program h t =
    on_value_is IsSmall (argument p rs args 0) _ traps_small (λ w e0.
    on_value_is IsSmall (argument p rs args 1) _ traps_small (λ a e1.
    on_value_is IsSmall (argument p rs args 2) _ traps_small (λ f e2.
    on_value_is IsSmall (argument p rs args 3) _ traps_small (λ n e3.
    on_place_is IsSmall w 8 _ traps_small (λ r k. on_null_is IsSmall a _ traps_small (fourth_small p types rs args n program h t e3))))))

-- ---- calls of known functions

known_small : (p : NumberedProgram) (types : List Scalar) (t : ℕ) (halfway : Bool) (rs : List (Option ℕ)) (k : LibraryCall) (args : List Value) → IsProgram p → AreValuesOf types rs
    → FitLibraryCall p types k args → IsSmall (library_action p t halfway rs k args)
known_small p types t halfway rs known.PgIn args program v h = number_is IsSmall p rs args _ traps_small (λ n. tt)
known_small p types t halfway rs known.PgInLen args program v h = tt
known_small p types t halfway rs known.PgOut args program v h = number_is IsSmall p rs args _ traps_small (λ n. tt)
known_small p types t halfway rs known.PgPrint args program v h = number_is IsSmall p rs args _ traps_small (λ n. tt)
known_small p types t halfway rs known.Putchar args program v h = number_is IsSmall p rs args _ traps_small (λ n. tt)
known_small p types t halfway rs known.Malloc args program v h = number_is IsSmall p rs args _ traps_small (λ n. tt)
known_small p types t halfway rs known.Free args program v h = number_is IsSmall p rs args _ traps_small (λ n. tt)
known_small p types t halfway rs known.PthreadCreate args program v h = create_small p types rs args program v h
known_small p types t halfway rs known.PthreadJoin args program v h = join_is IsSmall p rs args traps_small (λ n. tt) (λ n r k. tt)
known_small p types t halfway rs known.PthreadExit args program v h = on_value_is IsSmall (argument p rs args 0) _ traps_small (λ n e. exit_small t n (first_small p types rs args n program v h e))
known_small p types t halfway rs known.PthreadMutexInit args program v h = init_is IsSmall p rs args _ traps_small (λ o. tt)
known_small p types t halfway rs known.PthreadMutexLock args program v h = object_is IsSmall p rs args _ traps_small (λ o. tt)
known_small p types t halfway rs known.PthreadMutexTrylock args program v h = object_is IsSmall p rs args _ traps_small (λ o. tt)
known_small p types t halfway rs known.PthreadMutexUnlock args program v h = object_is IsSmall p rs args _ traps_small (λ o. tt)
known_small p types t halfway rs known.PthreadMutexDestroy args program v h = object_is IsSmall p rs args _ traps_small (λ o. tt)
known_small p types t halfway rs known.PthreadCondInit args program v h = init_is IsSmall p rs args _ traps_small (λ o. tt)
known_small p types t true rs known.PthreadCondWait args program v h = wait_is IsSmall p true rs args traps_small (λ c m. tt)
known_small p types t false rs known.PthreadCondWait args program v h = wait_is IsSmall p false rs args traps_small (λ c m. tt)
known_small p types t halfway rs known.PthreadCondSignal args program v h = object_is IsSmall p rs args _ traps_small (λ o. tt)
known_small p types t halfway rs known.PthreadCondBroadcast args program v h = object_is IsSmall p rs args _ traps_small (λ o. tt)
known_small p types t halfway rs known.PthreadCondDestroy args program v h = object_is IsSmall p rs args _ traps_small (λ o. tt)
known_small p types t halfway rs known.PthreadBarrierInit args program v h = barrier_init_is IsSmall p rs args traps_small (λ o n. tt)
known_small p types t true rs known.PthreadBarrierWait args program v h = object_is IsSmall p rs args _ traps_small (λ o. tt)
known_small p types t false rs known.PthreadBarrierWait args program v h = object_is IsSmall p rs args _ traps_small (λ o. tt)
known_small p types t halfway rs known.PthreadBarrierDestroy args program v h = object_is IsSmall p rs args _ traps_small (λ o. tt)

-- ---- operations

return_small : (p : NumberedProgram) (depth n : ℕ) → n < 2 ^ 64 → IsSmall (return_action depth n)
return_small p depth n h = either IsSmall (depth == 1) _ _ h tt

returned_small : (p : NumberedProgram) (types : List Scalar) (rs : List (Option ℕ)) (returns : Option Scalar) (v : Value) (n : ℕ) → IsProgram p → AreValuesOf types rs
    → FitsReturn p types returns (Some v) → operand p rs v ≡ Some n → n < 2 ^ 64
returned_small p types rs None v n program h t e = absurd t
returned_small p types rs (Some s) v n program h t e = typed_small p types rs s v n program h t e

returning_small : (p : NumberedProgram) (types : List Scalar) (rs : List (Option ℕ)) (returns : Option Scalar) (depth : ℕ) (v : Option Value) → IsProgram p → AreValuesOf types rs
    → FitsReturn p types returns v → IsSmall (returning_action p rs depth v)
returning_small p types rs returns depth None program h t = return_small p depth 0 (lit< tt)
returning_small p types rs returns depth (Some v) program h t = on_value_is IsSmall (operand p rs v) _ traps_small
    (λ n e. return_small p depth n (returned_small p types rs returns v n program h t e))

op_small : (p : NumberedProgram) (types : List Scalar) (rs : List (Option ℕ)) (returns result : Option Scalar) (r : ThreadMemory) (halfway : Bool) (depth used block : ℕ) (o : Op) → IsProgram p
    → AreValuesOf types rs → FitsOp p types returns result o → IsSmall (op_action p r halfway rs depth used block o)
op_small p types rs returns result r halfway depth used block (op.Divide d w a b) program h t =
    on_value_is IsSmall (operand p rs a) _ traps_small (λ m e. on_value_is IsSmall (operand p rs b) _ traps_small (λ n f. divided_is IsSmall (divided d w m n) traps_small tt))
op_small p types rs returns result r halfway depth used block (op.Phi from) program h t = tt
op_small p types rs returns result r halfway depth used block (op.Br to) program h t = edge_is IsSmall p rs block to.0 traps_small tt
op_small p types rs returns result r halfway depth used block (op.CondBr c a b) program h t =
    on_value_is IsSmall (operand p rs c) _ traps_small (λ n e. edge_is IsSmall p rs block (chosen n a.0 b.0) traps_small tt)
op_small p types rs returns result r halfway depth used block (op.Switch w on other cases) program h t =
    on_value_is IsSmall (operand p rs on) _ traps_small (λ n e. edge_is IsSmall p rs block (case_of cases other.0 n) traps_small tt)
op_small p types rs returns result r halfway depth used block (op.Call g args) program h t = on_all_is IsSmall p rs args _ traps_small (call_is IsSmall p g depth used traps_small tt)
op_small p types rs returns result r halfway depth used block (op.Ret v) program h t = returning_small p types rs returns depth v program h t.1
op_small p types rs returns result r halfway depth used block op.Unreachable program h t = tt
op_small p types rs returns result r halfway depth used block (op.Alloca bytes) program h t = room_is IsSmall (has_room r (granules_for bytes)) traps_small tt
op_small p types rs returns result r halfway depth used block (op.Load w from) program h t =
    on_value_is IsSmall (operand p rs from) _ traps_small (λ a e. on_place_is IsSmall a (bytes_of w) _ traps_small (λ q k. (w, k)))
op_small p types rs returns result r halfway depth used block (op.Store w v at) program h t =
    on_value_is IsSmall (operand p rs v) _ traps_small (λ n e.
    on_value_is IsSmall (operand p rs at) _ traps_small (λ a f.
    on_place_is IsSmall a (bytes_of w) _ traps_small (λ q k. tt)))
op_small p types rs returns result r halfway depth used block (op.CallLibrary k args) program h t = known_small p types r.thread halfway rs k args program h t.1
op_small p types rs returns result r halfway depth used block o program h t = on_all_is IsSmall p rs (operands_of o) _ traps_small tt

-- ---- the next action

instr_small : (p : NumberedProgram) (l : LocalState) (f : Frame) (fs : List Frame) (o : Option Instr) → IsProgram p → AreValuesOf (types_of p f.function) f.registers
    → slice_get p.instrs f.place ≡ o → StandsAt p f.function o → IsSmall (instr_action p l f fs o)
instr_small p l f fs None program h e s = tt
instr_small p l f fs (Some x) program h e s =
    let types = types_of p (function_of p x.block.0) in
    let values : AreValuesOf types f.registers = subst (λ (g : ℕ). AreValuesOf (types_of p g) f.registers) (sym s.0) h in
    op_small p types f.registers (result_of p (function_of p x.block.0)) (type_at types x.result) (own_memory l) l.halfway (length (f ∷ fs)) (total (f ∷ fs)) x.block.0 x.op program values
    (program.instrs f.place x e).op

frames_small : (p : NumberedProgram) (l : LocalState) (begun : Bool) (fs : List Frame) → IsProgram p → AreFramesOf p fs → IsSmall (frames_action p l begun fs)
frames_small p l begun [] program h = tt
frames_small p l false (f ∷ fs) program h = tt
frames_small p l true (f ∷ fs) program h = instr_small p l f fs (slice_get p.instrs f.place) program h.0.registers refl h.0.place

pub action_small : (p : NumberedProgram) (l : LocalState) → IsProgram p → IsOf p l → IsSmall (next p l)
unfolding IsOf next
action_small p l program h = frames_small p l l.begun l.frames program h.frames
