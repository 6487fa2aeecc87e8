-- Each action of a program's thread is where its step's operands point to.
use Rattle.std.proofs.Common.{◌≡◌, ℕ, List, [], ◌∷◌, length, Bool, true, false, Option, Some, None, Result, Ok, Err, refl, sym, ◌∙◌, ap, subst}
use Rattle.std.specs.Prelude.{slice_get, slice_index, not, ◌==◌, if◌then◌else◌}
use Rattle.pg_run_trace.specs.pg_num.Numbers.{divided}
use Rattle.pg_run_trace.specs.pg_num.Places.{ByteRange}
use Rattle.pg_run_trace.specs.pg_num.Pointers.{byte_place, is_aligned, is_in_range, place_of}
use Rattle.pg_run_trace.specs.pg_num.declared.places.PlaceFault.{PlaceFault}
use Rattle.pg_run_trace.specs.pg_num.declared.places.PlaceFault.TheVariants as fault
use Rattle.pg_run_trace.specs.pg_ir.declared.library_call.LibraryCall.{LibraryCall}
use Rattle.pg_run_trace.specs.pg_ir.declared.library_call.LibraryCall.TheVariants as known
use Rattle.pg_run_trace.specs.pg_ir.declared.request.Request.TheVariants as requests
use Rattle.pg_run_trace.specs.pg_ir.declared.request.TrapName.TheVariants as traps
use Rattle.pg_run_trace.specs.pg_ir.declared.value.Value.{Value}
use Rattle.pg_run_trace.specs.pg_ir.declared.instr.Op.{Op}
use Rattle.pg_run_trace.specs.pg_ir.declared.instr.Op.TheVariants as op
use Rattle.pg_run_trace.specs.pg_ir.declared.instr.Instr.{Instr}
use Rattle.pg_run_trace.specs.pg_ir.Program.{NumberedProgram}
use Rattle.pg_run_trace.specs.pg_ir.WellFormed.{granules_for}
use Rattle.pg_run_thread.specs.declared.action.Action.{Action}
use Rattle.pg_run_thread.specs.declared.action.Action.TheVariants as actions
use Rattle.pg_run_thread.specs.declared.thread_memory.ThreadMemory.{ThreadMemory}
use Rattle.pg_run_thread.specs.LocalState.{Frame, LocalState, own_memory}
use Rattle.pg_run_thread.specs.Operands.{argument, first_four, given, operand, operands_of}
use Rattle.pg_run_thread.specs.Compute.{chosen}
use Rattle.pg_run_thread.specs.EdgeStep.{case_of}
use Rattle.pg_run_thread.specs.Step.{bytes_of, frames_action, has_room, instr_action, join_at, library_action, next, on_place, op_action, placed, return_action, returning_action, total}
use Rattle.pg_run_thread.specs.Told.{frames_operands, operand_values}
use Rattle.pg_run.specs.MachineStep.{operands_in}
use Rattle.pg_run.specs.Named.{IsNamed}
use Rattle.pg_run.specs.State.{State, action_in, next_of}
use Rattle.pg_run.proofs.Actions.{OfTraps, on_value_is, on_all_is, on_null_is, number_is, object_is, init_is, barrier_init_is, wait_is, either, edge_is, call_is, divided_is, room_is}

-- ---- where a place is found

found_by : (Q : Action → Type 0) (word bytes : ℕ) (act : ByteRange → Action) (o : Result ByteRange PlaceFault) → place_of word bytes ≡ o → OfTraps Q
    → ((r : ByteRange) → place_of word bytes ≡ Ok r → Q (act r)) → Q (placed o act)
found_by Q word bytes act (Ok r) e t h = h r e
found_by Q word bytes act (Err fault.OutOfRange) e t h = t traps.OutOfRange
found_by Q word bytes act (Err fault.Misaligned) e t h = t traps.Misaligned

on_place_found : (Q : Action → Type 0) (word bytes : ℕ) (act : ByteRange → Action) → OfTraps Q → ((r : ByteRange) → place_of word bytes ≡ Ok r → Q (act r))
    → Q (on_place word bytes act)
on_place_found Q word bytes act t h = found_by Q word bytes act (place_of word bytes) refl t h

-- a place that is found has the bytes that it was asked for
sized_by : (word bytes : ℕ) (r : ByteRange) (a b : Bool)
    → (if not a then Err fault.OutOfRange else if not b then Err fault.Misaligned else Ok (record { start = byte_place word; bytes = bytes })) ≡ Ok r
    → record { start = byte_place word; bytes = bytes } ≡ r
sized_by word bytes r true true e = cc
sized_by word bytes r true false e = absurd cc
sized_by word bytes r false b e = absurd cc

pub place_is : (word bytes : ℕ) (r : ByteRange) → place_of word bytes ≡ Ok r → record { start = byte_place word; bytes = bytes } ≡ r
place_is word bytes r e = sized_by word bytes r (is_in_range word bytes) (is_aligned word bytes) e

-- ---- accesses

sized : (word bytes : ℕ) (r : ByteRange) → place_of word bytes ≡ Ok r → place_of word r.bytes ≡ Ok r
sized word bytes r e = subst (λ (n : ℕ). place_of word n ≡ Ok r) (ap (λ (q : ByteRange). q.bytes) (place_is word bytes r e)) e

word_is : (o : Option ℕ) (word bytes : ℕ) (r : ByteRange) → o ≡ Some word → place_of word bytes ≡ Ok r → place_of (given o) bytes ≡ Ok r
word_is o word bytes r e h = subst (λ (q : Option ℕ). place_of (given q) bytes ≡ Ok r) (sym e) h

load_named : (p : NumberedProgram) (rs : List (Option ℕ)) (bytes a : ℕ) (from : Value) (r : ByteRange) → operand p rs from ≡ Some a → place_of a bytes ≡ Ok r
    → place_of (given (operand p rs from)) r.bytes ≡ Ok r
load_named p rs bytes a from r e h = word_is (operand p rs from) a r.bytes r e (sized a bytes r h)

-- ---- calls of known functions

join_named : (ns : List ℕ) (o : Option ℕ) (target w : ℕ) → slice_index ns 1 ≡ given o → o ≡ Some w → IsNamed ns (join_at target w)
join_named ns o target w n e = either (IsNamed ns) (w == 0) _ _ tt (on_place_found (IsNamed ns) w 8 _ (λ k. tt) (λ r h. subst (λ (k : ℕ). place_of k 8 ≡ Ok r) (sym n) (word_is o w 8 r e h)))

known_named : (p : NumberedProgram) (t : ℕ) (halfway : Bool) (rs : List (Option ℕ)) (k : LibraryCall) (args : List Value) → IsNamed (first_four p rs args) (library_action p t halfway rs k args)
known_named p t halfway rs known.PgIn args = number_is (IsNamed (first_four p rs args)) p rs args _ (λ k. tt) (λ n. tt)
known_named p t halfway rs known.PgInLen args = tt
known_named p t halfway rs known.PgOut args = number_is (IsNamed (first_four p rs args)) p rs args _ (λ k. tt) (λ n. tt)
known_named p t halfway rs known.PgPrint args = number_is (IsNamed (first_four p rs args)) p rs args _ (λ k. tt) (λ n. tt)
known_named p t halfway rs known.Putchar args = number_is (IsNamed (first_four p rs args)) p rs args _ (λ k. tt) (λ n. tt)
known_named p t halfway rs known.Malloc args = number_is (IsNamed (first_four p rs args)) p rs args _ (λ k. tt) (λ n. tt)
known_named p t halfway rs known.Free args = number_is (IsNamed (first_four p rs args)) p rs args _ (λ k. tt) (λ n. tt)
known_named p t halfway rs known.PthreadCreate args =
    let Q = IsNamed (first_four p rs args) in
    on_value_is Q (argument p rs args 0) _ (λ k. tt) (λ w e.
    on_value_is Q (argument p rs args 1) _ (λ k. tt) (λ a e1.
    on_value_is Q (argument p rs args 2) _ (λ k. tt) (λ f e2.
    on_value_is Q (argument p rs args 3) _ (λ k. tt) (λ n e3.
    on_place_found Q w 8 _ (λ k. tt) (λ r h. on_null_is Q a _ (λ k. tt) (word_is (argument p rs args 0) w 8 r e h))))))
known_named p t halfway rs known.PthreadJoin args =
    let Q = IsNamed (first_four p rs args) in
    on_value_is Q (argument p rs args 0) _ (λ k. tt) (λ n e.
    on_value_is Q (argument p rs args 1) _ (λ k. tt) (λ w e1. join_named (first_four p rs args) (argument p rs args 1) n w refl e1))
known_named p t halfway rs known.PthreadExit args = number_is (IsNamed (first_four p rs args)) p rs args _ (λ k. tt) (λ n. tt)
known_named p t halfway rs known.PthreadMutexInit args = init_is (IsNamed (first_four p rs args)) p rs args _ (λ k. tt) (λ o. tt)
known_named p t halfway rs known.PthreadMutexLock args = object_is (IsNamed (first_four p rs args)) p rs args _ (λ k. tt) (λ o. tt)
known_named p t halfway rs known.PthreadMutexTrylock args = object_is (IsNamed (first_four p rs args)) p rs args _ (λ k. tt) (λ o. tt)
known_named p t halfway rs known.PthreadMutexUnlock args = object_is (IsNamed (first_four p rs args)) p rs args _ (λ k. tt) (λ o. tt)
known_named p t halfway rs known.PthreadMutexDestroy args = object_is (IsNamed (first_four p rs args)) p rs args _ (λ k. tt) (λ o. tt)
known_named p t halfway rs known.PthreadCondInit args = init_is (IsNamed (first_four p rs args)) p rs args _ (λ k. tt) (λ o. tt)
known_named p t true rs known.PthreadCondWait args = wait_is (IsNamed (first_four p rs args)) p true rs args (λ k. tt) (λ c m. tt)
known_named p t false rs known.PthreadCondWait args = wait_is (IsNamed (first_four p rs args)) p false rs args (λ k. tt) (λ c m. tt)
known_named p t halfway rs known.PthreadCondSignal args = object_is (IsNamed (first_four p rs args)) p rs args _ (λ k. tt) (λ o. tt)
known_named p t halfway rs known.PthreadCondBroadcast args = object_is (IsNamed (first_four p rs args)) p rs args _ (λ k. tt) (λ o. tt)
known_named p t halfway rs known.PthreadCondDestroy args = object_is (IsNamed (first_four p rs args)) p rs args _ (λ k. tt) (λ o. tt)
known_named p t halfway rs known.PthreadBarrierInit args = barrier_init_is (IsNamed (first_four p rs args)) p rs args (λ k. tt) (λ o n. tt)
known_named p t true rs known.PthreadBarrierWait args = object_is (IsNamed (first_four p rs args)) p rs args _ (λ k. tt) (λ o. tt)
known_named p t false rs known.PthreadBarrierWait args = object_is (IsNamed (first_four p rs args)) p rs args _ (λ k. tt) (λ o. tt)
known_named p t halfway rs known.PthreadBarrierDestroy args = object_is (IsNamed (first_four p rs args)) p rs args _ (λ k. tt) (λ o. tt)

-- ---- operations

returning_named : (p : NumberedProgram) (rs : List (Option ℕ)) (ns : List ℕ) (depth : ℕ) (v : Option Value) → IsNamed ns (returning_action p rs depth v)
returning_named p rs ns depth None = either (IsNamed ns) (depth == 1) _ _ tt tt
returning_named p rs ns depth (Some v) = on_value_is (IsNamed ns) (operand p rs v) _ (λ k. tt) (λ n e. either (IsNamed ns) (depth == 1) _ _ tt tt)

op_named : (p : NumberedProgram) (rs : List (Option ℕ)) (r : ThreadMemory) (halfway : Bool) (depth used block : ℕ) (o : Op)
    → IsNamed (first_four p rs (operands_of o)) (op_action p r halfway rs depth used block o)
op_named p rs r halfway depth used block (op.Divide d w a b) =
    let Q = IsNamed (first_four p rs (operands_of (op.Divide d w a b))) in
    on_value_is Q (operand p rs a) _ (λ k. tt) (λ m e. on_value_is Q (operand p rs b) _ (λ k. tt) (λ n f. divided_is Q (divided d w m n) (λ k. tt) tt))
op_named p rs r halfway depth used block (op.Phi from) = tt
op_named p rs r halfway depth used block (op.Br to) = edge_is (IsNamed (first_four p rs [])) p rs block to.0 (λ k. tt) tt
op_named p rs r halfway depth used block (op.CondBr c a b) =
    let Q = IsNamed (first_four p rs (c ∷ [])) in
    on_value_is Q (operand p rs c) _ (λ k. tt) (λ n e. edge_is Q p rs block (chosen n a.0 b.0) (λ k. tt) tt)
op_named p rs r halfway depth used block (op.Switch w on other cases) =
    let Q = IsNamed (first_four p rs (operands_of (op.Switch w on other cases))) in
    on_value_is Q (operand p rs on) _ (λ k. tt) (λ n e. edge_is Q p rs block (case_of cases other.0 n) (λ k. tt) tt)
op_named p rs r halfway depth used block (op.Call g args) =
    let Q = IsNamed (first_four p rs args) in
    on_all_is Q p rs args _ (λ k. tt) (call_is Q p g depth used (λ k. tt) tt)
op_named p rs r halfway depth used block (op.Ret v) = returning_named p rs (first_four p rs (operands_of (op.Ret v))) depth v
op_named p rs r halfway depth used block op.Unreachable = tt
op_named p rs r halfway depth used block (op.Alloca bytes) = room_is (IsNamed (first_four p rs [])) (has_room r (granules_for bytes)) (λ k. tt) tt
op_named p rs r halfway depth used block (op.Load w from) =
    let Q = IsNamed (first_four p rs (from ∷ [])) in
    on_value_is Q (operand p rs from) _ (λ k. tt) (λ a e. on_place_found Q a (bytes_of w) _ (λ k. tt) (λ q h. load_named p rs (bytes_of w) a from q e h))
op_named p rs r halfway depth used block (op.Store w v at) =
    let Q = IsNamed (first_four p rs (v ∷ at ∷ [])) in
    on_value_is Q (operand p rs v) _ (λ k. tt) (λ n e.
    on_value_is Q (operand p rs at) _ (λ k. tt) (λ a f.
    on_place_found Q a (bytes_of w) _ (λ k. tt) (λ q h. load_named p rs (bytes_of w) a at q f h)))
op_named p rs r halfway depth used block (op.CallLibrary k args) = known_named p r.thread halfway rs k args
op_named p rs r halfway depth used block o = on_all_is (IsNamed (first_four p rs (operands_of o))) p rs (operands_of o) _ (λ k. tt) tt

-- ---- the next action

instr_named : (p : NumberedProgram) (l : LocalState) (f : Frame) (fs : List Frame) (begun : Bool) (o : Option Instr) → begun ≡ true → slice_get p.instrs f.place ≡ o
    → IsNamed (frames_operands p begun (f ∷ fs)) (instr_action p l f fs o)
instr_named p l f fs true None b e = tt
instr_named p l f fs true (Some x) b e = rw e (op_named p f.registers (own_memory l) l.halfway (length (f ∷ fs)) (total (f ∷ fs)) x.block.0 x.op)
instr_named p l f fs false o b e = absurd cc

frames_named : (p : NumberedProgram) (l : LocalState) (begun : Bool) (fs : List Frame) → IsNamed (frames_operands p begun fs) (frames_action p l begun fs)
frames_named p l begun [] = tt
frames_named p l false (f ∷ fs) = tt
frames_named p l true (f ∷ fs) = instr_named p l f fs true (slice_get p.instrs f.place) refl refl

local_named : (p : NumberedProgram) (l : LocalState) → IsNamed (operand_values p l) (next p l)
unfolding next operand_values
local_named p l = frames_named p l l.begun l.frames

in_named : (p : NumberedProgram) (o : Option LocalState) → IsNamed (operands_in p o) (action_in p o)
in_named p None = tt
in_named p (Some l) = local_named p l

pub next_named : (p : NumberedProgram) (s : State) (t : ℕ) → IsNamed (operands_in p (slice_get s.locals t)) (next_of p s t)
unfolding next_of
next_named p s t = in_named p (slice_get s.locals t)
