-- A step that can be done has the room that it takes.
use Rattle.std.proofs.Common.{◌≡◌, ℕ, ◌+◌, ◌<◌, ◌≤◌, List, [], ◌∷◌, length, suc, Bool, true, false, Option, Some, None, IfSome, IsTrue, arith, refl, sym}
use Rattle.std.proofs.Common.{◌∙◌, ap, subst}
use Rattle.std.specs.Prelude.{slice_get, nat_le, if◌then◌else◌}
use Rattle.std.proofs.lemmas.Bool.Decides.{nat_tests}
use Rattle.std.proofs.lemmas.List.{length-take}
use Rattle.pg_ir.specs.pg_num.declared.limits.TheConstants.{CALL_DEPTH_LIMIT, THREAD_REGISTER_LIMIT, FUNCTION_REGISTER_LIMIT}
use Rattle.pg_ir.specs.declared.function.Function.{Function}
use Rattle.pg_ir.specs.declared.request.TrapName.TheVariants as traps
use Rattle.pg_ir.specs.declared.value.Scalar.{Scalar}
use Rattle.pg_ir.specs.declared.value.Value.{Value}
use Rattle.pg_ir.specs.declared.instr.Op.{Op}
use Rattle.pg_ir.specs.declared.instr.Op.TheVariants as op
use Rattle.pg_ir.specs.declared.instr.Instr.{Instr}
use Rattle.pg_ir.specs.Program.{NumberedProgram, types_of, types_in, function_of, result_of, parameter_count}
use Rattle.pg_ir.specs.WellFormed.{IsProgram, FitsOp, HaveTypes, parameter_types, type_at, granules_for}
use Rattle.pg_run_thread.specs.declared.action.Action.{Action}
use Rattle.pg_run_thread.specs.declared.action.Action.TheVariants as actions
use Rattle.pg_run_thread.specs.LocalState.{Frame, LocalState, own_memory}
use Rattle.pg_run_thread.specs.Step.{next, op_action, edge_action, on_value, are_set, call_action, has_room, total, top_registers, under_top}
use Rattle.pg_run_thread.specs.Told.{id_of}
use Rattle.pg_run_thread.specs.Compute.{chosen}
use Rattle.pg_run_thread.specs.Operands.{operand, given}
use Rattle.pg_run_thread.specs.EdgeStep.{have_values, case_of}
use Rattle.pg_ir.specs.Edges.{phis_of}
use Rattle.pg_run_thread.specs.States.{IsOf, AreFramesOf, AreValuesOf, StandsAt, WaitFor, CanStep}
use Rattle.pg_run_thread.specs.Needs.{CanDo, CanTake, CanCall, CallerFits, ResultFits}
use Rattle.pg_run_thread.proofs.Typed.{length_values}
use Rattle.pg_run_thread.proofs.NextActions.{next_at}

all_set : (t : Bool) (act : Action) → CanStep (if t then act else actions.Trap traps.Unset) → CanStep act
all_set true act h = h
all_set false act h = absurd h

call_room : (p : NumberedProgram) (g depth used : ℕ) → CanStep (call_action p g depth used) → (depth < CALL_DEPTH_LIMIT) × (used + length (types_of p g) ≤ THREAD_REGISTER_LIMIT)
unfolding call_action
call_room p g depth used h = go (nat_le CALL_DEPTH_LIMIT depth) (nat_le (used + length (types_of p g)) THREAD_REGISTER_LIMIT) refl refl h
  where
    go : (a b : Bool) → nat_le CALL_DEPTH_LIMIT depth ≡ a → nat_le (used + length (types_of p g)) THREAD_REGISTER_LIMIT ≡ b
        → CanStep (if a then actions.Trap traps.CallDepth else if b then actions.Local else actions.Trap traps.Registers)
        → (depth < CALL_DEPTH_LIMIT) × (used + length (types_of p g) ≤ THREAD_REGISTER_LIMIT)
    go true b e f h = absurd h
    go false false e f h = absurd h
    go false true e f h = (grind (arith, nat_tests), grind (arith, nat_tests))

stack_room : (t : Bool) → CanStep (if t then actions.Local else actions.Trap traps.StackFull) → IsTrue t
stack_room true h = refl
stack_room false h = absurd h

as_many : (p : NumberedProgram) (types ss : List Scalar) (vs : List Value) → HaveTypes p types ss vs → length vs ≡ length ss
as_many p types [] [] h = refl
as_many p types [] (v ∷ vs) h = absurd h
as_many p types (s ∷ ss) [] h = absurd h
as_many p types (s ∷ ss) (v ∷ vs) h = ap suc (as_many p types ss vs h.1)

few_in : (p : NumberedProgram) (f : ℕ) (o : Option Function) → IsProgram p → slice_get p.functions f ≡ o → length (types_in o) ≤ FUNCTION_REGISTER_LIMIT
few_in p f None program e = omega arith
few_in p f (Some x) program e = (program.functions f x e).few

pub few_registers : (p : NumberedProgram) (f : ℕ) → IsProgram p → length (types_of p f) ≤ FUNCTION_REGISTER_LIMIT
unfolding types_of
few_registers p f program = few_in p f (slice_get p.functions f) program refl

call_fits : (p : NumberedProgram) (l : LocalState) (types : List Scalar) (g block : ℕ) (args : List Value) → IsProgram p → g < length p.functions
    → HaveTypes p types (parameter_types p g) args → CanStep (call_action p g (length l.frames) (total l.frames)) → CanCall p l g args
call_fits p l types g block args program within h can =
    let r = call_room p g (length l.frames) (total l.frames) can in
    let k : length args ≡ length (parameter_types p g) = as_many p types (parameter_types p g) args h in
    let n : length args ≤ length (types_of p g) = omega (arith, k, length-take (parameter_count p g) (types_of p g)) in
    record { function = within; depth = r.0; room = r.1; args = n; few = omega (arith, n, few_registers p g program) }

result_fits : (p : NumberedProgram) (f : Frame) (o : Option Instr) → IsProgram p → slice_get p.instrs f.place ≡ o → StandsAt p f.function o
    → AreValuesOf (types_of p f.function) f.registers → ResultFits f.registers o
result_fits p f None program e s h = s
result_fits p f (Some x) program e s h =
    let count : length (types_of p (function_of p x.block.0)) ≡ length f.registers = ap (λ (n : ℕ). length (types_of p n)) s.0 ∙ sym (length_values (types_of p f.function) f.registers h) in
    subst (λ (n : ℕ). IfSome x.result (λ r. r < n)) count (program.instrs f.place x e).target

waiting_fits : (p : NumberedProgram) (g height : ℕ) (fs : List Frame) → IsProgram p → WaitFor p g height fs → CallerFits p fs
waiting_fits p g height [] program h = tt
waiting_fits p g height (f ∷ fs) program h = result_fits p f (slice_get p.instrs f.place) program refl h.0.place h.0.registers

caller_fits : (p : NumberedProgram) (fs : List Frame) → IsProgram p → AreFramesOf p fs → CallerFits p (under_top fs)
caller_fits p [] program h = tt
caller_fits p (f ∷ fs) program h = waiting_fits p f.function f.height fs program h.1

room_of_op : (p : NumberedProgram) (l : LocalState) (types : List Scalar) (returns result : Option Scalar) (block : ℕ) (o : Op) → IsProgram p → AreFramesOf p l.frames
    → FitsOp p types returns result o → CanStep (op_action p (own_memory l) l.halfway (top_registers l.frames) (length l.frames) (total l.frames) block o) → CanDo p l o
room_of_op p l types returns result block (op.Call g args) program h t can =
    call_fits p l types g block args program t.1 t.2 (all_set (are_set p (top_registers l.frames) args) (call_action p g (length l.frames) (total l.frames)) can)
room_of_op p l types returns result block (op.Ret v) program h t can = caller_fits p l.frames program h
room_of_op p l types returns result block (op.Alloca bytes) program h t can = stack_room (has_room (own_memory l) (granules_for bytes)) can
room_of_op p l types returns result block op.Unreachable program h t can = absurd can
room_of_op p l types returns result block o program h t can = tt

pub can_do : (p : NumberedProgram) (l : LocalState) (x : Instr) → IsProgram p → IsOf p l → l.begun ≡ true → 0 < length l.frames → slice_get p.instrs (id_of l) ≡ Some x
    → CanStep (next p l) → CanDo p l x.op
unfolding IsOf
can_do p l x program h b g e can =
    let types = types_of p (function_of p x.block.0) in
    room_of_op p l types (result_of p (function_of p x.block.0)) (type_at types x.result) x.block.0 x.op program h.frames (program.instrs (id_of l) x e).op (subst CanStep (next_at p l x b g e) can)

-- ---- a branch that can be done has a value for each phi

set_there : (t : Bool) → CanStep (if t then actions.Local else actions.Trap traps.Unset) → t ≡ true
set_there true h = refl
set_there false h = absurd h

edge_there : (p : NumberedProgram) (rs : List (Option ℕ)) (from to : ℕ) → CanStep (edge_action p rs from to) → have_values p rs from (phis_of p to) ≡ true
unfolding edge_action
edge_there p rs from to h = set_there (have_values p rs from (phis_of p to)) h

edge_given : (p : NumberedProgram) (rs : List (Option ℕ)) (from : ℕ) (o : Option ℕ) (to : ℕ → ℕ) → CanStep (on_value o (λ n. edge_action p rs from (to n)))
    → have_values p rs from (phis_of p (to (given o))) ≡ true
edge_given p rs from None to h = absurd h
edge_given p rs from (Some n) to h = edge_there p rs from (to n) h

take_of_op : (p : NumberedProgram) (l : LocalState) (block : ℕ) (o : Op) → CanStep (op_action p (own_memory l) l.halfway (top_registers l.frames) (length l.frames) (total l.frames) block o)
    → CanTake p l block o
take_of_op p l block (op.Br to) can = edge_there p (top_registers l.frames) block to.0 can
take_of_op p l block (op.CondBr c a b) can = edge_given p (top_registers l.frames) block (operand p (top_registers l.frames) c) (λ n. chosen n a.0 b.0) can
take_of_op p l block (op.Switch w on other cases) can = edge_given p (top_registers l.frames) block (operand p (top_registers l.frames) on) (λ n. case_of cases other.0 n) can
take_of_op p l block o can = tt

pub can_take : (p : NumberedProgram) (l : LocalState) (x : Instr) → l.begun ≡ true → 0 < length l.frames → slice_get p.instrs (id_of l) ≡ Some x → CanStep (next p l)
    → CanTake p l x.block.0 x.op
can_take p l x b g e can = take_of_op p l x.block.0 x.op (subst CanStep (next_at p l x b g e) can)
