-- Computing instructions fit: operations, casts, select and getelementptr.
use Rattle.std.proofs.Common.{◌≡◌, ℕ, ℤ, ◌+◌, Bool, true, List, ◌∷◌, length, map, Option, Some, None, refl, sym, ap, ◌∙◌, subst, arith}
use Rattle.std.proofs.lemmas.Bool.{and_parts, true≢false}
use Rattle.pg_ir.specs.declared.instr.Instr.{Instr}
use Rattle.pg_ir.specs.declared.instr.Op.{Op}
use Rattle.pg_ir.specs.declared.instr.Op.TheVariants as op
use Rattle.pg_ir.specs.declared.value.Index.{Index}
use Rattle.pg_ir.specs.declared.value.Scalar.{Scalar}
use Rattle.pg_ir.specs.declared.value.Value.{Value}
use Rattle.pg_ir.specs.Program.{NumberedProgram, function_of, result_of as returned_of, types_of}
use Rattle.pg_ir.specs.WellFormed.{FitsOp, IsProgram, type_at}
use Rattle.pg_law_threads.specs.Plans.{Fits}
use Rattle.pg_run_thread.specs.declared.action.Action.TheVariants as actions
use Rattle.pg_run_thread.specs.declared.thread_memory.ThreadMemory.{ThreadMemory}
use Rattle.pg_run_thread.specs.Compute.{computed, computes}
use Rattle.pg_run_thread.specs.EdgeStep.{is_set}
use Rattle.pg_run_thread.specs.LocalState.{Frame, LocalState, own_memory}
use Rattle.pg_run_thread.specs.Needs.{IsStraight}
use Rattle.pg_run_thread.specs.Operands.{given, number_at, operand, operands_of}
use Rattle.pg_run_thread.specs.States.{AreFramesOf, AreValuesOf, CanStep, IsOf}
use Rattle.pg_run_thread.specs.Step.{are_set, heap_after, op_action, op_after, result_number, result_of_op, stepped, total}
use Rattle.pg_run_thread.proofs.PresentInstructions.{typed_registers}
use Rattle.pg_run_thread.proofs.RegisterSteps.{goes_straight}
use Rattle.pg_run_thread.proofs.OperationSteps.{computes_straight}
use Rattle.pg_run.specs.State.{State, next_of}
use Rattle.pg_run.proofs.StepsKeepStates.{all_at}
use Rattle.pg_law_effects.specs.Reached.{IsReached}
use Rattle.pg_slice_rules.specs.Freeable.{FreeRegion}
use Rattle.pg_slice_rules.specs.Known.{Taken, after_op, operand_at, operand_symbolics, set_symbolic}
use Rattle.pg_slice_rules.specs.Moments.{Moment, instr_in, thread_in}
use Rattle.pg_slice_rules.specs.SymbolicValues.{Symbolic, applied, moved, result_of, symbolic_of}
use Rattle.pg_law_plan.specs.Likes.{AreCallsLike, AreLike, IsCallLike, IsLike, like}
use Rattle.pg_law_plan.specs.Moves.{deed_moved}
use Rattle.pg_law_plan.specs.Units.{PlanUnit, ReferenceRun, deed_of}
use Rattle.pg_law_plan.proofs.ThreadAtInstruction.{Here, running}
use Rattle.pg_law_plan.proofs.LocalStepFits.{IsInner, Pair, act0_is, act_is, answer, answer0, can, can0, inner_fits, locals}
use Rattle.pg_law_plan.proofs.LikeOperands.{along_bounds, moved_like, operand_like, operands_like, result_like, set_like}
use Rattle.pg_law_plan.proofs.ComputedNumbers.{computes_number, if_done}

-- ---- the registers of a thread at an instruction have their types

pub state_of : (p : NumberedProgram) (l : LocalState) → IsOf p l → AreFramesOf p l.frames
unfolding IsOf
state_of p l h = h.frames

pub typed_here : (p : NumberedProgram) (s : State) (t : ℕ) (h : Bool) (f : Frame) (fs : List Frame) (n : ℕ) (x : Instr) → IsReached p s → Here p s t h f fs n x
    → AreValuesOf (types_of p (function_of p x.block.0)) f.registers
typed_here p s t h f fs n x reached here =
    typed_registers p (f ∷ fs) x (state_of p (running t h f fs n) (all_at (IsOf p) s.locals t (running t h f fs n) here.local reached.machine.of)) (omega arith) here.instr

-- ---- instructions that set their register and go on

pub frame_stepped : (input : List ℤ) (f0 f : Frame) (ks : List Symbolic) (target : Option ℕ) (s : Symbolic) (n0 n : ℕ) → IsCallLike input f0 ks f → IsLike input s (Some n)
    → IsCallLike input (stepped f0 target n0) (set_symbolic target s ks) (stepped f target n)
frame_stepped input f0 f ks target s n0 n h k = record {
  function = h.function;
  place = ap (λ (i : ℕ). i + 1) h.place;
  height = h.height;
  registers = set_like input target ks f.registers s (Some n) h.registers k;
}

module _ (r : ReferenceRun) (d : Taken) (input : List ℤ) (u : PlanUnit) (st : State) (moves : ℕ → ℕ) (y : Rattle.pg_run_trace.specs.declared.step.Step.Step) (q : Pair r d input u st moves y) where
  open locals r d input u st moves y q use {l0, l}

  pub straight_heap : IsStraight q.both.x.op → heap_after r.program (own_memory l) q.both.f.registers q.both.x.op ≡ heap_after r.program (own_memory l0) q.both.f0.registers q.both.x.op
  straight_heap g = (goes_straight r.program l q.both.x 0 q.both.x.op g).heap ∙ sym (goes_straight r.program l0 q.both.x 0 q.both.x.op g).heap

  pub straight_calls : (g : IsStraight q.both.x.op) (a0 a : ℕ) (s : Symbolic) → IsLike input s (Some (result_number r.program (own_memory l) q.both.f.registers q.both.x.op a)) →
      AreCallsLike input (op_after r.program l0 q.both.x a0 q.both.x.op) (set_symbolic q.both.x.result s q.both.ks ∷ q.both.more) (op_after r.program l q.both.x a q.both.x.op)
  straight_calls g a0 a s k = rw ((goes_straight r.program l0 q.both.x a0 q.both.x.op g).frames, (goes_straight r.program l q.both.x a q.both.x.op g).frames)
      ((frame_stepped input q.both.f0 q.both.f q.both.ks q.both.x.result s _ _ q.both.top k, q.both.rest))

-- ---- computing instructions

result_computed : (r : ThreadMemory) (o : Op) (n : ℕ → ℕ) (answer : ℕ) → computes o ≡ true → result_of_op r o n answer ≡ computed o n
result_computed r (op.Alloca bytes) n answer h = absurd cc
result_computed r (op.Load w from) n answer h = absurd cc
result_computed r (op.CallLibrary k args) n answer h = absurd cc
result_computed r o n answer h = refl

pub record Computed (p : NumberedProgram) (input : List ℤ) (pinned : Bool) (num : ℕ) (m : Moment) (region : Option FreeRegion) (res : ℕ) (x : Instr) (ks : List Symbolic)
    (more : List (List Symbolic)) (rs : List (Option ℕ)) : Type 0 where
  pub symbolic : Symbolic
  pub after : after_op p pinned num m region res x x.op (ks ∷ more) ≡ set_symbolic x.result symbolic ks ∷ more
  pub is_like : IsLike input symbolic (Some (computed x.op (number_at p rs (operands_of x.op))))

set_number : (o : Option ℕ) → is_set o ≡ true → o ≡ Some (given o)
set_number None h = absurd (true≢false (sym h))
set_number (Some n) h = refl

module _ (p : NumberedProgram) (input : List ℤ) (ks : List Symbolic) (rs : List (Option ℕ)) (like_rs : AreLike input ks rs) where
  number_like : (o : Op) → applied o (map (operand p rs) (operands_of o)) ≡ Some (computed o (number_at p rs (operands_of o)))
      → IsLike input (result_of o (operand_symbolics p ks o)) (Some (computed o (number_at p rs (operands_of o))))
  number_like o e = subst (λ (v : Option ℕ). IsLike input (result_of o (operand_symbolics p ks o)) v) e
      (result_like input o (operand_symbolics p ks o) (map (operand p rs) (operands_of o)) (operands_like input p ks rs like_rs (operands_of o)))

  module _ (pinned : Bool) (num : ℕ) (m : Moment) (region : Option FreeRegion) (res : ℕ) (x : Instr) (more : List (List Symbolic)) where
    abbrev Plain : Op → Type 0
    Plain o = after_op p pinned num m region res x o (ks ∷ more) ≡ set_symbolic x.result (result_of o (operand_symbolics p ks o)) ks ∷ more

    plain : (o : Op) → x.op ≡ o → Plain o → applied o (map (operand p rs) (operands_of o)) ≡ Some (computed o (number_at p rs (operands_of o)))
        → Computed p input pinned num m region res x ks more rs
    plain o e h k = record {
      symbolic = result_of o (operand_symbolics p ks o);
      after = ap (λ (z : Op). after_op p pinned num m region res x z (ks ∷ more)) e ∙ h;
      is_like = subst (λ (z : Op). IsLike input (result_of o (operand_symbolics p ks o)) (Some (computed z (number_at p rs (operands_of z))))) (sym e) (number_like o k);
    }

    pub computed_symbolic : (o : Op) → x.op ≡ o → computes o ≡ true → ((base : Value) (is : List Index) → o ≡ op.Gep base is → is_set (operand p rs base) ≡ true)
        → applied o (map (operand p rs) (operands_of o)) ≡ Some (computed o (number_at p rs (operands_of o))) → Computed p input pinned num m region res x ks more rs
    computed_symbolic (op.Add w a b) e c s k = plain (op.Add w a b) e refl k
    computed_symbolic (op.Sub w a b) e c s k = plain (op.Sub w a b) e refl k
    computed_symbolic (op.Mul w a b) e c s k = plain (op.Mul w a b) e refl k
    computed_symbolic (op.Divide z w a b) e c s k = plain (op.Divide z w a b) e refl k
    computed_symbolic (op.Shift z w a b) e c s k = plain (op.Shift z w a b) e refl k
    computed_symbolic (op.Bits z w a b) e c s k = plain (op.Bits z w a b) e refl k
    computed_symbolic (op.Compare z w a b) e c s k = plain (op.Compare z w a b) e refl k
    computed_symbolic (op.Trunc from to v) e c s k = plain (op.Trunc from to v) e refl k
    computed_symbolic (op.Zext from to v) e c s k = plain (op.Zext from to v) e refl k
    computed_symbolic (op.Sext from to v) e c s k = plain (op.Sext from to v) e refl k
    computed_symbolic (op.PtrToInt from to v) e c s k = plain (op.PtrToInt from to v) e refl k
    computed_symbolic (op.IntToPtr from to v) e c s k = plain (op.IntToPtr from to v) e refl k
    computed_symbolic (op.Select z a b) e c s k = plain (op.Select z a b) e refl k
    computed_symbolic (op.Gep base indices) e c s k = record {
      symbolic = moved (operand_at p ks (op.Gep base indices) 0) (result_of (op.Gep base indices) (operand_symbolics p ks (op.Gep base indices)));
      after = ap (λ (z : Op). after_op p pinned num m region res x z (ks ∷ more)) e
          ∙ ap (λ (z : Op). set_symbolic x.result (moved (operand_at p ks z 0) (result_of z (operand_symbolics p ks z))) ks ∷ more) e;
      is_like = subst (λ (z : Op). IsLike input (moved (operand_at p ks (op.Gep base indices) 0) (result_of (op.Gep base indices) (operand_symbolics p ks (op.Gep base indices))))
          (Some (computed z (number_at p rs (operands_of z))))) (sym e)
          (moved_like input (symbolic_of p ks base) (result_of (op.Gep base indices) (operand_symbolics p ks (op.Gep base indices))) (given (operand p rs base))
          (computed (op.Gep base indices) (number_at p rs (operands_of (op.Gep base indices))))
          (subst (λ (v : Option ℕ). IsLike input (symbolic_of p ks base) v) (set_number (operand p rs base) (s base indices refl)) (operand_like input p ks rs like_rs base))
          (number_like (op.Gep base indices) k)
          (along_bounds input (given (operand p rs base)) indices (number_at p rs (operands_of (op.Gep base indices))) 1));
    }
    computed_symbolic o e c s k = absurd cc

base_set : (p : NumberedProgram) (r : ThreadMemory) (h : Bool) (rs : List (Option ℕ)) (depth used block : ℕ) (o : Op) (base : Value) (is : List Index) → o ≡ op.Gep base is
    → CanStep (op_action p r h rs depth used block o) → is_set (operand p rs base) ≡ true
base_set p r h rs depth used block o base is e k =
    let j : CanStep (op_action p r h rs depth used block (op.Gep base is)) = subst (λ (z : Op). CanStep (op_action p r h rs depth used block z)) e k in
    (and_parts (is_set (operand p rs base)) (are_set p rs (map (λ (i : Index). i.value) is)) (if_done (are_set p rs (operands_of (op.Gep base is))) j)).0

-- a computing instruction
module _ (r : ReferenceRun) (d : Taken) (input : List ℤ) (program : IsProgram r.program) (u : PlanUnit) (st : State) (moves : ℕ → ℕ) (y : Rattle.pg_run_trace.specs.declared.step.Step.Step)
    (q : Pair r d input u st moves y) where
  abbrev types : List Scalar
  types = types_of r.program (function_of r.program q.both.x.block.0)

  fits_op : FitsOp r.program types (returned_of r.program (function_of r.program q.both.x.block.0)) (type_at types q.both.x.result) q.both.x.op
  fits_op = (program.instrs q.both.f.place q.both.x q.both.here.instr).op

  pub computing_fits : computes q.both.x.op ≡ true → Fits (like input) (deed_of d u) (deed_moved r.program input st moves y)
  computing_fits c =
      let p = r.program in
      let t = thread_in u.seen.moment in
      let b = q.both in
      let returns = returned_of p (function_of p b.x.block.0) in
      let typed = typed_here p st t b.h b.f b.fs b.n b.x q.reached b.here in
      let typed0 = typed_here p u.state t b.h b.f0 b.fs0 b.n b.x q.unit.met.reached b.here0 in
      let k = computes_number p program types b.f.registers typed returns (type_at types b.x.result) (own_memory (running t b.h b.f b.fs b.n)) b.h (length (b.f ∷ b.fs))
      (total (b.f ∷ b.fs)) b.x.block.0 b.x.op fits_op c (can r d input u st moves y q) in
      let k0 = computes_number p program types b.f0.registers typed0 returns (type_at types b.x.result) (own_memory (running t b.h b.f0 b.fs0 b.n)) b.h (length (b.f0 ∷ b.fs0))
      (total (b.f0 ∷ b.fs0)) b.x.block.0 b.x.op fits_op c (can0 r d input u st moves y q) in
      let local : next_of p st t ≡ actions.Local = act_is r d input u st moves y q ∙ k.0 in
      let local0 : next_of p u.state t ≡ actions.Local = act0_is r d input u st moves y q ∙ k0.0 in
      let s = computed_symbolic p input b.ks b.f.registers b.top.registers (d.pinned u.seen.number) u.seen.number u.seen.moment
      (Rattle.pg_slice_rules.specs.Known.region_of p r.regions u.seen.moment (instr_in p u.seen.moment))
      (Rattle.pg_slice_rules.specs.Known.result_in (Rattle.pg_slice_rules.specs.Rules.kind_in u.seen)) b.x b.more b.x.op refl c
      (λ base is e. base_set p (own_memory (running t b.h b.f b.fs b.n)) b.h b.f.registers (length (b.f ∷ b.fs)) (total (b.f ∷ b.fs)) b.x.block.0 b.x.op base is e
      (can r d input u st moves y q)) k.1 in
      let g = computes_straight b.x.op c in
      inner_fits r d input u st moves y q (subst IsInner (sym local0) tt) (subst IsInner (sym local) tt) (straight_heap r d input u st moves y q g)
      (subst (λ (z : List (List Symbolic)). AreCallsLike input (op_after p (running t b.h b.f0 b.fs0 b.n) b.x (answer0 r d input u st moves y q) b.x.op) z
      (op_after p (running t b.h b.f b.fs b.n) b.x (answer r d input u st moves y q) b.x.op)) (sym s.after)
      (straight_calls r d input u st moves y q g (answer0 r d input u st moves y q) (answer r d input u st moves y q) s.symbolic
      (subst (λ (v : ℕ). IsLike input s.symbolic (Some v))
      (sym (result_computed (own_memory (running t b.h b.f b.fs b.n)) b.x.op (number_at p b.f.registers (operands_of b.x.op)) (answer r d input u st moves y q) c)) s.is_like)))
