-- Allocations fit, and reads of the input.
use Rattle.std.proofs.Common.{◌≡◌, ℕ, ℤ, pos, negsuc, ◌+◌, ◌<◌, ◌%◌, ◌^◌, Bool, true, false, List, [], ◌∷◌, length, Option, Some, None, refl, sym, ap}
use Rattle.std.proofs.Common.{◌∙◌, subst, arith}
use Rattle.std.specs.Prelude.{slice_get, slice_index_or, if◌then◌else◌}
use Rattle.std.specs.List.{AllByRecursion as AllOf}
use Rattle.pg_num.specs.Numbers.{modulus, signed}
use Rattle.pg_num.specs.declared.width.Width.TheVariants.{W64}
use Rattle.pg_ir.specs.declared.instr.Op.{Op}
use Rattle.pg_ir.specs.declared.instr.Op.TheVariants as op
use Rattle.pg_ir.specs.declared.library_call.LibraryCall.{LibraryCall}
use Rattle.pg_ir.specs.declared.library_call.LibraryCall.TheVariants as known
use Rattle.pg_ir.specs.declared.request.TrapName.TheVariants as traps
use Rattle.pg_ir.specs.declared.value.Value.{Value}
use Rattle.pg_ir.specs.Program.{function_of, result_of, types_of}
use Rattle.pg_ir.specs.Signatures.{returned_by}
use Rattle.pg_ir.specs.WellFormed.{FitsOp, IsProgram, granules_for, type_at}
use Rattle.pg_precondition.specs.declared.check.Test.TheVariants as test
use Rattle.pg_precondition.specs.Values as nodes
use Rattle.pg_precondition.specs.Values.{is_met}
use Rattle.pg_law_threads.specs.Plans.{Fits}
use Rattle.pg_run_thread.specs.declared.action.Action.{Action}
use Rattle.pg_run_thread.specs.declared.action.Action.TheVariants as actions
use Rattle.pg_run_thread.specs.declared.thread_memory.ThreadMemory.{ThreadMemory}
use Rattle.pg_run_thread.specs.EdgeStep.{set_register}
use Rattle.pg_run_thread.specs.LocalState.{own_memory}
use Rattle.pg_run_thread.specs.Operands.{argument, first_four, given, operands_of}
use Rattle.pg_run_thread.specs.States.{CanStep}
use Rattle.pg_run_thread.specs.Step.{allocated, has_room, heap_with, on_value, pushed}
use Rattle.pg_run_thread.specs.Told.{op_own, or_zero}
use Rattle.pg_run_thread.proofs.Ranges.{residue_small}
use Rattle.pg_run_trace.specs.declared.step.Step.{Step}
use Rattle.pg_run_trace.specs.declared.step.StepKind.{StepKind}
use Rattle.pg_run_trace.specs.declared.step.StepKind.TheVariants as kinds
use Rattle.pg_run.specs.MachineStep.{op_told}
use Rattle.pg_run.specs.State.{State}
use Rattle.pg_law_effects.specs.Effect.{answer_to}
use Rattle.pg_slice_rules.specs.Known.{Taken, from_input, operand_at, result_in, set_symbolic}
use Rattle.pg_slice_rules.specs.Moments.{thread_in}
use Rattle.pg_slice_rules.specs.Rules.{Value as ValueNeed, is_malloc, kind_in, operand_of, value_needs, value_of}
use Rattle.pg_slice_rules.specs.SymbolicValues.{OnInput, Symbolic, always, valued}
use Rattle.pg_law_plan.specs.Likes.{AreLike, IsLike, like}
use Rattle.pg_law_plan.specs.Moves.{deed_moved}
use Rattle.pg_law_plan.specs.Units.{PlanUnit, ReferenceRun, deed_of, reference_of}
use Rattle.pg_law_plan.proofs.BranchFits.{act0_at, act_at, can0_at, can_at, eq_met, inner_at, kind_local, needs_here, number_known}
use Rattle.pg_law_plan.proofs.CallFits.{no_result}
use Rattle.pg_law_plan.proofs.ComputationFits.{frame_stepped}
use Rattle.pg_law_plan.proofs.StepChecks.{Holds, IsGood}
use Rattle.pg_law_plan.proofs.ThreadAtInstruction.{running}
use Rattle.pg_law_plan.proofs.LocalStepFits.{IsInner, Pair, answer, answer0}
use Rattle.pg_law_plan.proofs.LikeOperands.{argument_like, from_like, set_like, valued_like}
use Rattle.pg_law_plan.proofs.ComputedNumbers.{on_some, value_done}
use Rattle.pg_num.specs.Inputs.{input_at, number_or_zero}

room_done : (b : Bool) → CanStep (if b then actions.Local else actions.Trap traps.StackFull) → (if b then actions.Local else actions.Trap traps.StackFull) ≡ actions.Local
room_done true h = refl
room_done false h = absurd h

-- a register, if there is one, gets the number that is told
pub told_number : (input : List ℤ) (target : Option ℕ) (ks : List Symbolic) (vs : List (Option ℕ)) (number n : ℕ) → AreLike input ks vs → number ≡ n
    → AreLike input (set_symbolic target (always (or_zero target number)) ks) (set_register vs target (Some n))
told_number input None ks vs number n h e = h
told_number input (Some t) ks vs number n h e = set_like input (Some t) ks vs (always number) (Some n) h (valued_like input (λ i. Some number) (Some n) (ap Some (sym e)))

-- ---- the number of the input at an index

input_small : (input : List ℤ) (i : ℤ) → input_at input i < modulus W64
input_small input (pos i) = small (slice_get input i)
  where
    small : (o : Option ℤ) → number_or_zero o < modulus W64
    small None = Rattle.std.proofs.Common.lit< tt
    small (Some n) = residue_small W64 n
input_small input (negsuc i) = Rattle.std.proofs.Common.lit< tt

input_like : (input : List ℤ) (s : Symbolic) (n : ℕ) → IsLike input s (Some n) → IsLike input (from_input s) (Some (input_at input (signed W64 n) % modulus W64))
input_like input s n h = from_like input (s ∷ []) (Some n ∷ []) (λ gs. valued (λ i. nodes.with_one (slice_index_or (gs i) 0 None) (λ k. Some (input_at i (signed W64 k)))))
    (Some (input_at input (signed W64 n) % modulus W64)) (h, tt)
    (λ gs e. valued_like input (λ i. nodes.with_one (slice_index_or (gs i) 0 None) (λ k. Some (input_at i (signed W64 k)))) (Some (input_at input (signed W64 n) % modulus W64))
    (ap Some (whole (input_at input (signed W64 n)) (input_small input (signed W64 n)))
    ∙ ap (λ (l : List (Option ℕ)). nodes.with_one (slice_index_or l 0 None) (λ k. Some (input_at input (signed W64 k)))) (sym e)))
  where
    whole : (m : ℕ) → m < modulus W64 → m % modulus W64 ≡ m
    whole m l = omega arith

module _ (r : ReferenceRun) (d : Taken) (input : List ℤ) (program : IsProgram r.program) (u : PlanUnit) (st : State) (moves : ℕ → ℕ) (y : Step) (q : Pair r d input u st moves y) where
  abbrev r0 : ThreadMemory
  r0 = own_memory (running (thread_in u.seen.moment) q.both.h q.both.f0 q.both.fs0 q.both.n)

  abbrev r1 : ThreadMemory
  r1 = own_memory (running (thread_in u.seen.moment) q.both.h q.both.f q.both.fs q.both.n)

  same_region : r1 ≡ r0
  same_region = ap (λ (h : ℕ). record { thread = thread_in u.seen.moment; stack = h; heap = q.both.n }) q.both.top.height

  -- ---- the stack

  pub alloca_fits : (bytes : ℕ) → q.both.x.op ≡ op.Alloca bytes → Fits (like input) (deed_of d u) (deed_moved r.program input st moves y)
  alloca_fits bytes e =
      let p = r.program in
      let b = q.both in
      let local0 = act0_at r d input u st moves y q (op.Alloca bytes) e ∙ room_done (has_room r0 (granules_for bytes)) (can0_at r d input u st moves y q (op.Alloca bytes) e) in
      let local = act_at r d input u st moves y q (op.Alloca bytes) e ∙ room_done (has_room r1 (granules_for bytes)) (can_at r d input u st moves y q (op.Alloca bytes) e) in
      let kind : kind_in u.seen ≡ kinds.Allocation 0 (or_zero b.x.result (pushed r0 bytes)) = kind_local r d input u st moves y q local0 ∙ told e in
      inner_at r d input u st moves y q (op.Alloca bytes) e (subst IsInner (sym local0) tt) (subst IsInner (sym local) tt) refl (
        record {
          function = b.top.function;
          place = ap (λ (i : ℕ). i + 1) b.top.place;
          height = ap (λ (i : ℕ). i + granules_for bytes) b.top.height;
          registers = subst (λ (k : StepKind). AreLike input (set_symbolic b.x.result (always (result_in k)) b.ks) (set_register b.f.registers b.x.result (Some (pushed r1 bytes)))) (sym kind)
              (told_number input b.x.result b.ks b.f.registers (pushed r0 bytes) (pushed r1 bytes) b.top.registers (ap (λ (z : ThreadMemory). pushed z bytes) (sym same_region)));
        },
        b.rest,
      )
    where
      told : q.both.x.op ≡ op.Alloca bytes → op_told (first_four r.program q.both.f0.registers (operands_of q.both.x.op))
          (or_zero q.both.x.result (op_own r.program (running (thread_in u.seen.moment) q.both.h q.both.f0 q.both.fs0 q.both.n) q.both.f0.registers
          (answer0 r d input u st moves y q) q.both.x.op)) q.both.x.op ≡ kinds.Allocation 0 (or_zero q.both.x.result (pushed r0 bytes))
      told k = ap (λ (z : Op). op_told (first_four r.program q.both.f0.registers (operands_of z))
          (or_zero q.both.x.result (op_own r.program (running (thread_in u.seen.moment) q.both.h q.both.f0 q.both.fs0 q.both.n) q.both.f0.registers (answer0 r d input u st moves y q) z)) z) k

  -- ---- known functions that ask nothing of other threads

  first_done : (args : List Value) (rs : List (Option ℕ)) (act : ℕ → Action) → CanStep (on_value (argument r.program rs args 0) act)
      → (n : ℕ) × (argument r.program rs args 0 ≡ Some n) × (on_value (argument r.program rs args 0) act ≡ act n)
  first_done args rs act h = let v = value_done (argument r.program rs args 0) act h in (v.0, v.1, on_some (argument r.program rs args 0) v.0 act v.1)

  first_like : (args : List Value) → IsLike input (operand_at r.program q.both.ks (op.CallLibrary known.PgIn args) 0) (argument r.program q.both.f.registers args 0)
  first_like args = argument_like input r.program q.both.ks q.both.f.registers q.both.top.registers args 0

  fits_known : (k : LibraryCall) (args : List Value) → q.both.x.op ≡ op.CallLibrary k args
      → type_at (types_of r.program (function_of r.program q.both.x.block.0)) q.both.x.result ≡ returned_by k
  fits_known k args e = (subst
      (FitsOp r.program (types_of r.program (function_of r.program q.both.x.block.0)) (result_of r.program (function_of r.program q.both.x.block.0))
      (type_at (types_of r.program (function_of r.program q.both.x.block.0)) q.both.x.result)) e (program.instrs q.both.f.place q.both.x q.both.here.instr).op).0

  pub pg_in_fits : (args : List Value) → q.both.x.op ≡ op.CallLibrary known.PgIn args → Fits (like input) (deed_of d u) (deed_moved r.program input st moves y)
  pg_in_fits args e =
      let p = r.program in
      let b = q.both in
      let o = op.CallLibrary known.PgIn args in
      let v0 = first_done args b.f0.registers (λ n. actions.In (signed W64 n)) (can0_at r d input u st moves y q o e) in
      let v = first_done args b.f.registers (λ n. actions.In (signed W64 n)) (can_at r d input u st moves y q o e) in
      let act0 = act0_at r d input u st moves y q o e ∙ v0.2 in
      let act = act_at r d input u st moves y q o e ∙ v.2 in
      let a : answer r d input u st moves y q ≡ input_at input (signed W64 v.0) = ap (answer_to input st (thread_in u.seen.moment)) act in
      inner_at r d input u st moves y q o e (subst IsInner (sym act0) tt) (subst IsInner (sym act) tt) refl (
        frame_stepped input b.f0 b.f b.ks b.x.result (from_input (operand_at p b.ks b.x.op 0)) (answer0 r d input u st moves y q % modulus W64) (answer r d input u st moves y q % modulus W64) b.top
            (subst (λ (z : Op). IsLike input (from_input (operand_at p b.ks z 0)) (Some (answer r d input u st moves y q % modulus W64))) (sym e)
            (subst (λ (n : ℕ). IsLike input (from_input (operand_at p b.ks o 0)) (Some (n % modulus W64))) (sym a)
            (input_like input (operand_at p b.ks o 0) v.0 (subst (λ (m : Option ℕ). IsLike input (operand_at p b.ks o 0) m) v.1 (first_like args))))),
        b.rest,
      )

  pub pg_in_len_fits : (args : List Value) → length input < 2 ^ 64 → q.both.x.op ≡ op.CallLibrary known.PgInLen args → Fits (like input) (deed_of d u) (deed_moved r.program input st moves y)
  pg_in_len_fits args small e =
      let b = q.both in
      let o = op.CallLibrary known.PgInLen args in
      let act0 = act0_at r d input u st moves y q o e in
      let act = act_at r d input u st moves y q o e in
      let a : answer r d input u st moves y q ≡ length input = ap (answer_to input st (thread_in u.seen.moment)) act in
      inner_at r d input u st moves y q o e (subst IsInner (sym act0) tt) (subst IsInner (sym act) tt) refl (
        frame_stepped input b.f0 b.f b.ks b.x.result (valued (λ i. Some (length i))) (answer0 r d input u st moves y q % modulus W64) (answer r d input u st moves y q % modulus W64) b.top
            (valued_like input (λ i. Some (length i)) (Some (answer r d input u st moves y q % modulus W64)) (ap (λ (n : ℕ). Some (n % modulus W64)) a ∙ ap Some (whole (length input) small))),
        b.rest,
      )
    where
      whole : (m : ℕ) → m < 2 ^ 64 → m % modulus W64 ≡ m
      whole m l = omega arith

  pub free_fits : (args : List Value) → q.both.x.op ≡ op.CallLibrary known.Free args → Fits (like input) (deed_of d u) (deed_moved r.program input st moves y)
  free_fits args e =
      let p = r.program in
      let b = q.both in
      let o = op.CallLibrary known.Free args in
      let v0 = first_done args b.f0.registers (λ n. actions.Local) (can0_at r d input u st moves y q o e) in
      let v = first_done args b.f.registers (λ n. actions.Local) (can_at r d input u st moves y q o e) in
      let act0 = act0_at r d input u st moves y q o e ∙ v0.2 in
      let act = act_at r d input u st moves y q o e ∙ v.2 in
      let none = no_result (types_of p (function_of p b.x.block.0)) b.x.result (program.instrs b.f.place b.x b.here.instr).target (fits_known known.Free args e) in
      inner_at r d input u st moves y q o e (subst IsInner (sym act0) tt) (subst IsInner (sym act) tt) refl
      (record { function = b.top.function; place = ap (λ (i : ℕ). i + 1) b.top.place; height = b.top.height; registers = rw none b.top.registers }, b.rest)

  pub malloc_fits : IsGood (reference_of r) d input u.seen → (args : List Value) → q.both.x.op ≡ op.CallLibrary known.Malloc args
      → Fits (like input) (deed_of d u) (deed_moved r.program input st moves y)
  malloc_fits good args e =
      let p = r.program in
      let b = q.both in
      let o = op.CallLibrary known.Malloc args in
      let v0 = first_done args b.f0.registers (λ n. actions.Local) (can0_at r d input u st moves y q o e) in
      let v = first_done args b.f.registers (λ n. actions.Local) (can_at r d input u st moves y q o e) in
      let act0 = act0_at r d input u st moves y q o e ∙ v0.2 in
      let act = act_at r d input u st moves y q o e ∙ v.2 in
      let n0 = given (argument p b.f0.registers args 0) in
      let kind : kind_in u.seen ≡ kinds.Allocation n0 (or_zero b.x.result (allocated r0 n0)) = kind_local r d input u st moves y q act0 ∙ told e in
      let needs : value_needs (reference_of r) d u.seen ≡ ValueNeed (operand_of p u.seen b.x 0) (test.Eq n0 ∷ []) ∷ [] =
      needs_here r d input u st moves y q (kinds.Allocation n0 (or_zero b.x.result (allocated r0 n0))) kind
      ∙ ap (λ (z : Op). if is_malloc z then ValueNeed (operand_of p u.seen b.x 0) (test.Eq n0 ∷ []) ∷ [] else []) e in
      let h = (subst (AllOf (Holds input)) needs good.values).0 in
      let known : h.0 input ≡ Some v.0 = sym (size args e v.0 v.1 h.0 h.1) in
      let same : v.0 ≡ n0 = eq_met n0 v.0 (subst (λ (m : Option ℕ). is_met (test.Eq n0) m ≡ true) known h.2.0) in
      let number : given (argument p b.f.registers args 0) ≡ n0 = ap given v.1 ∙ same in
      inner_at r d input u st moves y q o e (subst IsInner (sym act0) tt) (subst IsInner (sym act) tt)
      (ap (heap_with r1) number ∙ ap (λ (z : ThreadMemory). heap_with z n0) same_region) (
        record {
          function = b.top.function;
          place = ap (λ (i : ℕ). i + 1) b.top.place;
          height = b.top.height;
          registers = subst (λ (k : StepKind). AreLike input (set_symbolic b.x.result (always (result_in k)) b.ks)
              (set_register b.f.registers b.x.result (Some (allocated r1 (given (argument p b.f.registers args 0)))))) (sym kind)
              (told_number input b.x.result b.ks b.f.registers (allocated r0 n0) (allocated r1 (given (argument p b.f.registers args 0))) b.top.registers
              (ap (λ (z : ThreadMemory). allocated z n0) (sym same_region) ∙ ap (allocated r1) (sym number)));
        },
        b.rest,
      )
    where
      told : q.both.x.op ≡ op.CallLibrary known.Malloc args → op_told (first_four r.program q.both.f0.registers (operands_of q.both.x.op))
          (or_zero q.both.x.result (op_own r.program (running (thread_in u.seen.moment) q.both.h q.both.f0 q.both.fs0 q.both.n) q.both.f0.registers
          (answer0 r d input u st moves y q) q.both.x.op)) q.both.x.op
          ≡ kinds.Allocation (given (argument r.program q.both.f0.registers args 0)) (or_zero q.both.x.result (allocated r0 (given (argument r.program q.both.f0.registers args 0))))
      told k = ap (λ (z : Op). op_told (first_four r.program q.both.f0.registers (operands_of z))
          (or_zero q.both.x.result (op_own r.program (running (thread_in u.seen.moment) q.both.h q.both.f0 q.both.fs0 q.both.n) q.both.f0.registers (answer0 r d input u st moves y q) z)) z) k

      size : (vs : List Value) → q.both.x.op ≡ op.CallLibrary known.Malloc vs → (n : ℕ) → argument r.program q.both.f.registers vs 0 ≡ Some n → (f : OnInput)
          → value_of (operand_of r.program u.seen q.both.x 0) ≡ Some f → Some n ≡ f input
      size [] k n a f g = absurd cc
      size (v ∷ vs) k n a f g = sym a ∙ number_known r d input u st moves y q (op.CallLibrary known.Malloc (v ∷ vs)) k 0 v refl f g
