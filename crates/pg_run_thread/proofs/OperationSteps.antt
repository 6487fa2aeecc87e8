-- What an operation computes ties its step: it is done where it computes a number, which its register gets.
use Rattle.std.proofs.Common.{◌≡◌, ℕ, List, [], ◌∷◌, length, map, Bool, true, false, Option, Some, None, refl, sym, ap, ◌∙◌}
use Rattle.std.specs.Prelude.{if◌then◌else◌, ◌&&◌, Result, Ok, Err}
use Rattle.pg_ir.specs.pg_num.declared.operations.DivideFault.{DivideFault}
use Rattle.pg_ir.specs.pg_num.declared.operations.DivideFault.TheVariants as divide
use Rattle.pg_ir.specs.pg_num.Numbers.{divided}
use Rattle.pg_ir.specs.pg_num.Pointers.{moved_by}
use Rattle.pg_ir.specs.declared.request.TrapName.TheVariants as traps
use Rattle.pg_ir.specs.declared.value.Index.{Index}
use Rattle.pg_ir.specs.declared.instr.Op.{Op}
use Rattle.pg_ir.specs.declared.instr.Op.TheVariants as op
use Rattle.pg_ir.specs.declared.instr.Instr.{Instr}
use Rattle.pg_ir.specs.Program.{NumberedProgram}
use Rattle.pg_run_thread.specs.declared.action.Action.{Action}
use Rattle.pg_run_thread.specs.declared.action.Action.TheVariants as actions
use Rattle.pg_run_thread.specs.declared.thread_memory.ThreadMemory.{ThreadMemory}
use Rattle.pg_run_thread.specs.LocalState.{LocalState, own_memory}
use Rattle.pg_run_thread.specs.Operands.{operand, argument, given, number_at, operands_of}
use Rattle.pg_run_thread.specs.Compute.{computed_if, computes, with_value, with_values, index_bytes, quotient_of, quotient_or_zero}
use Rattle.pg_run_thread.specs.EdgeStep.{is_set}
use Rattle.pg_run_thread.specs.Step.{if_local, on_value, are_set, divided_action, op_action, result_number, instr_after, on_top, stepped, top_registers, total}
use Rattle.pg_run_thread.specs.Needs.{moved_each, moved_each_if, IsStraight}
use Rattle.pg_run_thread.specs.declared.advance.Advance.TheVariants.{Done, Asks}
use Rattle.pg_run_thread.specs.declared.advance.LocalStep.{LocalStep}
use Rattle.pg_run_thread.specs.declared.advance.LocalStep.TheVariants as told
use Rattle.pg_run_thread.specs.Told.{or_zero, op_own}
use Rattle.pg_run_thread.specs.Advance.{done_if, instr_done, op_local}
use Rattle.pg_run_thread.proofs.RegisterSteps.{straight_state}
use Rattle.pg_run_thread.proofs.Computed.{along_operands, along_operands_if}

-- ---- by what operands have a value

one_tie : (u : Option ℕ) (f : ℕ → ℕ) → with_value u (λ n. Some (f n)) ≡ if_local (if is_set u && true then actions.Local else actions.Trap traps.Unset) (f (given u))
one_tie None f = refl
one_tie (Some n) f = refl

two_tie : (u v : Option ℕ) (f : ℕ → ℕ → ℕ) → with_values u v (λ m n. Some (f m n))
    ≡ if_local (if is_set u && (is_set v && true) then actions.Local else actions.Trap traps.Unset) (f (given u) (given v))
two_tie None v f = refl
two_tie (Some m) None f = refl
two_tie (Some m) (Some n) f = refl

three_tie : (t u v : Option ℕ) (f : ℕ → ℕ → ℕ → ℕ) → with_value t (λ k. with_values u v (λ m n. Some (f k m n)))
    ≡ if_local (if is_set t && (is_set u && (is_set v && true)) then actions.Local else actions.Trap traps.Unset) (f (given t) (given u) (given v))
three_tie None u v f = refl
three_tie (Some k) None v f = refl
three_tie (Some k) (Some m) None f = refl
three_tie (Some k) (Some m) (Some n) f = refl

quotient_tie : (r : Result ℕ DivideFault) → quotient_of r ≡ if_local (divided_action r) (quotient_or_zero r)
quotient_tie (Ok n) = refl
quotient_tie (Err divide.Zero) = refl
quotient_tie (Err divide.Overflow) = refl

divide_tie : (u v : Option ℕ) (f : ℕ → ℕ → Result ℕ DivideFault)
    → with_values u v (λ m n. quotient_of (f m n)) ≡ if_local (on_value u (λ m. on_value v (λ n. divided_action (f m n)))) (quotient_or_zero (f (given u) (given v)))
divide_tie None v f = refl
divide_tie (Some m) None f = refl
divide_tie (Some m) (Some n) f = quotient_tie (f m n)

moves_tie : (p : NumberedProgram) (rs : List (Option ℕ)) (word : ℕ) (is : List Index)
    → moved_each_if p rs word is ≡ if_local (if are_set p rs (map (λ (i : Index). i.value) is) then actions.Local else actions.Trap traps.Unset) (moved_each p rs word is)
moves_tie p rs word [] = refl
moves_tie p rs word (i ∷ is) = go (operand p rs i.value) (λ n. moves_tie p rs (moved_by word (index_bytes i i.scale n)) is)
  where
    go : (u : Option ℕ) → ((n : ℕ)
        → moved_each_if p rs (moved_by word (index_bytes i i.scale n)) is
        ≡ if_local (if are_set p rs (map (λ (j : Index). j.value) is) then actions.Local else actions.Trap traps.Unset) (moved_each p rs (moved_by word (index_bytes i i.scale n)) is))
        → with_value u (λ n. moved_each_if p rs (moved_by word (index_bytes i i.scale n)) is)
        ≡ if_local (if is_set u && are_set p rs (map (λ (j : Index). j.value) is) then actions.Local else actions.Trap traps.Unset)
        (moved_each p rs (moved_by word (index_bytes i i.scale (given u))) is)
    go None more = refl
    go (Some n) more = more n

gep_tie : (p : NumberedProgram) (rs : List (Option ℕ)) (u : Option ℕ) (is : List Index)
    → with_value u (λ word. moved_each_if p rs word is) ≡ if_local (if is_set u && are_set p rs (map (λ (i : Index). i.value) is) then actions.Local else actions.Trap traps.Unset)
    (moved_each p rs (given u) is)
gep_tie p rs None is = refl
gep_tie p rs (Some word) is = moves_tie p rs word is

with_value_same : (u : Option ℕ) (f g : ℕ → Option ℕ) → ((n : ℕ) → f n ≡ g n) → with_value u f ≡ with_value u g
with_value_same None f g h = refl
with_value_same (Some n) f g h = h n

-- ---- each operation

pub tie : (p : NumberedProgram) (r : ThreadMemory) (halfway : Bool) (rs : List (Option ℕ)) (depth used block answer : ℕ) (o : Op) → computes o ≡ true
    → computed_if o (argument p rs (operands_of o)) ≡ if_local (op_action p r halfway rs depth used block o) (result_number p r rs o answer)
tie p r halfway rs depth used block answer (op.Add w a b) h = two_tie (operand p rs a) (operand p rs b) _
tie p r halfway rs depth used block answer (op.Sub w a b) h = two_tie (operand p rs a) (operand p rs b) _
tie p r halfway rs depth used block answer (op.Mul w a b) h = two_tie (operand p rs a) (operand p rs b) _
tie p r halfway rs depth used block answer (op.Divide d w a b) h = divide_tie (operand p rs a) (operand p rs b) (divided d w)
tie p r halfway rs depth used block answer (op.Shift s w a b) h = two_tie (operand p rs a) (operand p rs b) _
tie p r halfway rs depth used block answer (op.Bits k w a b) h = two_tie (operand p rs a) (operand p rs b) _
tie p r halfway rs depth used block answer (op.Compare c w a b) h = two_tie (operand p rs a) (operand p rs b) _
tie p r halfway rs depth used block answer (op.Trunc from to v) h = one_tie (operand p rs v) _
tie p r halfway rs depth used block answer (op.Zext from to v) h = one_tie (operand p rs v) (λ n. n)
tie p r halfway rs depth used block answer (op.Sext from to v) h = one_tie (operand p rs v) _
tie p r halfway rs depth used block answer (op.PtrToInt from to v) h = one_tie (operand p rs v) _
tie p r halfway rs depth used block answer (op.IntToPtr from to v) h = one_tie (operand p rs v) (λ n. n)
tie p r halfway rs depth used block answer (op.Select c a b) h = three_tie (operand p rs c) (operand p rs a) (operand p rs b) _
tie p r halfway rs depth used block answer (op.Gep base indices) h =
    with_value_same (operand p rs base) _ _ (λ word. along_operands_if p rs word base indices)
    ∙ gep_tie p rs (operand p rs base) indices
    ∙ ap (if_local (op_action p r halfway rs depth used block (op.Gep base indices))) (sym (along_operands p rs (given (operand p rs base)) base indices))
tie p r halfway rs depth used block answer o h = absurd cc

-- ---- where an operation computes a number, the step is done with it; else it asks

local_some : (a : Action) (m n : ℕ) → if_local a m ≡ Some n → (a ≡ actions.Local) × (m ≡ n)
local_some actions.Local m n e = (refl, cc)
local_some a m n e = absurd cc

asked : (a : Action) (m : ℕ) (l next_l : LocalState) (t : LocalStep) → if_local a m ≡ None → done_if a l next_l t ≡ (l, Asks a)
asked actions.Local m l next_l t e = absurd cc
asked a m l next_l t e = refl

pub computes_straight : (o : Op) → computes o ≡ true → IsStraight o
computes_straight (op.Br to) h = absurd cc
computes_straight (op.CondBr c a b) h = absurd cc
computes_straight (op.Switch w on other cases) h = absurd cc
computes_straight (op.Call g args) h = absurd cc
computes_straight (op.Ret v) h = absurd cc
computes_straight (op.Alloca bytes) h = absurd cc
computes_straight (op.CallLibrary k args) h = absurd cc
computes_straight o h = tt

computes_told : (first number : ℕ) (o : Op) → computes o ≡ true → op_local first number o ≡ told.Other
computes_told first number (op.CondBr c a b) h = absurd cc
computes_told first number (op.Switch w on other cases) h = absurd cc
computes_told first number (op.Alloca bytes) h = absurd cc
computes_told first number (op.CallLibrary k args) h = absurd cc
computes_told first number o h = refl

module _ (p : NumberedProgram) (l : LocalState) (x : Instr) (h : computes x.op ≡ true) where
  -- the step's action
  abbrev pub action_at : Action
  action_at = op_action p (own_memory l) l.halfway (top_registers l.frames) (length l.frames) (total l.frames) x.block.0 x.op

  tie_here : computed_if x.op (argument p (top_registers l.frames) (operands_of x.op)) ≡ if_local action_at (result_number p (own_memory l) (top_registers l.frames) x.op 0)
  tie_here = tie p (own_memory l) l.halfway (top_registers l.frames) (length l.frames) (total l.frames) x.block.0 0 x.op h

  pub computes_done : (n : ℕ) → computed_if x.op (argument p (top_registers l.frames) (operands_of x.op)) ≡ Some n
      → instr_done p l x ≡ (record l { halfway = false; frames = on_top (λ f. stepped f x.result n) l.frames }, Done told.Other)
  computes_done n e =
      let rs = top_registers l.frames in
      let both = local_some action_at (result_number p (own_memory l) rs x.op 0) n (sym tie_here ∙ e) in
      let state : record l { halfway = false; frames = on_top (λ f. stepped f x.result n) l.frames } ≡ instr_after p l 0 (Some x) =
      straight_state p l x 0 n x.op (computes_straight x.op h) (sym both.1) in
      ap (λ (a : Action). done_if a l (instr_after p l 0 (Some x)) (op_local (number_at p rs (operands_of x.op) 0) (or_zero x.result (op_own p l rs 0 x.op)) x.op)) both.0
      ∙ ap (λ (t : LocalStep). (instr_after p l 0 (Some x), Done t)) (computes_told (number_at p rs (operands_of x.op) 0) (or_zero x.result (op_own p l rs 0 x.op)) x.op h)
      ∙ ap (λ (m : LocalState). (m, Done told.Other)) (sym state)

  pub computes_asks : computed_if x.op (argument p (top_registers l.frames) (operands_of x.op)) ≡ None → instr_done p l x ≡ (l, Asks action_at)
  computes_asks e = asked action_at (result_number p (own_memory l) (top_registers l.frames) x.op 0) l _ _ (sym tie_here ∙ e)
