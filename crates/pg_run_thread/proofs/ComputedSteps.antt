-- The step of an instruction that only computes, by what it computes.
use Rattle.std.proofs.Common.{◌≡◌, ℕ, ◌<◌, length, true, false, Some, None, refl, sym, ap, ◌∙◌}
use Rattle.std.specs.Prelude.{slice_get}
use Rattle.pg_ir.specs.declared.instr.Instr.{Instr}
use Rattle.pg_ir.specs.Program.{NumberedProgram}
use Rattle.pg_run_thread.specs.declared.action.Action.{Action}
use Rattle.pg_run_thread.specs.declared.action.Action.TheVariants as actions
use Rattle.pg_run_thread.specs.LocalState.{LocalState, own_memory}
use Rattle.pg_run_thread.specs.Operands.{argument, operands_of}
use Rattle.pg_run_thread.specs.Compute.{computed_if, computes}
use Rattle.pg_run_thread.specs.Step.{next, after, if_local, result_number, on_top, stepped, top_registers, total}
use Rattle.pg_run_thread.specs.Told.{id_of}
use Rattle.pg_run_thread.proofs.NextActions.{next_at}
use Rattle.pg_run_thread.proofs.StatesAfter.{after_at}
use Rattle.pg_run_thread.proofs.RegisterSteps.{straight_state}
use Rattle.pg_run_thread.proofs.OperationSteps.{tie, computes_straight}

local_some : (a : Action) (m n : ℕ) → if_local a m ≡ Some n → (a ≡ actions.Local) × (m ≡ n)
local_some actions.Local m n e = (refl, cc)
local_some a m n e = absurd cc

tie_at : (p : NumberedProgram) (l : LocalState) (x : Instr) (answer : ℕ) → l.begun ≡ true → 0 < length l.frames → slice_get p.instrs (id_of l) ≡ Some x → computes x.op ≡ true
    → computed_if x.op (argument p (top_registers l.frames) (operands_of x.op)) ≡ if_local (next p l) (result_number p (own_memory l) (top_registers l.frames) x.op answer)
tie_at p l x answer b g e h =
    tie p (own_memory l) l.halfway (top_registers l.frames) (length l.frames) (total l.frames) x.block.0 answer x.op h
    ∙ ap (λ (a : Action). if_local a (result_number p (own_memory l) (top_registers l.frames) x.op answer)) (sym (next_at p l x b g e))

pub computed_step : (p : NumberedProgram) (l : LocalState) (x : Instr) (n answer : ℕ) → l.begun ≡ true → 0 < length l.frames → slice_get p.instrs (id_of l) ≡ Some x
    → computes x.op ≡ true → computed_if x.op (argument p (top_registers l.frames) (operands_of x.op)) ≡ Some n
    → (next p l ≡ actions.Local) × (after p l answer ≡ record l { halfway = false; frames = on_top (λ f. stepped f x.result n) l.frames })
computed_step p l x n answer b g e h c =
    let both = local_some (next p l) (result_number p (own_memory l) (top_registers l.frames) x.op answer) n (sym (tie_at p l x answer b g e h) ∙ c) in
    (both.0, after_at p l x answer b g e ∙ sym (straight_state p l x answer n x.op (computes_straight x.op h) (sym both.1)))

pub not_computed : (p : NumberedProgram) (l : LocalState) (x : Instr) → l.begun ≡ true → 0 < length l.frames → slice_get p.instrs (id_of l) ≡ Some x → computes x.op ≡ true
    → computed_if x.op (argument p (top_registers l.frames) (operands_of x.op)) ≡ None → next p l ≡ actions.Local → ⊥
not_computed p l x b g e h c i =
    let same : None ≡ Some (result_number p (own_memory l) (top_registers l.frames) x.op 0) =
    sym c ∙ tie_at p l x 0 b g e h ∙ ap (λ (a : Action). if_local a (result_number p (own_memory l) (top_registers l.frames) x.op 0)) i in
    cc
