-- The state after an operation that only sets its register.
use Rattle.std.proofs.Common.{◌≡◌, ℕ, false, refl}
use Rattle.pg_ir.specs.declared.instr.Op.{Op}
use Rattle.pg_ir.specs.declared.instr.Op.TheVariants as op
use Rattle.pg_ir.specs.declared.instr.Instr.{Instr}
use Rattle.pg_ir.specs.Program.{NumberedProgram}
use Rattle.pg_run_thread.specs.LocalState.{LocalState, own_memory}
use Rattle.pg_run_thread.specs.Step.{result_number, on_top, stepped, top_registers, halfway_after, op_after, heap_after}
use Rattle.pg_run_thread.specs.Told.{op_own}
use Rattle.pg_run_thread.specs.Needs.{IsStraight}

-- what holds of these operations
pub record GoesStraight (p : NumberedProgram) (l : LocalState) (x : Instr) (answer : ℕ) (o : Op) : Type 0 where
  pub halfway : halfway_after l.halfway o ≡ false
  pub frames : op_after p l x answer o ≡ on_top (λ f. stepped f x.result (result_number p (own_memory l) (top_registers l.frames) o answer)) l.frames
  pub heap : heap_after p (own_memory l) (top_registers l.frames) o ≡ l.heap
  pub own : op_own p l (top_registers l.frames) answer o ≡ result_number p (own_memory l) (top_registers l.frames) o answer

pub goes_straight : (p : NumberedProgram) (l : LocalState) (x : Instr) (answer : ℕ) (o : Op) → IsStraight o → GoesStraight p l x answer o
goes_straight p l x answer (op.Br to) h = absurd h
goes_straight p l x answer (op.CondBr c a b) h = absurd h
goes_straight p l x answer (op.Switch w on other cases) h = absurd h
goes_straight p l x answer (op.Call g args) h = absurd h
goes_straight p l x answer (op.Ret v) h = absurd h
goes_straight p l x answer (op.Alloca bytes) h = absurd h
goes_straight p l x answer (op.CallLibrary k args) h = absurd h
goes_straight p l x answer o h = record { halfway = refl; frames = refl; heap = refl; own = refl }

pub straight_state : (p : NumberedProgram) (l : LocalState) (x : Instr) (answer n : ℕ) (o : Op) → IsStraight o → n ≡ result_number p (own_memory l) (top_registers l.frames) o answer
    → record l { halfway = false; frames = on_top (λ f. stepped f x.result n) l.frames }
    ≡ record l { halfway = halfway_after l.halfway o; frames = op_after p l x answer o; heap = heap_after p (own_memory l) (top_registers l.frames) o }
straight_state p l x answer n o h e = let g = goes_straight p l x answer o h in rw (g.halfway, g.frames, g.heap, e) refl
