-- What a thread that has begun does next, by its present instruction.
use Rattle.std.proofs.Common.{◌≡◌, ◌<◌, List, [], ◌∷◌, length, Bool, true, Some, ap, arith, ◌∙◌}
use Rattle.std.specs.Prelude.{slice_get}
use Rattle.pg_ir.specs.declared.instr.Instr.{Instr}
use Rattle.pg_ir.specs.Program.{NumberedProgram}
use Rattle.pg_run_thread.specs.LocalState.{Frame, LocalState, own_memory}
use Rattle.pg_run_thread.specs.Operands.{first_four, operands_of}
use Rattle.pg_run_thread.specs.Step.{next, op_action, instr_action, frames_action, top_registers, total}
use Rattle.pg_run_thread.specs.Told.{id_of, place_in, operand_values, frames_operands, instr_operands}
use Rattle.pg_run_thread.specs.States.{CanStep}

at_frames : (p : NumberedProgram) (l : LocalState) (fs : List Frame) (x : Instr) → 0 < length fs → slice_get p.instrs (place_in fs) ≡ Some x
    → frames_action p l true fs ≡ op_action p (own_memory l) l.halfway (top_registers fs) (length fs) (total fs) x.block.0 x.op
at_frames p l [] x g e = absurd (omega arith)
at_frames p l (f ∷ fs) x g e = ap (instr_action p l f fs) e

pub next_at : (p : NumberedProgram) (l : LocalState) (x : Instr) → l.begun ≡ true → 0 < length l.frames → slice_get p.instrs (id_of l) ≡ Some x
    → next p l ≡ op_action p (own_memory l) l.halfway (top_registers l.frames) (length l.frames) (total l.frames) x.block.0 x.op
unfolding next id_of
next_at p l x b g e = ap (λ (t : Bool). frames_action p l t l.frames) b ∙ at_frames p l l.frames x g e

operands_of_frames : (p : NumberedProgram) (fs : List Frame) (x : Instr) → 0 < length fs → slice_get p.instrs (place_in fs) ≡ Some x
    → frames_operands p true fs ≡ first_four p (top_registers fs) (operands_of x.op)
operands_of_frames p [] x g e = absurd (omega arith)
operands_of_frames p (f ∷ fs) x g e = ap (instr_operands p f.registers) e

pub operands_at : (p : NumberedProgram) (l : LocalState) (x : Instr) → l.begun ≡ true → 0 < length l.frames → slice_get p.instrs (id_of l) ≡ Some x
    → operand_values p l ≡ first_four p (top_registers l.frames) (operands_of x.op)
unfolding operand_values id_of
operands_at p l x b g e = ap (λ (t : Bool). frames_operands p t l.frames) b ∙ operands_of_frames p l.frames x g e

frames_go : (p : NumberedProgram) (l : LocalState) (begun : Bool) (fs : List Frame) → CanStep (frames_action p l begun fs) → 0 < length fs
frames_go p l begun [] h = absurd h
frames_go p l begun (f ∷ fs) h = omega arith

pub can_go : (p : NumberedProgram) (l : LocalState) → CanStep (next p l) → 0 < length l.frames
unfolding next
can_go p l h = frames_go p l l.begun l.frames h
