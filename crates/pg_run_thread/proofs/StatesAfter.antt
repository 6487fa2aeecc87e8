-- The state after a step, and the number that is told of it.
use Rattle.std.proofs.Common.{◌≡◌, ℕ, ◌<◌, List, [], ◌∷◌, length, Bool, true, false, Some, refl, ap, arith, ◌∙◌}
use Rattle.std.specs.Prelude.{slice_get}
use Rattle.pg_ir.specs.declared.instr.Instr.{Instr}
use Rattle.pg_ir.specs.Program.{NumberedProgram, parameter_count}
use Rattle.pg_run_thread.specs.LocalState.{Frame, LocalState}
use Rattle.pg_run_thread.specs.Step.{after, frames_after, instr_after, top_registers, top_function, on_top, begun_registers}
use Rattle.pg_run_thread.specs.Told.{id_of, place_in, number_given, frames_own, instr_own, or_zero, op_own}

after_frames : (p : NumberedProgram) (l : LocalState) (fs : List Frame) (x : Instr) (answer : ℕ) → 0 < length fs → slice_get p.instrs (place_in fs) ≡ Some x
    → frames_after p l true fs answer ≡ instr_after p l answer (Some x)
after_frames p l [] x answer g e = absurd (omega arith)
after_frames p l (f ∷ fs) x answer g e = ap (instr_after p l answer) e

pub after_at : (p : NumberedProgram) (l : LocalState) (x : Instr) (answer : ℕ) → l.begun ≡ true → 0 < length l.frames → slice_get p.instrs (id_of l) ≡ Some x
    → after p l answer ≡ instr_after p l answer (Some x)
unfolding after id_of
after_at p l x answer b g e = ap (λ (t : Bool). frames_after p l t l.frames answer) b ∙ after_frames p l l.frames x answer g e

own_frames : (p : NumberedProgram) (l : LocalState) (fs : List Frame) (x : Instr) (answer : ℕ) → 0 < length fs → slice_get p.instrs (place_in fs) ≡ Some x
    → frames_own p l true fs answer ≡ or_zero x.result (op_own p l (top_registers fs) answer x.op)
own_frames p l [] x answer g e = absurd (omega arith)
own_frames p l (f ∷ fs) x answer g e = ap (instr_own p l f.registers answer) e

pub number_of : (p : NumberedProgram) (l : LocalState) (x : Instr) (answer : ℕ) → l.begun ≡ true → 0 < length l.frames → slice_get p.instrs (id_of l) ≡ Some x
    → number_given p l answer ≡ or_zero x.result (op_own p l (top_registers l.frames) answer x.op)
unfolding number_given id_of
number_of p l x answer b g e = ap (λ (t : Bool). frames_own p l t l.frames answer) b ∙ own_frames p l l.frames x answer g e

start_frames : (p : NumberedProgram) (l : LocalState) (fs : List Frame) (answer : ℕ) → 0 < length fs
    → frames_after p l false fs answer ≡ record l { begun = true; frames = on_top (λ f. record f { registers = begun_registers (parameter_count p (top_function fs)) f.registers answer }) fs }
start_frames p l [] answer g = absurd (omega arith)
start_frames p l (f ∷ fs) answer g = refl

pub after_start : (p : NumberedProgram) (l : LocalState) (answer : ℕ) → l.begun ≡ false → 0 < length l.frames
    → after p l answer ≡ record l { begun = true; frames = on_top (λ f. record f { registers = begun_registers (parameter_count p (top_function l.frames)) f.registers answer }) l.frames }
unfolding after
after_start p l answer b g = ap (λ (t : Bool). frames_after p l t l.frames answer) b ∙ start_frames p l l.frames answer g
