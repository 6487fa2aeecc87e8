-- A step in one piece, by the present instruction.
use Rattle.std.proofs.Common.{◌≡◌, ℕ, ◌<◌, List, [], ◌∷◌, length, Bool, true, false, Some, refl, sym, ap, ◌∙◌, subst, arith}
use Rattle.std.specs.Prelude.{slice_get, slice_index}
use Rattle.pg_ir.specs.declared.request.Request.TheVariants as requests
use Rattle.pg_ir.specs.declared.instr.Instr.{Instr}
use Rattle.pg_ir.specs.Program.{NumberedProgram}
use Rattle.pg_ir.specs.WellFormed.{IsProgram}
use Rattle.pg_run_thread.specs.declared.action.Action.{Action}
use Rattle.pg_run_thread.specs.declared.action.Action.TheVariants as actions
use Rattle.pg_run_thread.specs.declared.advance.Advance.{Advance}
use Rattle.pg_run_thread.specs.declared.advance.Advance.TheVariants.{Asks}
use Rattle.pg_run_thread.specs.declared.advance.LocalStep.{LocalStep}
use Rattle.pg_run_thread.specs.LocalState.{Frame, LocalState, own_memory}
use Rattle.pg_run_thread.specs.Operands.{number_at, operands_of}
use Rattle.pg_run_thread.specs.Step.{next, after, frames_action, instr_after, op_action, top_registers, total}
use Rattle.pg_run_thread.specs.Told.{id_of, number_given, operand_values, op_own, or_zero}
use Rattle.pg_run_thread.specs.States.{IsOf, CanStep}
use Rattle.pg_run_thread.specs.Advance.{advanced, done_if, instr_done, instr_local, op_local, local_told}
use Rattle.pg_run_thread.proofs.NextActions.{next_at, operands_at}
use Rattle.pg_run_thread.proofs.StatesAfter.{after_at, number_of}
use Rattle.pg_run_thread.proofs.StepsKeepStates.{still_of}

ended_action : (p : NumberedProgram) (l : LocalState) (fs : List Frame) → length fs ≡ 0 → frames_action p l l.begun fs ≡ actions.Ended
ended_action p l [] e = refl
ended_action p l (f ∷ fs) e = absurd (omega arith)

pub advanced_ended : (p : NumberedProgram) (l : LocalState) → length l.frames ≡ 0 → (l, Asks actions.Ended) ≡ advanced p l
unfolding advanced next
advanced_ended p l e = sym (ap (λ (a : Action). done_if a l (after p l 0) (local_told p l)) (ended_action p l l.frames e))

start_action : (p : NumberedProgram) (l : LocalState) (fs : List Frame) → 0 < length fs → frames_action p l false fs ≡ actions.Event requests.Start
start_action p l [] g = absurd (omega arith)
start_action p l (f ∷ fs) g = refl

pub advanced_start : (p : NumberedProgram) (l : LocalState) → 0 < length l.frames → l.begun ≡ false → (l, Asks (actions.Event requests.Start)) ≡ advanced p l
unfolding advanced next
advanced_start p l g b = sym (ap (λ (a : Action). done_if a l (after p l 0) (local_told p l)) (ap (λ (t : Bool). frames_action p l t l.frames) b ∙ start_action p l l.frames g))

told_at : (p : NumberedProgram) (l : LocalState) (x : Instr) → l.begun ≡ true → 0 < length l.frames → slice_get p.instrs (id_of l) ≡ Some x
    → local_told p l ≡ op_local (number_at p (top_registers l.frames) (operands_of x.op) 0) (or_zero x.result (op_own p l (top_registers l.frames) 0 x.op)) x.op
unfolding local_told
told_at p l x b g e =
    ap (instr_local (slice_index (operand_values p l) 0) (number_given p l 0)) e
    ∙ ap (λ (ns : List ℕ). op_local (slice_index ns 0) (number_given p l 0) x.op) (operands_at p l x b g e)
    ∙ ap (λ (n : ℕ). op_local (number_at p (top_registers l.frames) (operands_of x.op) 0) n x.op) (number_of p l x 0 b g e)

pub advanced_at : (p : NumberedProgram) (l : LocalState) (x : Instr) → l.begun ≡ true → 0 < length l.frames → slice_get p.instrs (id_of l) ≡ Some x → advanced p l ≡ instr_done p l x
unfolding advanced
advanced_at p l x b g e =
    ap (λ (a : Action). done_if a l (after p l 0) (local_told p l)) (next_at p l x b g e)
    ∙ ap (λ (m : LocalState). done_if (op_action p (own_memory l) l.halfway (top_registers l.frames) (length l.frames) (total l.frames) x.block.0 x.op) l m (local_told p l)) (after_at p l x 0 b g e)
    ∙ ap (λ (t : LocalStep). done_if (op_action p (own_memory l) l.halfway (top_registers l.frames) (length l.frames) (total l.frames) x.block.0 x.op) l (instr_after p l 0 (Some x)) t)
    (told_at p l x b g e)

done_of : (p : NumberedProgram) (l : LocalState) (t : LocalStep) (a : Action) → next p l ≡ a → IsProgram p → IsOf p l → IsOf p (done_if a l (after p l 0) t).0
done_of p l t actions.Local e program h = still_of p l 0 program h (subst CanStep (sym e) tt) (omega arith)
done_of p l t a e program h = h

pub advanced_of : (p : NumberedProgram) (l : LocalState) (q : LocalState × Advance) → IsProgram p → IsOf p l → q ≡ advanced p l → IsOf p q.0
unfolding advanced
advanced_of p l q program h e = subst (λ (r : LocalState × Advance). IsOf p r.0) (sym e) (done_of p l (local_told p l) (next p l) refl program h)
