-- A step that only its thread's own state decides and sees is the machine's step.
use Rattle.std.proofs.Common.{◌≡◌, ℕ, ℤ, zero, suc, ◌<◌, ◌≤◌, ◌^◌, List, [], ◌∷◌, ◌++◌, length, Bool, true, false, Option, Some, None, Result, Ok, Err}
use Rattle.std.proofs.Common.{refl, sym, ◌∙◌, ap, subst, arith, length-append, append_assoc, append-nil}
use Rattle.std.specs.Prelude.{slice_get, slice_set, slice_index}
use Rattle.pg_run_trace.specs.pg_ir.declared.ids.InstrId.{InstrId}
use Rattle.pg_run_trace.specs.pg_ir.declared.library_call.LibraryCall.{LibraryCall}
use Rattle.pg_run_trace.specs.pg_ir.declared.library_call.LibraryCall.TheVariants as known
use Rattle.pg_run_trace.specs.pg_ir.declared.instr.Op.{Op}
use Rattle.pg_run_trace.specs.pg_ir.declared.instr.Op.TheVariants as op
use Rattle.pg_run_trace.specs.pg_ir.declared.instr.Instr.{Instr}
use Rattle.pg_run_trace.specs.pg_ir.Program.{NumberedProgram}
use Rattle.pg_run_trace.specs.pg_ir.WellFormed.{IsProgram}
use Rattle.pg_run_objects.specs.Sync as sync
use Rattle.pg_run_thread.specs.declared.action.Action.{Action}
use Rattle.pg_run_thread.specs.declared.action.Action.TheVariants as actions
use Rattle.pg_run_thread.specs.declared.advance.Advance.{Advance}
use Rattle.pg_run_thread.specs.declared.advance.Advance.TheVariants.{Done, Asks}
use Rattle.pg_run_thread.specs.declared.advance.LocalStep.{LocalStep}
use Rattle.pg_run_thread.specs.LocalState.{LocalState}
use Rattle.pg_run_thread.specs.Step.{next, after}
use Rattle.pg_run_thread.specs.Told.{id_of, number_given, operand_values}
use Rattle.pg_run_thread.specs.Advance.{advanced, done_if, instr_local, library_local, local_told, op_local}
use Rattle.pg_run_trace.specs.declared.step.Step.{Step}
use Rattle.pg_run_trace.specs.declared.step.StepKind.{StepKind}
use Rattle.pg_run_trace.specs.Recording.{Recording}
use Rattle.pg_run.specs.State.{State, instr_of, next_of}
use Rattle.pg_run.specs.MachineStep.{Answered, Did, answered, instr_told, kind_told, library_told, number_in, op_told, operands_in, ready, step, step_told, taken}
use Rattle.pg_run.specs.Machine.{IsMachine}
use Rattle.pg_run.specs.Went.{GoesOn, Went, WentRecorded, advance_in, kind_of, locals_advanced}
use Rattle.pg_run.specs.WithSteps.{with_steps}
use Rattle.pg_run.proofs.StepsBegin.{next_is}
use Rattle.pg_run.proofs.StatesAfterAnswers.{did_is, stands}

-- ---- what is told

known_kind : (ns : List ℕ) (number : ℕ) (k : LibraryCall) → kind_of (library_local (slice_index ns 0) number k) ≡ library_told ns number k
known_kind ns number known.Malloc = refl
known_kind ns number k = refl

op_kind : (ns : List ℕ) (number : ℕ) (o : Op) → kind_of (op_local (slice_index ns 0) number o) ≡ op_told ns number o
op_kind ns number (op.CondBr c a b) = refl
op_kind ns number (op.Switch w on other cases) = refl
op_kind ns number (op.Alloca bytes) = refl
op_kind ns number (op.CallLibrary k args) = known_kind ns number k
op_kind ns number o = refl

instr_kind : (ns : List ℕ) (number : ℕ) (o : Option Instr) → kind_of (instr_local (slice_index ns 0) number o) ≡ instr_told ns number o
instr_kind ns number None = refl
instr_kind ns number (Some x) = op_kind ns number x.op

local_kind : (p : NumberedProgram) (l : LocalState) → kind_of (local_told p l) ≡ instr_told (operand_values p l) (number_given p l 0) (slice_get p.instrs (id_of l))
unfolding local_told
local_kind p l = instr_kind (operand_values p l) (number_given p l 0) (slice_get p.instrs (id_of l))

-- ---- a thread that stays as it is

set_same : {X : Type 0} (xs : List X) (i : ℕ) (x : X) → slice_get xs i ≡ Some x → slice_set xs i x ≡ xs
set_same [] i x e = absurd cc
set_same (y ∷ ys) zero x e = let same : y ≡ x = cc in ap (λ z. z ∷ ys) (sym same)
set_same (y ∷ ys) (suc i) x e = ap (λ zs. y ∷ zs) (set_same ys i x e)

-- ---- by the thread's next action

module _ (p : NumberedProgram) (s : State) (t : ℕ) (program : IsProgram p) (h : IsMachine p s) (going : sync.over s.sync ≡ false) where
  module _ (l : LocalState) (e : slice_get s.locals t ≡ Some l) where
    at_next : (a : Action) → next p l ≡ a → next_of p s t ≡ a
    at_next a n = next_is p s t l e ∙ n

    then_ready : next p l ≡ actions.Local → ready p s t ≡ true
    unfolding ready
    then_ready n = rw (going, at_next actions.Local n) refl

    then_id : instr_of s t ≡ id_of l
    unfolding instr_of
    then_id = rw e refl

    then_taken_on : (input : List ℤ) → next p l ≡ actions.Local → Path Answered (record s { locals = slice_set s.locals t (after p l 0) }, Ok 0)
        (taken p s t (answered p input s t (next_of p s t)))
    unfolding answered
    then_taken_on input n = rw (at_next actions.Local n, e) refl

    then_answered : next p l ≡ actions.Local → Path Answered (answered p [] s t (next_of p s t)) (s, Ok 0)
    unfolding answered
    then_answered n = rw (at_next actions.Local n) refl

    then_kind : (gated : List InstrId) → next p l ≡ actions.Local → kind_of (local_told p l)
        ≡ kind_told gated p s t (operands_in p (slice_get s.locals t)) 0 (number_in p (slice_get s.locals t) 0) (next_of p s t)
    then_kind gated n = rw (at_next actions.Local n, e, then_id) (local_kind p l)

    then_told : (gated : List InstrId) → next p l ≡ actions.Local → Path Step (record { thread = record { 0 = t }; instr = record { 0 = instr_of s t }; kind = kind_of (local_told p l) })
        (step_told gated p s t 0)
    then_told gated n = ap (λ (k : StepKind). record { thread = record { 0 = t }; instr = record { 0 = instr_of s t }; kind = k }) (then_kind gated n)

    goes_by : (a : Action) → next p l ≡ a → GoesOn p s (record s { locals = slice_set s.locals t (done_if a l (after p l 0) (local_told p l)).0 }) t
        (done_if a l (after p l 0) (local_told p l)).1
    goes_by actions.Local n = record {
      next_is = at_next actions.Local n;
      ready_is = then_ready n;
      step_is = λ gated input. sym (did_is gated p input s (record s { locals = slice_set s.locals t (after p l 0) }) t 0 _ (Ok 0) (then_told gated n) (then_taken_on input n) refl);
    }
    goes_by a n = (sym (at_next a n), ap (λ (ls : List LocalState). record s { locals = ls }) (set_same s.locals t l e))

    stays_by : (a : Action) → next p l ≡ a → IsMachine p (record s { locals = slice_set s.locals t (done_if a l (after p l 0) (local_told p l)).0 })
    stays_by actions.Local n = rw e at (stands p [] s s t 0 program h (then_ready n) (omega arith) (then_answered n))
    stays_by a n = subst (λ (ls : List LocalState). IsMachine p (record s { locals = ls })) (sym (set_same s.locals t l e)) h

  ended : slice_get s.locals t ≡ None → actions.Ended ≡ next_of p s t
  unfolding next_of
  ended e = rw e refl

  pub goes_in : (o : Option LocalState) → slice_get s.locals t ≡ o → GoesOn p s (record s { locals = locals_advanced p s.locals t o }) t (advance_in p o)
  unfolding advanced
  goes_in None e = (ended e, refl)
  goes_in (Some l) e = goes_by l e (next p l) refl

  pub stays_in : (o : Option LocalState) → slice_get s.locals t ≡ o → IsMachine p (record s { locals = locals_advanced p s.locals t o })
  unfolding advanced
  stays_in None e = h
  stays_in (Some l) e = stays_by l e (next p l) refl

-- ---- into a recording

pub recorded_asks : (p : NumberedProgram) (s z : State) (t : ℕ) (records : Bool) (q : Recording) (x : Advance) (a : Action) → x ≡ Asks a → GoesOn p s z t x
    → WentRecorded p s z t records q q (Some a)
recorded_asks p s z t records q x a e g = let h : GoesOn p s z t (Asks a) = subst (GoesOn p s z t) e g in (h.0, h.1, refl)

pub recorded_done : (p : NumberedProgram) (s z : State) (t : ℕ) (records : Bool) (q r : Recording) (x : Advance) (d : LocalStep) (id : ℕ) (k : StepKind) → x ≡ Done d → GoesOn p s z t x
    → id ≡ instr_of s t → k ≡ kind_of d → r ≡ with_steps records q (record { thread = record { 0 = t }; instr = record { 0 = id }; kind = k } ∷ [])
    → WentRecorded p s z t records q r None
recorded_done p s z t records q r x d id k e g i m n =
    let h : GoesOn p s z t (Done d) = subst (GoesOn p s z t) e g in
    (d, h, rw (sym i, sym m) n)
