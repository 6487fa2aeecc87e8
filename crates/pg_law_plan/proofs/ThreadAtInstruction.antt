-- A thread that has begun at an instruction, and its step.
use Rattle.std.proofs.Common.{◌≡◌, ℕ, ℤ, Bool, true, List, ◌∷◌, length, Option, Some, Ok, Err, refl, ap, ◌∙◌}
use Rattle.std.specs.Prelude.{slice_get}
use Rattle.pg_ir.specs.declared.ids.InstrId.{InstrId}
use Rattle.pg_ir.specs.declared.instr.Instr.{Instr}
use Rattle.pg_ir.specs.Program.{NumberedProgram}
use Rattle.pg_run_thread.specs.LocalState.{Frame, LocalState, own_memory}
use Rattle.pg_run_thread.specs.Operands.{first_four, operands_of}
use Rattle.pg_run_thread.specs.States.{CanStep}
use Rattle.pg_run_thread.specs.Step.{after, instr_after, next, op_action, total}
use Rattle.pg_run_thread.specs.Told.{id_of, number_given, op_own, operand_values, or_zero}
use Rattle.pg_run_trace.specs.declared.step.Step.{Step}
use Rattle.pg_run.specs.MachineStep.{Answered, Did, answered, number_in, operands_in, settled, step, step_told, taken}
use Rattle.pg_run.specs.Runs.{Takes}
use Rattle.pg_run.specs.State.{State, action_in, id_in, instr_of, next_of}
use Rattle.pg_run.proofs.StepsBegin.{ready_acts}
use Rattle.pg_law_effects.specs.Effect.{answer_to, own_after}
use Rattle.pg_law_effects.proofs.StepEffects.{answered_is}
use Rattle.pg_law_effects.proofs.ThreadLimits.{did_allowed}
use Rattle.pg_law_effects.proofs.ReachedStates.{can_by}

-- a thread that has begun and hasn't ended
abbrev pub running : ℕ → Bool → Frame → List Frame → ℕ → LocalState
running t h f fs n = record { thread = t; begun = true; halfway = h; frames = f ∷ fs; heap = n }

-- ---- what is told of a step

told_by : (gated : List InstrId) (p : NumberedProgram) (s z : State) (t : ℕ) (x : Step) (a : Answered) (n : ℕ) → ((w : State) (m : ℕ) → a ≡ (w, Ok m) → m ≡ n)
    → settled gated p s t (taken p s t a) ≡ Did x z → x ≡ step_told gated p s t n
told_by gated p s z t x (w, Err name) n h e = absurd cc
told_by gated p s z t x (w, Ok m) n h e = let q : x ≡ step_told gated p s t m = cc in q ∙ ap (step_told gated p s t) (h w m refl)

pub told_is : (gated : List InstrId) (p : NumberedProgram) (input : List ℤ) (s z : State) (t : ℕ) (x : Step) → step gated p input s t ≡ Did x z
    → x ≡ step_told gated p s t (answer_to input s t (next_of p s t))
unfolding step
told_is gated p input s z t x e = told_by gated p s z t x (answered p input s t (next_of p s t)) (answer_to input s t (next_of p s t)) (λ w m q. (answered_is p input s w t m (next_of p s t) q).1) e

pub can_step : (gated : List InstrId) (p : NumberedProgram) (input : List ℤ) (s : State) (x : Step) → Takes gated p input s x → CanStep (next_of p s x.thread.0)
can_step gated p input s x h = can_by s x.thread.0 (next_of p s x.thread.0) (did_allowed gated p input s h.after x.thread.0 x h.is_step) (ready_acts p s x.thread.0 h.is_ready)

-- ---- at an instruction

pub record Here (p : NumberedProgram) (s : State) (t : ℕ) (h : Bool) (f : Frame) (fs : List Frame) (n : ℕ) (x : Instr) : Type 0 where
  pub local : slice_get s.locals t ≡ Some (running t h f fs n)
  pub instr : slice_get p.instrs f.place ≡ Some x

module _ (p : NumberedProgram) (s : State) (t : ℕ) (h : Bool) (f : Frame) (fs : List Frame) (n : ℕ) (x : Instr) (here : Here p s t h f fs n x) where
  abbrev l : LocalState
  l = running t h f fs n

  next_at : next p l ≡ op_action p (own_memory l) h f.registers (length (f ∷ fs)) (total (f ∷ fs)) x.block.0 x.op
  unfolding next
  next_at = rw here.instr refl

  pub next_here : next_of p s t ≡ op_action p (own_memory (running t h f fs n)) h f.registers (length (f ∷ fs)) (total (f ∷ fs)) x.block.0 x.op
  unfolding next_of
  next_here = ap (action_in p) here.local ∙ next_at

  after_at : (a : ℕ) → after p l a ≡ instr_after p l a (Some x)
  unfolding after
  after_at a = ap (instr_after p l a) here.instr

  pub after_here : (a : ℕ) → own_after p a (slice_get s.locals t) ≡ Some (instr_after p (running t h f fs n) a (Some x))
  after_here a = ap (own_after p a) here.local ∙ ap (λ (k : LocalState). Some k) (after_at a)

  operands_at : operand_values p l ≡ first_four p f.registers (operands_of x.op)
  unfolding operand_values
  operands_at = rw here.instr refl

  pub operands_here : operands_in p (slice_get s.locals t) ≡ first_four p f.registers (operands_of x.op)
  operands_here = ap (operands_in p) here.local ∙ operands_at

  number_at : (a : ℕ) → number_given p l a ≡ or_zero x.result (op_own p l f.registers a x.op)
  unfolding number_given
  number_at a = rw here.instr refl

  pub number_here : (a : ℕ) → number_in p (slice_get s.locals t) a ≡ or_zero x.result (op_own p (running t h f fs n) f.registers a x.op)
  number_here a = ap (λ (o : Option LocalState). number_in p o a) here.local ∙ number_at a

  place_at : id_of l ≡ f.place
  unfolding id_of
  place_at = refl

  pub instr_here : instr_of s t ≡ f.place
  unfolding instr_of
  instr_here = ap id_in here.local ∙ place_at
