-- The instruction at which the thread of a step stands.
use Rattle.std.proofs.Common.{◌≡◌, ℕ, ℤ, ◌<◌, List, [], ◌∷◌, length, true, Option, Some, None, refl, sym, ap, ◌∙◌, subst}
use Rattle.std.specs.Prelude.{slice_get}
use Rattle.std.proofs.lemmas.Option.{slice_get_within}
use Rattle.pg_ir.specs.declared.ids.InstrId.{InstrId}
use Rattle.pg_ir.specs.declared.instr.Instr.{Instr}
use Rattle.pg_ir.specs.Program.{NumberedProgram, function_of}
use Rattle.pg_run_thread.specs.declared.action.Action.{Action}
use Rattle.pg_run_thread.specs.declared.action.Action.TheVariants as actions
use Rattle.pg_run_thread.specs.LocalState.{Frame, LocalState}
use Rattle.pg_run_thread.specs.States.{AreFramesOf, CanStep, IsOf, StandsAt}
use Rattle.pg_run_thread.specs.Step.{frames_action, next}
use Rattle.pg_run_thread.specs.Told.{id_of}
use Rattle.pg_run_trace.specs.declared.step.Step.{Step}
use Rattle.pg_law_effects.specs.pg_run.Machine.{IsMachine}
use Rattle.pg_law_effects.specs.pg_run.MachineStep.{Did, answered, may_act, ready, settled, step, taken}
use Rattle.pg_law_effects.specs.pg_run.Runs.{Takes}
use Rattle.pg_law_effects.specs.pg_run.State.{State, instr_of, next_of}
use Rattle.pg_law_effects.proofs.of_pg_run.StepsBegin.{next_is, ready_acts, ready_made, there}
use Rattle.pg_law_effects.proofs.of_pg_run.StepsKeepStates.{all_at}
use Rattle.pg_law_effects.proofs.ToldByStep.{told}

-- the local state of a step's thread, its calls, and its instruction
pub record IsPresent (p : NumberedProgram) (s : State) (x : Step) : Type 0 where
  pub local : LocalState
  pub top : Frame
  pub below : List Frame
  pub instr : Instr
  pub is_local : slice_get s.locals x.thread.0 ≡ Some local
  pub is_calls : local.frames ≡ top ∷ below
  pub is_place : x.instr.0 ≡ top.place
  pub is_instr : slice_get p.instrs top.place ≡ Some instr
  pub in_function : function_of p instr.block.0 ≡ top.function

-- a step that was done had an action that can be done
can_by : (gated : List InstrId) (p : NumberedProgram) (input : List ℤ) (s z : State) (t : ℕ) (x : Step) (act : Action)
    → settled gated p s t (taken p s t (answered p input s t act)) ≡ Did x z → may_act s t act ≡ true → CanStep act
unfolding answered
can_by gated p input s z t x actions.Local e h = tt
can_by gated p input s z t x (actions.In i) e h = tt
can_by gated p input s z t x actions.InLen e h = tt
can_by gated p input s z t x (actions.Load r) e h = tt
can_by gated p input s z t x (actions.Store r n) e h = tt
can_by gated p input s z t x (actions.Event r) e h = tt
can_by gated p input s z t x (actions.Trap name) e h = absurd cc
can_by gated p input s z t x actions.Ended e h = absurd cc

pub did_can : (gated : List InstrId) (p : NumberedProgram) (input : List ℤ) (s z : State) (t : ℕ) (x : Step) → ready p s t ≡ true → step gated p input s t ≡ Did x z
    → CanStep (next_of p s t)
unfolding step
did_can gated p input s z t x r e = can_by gated p input s z t x (next_of p s t) e (ready_acts p s t r)

-- an action that can be done is that of a thread with calls
calls_of : (p : NumberedProgram) (l : LocalState) (fs : List Frame) → l.frames ≡ fs → CanStep (next p l) → (f : Frame) × (gs : List Frame) × (l.frames ≡ f ∷ gs)
unfolding next
calls_of p l [] e h = absurd (subst (λ (fs : List Frame). CanStep (frames_action p l l.begun fs)) e h)
calls_of p l (f ∷ fs) e h = (f, fs, e)

stands_at : (p : NumberedProgram) (g : ℕ) (o : Option Instr) → StandsAt p g o → (x : Instr) × (o ≡ Some x) × (function_of p x.block.0 ≡ g)
stands_at p g None h = absurd h
stands_at p g (Some x) h = (x, refl, h.0)

frames_of_local : (p : NumberedProgram) (l : LocalState) → IsOf p l → AreFramesOf p l.frames
unfolding IsOf
frames_of_local p l h = h.frames

place_of : (p : NumberedProgram) (s : State) (t : ℕ) (l : LocalState) (f : Frame) (fs : List Frame) → slice_get s.locals t ≡ Some l → l.frames ≡ f ∷ fs → instr_of s t ≡ f.place
unfolding instr_of id_of
place_of p s t l f fs e h = rw (e, h) refl

pub present : (gated : List InstrId) (p : NumberedProgram) (input : List ℤ) (s : State) (x : Step) → IsMachine p s → Takes gated p input s x → IsPresent p s x
present gated p input s x m k =
    let made = there s.locals x.thread.0 (ready_made p s x.thread.0 k.is_ready) in
    let can : CanStep (next p made.0) = subst CanStep (next_is p s x.thread.0 made.0 made.1) (did_can gated p input s k.after x.thread.0 x k.is_ready k.is_step) in
    let calls = calls_of p made.0 made.0.frames refl can in
    let frames : AreFramesOf p (calls.0 ∷ calls.1) = subst (AreFramesOf p) calls.2 (frames_of_local p made.0 (all_at (IsOf p) s.locals x.thread.0 made.0 made.1 m.of)) in
    let instr = stands_at p calls.0.function (slice_get p.instrs calls.0.place) frames.0.place in
    let heard = told gated p input s k.after x.thread.0 x k.is_step in
    record {
      local = made.0;
      top = calls.0;
      below = calls.1;
      instr = instr.0;
      is_local = made.1;
      is_calls = calls.2;
      is_place = sym (ap (λ (y : Step). y.instr.0) heard.1) ∙ place_of p s x.thread.0 made.0 calls.0 calls.1 made.1 calls.2;
      is_instr = instr.1;
      in_function = instr.2;
    }

pub within : (p : NumberedProgram) (s : State) (x : Step) → IsPresent p s x → x.instr.0 < length p.instrs
within p s x h = subst (λ (i : ℕ). i < length p.instrs) (sym h.is_place) (slice_get_within p.instrs h.top.place h.instr h.is_instr)
