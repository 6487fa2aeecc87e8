-- A step with other gates is the same step, told with them.
use Rattle.std.proofs.Common.{◌≡◌, ℕ, ℤ, List, [], ◌∷◌, map, Bool, Option, Some, None, Result, Ok, Err, refl, sym, ◌∙◌, ap}
use Rattle.std.specs.Prelude.{slice_get}
use Rattle.pg_ir.specs.declared.ids.InstrId.{InstrId}
use Rattle.pg_ir.specs.declared.library_call.LibraryCall.{LibraryCall}
use Rattle.pg_ir.specs.declared.library_call.LibraryCall.TheVariants as known
use Rattle.pg_ir.specs.declared.instr.Op.{Op}
use Rattle.pg_ir.specs.declared.instr.Op.TheVariants as op
use Rattle.pg_ir.specs.declared.instr.Instr.{Instr}
use Rattle.pg_ir.specs.declared.request.TrapName.{TrapName}
use Rattle.pg_ir.specs.Program.{NumberedProgram}
use Rattle.pg_run_thread.specs.declared.action.Action.{Action}
use Rattle.pg_run_thread.specs.declared.action.Action.TheVariants as actions
use Rattle.pg_run.specs.pg_run_trace.declared.step.Step.{Step}
use Rattle.pg_run.specs.pg_run_trace.declared.step.StepKind.{StepKind}
use Rattle.pg_run.specs.State.{State, initial, instr_of, next_of}
use Rattle.pg_run.specs.MachineStep.{Answered, Stepped, Did, Trapped, answered, instr_told, is_gated, kind_told, library_told, local_after, number_in, op_told, operands_in, settled, step}
use Rattle.pg_run.specs.MachineStep.{step_told, taken}
use Rattle.pg_run.specs.Rotation.{rotation_of}
use Rattle.pg_run.specs.Runs.{IsRun, Takes}
use Rattle.pg_run.proofs.Runs.{rotation_runs}
use Rattle.pg_law_effects.specs.Gates.{gated_as, marked, with_gates}

known_marked : (b : Bool) (ns : List ℕ) (n : ℕ) (k : LibraryCall) → marked b (library_told ns n k) ≡ library_told ns n k
known_marked b ns n known.Malloc = refl
known_marked b ns n k = refl

op_marked : (b : Bool) (ns : List ℕ) (n : ℕ) (o : Op) → marked b (op_told ns n o) ≡ op_told ns n o
op_marked b ns n (op.CondBr c a d) = refl
op_marked b ns n (op.Switch w on other cases) = refl
op_marked b ns n (op.Alloca bytes) = refl
op_marked b ns n (op.CallLibrary k args) = known_marked b ns n k
op_marked b ns n o = refl

instr_marked : (b : Bool) (ns : List ℕ) (n : ℕ) (o : Option Instr) → marked b (instr_told ns n o) ≡ instr_told ns n o
instr_marked b ns n None = refl
instr_marked b ns n (Some x) = op_marked b ns n x.op

kind_marked : (gated other : List InstrId) (p : NumberedProgram) (s : State) (t : ℕ) (ns : List ℕ) (a n : ℕ) (action : Action)
    → kind_told gated p s t ns a n action ≡ marked (is_gated gated (instr_of s t)) (kind_told other p s t ns a n action)
kind_marked gated other p s t ns a n actions.Local = sym (instr_marked (is_gated gated (instr_of s t)) ns n (slice_get p.instrs (instr_of s t)))
kind_marked gated other p s t ns a n (actions.Load r) = refl
kind_marked gated other p s t ns a n (actions.Store r m) = refl
kind_marked gated other p s t ns a n (actions.Event r) = refl
kind_marked gated other p s t ns a n action = refl

told_marked : (gated other : List InstrId) (p : NumberedProgram) (s : State) (t a : ℕ) → step_told gated p s t a ≡ with_gates gated (step_told other p s t a)
told_marked gated other p s t a =
    ap (λ (k : StepKind). record { thread = record { 0 = t }; instr = record { 0 = instr_of s t }; kind = k })
    (kind_marked gated other p s t (operands_in p (slice_get s.locals t)) a (number_in p (slice_get s.locals t) a) (next_of p s t))

pub step_gated : (gated other : List InstrId) (p : NumberedProgram) (input : List ℤ) (s : State) (t : ℕ) → step gated p input s t ≡ gated_as gated (step other p input s t)
unfolding step
step_gated gated other p input s t = go (answered p input s t (next_of p s t))
  where
    go : (o : Answered) → settled gated p s t (taken p s t o) ≡ gated_as gated (settled other p s t (taken p s t o))
    go (z, Err name) = refl
    go (z, Ok a) = ap (λ (x : Step). Did x (record z { locals = local_after p z.locals t a (slice_get s.locals t) })) (told_marked gated other p s t a)

pub run_gated : (gated other : List InstrId) (p : NumberedProgram) (input : List ℤ) (s z : State) (xs : List Step) → IsRun other p input s xs z
    → IsRun gated p input s (map (with_gates gated) xs) z
run_gated gated other p input s z [] h = h
run_gated gated other p input s z (x ∷ xs) h = (
  record { after = h.0.after; is_ready = h.0.is_ready; is_step = step_gated gated other p input s x.thread.0 ∙ ap (gated_as gated) h.0.is_step },
  run_gated gated other p input h.0.after z xs h.1,
)

pub rotation_gated : (gated : List InstrId) (p : NumberedProgram) (input : List ℤ) (q : ℕ)
    → IsRun gated p input (initial p) (map (with_gates gated) (rotation_of p input q).trace) (rotation_of p input q).state
rotation_gated gated p input q = run_gated gated [] p input (initial p) (rotation_of p input q).state (rotation_of p input q).trace (rotation_runs p input q)
