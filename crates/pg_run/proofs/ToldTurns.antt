-- What a step tells: its event is the turn that it was, and what is told before it is done is filled after.
use Rattle.std.proofs.Common.{◌≡◌, ℕ, List, Bool, true, false, Option, Some, None, refl, sym, ◌∙◌, ap, subst}
use Rattle.std.specs.Prelude.{slice_get, slice_index, if◌then◌else◌}
use Rattle.pg_run_trace.specs.pg_num.Places.{ByteRange}
use Rattle.pg_run_trace.specs.pg_num.Pointers.{byte_place}
use Rattle.pg_run_trace.specs.pg_ir.declared.ids.InstrId.{InstrId}
use Rattle.pg_run_trace.specs.pg_ir.declared.library_call.LibraryCall.{LibraryCall}
use Rattle.pg_run_trace.specs.pg_ir.declared.library_call.LibraryCall.TheVariants as known
use Rattle.pg_run_trace.specs.pg_ir.declared.instr.Op.{Op}
use Rattle.pg_run_trace.specs.pg_ir.declared.instr.Op.TheVariants as op
use Rattle.pg_run_trace.specs.pg_ir.declared.instr.Instr.{Instr}
use Rattle.pg_run_trace.specs.pg_ir.Program.{NumberedProgram}
use Rattle.pg_run_thread.specs.declared.action.Action.{Action}
use Rattle.pg_run_thread.specs.declared.action.Action.TheVariants as actions
use Rattle.pg_run_trace.specs.declared.step.Step.{Step}
use Rattle.pg_run_trace.specs.declared.step.StepKind.{StepKind}
use Rattle.pg_run_trace.specs.declared.step.Happening.{Happening}
use Rattle.pg_run_trace.specs.declared.turn.Turn.{Turn}
use Rattle.pg_run_trace.specs.declared.turn.TurnKind.TheVariants as turns
use Rattle.pg_run_trace.specs.Steps.{event_of, happening_in, turn_at}
use Rattle.pg_run.specs.Filled.{filled}
use Rattle.pg_run.specs.MachineStep.{happening_if, happening_of, instr_told, is_gated, kind_told, library_told, number_in, op_told, operands_in, step_told, turn_of, turn_with}
use Rattle.pg_run.specs.Named.{IsNamed}
use Rattle.pg_run.specs.State.{State, instr_of, next_of}
use Rattle.pg_run.proofs.ActionPlaces.{next_named, place_is}

-- ---- what is filled

known_filled : (ns : List ℕ) (answer number : ℕ) (k : LibraryCall) → filled (library_told ns 0 k) answer number ≡ library_told ns number k
known_filled ns answer number known.Malloc = refl
known_filled ns answer number k = refl

op_filled : (ns : List ℕ) (answer number : ℕ) (o : Op) → filled (op_told ns 0 o) answer number ≡ op_told ns number o
op_filled ns answer number (op.CondBr c a b) = refl
op_filled ns answer number (op.Switch w on other cases) = refl
op_filled ns answer number (op.Alloca bytes) = refl
op_filled ns answer number (op.CallLibrary k args) = known_filled ns answer number k
op_filled ns answer number o = refl

instr_filled : (ns : List ℕ) (answer number : ℕ) (o : Option Instr) → filled (instr_told ns 0 o) answer number ≡ instr_told ns number o
instr_filled ns answer number None = refl
instr_filled ns answer number (Some x) = op_filled ns answer number x.op

kind_filled : (gated : List InstrId) (p : NumberedProgram) (s : State) (t : ℕ) (ns : List ℕ) (answer number : ℕ) (action : Action)
    → filled (kind_told gated p s t ns 0 0 action) answer number ≡ kind_told gated p s t ns answer number action
kind_filled gated p s t ns answer number actions.Local = instr_filled ns answer number (slice_get p.instrs (instr_of s t))
kind_filled gated p s t ns answer number (actions.Load r) = refl
kind_filled gated p s t ns answer number (actions.Store r n) = refl
kind_filled gated p s t ns answer number (actions.Event r) = refl
kind_filled gated p s t ns answer number action = refl

-- the step that is told before and filled after
pub step_filled : (gated : List InstrId) (p : NumberedProgram) (s : State) (t id answer number : ℕ) (kind before : StepKind) (action : Action) → action ≡ next_of p s t
    → id ≡ instr_of s t → before ≡ kind_told gated p s t (operands_in p (slice_get s.locals t)) 0 0 action → number ≡ number_in p (slice_get s.locals t) answer
    → kind ≡ filled before answer number → Path Step (record { thread = record { 0 = t }; instr = record { 0 = id }; kind = kind }) (step_told gated p s t answer)
step_filled gated p s t id answer number kind before action a i b n k =
    rw (i, k, b, n, a) (ap (λ (x : StepKind). record { thread = record { 0 = t }; instr = record { 0 = instr_of s t }; kind = x })
    (kind_filled gated p s t (operands_in p (slice_get s.locals t)) answer (number_in p (slice_get s.locals t) answer) (next_of p s t)))

-- ---- the event

op_quiet : (ns : List ℕ) (number : ℕ) (o : Op) → happening_in (op_told ns number o) ≡ None
op_quiet ns number (op.CondBr c a b) = refl
op_quiet ns number (op.Switch w on other cases) = refl
op_quiet ns number (op.Alloca bytes) = refl
op_quiet ns number (op.CallLibrary k args) = go k
  where
    go : (f : LibraryCall) → happening_in (library_told ns number f) ≡ None
    go known.Malloc = refl
    go f = refl
op_quiet ns number o = refl

instr_quiet : (ns : List ℕ) (number : ℕ) (o : Option Instr) → happening_in (instr_told ns number o) ≡ None
instr_quiet ns number None = refl
instr_quiet ns number (Some x) = op_quiet ns number x.op

-- an access at the first byte of its range, which is where its pointer points
load_happens : (b : Bool) (word n : ℕ) (r : ByteRange) → record { start = byte_place word; bytes = r.bytes } ≡ r
    → (if b then Some (record { kind = turns.Load; object = byte_place word }) else None) ≡ happening_if b turns.Load r.start
load_happens true word n r e = ap (λ (q : ByteRange). Some (record { kind = turns.Load; object = q.start })) e
load_happens false word n r e = refl

store_happens : (b : Bool) (word n : ℕ) (r : ByteRange) → record { start = byte_place word; bytes = r.bytes } ≡ r
    → (if b then Some (record { kind = turns.Store; object = byte_place word }) else None) ≡ happening_if b turns.Store r.start
store_happens true word n r e = ap (λ (q : ByteRange). Some (record { kind = turns.Store; object = q.start })) e
store_happens false word n r e = refl

kind_happens : (gated : List InstrId) (p : NumberedProgram) (s : State) (t : ℕ) (ns : List ℕ) (answer number : ℕ) (action : Action) → IsNamed ns action
    → happening_in (kind_told gated p s t ns answer number action) ≡ happening_of gated s t action
kind_happens gated p s t ns answer number actions.Local h = instr_quiet ns number (slice_get p.instrs (instr_of s t))
kind_happens gated p s t ns answer number (actions.Load r) h = load_happens (is_gated gated (instr_of s t)) (slice_index ns 0) answer r (place_is (slice_index ns 0) r.bytes r h)
kind_happens gated p s t ns answer number (actions.Store r n) h = store_happens (is_gated gated (instr_of s t)) (slice_index ns 1) n r (place_is (slice_index ns 1) r.bytes r h)
kind_happens gated p s t ns answer number (actions.Event r) h = refl
kind_happens gated p s t ns answer number action h = refl

turn_is : (s : State) (t : ℕ) (kind : StepKind) (h : Option Happening) → turn_at (record { thread = record { 0 = t }; instr = record { 0 = instr_of s t }; kind = kind }) h ≡ turn_with s t h
turn_is s t kind None = refl
turn_is s t kind (Some h) = refl

pub event_told_is : (gated : List InstrId) (p : NumberedProgram) (s : State) (t answer : ℕ) → event_of (step_told gated p s t answer) ≡ turn_with s t (happening_of gated s t (next_of p s t))
event_told_is gated p s t answer =
    let o = slice_get s.locals t in
    let x = step_told gated p s t answer in
    ap (turn_at x) (kind_happens gated p s t (operands_in p o) answer (number_in p o answer) (next_of p s t) (next_named p s t))
    ∙ turn_is s t x.kind (happening_of gated s t (next_of p s t))
