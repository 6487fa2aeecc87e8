-- The thread, the event and the access that a step tells.
use Rattle.std.proofs.Common.{◌≡◌, ℕ, ℤ, List, Bool, true, false, Option, Some, None, Result, Ok, Err, refl, sym, ◌∙◌, ap, subst}
use Rattle.std.specs.Prelude.{slice_get, slice_index, is_some}
use Rattle.pg_num.specs.Places.{ByteRange}
use Rattle.pg_num.specs.Pointers.{byte_place}
use Rattle.pg_ir.specs.declared.ids.InstrId.{InstrId}
use Rattle.pg_ir.specs.declared.library_call.LibraryCall.{LibraryCall}
use Rattle.pg_ir.specs.declared.library_call.LibraryCall.TheVariants as known
use Rattle.pg_ir.specs.declared.instr.Op.{Op}
use Rattle.pg_ir.specs.declared.instr.Op.TheVariants as op
use Rattle.pg_ir.specs.declared.instr.Instr.{Instr}
use Rattle.pg_ir.specs.declared.request.Request.{Request}
use Rattle.pg_ir.specs.declared.request.Request.TheVariants as requests
use Rattle.pg_ir.specs.declared.request.TrapName.{TrapName}
use Rattle.pg_ir.specs.Program.{NumberedProgram}
use Rattle.pg_run_thread.specs.declared.action.Action.{Action}
use Rattle.pg_run_thread.specs.declared.action.Action.TheVariants as actions
use Rattle.pg_run.specs.pg_run_trace.declared.turn.Turn.{Turn}
use Rattle.pg_run.specs.pg_run_trace.declared.step.Access.{Access}
use Rattle.pg_run.specs.pg_run_trace.declared.step.Step.{Step}
use Rattle.pg_run.specs.pg_run_trace.declared.step.StepKind.{StepKind}
use Rattle.pg_run.specs.pg_run_trace.Steps.{access_in, access_of, event_of}
use Rattle.pg_run.specs.Locality.{IfDid}
use Rattle.pg_run.specs.Named.{IsNamed, IsRequestNamed}
use Rattle.pg_run.specs.State.{State, instr_of, next_of}
use Rattle.pg_run.specs.MachineStep.{Answered, Stepped, Did, Trapped, answered, event_told, instr_told, kind_told, library_told, number_in, op_told, operands_in, settled, step, step_told}
use Rattle.pg_run.specs.MachineStep.{taken, turn_of}
use Rattle.pg_run.proofs.ActionPlaces.{next_named, place_is}
use Rattle.pg_run.proofs.ToldTurns.{event_told_is}
use Rattle.pg_law_effects.specs.Effect.{Effect, Write, effect_by, effect_of}
use Rattle.pg_law_effects.specs.Told.{TellsAccess, TellsAs, asks}

told_by : (gated : List InstrId) (p : NumberedProgram) (s z : State) (t : ℕ) (x : Step) (a : Answered) → settled gated p s t a ≡ Did x z → (n : ℕ) × (step_told gated p s t n ≡ x)
told_by gated p s z t x (w, Err name) e = absurd cc
told_by gated p s z t x (w, Ok n) e = (n, cc)

pub told : (gated : List InstrId) (p : NumberedProgram) (input : List ℤ) (s z : State) (t : ℕ) (x : Step) → step gated p input s t ≡ Did x z → (n : ℕ) × (step_told gated p s t n ≡ x)
unfolding step
told gated p input s z t x e = told_by gated p s z t x _ e

pub thread_of : (gated : List InstrId) (p : NumberedProgram) (input : List ℤ) (s z : State) (t : ℕ) (x : Step) → step gated p input s t ≡ Did x z → x.thread.0 ≡ t
thread_of gated p input s z t x e = let k = told gated p input s z t x e in sym (ap (λ (y : Step). y.thread.0) k.1)

-- the event that is told is the turn that the step is
pub event_is : (gated : List InstrId) (p : NumberedProgram) (input : List ℤ) (s z : State) (t : ℕ) (x : Step) → step gated p input s t ≡ Did x z → event_of x ≡ turn_of gated p s t
unfolding turn_of
event_is gated p input s z t x e =
    let k = told gated p input s z t x e in
    sym (ap event_of k.1) ∙ event_told_is gated p s t k.0

-- ---- the access

-- what only the thread's own state decides is no access and no event
known_plain : (ns : List ℕ) (n : ℕ) (k : LibraryCall) → (access_in (library_told ns n k) ≡ None) × (asks (library_told ns n k) ≡ false)
known_plain ns n known.Malloc = (refl, refl)
known_plain ns n k = (refl, refl)

op_plain : (ns : List ℕ) (n : ℕ) (o : Op) → (access_in (op_told ns n o) ≡ None) × (asks (op_told ns n o) ≡ false)
op_plain ns n (op.CondBr c a b) = (refl, refl)
op_plain ns n (op.Switch w on other cases) = (refl, refl)
op_plain ns n (op.Alloca bytes) = (refl, refl)
op_plain ns n (op.CallLibrary k args) = known_plain ns n k
op_plain ns n o = (refl, refl)

instr_plain : (ns : List ℕ) (n : ℕ) (o : Option Instr) → (access_in (instr_told ns n o) ≡ None) × (asks (instr_told ns n o) ≡ false)
instr_plain ns n None = (refl, refl)
instr_plain ns n (Some x) = op_plain ns n x.op

request_tells : (p : NumberedProgram) (input : List ℤ) (s : State) (t : ℕ) (ns : List ℕ) (n : ℕ) (r : Request) → IsRequestNamed ns r
    → TellsAccess (access_in (event_told s t ns n r)) (effect_by p input s t (actions.Event r))
request_tells p input s t ns n (requests.Create r f m) h = (
  refl,
  ap (λ (q : ByteRange). Some (record { at = q; number = Rattle.std.proofs.Common.length s.locals })) (sym (place_is (slice_index ns 0) 8 r h)),
)
request_tells p input s t ns n (requests.Join u (Some r)) h = (refl, ap (λ (q : ByteRange). Some (record { at = q; number = slice_index s.words u })) (sym (place_is (slice_index ns 1) 8 r h)))
request_tells p input s t ns n (requests.Join u None) h = (refl, refl)
request_tells p input s t ns n r h = (refl, refl)

kind_tells : (gated : List InstrId) (p : NumberedProgram) (input : List ℤ) (s : State) (t : ℕ) (ns : List ℕ) (a n : ℕ) (action : Action) → IsNamed ns action
    → TellsAccess (access_in (kind_told gated p s t ns a n action)) (effect_by p input s t action)
kind_tells gated p input s t ns a n actions.Local h = subst (λ (o : Option Access). TellsAccess o (effect_by p input s t actions.Local))
    (sym (instr_plain ns n (slice_get p.instrs (instr_of s t))).0) (refl, refl)
kind_tells gated p input s t ns a n (actions.Load r) h = (ap (λ (q : ByteRange). Some q) (sym (place_is (slice_index ns 0) r.bytes r h)), refl)
kind_tells gated p input s t ns a n (actions.Store r m) h = (refl, ap (λ (q : ByteRange). Some (record { at = q; number = m })) (sym (place_is (slice_index ns 1) r.bytes r h)))
kind_tells gated p input s t ns a n (actions.Event r) h = request_tells p input s t ns n r h
kind_tells gated p input s t ns a n action h = (refl, refl)

kind_asks : (gated : List InstrId) (p : NumberedProgram) (input : List ℤ) (s : State) (t : ℕ) (ns : List ℕ) (a n : ℕ) (action : Action)
    → asks (kind_told gated p s t ns a n action) ≡ is_some (effect_by p input s t action).request
kind_asks gated p input s t ns a n actions.Local = (instr_plain ns n (slice_get p.instrs (instr_of s t))).1
kind_asks gated p input s t ns a n (actions.Load r) = refl
kind_asks gated p input s t ns a n (actions.Store r m) = refl
kind_asks gated p input s t ns a n (actions.Event r) = refl
kind_asks gated p input s t ns a n action = refl

pub tells_access : (gated : List InstrId) (p : NumberedProgram) (input : List ℤ) (s : State) (t : ℕ) → IfDid (step gated p input s t) (λ x z. TellsAccess (access_of x) (effect_of p input s t))
unfolding step effect_of
tells_access gated p input s t = go (answered p input s t (next_of p s t))
  where
    go : (o : Answered) → IfDid (settled gated p s t (taken p s t o)) (λ x z. TellsAccess (access_of x) (effect_by p input s t (next_of p s t)))
    go (z, Err name) = tt
    go (z, Ok a) = kind_tells gated p input s t (operands_in p (slice_get s.locals t)) a (number_in p (slice_get s.locals t) a) (next_of p s t) (next_named p s t)

pub tells_request : (gated : List InstrId) (p : NumberedProgram) (input : List ℤ) (s : State) (t : ℕ)
    → IfDid (step gated p input s t) (λ x z. asks x.kind ≡ is_some (effect_of p input s t).request)
unfolding step effect_of
tells_request gated p input s t = go (answered p input s t (next_of p s t))
  where
    go : (o : Answered) → IfDid (settled gated p s t (taken p s t o)) (λ x z. asks x.kind ≡ is_some (effect_by p input s t (next_of p s t)).request)
    go (z, Err name) = tt
    go (z, Ok a) = kind_asks gated p input s t (operands_in p (slice_get s.locals t)) a (number_in p (slice_get s.locals t) a) (next_of p s t)
