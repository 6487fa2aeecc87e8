-- What is told of a step, by its action.
use Rattle.std.proofs.Common.{◌≡◌, ℕ, ℤ, List, length, Bool, true, false, Option, Some, None, Ok, Err, refl, sym, ◌∙◌, ap}
use Rattle.std.specs.Prelude.{◌||◌, is_some, slice_get, slice_index}
use Rattle.pg_num.specs.Places.{ByteRange}
use Rattle.pg_ir.specs.declared.ids.InstrId.{InstrId}
use Rattle.pg_ir.specs.declared.instr.Op.{Op}
use Rattle.pg_ir.specs.declared.instr.Op.TheVariants as op
use Rattle.pg_ir.specs.declared.instr.Instr.{Instr}
use Rattle.pg_ir.specs.declared.library_call.LibraryCall.{LibraryCall}
use Rattle.pg_ir.specs.declared.library_call.LibraryCall.TheVariants as known
use Rattle.pg_ir.specs.declared.request.Request.{Request}
use Rattle.pg_ir.specs.declared.request.Request.TheVariants as requests
use Rattle.pg_ir.specs.Program.{NumberedProgram}
use Rattle.pg_run_thread.specs.declared.action.Action.{Action}
use Rattle.pg_run_thread.specs.declared.action.Action.TheVariants as actions
use Rattle.pg_run_trace.specs.declared.step.Happening.{Happening}
use Rattle.pg_run_trace.specs.declared.step.Step.{Step}
use Rattle.pg_run_trace.specs.declared.turn.Turn.{Turn}
use Rattle.pg_run_trace.specs.declared.turn.TurnKind.{TurnKind}
use Rattle.pg_run_trace.specs.declared.turn.TurnKind.TheVariants as kinds
use Rattle.pg_run_trace.specs.Kinds.{kind_of, object_of}
use Rattle.pg_run_trace.specs.Steps.{access_in}
use Rattle.pg_run.specs.Named.{IsNamed, IsRequestNamed}
use Rattle.pg_run.specs.State.{State, instr_of, next_of}
use Rattle.pg_run.specs.MachineStep.{Answered, Did, answered, event_told, happening_if, happening_of, instr_told, is_gated, kind_told, library_told, op_told, settled, step, step_told, taken, turn_with}
use Rattle.pg_run.proofs.ActionPlaces.{place_is}
use Rattle.pg_law_runs.specs.pg_law_effects.Effect.{answer_to, write_of}
use Rattle.pg_law_runs.proofs.of_pg_law_effects.StepEffects.{answered_is}
use Rattle.pg_law_runs.specs.Deeds.{is_event_at}
use Rattle.pg_law_course.specs.Steps.{Accessed, accessed, happening_by, is_shared_action, stored}

-- ---- the answer that is told

pub told_answer : (gated : List InstrId) (p : NumberedProgram) (input : List ℤ) (s z : State) (t : ℕ) (x : Step) → step gated p input s t ≡ Did x z
    → x ≡ step_told gated p s t (answer_to input s t (next_of p s t))
unfolding step
told_answer gated p input s z t x e = go (answered p input s t (next_of p s t)) refl e
  where
    go : (o : Answered) → answered p input s t (next_of p s t) ≡ o → settled gated p s t (taken p s t o) ≡ Did x z → x ≡ step_told gated p s t (answer_to input s t (next_of p s t))
    go (w, Err name) k q = absurd cc
    go (w, Ok a) k q =
        let told : step_told gated p s t a ≡ x = cc in
        sym told ∙ ap (step_told gated p s t) (answered_is p input s w t a (next_of p s t) k).1

-- ---- the access

no_access_known : (ns : List ℕ) (n : ℕ) (k : LibraryCall) → access_in (library_told ns n k) ≡ None
no_access_known ns n known.Malloc = refl
no_access_known ns n k = refl

no_access_op : (ns : List ℕ) (n : ℕ) (o : Op) → access_in (op_told ns n o) ≡ None
no_access_op ns n (op.CondBr c a b) = refl
no_access_op ns n (op.Switch w on other cases) = refl
no_access_op ns n (op.Alloca bytes) = refl
no_access_op ns n (op.CallLibrary k args) = no_access_known ns n k
no_access_op ns n o = refl

no_access : (ns : List ℕ) (n : ℕ) (o : Option Instr) → access_in (instr_told ns n o) ≡ None
no_access ns n None = refl
no_access ns n (Some x) = no_access_op ns n x.op

-- the access by the state: the bytes, the number, and whether they are written
abbrev pub access_at : State → ℕ → Action → Option Accessed
access_at s answer (actions.Load q) = Some (record { at = q; number = answer; writes = false })
access_at s answer action = stored (write_of s action)

request_access : (s : State) (t : ℕ) (ns : List ℕ) (n answer : ℕ) (r : Request) → IsRequestNamed ns r → accessed (access_in (event_told s t ns n r)) ≡ access_at s answer (actions.Event r)
request_access s t ns n answer (requests.Create q f m) h = ap (λ (a : ByteRange). Some (record { at = a; number = length s.locals; writes = true })) (place_is (slice_index ns 0) 8 q h)
request_access s t ns n answer (requests.Join u (Some q)) h = ap (λ (a : ByteRange). Some (record { at = a; number = slice_index s.words u; writes = true })) (place_is (slice_index ns 1) 8 q h)
request_access s t ns n answer (requests.Join u None) h = refl
request_access s t ns n answer r h = refl

pub kind_access : (gated : List InstrId) (p : NumberedProgram) (s : State) (t : ℕ) (ns : List ℕ) (answer n : ℕ) (action : Action) → IsNamed ns action
    → accessed (access_in (kind_told gated p s t ns answer n action)) ≡ access_at s answer action
kind_access gated p s t ns answer n actions.Local h = ap accessed (no_access ns n (slice_get p.instrs (instr_of s t)))
kind_access gated p s t ns answer n (actions.Load q) h = ap (λ (a : ByteRange). Some (record { at = a; number = answer; writes = false })) (place_is (slice_index ns 0) q.bytes q h)
kind_access gated p s t ns answer n (actions.Store q m) h = ap (λ (a : ByteRange). Some (record { at = a; number = m; writes = true })) (place_is (slice_index ns 1) q.bytes q h)
kind_access gated p s t ns answer n (actions.Event r) h = request_access s t ns n answer r h
kind_access gated p s t ns answer n action h = refl

-- ---- the turn

pub turn_thread : (s : State) (t : ℕ) (o : Option Happening) (u : Turn) → turn_with s t o ≡ Some u → u.thread.0 ≡ t
turn_thread s t None u e = absurd cc
turn_thread s t (Some h) u e = let k : Path (Option ℕ) (Some t) (Some u.thread.0) = ap thread_in e in cc
  where
    thread_in : Option Turn → Option ℕ
    thread_in None = None
    thread_in (Some v) = Some v.thread.0

pub turn_instr : (s : State) (t : ℕ) (o : Option Happening) (u : Turn) → turn_with s t o ≡ Some u → u.instr.0 ≡ instr_of s t
turn_instr s t None u e = absurd cc
turn_instr s t (Some h) u e = let k : Path (Option ℕ) (Some (instr_of s t)) (Some u.instr.0) = ap instr_in e in cc
  where
    instr_in : Option Turn → Option ℕ
    instr_in None = None
    instr_in (Some v) = Some v.instr.0

pub turn_happens : (s : State) (t : ℕ) (o : Option Happening) (u : Turn) → turn_with s t o ≡ Some u → o ≡ Some (record { kind = u.kind; object = u.object })
turn_happens s t None u e = absurd cc
turn_happens s t (Some h) u e = ap happens_in e
  where
    happens_in : Option Turn → Option Happening
    happens_in None = None
    happens_in (Some v) = Some (record { kind = v.kind; object = v.object })

-- naming the object again names it
object_again : (t m : ℕ) (r : Request) → object_of t (object_of t m r) r ≡ object_of t m r
object_again t m (requests.Create q f n) = refl
object_again t m r = refl

object_is : (k j : TurnKind) (m n : ℕ) → Path (Option Happening) (Some (record { kind = k; object = m })) (Some (record { kind = j; object = n })) → m ≡ n
object_is k j m n e = ap object_in e
  where
    object_in : Option Happening → ℕ
    object_in None = 0
    object_in (Some h) = h.object

access_by_gate : (b : Bool) (k j : TurnKind) (m n : ℕ) → happening_if b k m ≡ Some (record { kind = j; object = n })
    → Path (Option Happening) (Some (record { kind = k; object = m })) (Some (record { kind = j; object = n }))
access_by_gate true k j m n e = e
access_by_gate false k j m n e = absurd cc

pub happens_by : (gated : List InstrId) (s : State) (t : ℕ) (action : Action) (k : TurnKind) (o : ℕ) → happening_of gated s t action ≡ Some (record { kind = k; object = o })
    → happening_by t o action ≡ Some (record { kind = k; object = o })
happens_by gated s t (actions.Load q) k o e = access_by_gate (is_gated gated (instr_of s t)) kinds.Load k q.start o e
happens_by gated s t (actions.Store q n) k o e = access_by_gate (is_gated gated (instr_of s t)) kinds.Store k q.start o e
happens_by gated s t (actions.Event r) k o e =
    let same : object_of t (length s.sync.threads) r ≡ o = object_is (kind_of r) k _ o e in
    ap (λ (m : ℕ). Some (record { kind = kind_of r; object = m })) (ap (λ (m : ℕ). object_of t m r) (sym same) ∙ object_again t (length s.sync.threads) r) ∙ e
happens_by gated s t action k o e = absurd cc

-- ---- what others see

or_true : (b : Bool) → (b || true) ≡ true
or_true true = refl
or_true false = refl

pub shared_by : (gated : List InstrId) (id : ℕ) (s : State) (answer : ℕ) (action : Action) → (is_event_at gated id action || is_some (access_at s answer action)) ≡ is_shared_action action
shared_by gated id s answer (actions.Load q) = or_true (is_gated gated id)
shared_by gated id s answer (actions.Store q n) = or_true (is_gated gated id)
shared_by gated id s answer (actions.Event r) = refl
shared_by gated id s answer action = refl
