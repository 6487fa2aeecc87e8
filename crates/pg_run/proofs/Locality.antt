-- What a step depends on, and what it changes.
use Rattle.std.proofs.Common.{◌≡◌, ℕ, ℤ, ◌<◌, List, length, Bool, true, false, Option, Some, None, Result, Ok, Err, refl, sym, ◌∙◌, ap, subst}
use Rattle.std.specs.Prelude.{slice_get, slice_index}
use Rattle.std.proofs.lemmas.Option.{slice_get_within}
use Rattle.pg_run_trace.specs.pg_num.Places.{ByteRange}
use Rattle.pg_run_trace.specs.pg_ir.declared.ids.InstrId.{InstrId}
use Rattle.pg_run_trace.specs.pg_ir.declared.library_call.LibraryCall.{LibraryCall}
use Rattle.pg_run_trace.specs.pg_ir.declared.library_call.LibraryCall.TheVariants.{Malloc}
use Rattle.pg_run_trace.specs.pg_ir.declared.instr.Op.{Op}
use Rattle.pg_run_trace.specs.pg_ir.declared.instr.Op.TheVariants as op
use Rattle.pg_run_trace.specs.pg_ir.declared.instr.Instr.{Instr}
use Rattle.pg_run_trace.specs.pg_ir.declared.request.Request.{Request}
use Rattle.pg_run_trace.specs.pg_ir.declared.request.Request.TheVariants as requests
use Rattle.pg_run_trace.specs.pg_ir.declared.request.TrapName.{TrapName}
use Rattle.pg_run_trace.specs.pg_ir.Program.{NumberedProgram}
use Rattle.pg_run_memory.specs.Memory as memory
use Rattle.pg_run_objects.specs.declared.reply.Reply.{Reply}
use Rattle.pg_run_objects.specs.Sync as sync
use Rattle.pg_run_thread.specs.declared.action.Action.{Action}
use Rattle.pg_run_thread.specs.declared.action.Action.TheVariants as actions
use Rattle.pg_run_thread.specs.LocalState.{LocalState}
use Rattle.pg_run_thread.specs.Step.{after}
use Rattle.pg_run_trace.specs.declared.step.StepKind.{StepKind}
use Rattle.pg_run_trace.specs.declared.step.StepKind.TheVariants as told
use Rattle.pg_run_trace.specs.declared.step.Write.{Write}
use Rattle.pg_run_trace.specs.Kinds.{kind_of, object_of}
use Rattle.pg_run_trace.specs.Steps.{access_by, access_in, access_of, event_of}
use Rattle.pg_run_trace.specs.declared.step.Step.{Step}
use Rattle.pg_run.specs.Locality.{IfDid, Agree, AgreeAsked, AreAlike, AsTold, LeavesRest, is_request}
use Rattle.pg_run.specs.State.{State, action_in, id_in, instr_of, next_of}
use Rattle.pg_run.specs.MachineStep.{Answered, answered, happening_of, instr_told, is_gated, kind_told, library_told, local_after, number_in, on_applied, op_told, operands_in, requested}
use Rattle.pg_run.specs.MachineStep.{settled, step, step_told, taken, turn_of, turn_with, write_told}
use Rattle.pg_run.specs.Named.{IsNamed, IsRequestNamed}
use Rattle.pg_run.proofs.StepsBegin.{same_local}
use Rattle.pg_run.proofs.ActionPlaces.{next_named, place_is}
use Rattle.pg_run.proofs.ToldTurns.{event_told_is}
use Rattle.pg_run.proofs.Threads.{set_own, set_other}

-- ---- the other threads

other_after : (p : NumberedProgram) (ls : List LocalState) (t u a : ℕ) (o : Option LocalState) → (u ≡ t → ⊥) → slice_get (local_after p ls t a o) u ≡ slice_get ls u
other_after p ls t u a None h = refl
other_after p ls t u a (Some l) h = set_other ls t u (after p l a) h

pub others_keep : (gated : List InstrId) (p : NumberedProgram) (input : List ℤ) (s : State) (t u : ℕ) → (u ≡ t → ⊥) → u < length s.locals
    → IfDid (step gated p input s t) (λ x z. slice_get z.locals u ≡ slice_get s.locals u)
unfolding step
others_keep gated p input s t u n l = go (answered p input s t (next_of p s t)) (same_local p input s t u (next_of p s t) l)
  where
    go : (o : Answered) → slice_get o.0.locals u ≡ slice_get s.locals u → IfDid (settled gated p s t (taken p s t o)) (λ x z. slice_get z.locals u ≡ slice_get s.locals u)
    go (z, Err name) e = tt
    go (z, Ok a) e = other_after p z.locals t u a (slice_get s.locals t) n ∙ e

-- ---- memory

-- an answer that is there is one number
same_answer : (a b : ℕ) → Path (Result ℕ TrapName) (Ok a) (Ok b) → a ≡ b
same_answer a b e = ap (λ (r : Result ℕ TrapName). answer_in r) e
  where
    answer_in : Result ℕ TrapName → ℕ
    answer_in (Ok n) = n
    answer_in (Err name) = 0

same_write : (s : State) (ns : List ℕ) (y : sync.Sync) (r : Request) → write_told (record s { sync = y }) ns r ≡ write_told s ns r
same_write s ns y (requests.Create r f n) = refl
same_write s ns y (requests.Join n (Some r)) = refl
same_write s ns y (requests.Join n None) = refl
same_write s ns y r = refl

request_memory : (p : NumberedProgram) (s : State) (t : ℕ) (r : Request) (ns : List ℕ) → IsRequestNamed ns r → AsTold (access_by (write_told s ns r)) s.memory (requested p s t r).memory
request_memory p s t (requests.Create r f n) ns h = ap (λ (q : ByteRange). memory.written s.memory q (length s.locals)) (sym (place_is (slice_index ns 0) 8 r h))
request_memory p s t (requests.Join n (Some r)) ns h = ap (λ (q : ByteRange). memory.written s.memory q (slice_index s.words n)) (sym (place_is (slice_index ns 1) 8 r h))
request_memory p s t (requests.Join n None) ns h = refl
request_memory p s t (requests.Exit n is_return) ns h = refl
request_memory p s t r ns h = refl

no_ok : (s z : State) (name : TrapName) (a : ℕ) (P : Type 0) → Path Answered (z, Ok a) (s, Err name) → P
no_ok s z name a P e = let k : Path (Result ℕ TrapName) (Ok a) (Err name) = ap (λ (q : Answered). q.1) e in absurd cc

event_memory : (p : NumberedProgram) (s z : State) (t a : ℕ) (r : Request) (ns : List ℕ) (y : sync.Sync) (q : Result Reply TrapName) → IsRequestNamed ns r
    → Path Answered (z, Ok a) (on_applied p s t r (y, q)) → AsTold (access_by (write_told s ns r)) s.memory z.memory
event_memory p s z t a r ns y (Err name) h e = no_ok (record s { sync = y }) z name a (AsTold (access_by (write_told s ns r)) s.memory z.memory) e
event_memory p s z t a r ns y (Ok reply) h e = subst (λ (m : memory.Words). AsTold (access_by (write_told s ns r)) s.memory m) (sym (ap (λ (q : Answered). q.0.memory) e))
    (told_request p s t r ns y h)
  where
    told_request : (p : NumberedProgram) (s : State) (t : ℕ) (r : Request) (ns : List ℕ) (y : sync.Sync) → IsRequestNamed ns r
        → AsTold (access_by (write_told s ns r)) s.memory (requested p (record s { sync = y }) t r).memory
    told_request p s t r ns y h = subst (λ (o : Option Write). AsTold (access_by o) s.memory (requested p (record s { sync = y }) t r).memory) (same_write s ns y r)
        (request_memory p (record s { sync = y }) t r ns h)

instr_silent : (ns : List ℕ) (number : ℕ) (o : Option Instr) → access_in (instr_told ns number o) ≡ None
instr_silent ns number None = refl
instr_silent ns number (Some x) = go x.op
  where
    known : (k : LibraryCall) → access_in (library_told ns number k) ≡ None
    known Malloc = refl
    known k = refl

    go : (o : Op) → access_in (op_told ns number o) ≡ None
    go (op.CondBr c a b) = refl
    go (op.Switch w on other cases) = refl
    go (op.Alloca bytes) = refl
    go (op.CallLibrary k args) = known k
    go o = refl

memory_after : (gated : List InstrId) (p : NumberedProgram) (input : List ℤ) (s z : State) (t a n : ℕ) (act : Action) (ns : List ℕ) → IsNamed ns act
    → Path Answered (z, Ok a) (answered p input s t act) → AsTold (access_in (kind_told gated p s t ns a n act)) s.memory z.memory
unfolding answered
memory_after gated p input s z t a n actions.Local ns h e = rw (instr_silent ns n (slice_get p.instrs (instr_of s t))) (ap (λ (q : Answered). q.0.memory) e)
memory_after gated p input s z t a n (actions.In i) ns h e = ap (λ (q : Answered). q.0.memory) e
memory_after gated p input s z t a n actions.InLen ns h e = ap (λ (q : Answered). q.0.memory) e
memory_after gated p input s z t a n (actions.Load r) ns h e = (
  ap (λ (q : Answered). q.0.memory) e,
  same_answer a (memory.read s.memory r) (ap (λ (q : Answered). q.1) e) ∙ ap (memory.read s.memory) (sym (place_is (slice_index ns 0) r.bytes r h)),
)
memory_after gated p input s z t a n (actions.Store r k) ns h e = ap (λ (q : Answered). q.0.memory) e
    ∙ ap (λ (q : ByteRange). memory.written s.memory q k) (sym (place_is (slice_index ns 1) r.bytes r h))
memory_after gated p input s z t a n (actions.Event r) ns h e = event_memory p s z t a r ns (sync.applied s.sync t r).0 (sync.applied s.sync t r).1 h e
memory_after gated p input s z t a n (actions.Trap name) ns h e = no_ok s z name a (z.memory ≡ s.memory) e
memory_after gated p input s z t a n actions.Ended ns h e = ap (λ (q : Answered). q.0.memory) e

pub memory_told : (gated : List InstrId) (p : NumberedProgram) (input : List ℤ) (s : State) (t : ℕ) → IfDid (step gated p input s t) (λ x z. AsTold (access_of x) s.memory z.memory)
unfolding step
memory_told gated p input s t = go (answered p input s t (next_of p s t)) refl
  where
    go : (o : Answered) → o ≡ answered p input s t (next_of p s t) → IfDid (settled gated p s t (taken p s t o)) (λ x z. AsTold (access_of x) s.memory z.memory)
    go (z, Err name) e = tt
    go (z, Ok a) e = memory_after gated p input s z t a (number_in p (slice_get s.locals t) a) (next_of p s t) (operands_in p (slice_get s.locals t)) (next_named p s t) e

pub event_told : (gated : List InstrId) (p : NumberedProgram) (input : List ℤ) (s : State) (t : ℕ) → IfDid (step gated p input s t) (λ x z. event_of x ≡ turn_of gated p s t)
unfolding step turn_of
event_told gated p input s t = go (answered p input s t (next_of p s t))
  where
    go : (o : Answered) → IfDid (settled gated p s t (taken p s t o)) (λ x z. event_of x ≡ turn_with s t (happening_of gated s t (next_of p s t)))
    go (z, Err name) = tt
    go (z, Ok a) = event_told_is gated p s t a

-- ---- the rest

same_rest : (s z : State) (a b : ℕ) → Path Answered (z, Ok a) (s, Ok b) → LeavesRest s z
same_rest s z a b e = record {
  sync = ap (λ (q : Answered). q.0.sync) e;
  words = ap (λ (q : Answered). q.0.words) e;
  printed = ap (λ (q : Answered). q.0.printed) e;
  value = ap (λ (q : Answered). q.0.value) e;
}

rest_after : (p : NumberedProgram) (input : List ℤ) (s z : State) (t a : ℕ) (act : Action) → is_request act ≡ false → Path Answered (z, Ok a) (answered p input s t act) → LeavesRest s z
unfolding answered
rest_after p input s z t a actions.Local n e = same_rest s z a 0 e
rest_after p input s z t a (actions.In i) n e = same_rest s z a _ e
rest_after p input s z t a actions.InLen n e = same_rest s z a _ e
rest_after p input s z t a (actions.Load r) n e = same_rest s z a _ e
rest_after p input s z t a (actions.Store r k) n e = record {
  sync = ap (λ (q : Answered). q.0.sync) e;
  words = ap (λ (q : Answered). q.0.words) e;
  printed = ap (λ (q : Answered). q.0.printed) e;
  value = ap (λ (q : Answered). q.0.value) e;
}
rest_after p input s z t a (actions.Event r) n e = absurd cc
rest_after p input s z t a (actions.Trap name) n e = no_ok s z name a (LeavesRest s z) e
rest_after p input s z t a actions.Ended n e = same_rest s z a 0 e

pub rest_keeps : (gated : List InstrId) (p : NumberedProgram) (input : List ℤ) (s : State) (t : ℕ) → is_request (next_of p s t) ≡ false
    → IfDid (step gated p input s t) (λ x z. LeavesRest s z)
unfolding step
rest_keeps gated p input s t n = go (answered p input s t (next_of p s t)) refl
  where
    go : (o : Answered) → o ≡ answered p input s t (next_of p s t) → IfDid (settled gated p s t (taken p s t o)) (λ x z. LeavesRest s z)
    go (z, Err name) e = tt
    go (z, Ok a) e =
        let h = rest_after p input s z t a (next_of p s t) n e in
        record { sync = h.sync; words = h.words; printed = h.printed; value = h.value }

-- ---- alike

abbrev answered_by : ℕ → Result ℕ TrapName
answered_by n = Ok n

-- the answer and the trap of a request come from the objects and what it reads beside them
asked_alike : (p : NumberedProgram) (s z : State) (t : ℕ) (r : Request) (y : sync.Sync) (q : Result Reply TrapName) → AgreeAsked r t s z
    → (on_applied p s t r (y, q)).1 ≡ (on_applied p z t r (y, q)).1
asked_alike p s z t r y (Err name) h = refl
asked_alike p s z t requests.Start y (Ok reply) h = ap answered_by h
asked_alike p s z t (requests.Exit n is_return) y (Ok reply) h = refl
asked_alike p s z t r y (Ok reply) h = refl

answer_alike : (p : NumberedProgram) (input : List ℤ) (s z : State) (t : ℕ) (act : Action) → Agree act t s z → (answered p input s t act).1 ≡ (answered p input z t act).1
unfolding answered
answer_alike p input s z t actions.Local h = refl
answer_alike p input s z t (actions.In i) h = refl
answer_alike p input s z t actions.InLen h = refl
answer_alike p input s z t (actions.Load r) h = ap answered_by h
answer_alike p input s z t (actions.Store r n) h = refl
answer_alike p input s z t (actions.Event r) h =
    asked_alike p s z t r (sync.applied s.sync t r).0 (sync.applied s.sync t r).1 h.1
    ∙ ap (λ (y : sync.Sync). (on_applied p z t r (sync.applied y t r)).1) h.0
answer_alike p input s z t (actions.Trap name) h = refl
answer_alike p input s z t actions.Ended h = refl

write_alike : (s z : State) (ns : List ℕ) (t : ℕ) (r : Request) → AgreeAsked r t s z → write_told s ns r ≡ write_told z ns r
write_alike s z ns t (requests.Create r f n) h = ap (λ (k : ℕ). Some (record { pointer = slice_index ns 0; number = k })) h
write_alike s z ns t (requests.Join n (Some r)) h = ap (λ (k : ℕ). Some (record { pointer = slice_index ns 1; number = k })) h
write_alike s z ns t (requests.Join n None) h = refl
write_alike s z ns t r h = refl

abbrev access_at : List InstrId → ℕ → ByteRange → Bool → ℕ → ℕ → StepKind
access_at gated pointer r writes number id = told.Access (record { pointer = pointer; number = number; bytes = r.bytes; writes = writes; event = is_gated gated id })

kind_alike : (gated : List InstrId) (p : NumberedProgram) (s z : State) (t : ℕ) (ns : List ℕ) (answer number : ℕ) (act : Action) → instr_of s t ≡ instr_of z t → Agree act t s z
    → kind_told gated p s t ns answer number act ≡ kind_told gated p z t ns answer number act
kind_alike gated p s z t ns answer number actions.Local i h = ap (λ (n : ℕ). instr_told ns number (slice_get p.instrs n)) i
kind_alike gated p s z t ns answer number (actions.Load r) i h = ap (λ (n : ℕ). access_at gated (slice_index ns 0) r false answer n) i
kind_alike gated p s z t ns answer number (actions.Store r k) i h = ap (λ (n : ℕ). access_at gated (slice_index ns 1) r true k n) i
kind_alike gated p s z t ns answer number (actions.Event r) i h =
    ap (λ (y : sync.Sync). told.Event (record { kind = kind_of r; object = object_of t (length y.threads) r; operands = ns; reply = number; write = write_told s ns r })) h.0
    ∙ ap (λ (w : Option Write). told.Event (record { kind = kind_of r; object = object_of t (length z.sync.threads) r; operands = ns; reply = number; write = w })) (write_alike s z ns t r h.1)
kind_alike gated p s z t ns answer number act i h = refl

abbrev told_by : ℕ → Option LocalState → StepKind → Step
told_by t o kind = record { thread = record { 0 = t }; instr = record { 0 = id_in o }; kind = kind }

abbrev kind_by : List InstrId → NumberedProgram → State → ℕ → ℕ → Option LocalState → StepKind
kind_by gated p s t answer o = kind_told gated p s t (operands_in p o) answer (number_in p o answer) (action_in p o)

told_alike : (gated : List InstrId) (p : NumberedProgram) (s z : State) (t n : ℕ) → slice_get s.locals t ≡ slice_get z.locals t → Agree (next_of p s t) t s z
    → step_told gated p s t n ≡ step_told gated p z t n
unfolding next_of instr_of
told_alike gated p s z t n e h =
    let o = slice_get s.locals t in
    ap (told_by t o) (kind_alike gated p s z t (operands_in p o) n (number_in p o n) (action_in p o) (ap id_in e) h)
    ∙ ap (λ (q : Option LocalState). told_by t q (kind_by gated p z t n q)) e

abbrev own_of : NumberedProgram → ℕ → Option LocalState → Option LocalState
own_of p a None = None
own_of p a (Some l) = Some (after p l a)

own_after : (p : NumberedProgram) (ls : List LocalState) (t a : ℕ) (o : Option LocalState) → slice_get ls t ≡ o → slice_get (local_after p ls t a o) t ≡ own_of p a o
own_after p ls t a None e = e
own_after p ls t a (Some l) e = set_own ls t (after p l a) (slice_get_within ls t l e)

next_alike : (p : NumberedProgram) (s z : State) (t : ℕ) → slice_get s.locals t ≡ slice_get z.locals t → next_of p s t ≡ next_of p z t
unfolding next_of
next_alike p s z t e = ap (action_in p) e

instr_alike : (s z : State) (t : ℕ) → slice_get s.locals t ≡ slice_get z.locals t → instr_of s t ≡ instr_of z t
unfolding instr_of
instr_alike s z t e = ap id_in e

same_name : (n m : TrapName) → Path (Result ℕ TrapName) (Err n) (Err m) → n ≡ m
same_name n m e = ap (λ (r : Result ℕ TrapName). name_in n r) e
  where
    name_in : TrapName → Result ℕ TrapName → TrapName
    name_in k (Ok a) = k
    name_in k (Err name) = name

settled_alike : (gated : List InstrId) (p : NumberedProgram) (s z : State) (t : ℕ) (o q : Answered) → slice_get s.locals t ≡ slice_get z.locals t → Agree (next_of p s t) t s z
    → slice_get o.0.locals t ≡ slice_get s.locals t → slice_get q.0.locals t ≡ slice_get z.locals t → o.1 ≡ q.1
    → AreAlike t (settled gated p s t (taken p s t o)) (settled gated p z t (taken p z t q))
settled_alike gated p s z t (y, Err n) (w, Err m) e h ks kz x = (same_name n m x, instr_alike s z t e)
settled_alike gated p s z t (y, Err n) (w, Ok b) e h ks kz x = absurd cc
settled_alike gated p s z t (y, Ok a) (w, Err m) e h ks kz x = absurd cc
settled_alike gated p s z t (y, Ok a) (w, Ok b) e h ks kz x =
    let same : a ≡ b = same_answer a b x in (
      told_alike gated p s z t a e h ∙ ap (step_told gated p z t) same,
      own_after p y.locals t a (slice_get s.locals t) ks
          ∙ ap (own_of p a) e
          ∙ ap (λ (n : ℕ). own_of p n (slice_get z.locals t)) same
          ∙ sym (own_after p w.locals t b (slice_get z.locals t) kz),
    )

pub steps_alike : (gated : List InstrId) (p : NumberedProgram) (input : List ℤ) (s z : State) (t : ℕ) → t < length s.locals → t < length z.locals
    → slice_get s.locals t ≡ slice_get z.locals t → Agree (next_of p s t) t s z → AreAlike t (step gated p input s t) (step gated p input z t)
unfolding step
steps_alike gated p input s z t ls lz e h =
    let n : next_of p s t ≡ next_of p z t = next_alike p s z t e in
    settled_alike gated p s z t (answered p input s t (next_of p s t)) (answered p input z t (next_of p z t)) e h
    (same_local p input s t t (next_of p s t) ls)
    (same_local p input z t t (next_of p z t) lz)
    (answer_alike p input s z t (next_of p s t) h ∙ ap (λ (a : Action). (answered p input z t a).1) n)
