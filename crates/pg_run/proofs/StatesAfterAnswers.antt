-- From the answer to the state after the step.
use Rattle.std.proofs.Common.{◌≡◌, ℕ, ℤ, ◌<◌, ◌≤◌, ◌^◌, List, [], ◌∷◌, length, true, Option, Some, None, Result, Ok, Err, arith, refl, sym, ◌∙◌, ap, subst}
use Rattle.std.specs.Prelude.{slice_get}
use Rattle.std.proofs.lemmas.List.{length-append}
use Rattle.pg_run_trace.specs.pg_ir.declared.ids.InstrId.{InstrId}
use Rattle.pg_run_trace.specs.declared.step.Step.{Step}
use Rattle.pg_run_trace.specs.pg_ir.declared.request.Request.{Request}
use Rattle.pg_run_trace.specs.pg_ir.declared.request.Request.TheVariants as requests
use Rattle.pg_run_trace.specs.pg_ir.declared.request.TrapName.{TrapName}
use Rattle.pg_run_trace.specs.pg_ir.Program.{NumberedProgram}
use Rattle.pg_run_trace.specs.pg_ir.WellFormed.{IsProgram}
use Rattle.pg_run_objects.specs.declared.reply.Reply.{Reply}
use Rattle.pg_run_objects.specs.Sync as sync
use Rattle.pg_run_thread.specs.declared.action.Action.{Action}
use Rattle.pg_run_thread.specs.declared.action.Action.TheVariants as actions
use Rattle.pg_run_thread.specs.LocalState.{LocalState, fresh}
use Rattle.pg_run_thread.specs.Step.{after}
use Rattle.pg_run_thread.specs.States.{IsOf, CanStep}
use Rattle.pg_run.specs.State.{State, next_of, instr_of}
use Rattle.pg_run.specs.MachineStep.{Answered, may_act, ready, answered, requested, on_applied, local_after, number_in, taken, Did, Trapped, settled, step, step_told}
use Rattle.pg_run.specs.Machine.{IsMachine, MayGoOn}
use Rattle.pg_run.proofs.StepsBegin.{there, next_is, ready_acts, ready_made, same_local}
use Rattle.pg_run.proofs.StepsKeepStates.{all_at}
use Rattle.pg_run.proofs.Steps.{At, Stands, still_machine, no_answer}
use Rattle.pg_run.proofs.Threads.{set_length}

-- an action that was answered can be done
can_go : (p : NumberedProgram) (input : List ℤ) (s z : State) (t a : ℕ) (act : Action) → may_act s t act ≡ true → Path Answered (answered p input s t act) (z, Ok a) → CanStep act
unfolding answered
can_go p input s z t a (actions.Trap name) g e = no_answer s z name a ⊥ e
can_go p input s z t a actions.Ended g e = absurd cc
can_go p input s z t a act g e = tt

-- what a step of thread t starts from, once its action is answered
begins : (p : NumberedProgram) (input : List ℤ) (s z : State) (t a : ℕ) (l : LocalState) → IsProgram p → IsMachine p s → slice_get s.locals t ≡ Some l → ready p s t ≡ true
    → a < 2 ^ 64 → Path Answered (answered p input s t (next_of p s t)) (z, Ok a) → At p s t l (next_of p s t) a
begins p input s z t a l program h e g small k = record {
  program = program;
  machine = h;
  local = e;
  action = sym (next_is p s t l e);
  can = can_go p input s z t a (next_of p s t) (ready_acts p s t g) k;
  small = small;
}

pub local_is : (p : NumberedProgram) (input : List ℤ) (s z : State) (t : ℕ) (x : Result ℕ TrapName) → ready p s t ≡ true → Path Answered (answered p input s t (next_of p s t)) (z, x)
    → slice_get z.locals t ≡ slice_get s.locals t
local_is p input s z t x g k = ap (λ (q : Answered). slice_get q.0.locals t) (sym k) ∙ same_local p input s t t (next_of p s t) (ready_made p s t g)

pub stands : (p : NumberedProgram) (input : List ℤ) (s z : State) (t a : ℕ) → IsProgram p → IsMachine p s → ready p s t ≡ true → a < 2 ^ 64
    → Path Answered (answered p input s t (next_of p s t)) (z, Ok a) → IsMachine p (record z { locals = local_after p z.locals t a (slice_get z.locals t) })
stands p input s z t a program h g small k =
    let x = there s.locals t (ready_made p s t g) in
    let m : Stands p t x.0 a z = still_machine p input s z t a x.0 (next_of p s t) (begins p input s z t a x.0 program h x.1 g small k) (ready_acts p s t g) k in
    rw (local_is p input s z t (Ok a) g k ∙ x.1) m

same_length : (p : NumberedProgram) (s : State) (t : ℕ) (r : Request) → length s.locals ≤ length (requested p s t r).locals
same_length p s t (requests.Create r f n) = let k = length-append s.locals (fresh p (length s.locals) f ∷ []) in omega (arith, k)
same_length p s t (requests.Exit n is_return) = omega arith
same_length p s t (requests.Join n r) = omega arith
same_length p s t r = omega arith

applied_length : (p : NumberedProgram) (s : State) (t : ℕ) (r : Request) (y : sync.Sync) (q : Result Reply TrapName) → length s.locals ≤ length (on_applied p s t r (y, q)).0.locals
applied_length p s t r y (Err name) = omega arith
applied_length p s t r y (Ok reply) = same_length p (record s { sync = y }) t r

answered_length : (p : NumberedProgram) (input : List ℤ) (s : State) (t : ℕ) (act : Action) → length s.locals ≤ length (answered p input s t act).0.locals
unfolding answered
answered_length p input s t (actions.Event r) = applied_length p s t r (sync.applied s.sync t r).0 (sync.applied s.sync t r).1
answered_length p input s t act = omega arith

pub no_fewer : (p : NumberedProgram) (input : List ℤ) (s z : State) (t : ℕ) (x : Result ℕ TrapName) → Path Answered (answered p input s t (next_of p s t)) (z, x)
    → length s.locals ≤ length z.locals
no_fewer p input s z t x k = subst (λ (q : Answered). length s.locals ≤ length q.0.locals) k (answered_length p input s t (next_of p s t))

-- the thread can go on
pub may_go_on : (p : NumberedProgram) (input : List ℤ) (s z : State) (t a : ℕ) → IsMachine p s → ready p s t ≡ true → Path Answered (answered p input s t (next_of p s t)) (z, Ok a)
    → MayGoOn p z t
unfolding next_of
may_go_on p input s z t a h g k =
    let x = there s.locals t (ready_made p s t g) in
    let e : slice_get z.locals t ≡ slice_get s.locals t = local_is p input s z t (Ok a) g k in
    record {
      made = let l = no_fewer p input s z t (Ok a) k in omega (arith, l, ready_made p s t g);
      of = rw (e ∙ x.1) (all_at (IsOf p) s.locals t x.0 x.1 h.of);
      can = rw e (can_go p input s z t a (next_of p s t) (ready_acts p s t g) k);
    }

after_length : (p : NumberedProgram) (ls : List LocalState) (t a : ℕ) (o : Option LocalState) → length (local_after p ls t a o) ≡ length ls
after_length p ls t a None = refl
after_length p ls t a (Some l) = set_length ls t (after p l a)

pub taken_more : (p : NumberedProgram) (input : List ℤ) (s z : State) (t a : ℕ) → Path Answered (answered p input s t (next_of p s t)) (z, Ok a)
    → length s.locals ≤ length (local_after p z.locals t a (slice_get z.locals t))
taken_more p input s z t a k = let l = no_fewer p input s z t (Ok a) k in omega (arith, l, after_length p z.locals t a (slice_get z.locals t))

pub taken_is : (p : NumberedProgram) (input : List ℤ) (s z : State) (t a : ℕ) → ready p s t ≡ true → Path Answered (answered p input s t (next_of p s t)) (z, Ok a)
    → Path Answered (record z { locals = local_after p z.locals t a (slice_get z.locals t) }, Ok a) (taken p s t (answered p input s t (next_of p s t)))
taken_is p input s z t a g k = rw (k, local_is p input s z t (Ok a) g k) refl

-- what is known of an answer, for a result that is this one
pub seen : (p : NumberedProgram) (input : List ℤ) (s z : State) (t : ℕ) (x y : Result ℕ TrapName) (act : Action) → act ≡ next_of p s t
    → Path Answered (z, x) (answered p input s t act) → x ≡ y → Path Answered (answered p input s t (next_of p s t)) (z, y)
seen p input s z t x y act a k e = ap (answered p input s t) (sym a) ∙ sym k ∙ ap (λ (q : Result ℕ TrapName). (z, q)) e

-- the step that is told is the one that was taken
pub did_is : (gated : List InstrId) (p : NumberedProgram) (input : List ℤ) (s z : State) (t answer : ℕ) (told : Step) (x : Result ℕ TrapName) → told ≡ step_told gated p s t answer
    → Path Answered (z, x) (taken p s t (answered p input s t (next_of p s t))) → x ≡ Ok answer → Did told z ≡ step gated p input s t
unfolding step
did_is gated p input s z t answer told x a k e =
    let h : Path Answered (z, Ok answer) (taken p s t (answered p input s t (next_of p s t))) = ap (λ (q : Result ℕ TrapName). (z, q)) (sym e) ∙ k in
    ap (λ (y : Step). Did y z) a ∙ ap (settled gated p s t) h

pub trapped_step : (gated : List InstrId) (p : NumberedProgram) (input : List ℤ) (s z : State) (t id : ℕ) (name : TrapName) (x : Result ℕ TrapName) → id ≡ instr_of s t
    → Path Answered (z, x) (taken p s t (answered p input s t (next_of p s t))) → x ≡ Err name → Trapped name id ≡ step gated p input s t
unfolding step
trapped_step gated p input s z t id name x a k e =
    let h : Path Answered (z, Err name) (taken p s t (answered p input s t (next_of p s t))) = ap (λ (q : Result ℕ TrapName). (z, q)) (sym e) ∙ k in
    ap (Trapped name) a ∙ ap (settled gated p s t) h
