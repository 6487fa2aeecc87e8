-- The state after a step is its effect.
use Rattle.std.proofs.Common.{◌≡◌, ℕ, ℤ, List, [], ◌∷◌, ◌++◌, length, Bool, true, false, Option, Some, None, Result, Ok, Err, refl, sym, ◌∙◌, ap, append-nil}
use Rattle.std.specs.Prelude.{slice_get, slice_set, ◌==◌, if◌then◌else◌}
use Rattle.pg_ir.specs.declared.ids.InstrId.{InstrId}
use Rattle.pg_ir.specs.declared.request.Request.{Request}
use Rattle.pg_ir.specs.declared.request.Request.TheVariants as requests
use Rattle.pg_ir.specs.declared.request.TrapName.{TrapName}
use Rattle.pg_ir.specs.Program.{NumberedProgram}
use Rattle.pg_run.specs.pg_run_objects.declared.reply.Reply.{Reply}
use Rattle.pg_run.specs.pg_run_objects.Sync as sync
use Rattle.pg_run_thread.specs.declared.action.Action.{Action}
use Rattle.pg_run_thread.specs.declared.action.Action.TheVariants as actions
use Rattle.pg_run_thread.specs.LocalState.{LocalState}
use Rattle.pg_run.specs.Locality.{IfDid}
use Rattle.pg_run.specs.State.{State, next_of}
use Rattle.pg_run.specs.MachineStep.{Answered, answered, answer_of, local_after, on_applied, requested, settled, step, taken}
use Rattle.pg_law_effects.specs.Effect as effects
use Rattle.pg_law_effects.specs.Effect.{answer_to, effect, effect_by, effect_of, own_after}

-- ---- before the thread's own local state changes

abbrev pub but_local : NumberedProgram → State → ℕ → Action → State
but_local p s t action = record {
  locals = effects.locals_with (effects.request_effect p s t action) s.locals;
  memory = effects.memory_with (effects.write_of s action) s.memory;
  sync = effects.sync_with (effects.request_effect p s t action) s.sync;
  words = effects.words_with t (effects.request_effect p s t action) s.words;
  printed = effects.printed_with (effects.request_effect p s t action) s.printed;
  value = effects.value_with (effects.request_effect p s t action) s.value;
}

value_is : (b : Bool) (n old : ℕ) → (if b then n else old) ≡ effects.or_old (if b then Some n else None) old
value_is true n old = refl
value_is false n old = refl

-- a request that prints nothing leaves the printed bytes
with_printed : State → List ℕ → State
with_printed s bytes = record s { printed = bytes }

prints_nothing : (s : State) → s ≡ record s { printed = s.printed ++ [] }
unfolding with_printed
prints_nothing s = ap (with_printed s) (sym (append-nil s.printed))

-- after the objects have changed
abbrev applied_to : State → ℕ → Request → State
applied_to s t r = record s { sync = (sync.done s.sync t r).0 }

requested_is : (p : NumberedProgram) (s : State) (t : ℕ) (r : Request) → requested p (applied_to s t r) t r ≡ but_local p s t (actions.Event r)
requested_is p s t (requests.Exit n is_return) =
    prints_nothing (requested p (applied_to s t (requests.Exit n is_return)) t (requests.Exit n is_return))
    ∙ ap (λ (v : ℕ). record (but_local p s t (actions.Event (requests.Exit n is_return))) { value = v }) (value_is (t == 0) n s.value)
requested_is p s t (requests.Create r f n) = prints_nothing (requested p (applied_to s t (requests.Create r f n)) t (requests.Create r f n))
requested_is p s t (requests.Join n None) = prints_nothing (requested p (applied_to s t (requests.Join n None)) t (requests.Join n None))
requested_is p s t (requests.Join n (Some r)) = prints_nothing (requested p (applied_to s t (requests.Join n (Some r))) t (requests.Join n (Some r)))
requested_is p s t r = refl

reply_is : (s : State) (t : ℕ) (y : sync.Sync) (reply : Reply) (r : Request) → answer_of (record s { sync = y }) t reply r ≡ answer_of s t reply r
reply_is s t y reply requests.Start = refl
reply_is s t y reply r = refl

-- ---- an action that is answered

-- what an action of thread t left and answered
abbrev pub IsAnswer : NumberedProgram → List ℤ → State → ℕ → Action → State → ℕ → Type 0
IsAnswer p input s t action z a = (z ≡ but_local p s t action) × (a ≡ answer_to input s t action)

same_answer : (m a : ℕ) → Path (Result ℕ TrapName) (Ok m) (Ok a) → a ≡ m
same_answer m a e = sym (ap number_in e)
  where
    number_in : Result ℕ TrapName → ℕ
    number_in (Ok n) = n
    number_in (Err name) = 0

answer_is : (s z : State) (m a : ℕ) → Path Answered (s, Ok m) (z, Ok a) → (z ≡ s) × (a ≡ m)
answer_is s z m a e = (sym (ap (λ (q : Answered). q.0) e), same_answer m a (ap (λ (q : Answered). q.1) e))

no_answer : (s z : State) (name : TrapName) (a : ℕ) (P : Type 0) → Path Answered (s, Err name) (z, Ok a) → P
no_answer s z name a P e = let k : Path (Result ℕ TrapName) (Err name) (Ok a) = ap (λ (q : Answered). q.1) e in absurd cc

event_answer : (p : NumberedProgram) (input : List ℤ) (s z : State) (t a : ℕ) (r : Request) (o : Option TrapName)
    → Path Answered (on_applied p s t r (sync.on_check o s.sync (sync.done s.sync t r))) (z, Ok a) → IsAnswer p input s t (actions.Event r) z a
event_answer p input s z t a r (Some name) e = no_answer _ z name a (IsAnswer p input s t (actions.Event r) z a) e
event_answer p input s z t a r None e =
    let k = answer_is _ z _ a e in
    (k.0 ∙ requested_is p s t r, k.1 ∙ reply_is s t (sync.done s.sync t r).0 (sync.done s.sync t r).1 r)

pub answered_is : (p : NumberedProgram) (input : List ℤ) (s z : State) (t a : ℕ) (action : Action) → Path Answered (answered p input s t action) (z, Ok a) → IsAnswer p input s t action z a
unfolding answered sync.applied
answered_is p input s z t a actions.Local e = answer_is s z _ a e
answered_is p input s z t a (actions.In i) e = answer_is s z _ a e
answered_is p input s z t a actions.InLen e = answer_is s z _ a e
answered_is p input s z t a (actions.Load r) e = answer_is s z _ a e
answered_is p input s z t a (actions.Store r n) e = answer_is _ z _ a e
answered_is p input s z t a (actions.Event r) e = event_answer p input s z t a r (sync.check s.sync t r) e
answered_is p input s z t a (actions.Trap name) e = no_answer s z name a (IsAnswer p input s t (actions.Trap name) z a) e
answered_is p input s z t a actions.Ended e = answer_is s z _ a e

-- ---- the step

locals_is : (p : NumberedProgram) (t a : ℕ) (o : Option LocalState) (ls : List LocalState) → local_after p ls t a o ≡ effects.local_set t (own_after p a o) ls
locals_is p t a None ls = refl
locals_is p t a (Some l) ls = refl

-- after the answer the thread's own local state changes
abbrev goes_on : NumberedProgram → ℕ → Option LocalState → State → ℕ → State
goes_on p t o z a = record z { locals = local_after p z.locals t a o }

effect_is : (p : NumberedProgram) (input : List ℤ) (s z : State) (t a : ℕ) → IsAnswer p input s t (next_of p s t) z a
    → goes_on p t (slice_get s.locals t) z a ≡ effect s (effect_of p input s t)
unfolding effect effect_of
effect_is p input s z t a h =
    ap (λ (w : State). goes_on p t (slice_get s.locals t) w a) h.0
    ∙ ap (goes_on p t (slice_get s.locals t) (but_local p s t (next_of p s t))) h.1
    ∙ ap (λ (ls : List LocalState). record (but_local p s t (next_of p s t)) { locals = ls })
    (locals_is p t (answer_to input s t (next_of p s t)) (slice_get s.locals t) (effects.locals_with (effects.request_effect p s t (next_of p s t)) s.locals))

pub has_effect : (gated : List InstrId) (p : NumberedProgram) (input : List ℤ) (s : State) (t : ℕ) → IfDid (step gated p input s t) (λ x z. z ≡ effect s (effect_of p input s t))
unfolding step
has_effect gated p input s t = go (answered p input s t (next_of p s t)) refl
  where
    go : (o : Answered) → answered p input s t (next_of p s t) ≡ o → IfDid (settled gated p s t (taken p s t o)) (λ x z. z ≡ effect s (effect_of p input s t))
    go (z, Err name) e = tt
    go (z, Ok a) e = effect_is p input s z t a (answered_is p input s z t a (next_of p s t) e)
