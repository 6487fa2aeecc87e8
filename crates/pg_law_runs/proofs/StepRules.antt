-- Which threads may step, by what is seen of them.
use Rattle.std.proofs.Common.{◌≡◌, ℕ, ℤ, List, [], ◌∷◌, map, Bool, true, false, Option, Some, None, refl, sym, ◌∙◌, ap, subst, zero, suc}
use Rattle.std.specs.Prelude.{◌&&◌, ◌||◌, not, nat_lt, is_some, slice_get, if◌then◌else◌}
use Rattle.std.proofs.lemmas.Bool.{and_parts}
use Rattle.pg_ir.specs.declared.ids.InstrId.{InstrId}
use Rattle.pg_ir.specs.declared.request.Request.{Request}
use Rattle.pg_ir.specs.declared.request.Request.TheVariants as requests
use Rattle.pg_ir.specs.declared.request.TrapName.{TrapName}
use Rattle.pg_ir.specs.Program.{NumberedProgram}
use Rattle.pg_run_objects.specs.Sync as sync
use Rattle.pg_run_thread.specs.declared.action.Action.{Action}
use Rattle.pg_run_thread.specs.declared.action.Action.TheVariants as actions
use Rattle.pg_run_thread.specs.LocalState.{LocalState, fresh}
use Rattle.pg_run_thread.specs.Step.{next}
use Rattle.pg_run_thread.specs.Told.{id_of}
use Rattle.pg_run_trace.specs.declared.step.Step.{Step}
use Rattle.pg_run.specs.State.{State, id_in, instr_of, next_of}
use Rattle.pg_run.specs.MachineStep.{Answered, Did, answered, happening_if, happening_of, is_gated, may_act, on_applied, ready, settled, step, taken, turn_of, turn_with}
use Rattle.pg_run.specs.Runs.{Takes}
use Rattle.pg_run.proofs.StepsBegin.{next_is}
use Rattle.pg_law_effects.specs.Reached.{IsReached, IsThread}
use Rattle.pg_law_effects.specs.Views.{begun_in, local_at, objects_of, start_of}
use Rattle.pg_law_effects.proofs.ToldByStep.{thread_of}
use Rattle.pg_law_runs.specs.Deeds.{goes_on, has_start, is_event_at, is_granted, local_event, local_goes, local_granted}

-- ---- what is seen of a thread that is made

start_at : (ls : List LocalState) (t : ℕ) (l : LocalState) → slice_get ls t ≡ Some l → slice_get (map start_of ls) t ≡ Some (start_of l)
start_at [] t l e = absurd cc
start_at (x ∷ ls) zero l e = let k : x ≡ l = cc in ap (λ y. Some (start_of y)) k
start_at (x ∷ ls) (suc t) l e = start_at ls t l e

start_none : (ls : List LocalState) (t : ℕ) → slice_get ls t ≡ None → slice_get (map start_of ls) t ≡ None
start_none [] t e = refl
start_none (x ∷ ls) zero e = absurd cc
start_none (x ∷ ls) (suc t) e = start_none ls t e

pub next_fresh : (p : NumberedProgram) (t f : ℕ) → next p (fresh p t f) ≡ actions.Event requests.Start
unfolding next fresh
next_fresh p t f = refl

starts_fresh : (p : NumberedProgram) (t f : ℕ) → start_of (fresh p t f) ≡ Some f
unfolding fresh
starts_fresh p t f = refl

pub instr_is : (s : State) (t : ℕ) (l : LocalState) → slice_get s.locals t ≡ Some l → instr_of s t ≡ id_of l
unfolding instr_of
instr_is s t l e = ap id_in e

start_granted : (y : sync.Sync) (t : ℕ) → is_granted y t (actions.Event requests.Start) ≡ true
unfolding sync.ready sync.check
start_granted y t = refl

-- ---- events

gated_turn : (s : State) (t : ℕ) (b : Bool) (k : Rattle.pg_run_trace.specs.declared.turn.TurnKind.TurnKind) (o : ℕ) → is_some (turn_with s t (happening_if b k o)) ≡ b
gated_turn s t true k o = refl
gated_turn s t false k o = refl

turn_by : (gated : List InstrId) (s : State) (t : ℕ) (action : Action) → is_some (turn_with s t (happening_of gated s t action)) ≡ is_event_at gated (instr_of s t) action
turn_by gated s t (actions.Event r) = refl
turn_by gated s t (actions.Load r) = gated_turn s t (is_gated gated (instr_of s t)) _ r.start
turn_by gated s t (actions.Store r n) = gated_turn s t (is_gated gated (instr_of s t)) _ r.start
turn_by gated s t actions.Local = refl
turn_by gated s t (actions.In i) = refl
turn_by gated s t actions.InLen = refl
turn_by gated s t (actions.Trap name) = refl
turn_by gated s t actions.Ended = refl

pub turn_is : (gated : List InstrId) (p : NumberedProgram) (s : State) (t : ℕ) → is_some (turn_of gated p s t) ≡ is_event_at gated (instr_of s t) (next_of p s t)
unfolding turn_of
turn_is gated p s t = turn_by gated s t (next_of p s t)

-- ---- a thread that is made

module _ (gated : List InstrId) (p : NumberedProgram) (s : State) (t : ℕ) (l : LocalState) (reached : IsReached p s) (made : slice_get s.locals t ≡ Some l) where
  thread : IsThread p t l
  thread = subst (λ (o : Option LocalState). Rattle.std.specs.Prelude.IfSome o (IsThread p t)) made (reached.threads t)

  -- as it is seen
  pub record Looks : Type 0 where
    pub goes : local_goes p (local_at s t) ≡ goes_on (next_of p s t)
    pub event : local_event gated p (local_at s t) ≡ is_some (turn_of gated p s t)
    pub granted : local_granted p t (local_at s t) (objects_of s) ≡ is_granted s.sync t (next_of p s t)

  looks_begun : l.begun ≡ true → Looks
  looks_begun b =
      let e : local_at s t ≡ Some l = ap begun_in made ∙ ap (λ (c : Bool). if c then Some l else None) b in
      let n : next_of p s t ≡ next p l = next_is p s t l made in
      record {
        goes = ap (local_goes p) e ∙ ap goes_on (sym n);
        event = ap (local_event gated p) e ∙ ap (λ (i : ℕ). is_event_at gated i (next p l)) (sym (instr_is s t l made)) ∙ ap (is_event_at gated (instr_of s t)) (sym n)
            ∙ sym (turn_is gated p s t);
        granted = ap (λ (o : Option LocalState). local_granted p t o (objects_of s)) e ∙ ap (is_granted s.sync t) (sym n);
      }

  looks_waiting : l.begun ≡ false → Looks
  looks_waiting b =
      let w = thread.waiting b in
      let e : local_at s t ≡ None = ap begun_in made ∙ ap (λ (c : Bool). if c then Some l else None) b in
      let n : next_of p s t ≡ actions.Event requests.Start = next_is p s t l made ∙ ap (next p) w.1 ∙ next_fresh p t w.0 in
      let f : slice_get (map start_of s.locals) t ≡ Some (Some w.0) =
      start_at s.locals t l made ∙ ap (λ (m : LocalState). Some (start_of m)) w.1 ∙ ap (λ (o : Option ℕ). Some o) (starts_fresh p t w.0) in
      record {
        goes = ap (local_goes p) e ∙ ap goes_on (sym n);
        event = ap (local_event gated p) e ∙ ap (is_event_at gated (instr_of s t)) (sym n) ∙ sym (turn_is gated p s t);
        granted = ap (λ (o : Option LocalState). local_granted p t o (objects_of s)) e ∙ ap has_start f ∙ sym (start_granted s.sync t) ∙ ap (is_granted s.sync t) (sym n);
      }

  pub looks : Looks
  looks = go l.begun refl
    where
      go : (b : Bool) → l.begun ≡ b → Looks
      go true e = looks_begun e
      go false e = looks_waiting e

-- a thread that isn't made waits for an event that isn't granted
pub none_granted : (p : NumberedProgram) (s : State) (t : ℕ) → slice_get s.locals t ≡ None → (local_at s t ≡ None) × (local_granted p t (local_at s t) (objects_of s) ≡ false)
none_granted p s t e =
    let n : local_at s t ≡ None = ap begun_in e in
    (n, ap (λ (o : Option LocalState). local_granted p t o (objects_of s)) n ∙ ap has_start (start_none s.locals t e))

-- ---- a step that may be taken is there

pub plain_granted : (gated : List InstrId) (id : ℕ) (y : sync.Sync) (t : ℕ) (action : Action) → is_event_at gated id action ≡ false → is_granted y t action ≡ true
plain_granted gated id y t (actions.Event r) h = absurd cc
plain_granted gated id y t actions.Local h = refl
plain_granted gated id y t (actions.In i) h = refl
plain_granted gated id y t actions.InLen h = refl
plain_granted gated id y t (actions.Load r) h = refl
plain_granted gated id y t (actions.Store r n) h = refl
plain_granted gated id y t (actions.Trap name) h = refl
plain_granted gated id y t actions.Ended h = refl

module _ (gated : List InstrId) (p : NumberedProgram) (input : List ℤ) where
  abbrev Settles : ℕ → State → Answered → Type 0
  Settles t s o = (x : Step) × (z : State) × (settled gated p s t (taken p s t o) ≡ Did x z)

  no_trap : (o : Option TrapName) → not (is_some o) ≡ true → o ≡ None
  no_trap None h = refl
  no_trap (Some name) h = absurd cc

  event_settles : (t : ℕ) (s : State) (r : Request) → sync.check s.sync t r ≡ None → Settles t s (answered p input s t (actions.Event r))
  unfolding answered sync.applied
  event_settles t s r h = subst (λ (o : Option TrapName). Settles t s (on_applied p s t r (sync.on_check o s.sync (sync.done s.sync t r)))) (sym h) (_, _, refl)

  settles : (t : ℕ) (s : State) (action : Action) → goes_on action ≡ true → is_granted s.sync t action ≡ true → Settles t s (answered p input s t action) × (may_act s t action ≡ true)
  unfolding answered
  settles t s actions.Local h k = ((_, _, refl), refl)
  settles t s (actions.In i) h k = ((_, _, refl), refl)
  settles t s actions.InLen h k = ((_, _, refl), refl)
  settles t s (actions.Load r) h k = ((_, _, refl), refl)
  settles t s (actions.Store r n) h k = ((_, _, refl), refl)
  settles t s (actions.Event r) h k = let a = and_parts (sync.ready s.sync t r) (not (is_some (sync.check s.sync t r))) k in (event_settles t s r (no_trap (sync.check s.sync t r) a.1), a.0)
  settles t s (actions.Trap name) h k = absurd cc
  settles t s actions.Ended h k = absurd cc

  -- the step of thread t, and that it may be taken
  pub record Steps (t : ℕ) (s : State) : Type 0 where
    pub told : Step
    pub own : told.thread.0 ≡ t
    pub takes : Takes gated p input s told

  is_ready : (t : ℕ) (s : State) → sync.over s.sync ≡ false → may_act s t (next_of p s t) ≡ true → ready p s t ≡ true
  unfolding ready
  is_ready t s h k = rw (h, k) refl

  pub steps_by : (t : ℕ) (s : State) → sync.over s.sync ≡ false → goes_on (next_of p s t) ≡ true → is_granted s.sync t (next_of p s t) ≡ true → Steps t s
  unfolding step
  steps_by t s o h k =
      let q = settles t s (next_of p s t) h k in
      let x = q.0.0 in
      let z = q.0.1 in
      let d : step gated p input s t ≡ Did x z = q.0.2 in
      let i : x.thread.0 ≡ t = thread_of gated p input s z t x d in
      record {
        told = x;
        own = i;
        takes = record { after = z; is_ready = subst (λ (u : ℕ). ready p s u ≡ true) (sym i) (is_ready t s o q.1); is_step = subst (λ (u : ℕ). step gated p input s u ≡ Did x z) (sym i) d };
      }
