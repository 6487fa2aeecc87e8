-- What a step does rests on its thread, on the cells that it reads, and, where it is an event, on the objects.
use Rattle.std.proofs.Common.{◌≡◌, ℕ, ℤ, ◌+◌, ◌<◌, List, [], ◌∷◌, length, drop, Bool, true, false, Option, Some, None, Result, Ok, refl, sym, ◌∙◌, ap, subst}
use Rattle.std.proofs.Common.{arith, zero, suc}
use Rattle.std.specs.Prelude.{◌==◌, ◌&&◌, not, nat_lt, is_some, slice_get, if◌then◌else◌}
use Rattle.std.proofs.lemmas.Bool.Decides.{nat_tests}
use Rattle.std.proofs.lemmas.Bool.{and_parts, and_from}
use Rattle.pg_num.specs.declared.limits.TheConstants.{GUIDED_STEP_LIMIT}
use Rattle.pg_ir.specs.declared.ids.InstrId.{InstrId}
use Rattle.pg_ir.specs.declared.request.TrapName.{TrapName}
use Rattle.pg_ir.specs.Program.{NumberedProgram}
use Rattle.pg_law_threads.specs.Effects.{IsSame, Same, deeds}
use Rattle.pg_law_threads.specs.Machines.{May, AreDetermined}
use Rattle.pg_law_threads.proofs.EffectsOfSteps.{deed_then, deed_back}
use Rattle.pg_run_objects.specs.Sync as sync
use Rattle.pg_run_thread.specs.declared.action.Action.{Action}
use Rattle.pg_run_thread.specs.declared.action.Action.TheVariants as actions
use Rattle.pg_run_thread.specs.LocalState.{LocalState}
use Rattle.pg_run_trace.specs.declared.turn.Turn.{Turn}
use Rattle.pg_run_trace.specs.declared.step.Step.{Step}
use Rattle.pg_run_trace.specs.declared.step.Happening.{Happening}
use Rattle.pg_run_trace.specs.declared.step.StepKind.{StepKind}
use Rattle.pg_run_trace.specs.declared.step.StepKind.TheVariants as kinds
use Rattle.pg_run_trace.specs.Steps.{happening_in, turn_at}
use Rattle.pg_run.specs.Locality.{IfDid}
use Rattle.pg_run.specs.State.{State, next_of}
use Rattle.pg_run.specs.MachineStep.{Stepped, may_act, step, turn_of}
use Rattle.pg_run.specs.Runs.{Takes, event_of}
use Rattle.pg_run.specs.Permitted.{has_turn}
use Rattle.pg_run.proofs.StepsBegin.{ready_acts, ready_made}
use Rattle.pg_run.proofs.GuidedRuns.{same_number}
use Rattle.pg_law_effects.specs.Effect.{Effect, effect, effect_of}
use Rattle.pg_law_effects.specs.Meets.{AgreeFor}
use Rattle.pg_law_effects.specs.PermittedSteps.{IsDue, MayTake}
use Rattle.pg_law_effects.specs.Reached.{IsReached}
use Rattle.pg_law_effects.specs.Told.{asks, tells}
use Rattle.pg_law_effects.specs.Views.{AreLikeFor, Objects, cell_at, local_at, objects_of, reads_cell}
use Rattle.pg_law_effects.proofs.StepDependence.{effect_alike}
use Rattle.pg_law_effects.proofs.RunsByThreads.{is_going}
use Rattle.pg_law_effects.proofs.ThreadLimits.{IsAllowed, did_allowed}
use Rattle.pg_law_effects.proofs.ReachedStates.{present}
use Rattle.pg_law_effects.proofs.StepViews.{agree_like}
use Rattle.pg_law_effects.proofs.TellDependence.{tells_alike}
use Rattle.pg_law_effects.proofs.ToldByStep.{event_is, tells_request}
use Rattle.pg_law_runs.specs.Deeds.{Did as Deed', Does, Seen, Shared, Thread, deed_by, deed_of, goes_on, is_granted, local_event, local_goes, local_granted, owners_of, rules, seen, shared_after}
use Rattle.pg_law_runs.specs.Deeds.{shared_of}
use Rattle.pg_law_runs.proofs.StepRules.{Steps, looks, none_granted, plain_granted, steps_by, turn_is}

is_some_if : {A : Type 0} (b : Bool) (x : A) → is_some (if◌then◌else◌ {A = Option A} b (Some x) None) ≡ b
is_some_if true x = refl
is_some_if false x = refl

pub some_turn : (x : Step) (o : Option Happening) → is_some (turn_at x o) ≡ is_some o
some_turn x None = refl
some_turn x (Some h) = refl

asks_happens : (k : StepKind) → asks k ≡ true → is_some (happening_in k) ≡ true
asks_happens (kinds.Event e) h = refl
asks_happens kinds.Other h = absurd cc
asks_happens (kinds.Branch c) h = absurd cc
asks_happens (kinds.Allocation a b) h = absurd cc
asks_happens (kinds.Access a) h = absurd cc

thread_is : (p : NumberedProgram) (input : List ℤ) (s : State) (t : ℕ) → (effect_of p input s t).thread ≡ t
unfolding effect_of
thread_is p input s t = refl

module _ (gated : List InstrId) (p : NumberedProgram) (input : List ℤ) where
  -- a step that is a request is an event
  pub request_event : (s : State) (x : Step) → Takes gated p input s x → is_some (effect_of p input s x.thread.0).request ≡ true → is_some (event_of x) ≡ true
  request_event s x h r =
      let k : asks x.kind ≡ is_some (effect_of p input s x.thread.0).request =
      subst (λ (o : Stepped). IfDid o (λ y z. asks y.kind ≡ is_some (effect_of p input s x.thread.0).request)) h.is_step (tells_request gated p input s x.thread.0) in
      some_turn x (happening_in x.kind) ∙ asks_happens x.kind (k ∙ r)

  -- whether a step is an event is seen of its thread
  pub event_seen : (s : State) (x : Step) → IsReached p s → Takes gated p input s x → is_some (event_of x) ≡ local_event gated p (local_at s x.thread.0)
  event_seen s x reached h =
      let y = present s x.thread.0 (ready_made p s x.thread.0 h.is_ready) in
      ap is_some (event_is gated p input s h.after x.thread.0 x h.is_step) ∙ sym (looks gated p s x.thread.0 y.0 reached y.1).event

  pub does_event : (a : Seen) (d : Deed') → Does gated p input a d → deeds.is_event d ≡ (rules gated p).is_event (a.locals d.thread)
  does_event a d h =
      ap is_some h.is_deed.objects ∙ is_some_if (is_some (event_of h.told)) (shared_after h.state (effect_of p input h.state h.told.thread.0))
      ∙ event_seen h.state h.told h.reached h.takes
      ∙ ap (λ (l : Thread). local_event gated p l.local) (sym (h.looks.locals h.told.thread.0))
      ∙ ap (λ (t : ℕ). local_event gated p (a.locals t).local) (sym h.is_deed.thread)

  -- a step that is an event is one as a deed
  pub deed_event : (s : State) (counts : ℕ → ℕ) (x : Step) → deeds.is_event (deed_of p input s counts x) ≡ is_some (event_of x)
  deed_event s counts x = is_some_if (is_some (event_of x)) (shared_after s (effect_of p input s x.thread.0))

  -- ---- steps on states that look alike

  shared_same : (s z : State) (e : Effect) (b : Bool) → (b ≡ true → shared_of s ≡ shared_of z) →
      Path (Option Shared) (if b then Some (shared_after s e) else None) (if b then Some (shared_after z e) else None)
  shared_same s z e true h = ap (λ (y : Shared). Some
      (record { objects = Rattle.pg_law_effects.specs.Views.objects_with e.thread e.request y.objects; printed = Rattle.pg_law_effects.specs.Effect.printed_with e.request y.printed })) (h refl)
  shared_same s z e false h = refl

  same_by : (s z : State) (m n : ℕ → ℕ) (x : Step) (e : Effect) → m x.thread.0 ≡ n x.thread.0 → (is_some (event_of x) ≡ true → shared_of s ≡ shared_of z)
      → IsSame (deed_by s m x e) (deed_by z n x e)
  same_by s z m n x e k o = record {
    thread = refl;
    to = ap (λ (i : ℕ). record { local = e.local; taken = suc i }) k;
    told = refl;
    reads = λ b. refl;
    writes = λ b. refl;
    objects = shared_same s z e (is_some (event_of x)) o;
  }

  told_same : (x y : Step) → Path (Result Step (TrapName × ℕ)) (Ok x) (Ok y) → x ≡ y
  told_same x y e = cc

  pub does_same : (a b : Seen) (p1 d : Deed') → Does gated p input a p1 → Does gated p input b d → d.thread ≡ p1.thread → a.locals p1.thread ≡ b.locals p1.thread →
      ((c : ℕ) → p1.reads c ≡ true → a.cells c ≡ b.cells c) → (deeds.is_event p1 ≡ true → a.objects ≡ b.objects) → IsSame p1 d
  does_same a b p1 d h k u l c o =
      let x = h.told in
      let y = k.told in
      let t = x.thread.0 in
      let s = h.state in
      let z = k.state in
      let mine : p1.thread ≡ t = h.is_deed.thread in
      let theirs : y.thread.0 ≡ t = sym k.is_deed.thread ∙ u ∙ mine in
      let made : t < length s.locals = ready_made p s t h.takes.is_ready in
      let local : Path Thread (record { local = local_at s t; taken = h.counts t }) (record { local = local_at z t; taken = k.counts t }) =
      sym (h.looks.locals t) ∙ subst (λ (v : ℕ). a.locals v ≡ b.locals v) mine l ∙ k.looks.locals t in
      let is_event : (is_some (event_of x) ≡ true → deeds.is_event p1 ≡ true) =
      λ v. ap is_some h.is_deed.objects ∙ is_some_if (is_some (event_of x)) (shared_after s (effect_of p input s t)) ∙ v in
      let shared : (is_some (event_of x) ≡ true → shared_of s ≡ shared_of z) = λ v. sym h.looks.objects ∙ o (is_event v) ∙ k.looks.objects in
      let like : AreLikeFor (effect_of p input s t) s z = record {
        local = subst (λ (v : ℕ). local_at s v ≡ local_at z v) (sym (thread_is p input s t)) (ap (λ (q : Thread). q.local) local);
        cells = λ i r. sym (h.looks.cells i) ∙ c i (h.is_deed.reads i ∙ r) ∙ k.looks.cells i;
        objects = λ r. ap (λ (q : Shared). q.objects) (shared (request_event s x h.takes r));
      } in
      let agree : AgreeFor (effect_of p input s t) s z = agree_like p input s z t h.reached k.reached made like in
      let same_told : x ≡ y = told_same x y (sym (ap tells h.takes.is_step) ∙ tells_alike gated p input s z t agree ∙ ap (λ (v : ℕ). tells (step gated p input z v)) (sym theirs)
      ∙ ap tells k.takes.is_step) in
      let same_effect : effect_of p input s t ≡ effect_of p input z t = effect_alike p input s z t agree in
      let other : IsSame d (deed_by z k.counts x (effect_of p input s t)) =
      subst (λ (e : Effect). IsSame d (deed_by z k.counts x e)) (sym same_effect)
      (subst (λ (v : Step). IsSame d (deed_by z k.counts v (effect_of p input z v.thread.0))) (sym same_told) k.is_deed) in
      deed_then h.is_deed (deed_then (same_by s z h.counts k.counts x (effect_of p input s t) (ap (λ (q : Thread). q.taken) local) shared) (deed_back other))

  pub determined : AreDetermined (rules gated p) (Does gated p input)
  determined = record { event = does_event; same = does_same }

  -- ---- a step that may be taken is one that may be taken of what is seen

  pub goes_by : (s : State) (t : ℕ) (action : Action) → IsAllowed s t action → may_act s t action ≡ true → (goes_on action ≡ true) × (is_granted s.sync t action ≡ true)
  goes_by s t actions.Local a m = (refl, refl)
  goes_by s t (actions.In i) a m = (refl, refl)
  goes_by s t actions.InLen a m = (refl, refl)
  goes_by s t (actions.Load r) a m = (refl, refl)
  goes_by s t (actions.Store r n) a m = (refl, refl)
  goes_by s t (actions.Event r) a m = (refl, and_from (sync.ready s.sync t r) (not (is_some (sync.check s.sync t r))) m (ap (λ (o : Option TrapName). not (is_some o)) a))
  goes_by s t (actions.Trap name) a m = absurd a
  goes_by s t actions.Ended a m = absurd cc

  owner_in : (t : ℕ) (us : List Turn) → has_turn t us ≡ true → (i : ℕ) × (slice_get (owners_of us) i ≡ Some t)
  owner_in t [] h = absurd cc
  owner_in t (u ∷ us) h = go (u.thread.0 == t) refl (owner_in t us)
    where
      go : (b : Bool) → (u.thread.0 == t) ≡ b → (has_turn t us ≡ true → (i : ℕ) × (slice_get (owners_of us) i ≡ Some t)) → (i : ℕ) × (slice_get (owners_of (u ∷ us)) i ≡ Some t)
      go true e more = (0, ap Some (same_number u.thread.0 t e))
      go false e more = let k = more (rw e at h) in (suc k.0, k.1)

  pub get_behind : (g : ℕ) (us : List Turn) (i : ℕ) → slice_get (owners_of (drop g us)) i ≡ slice_get (owners_of us) (g + i)
  get_behind zero us i = let e : i ≡ 0 + i = omega arith in ap (slice_get (owners_of us)) e
  get_behind (suc g) [] i = refl
  get_behind (suc g) (u ∷ us) i = let e : suc (g + i) ≡ suc g + i = omega arith in get_behind g us i ∙ ap (slice_get (owners_of (u ∷ us))) e

  pub due_owner : (x : Step) (o : Option Happening) (us : List Turn) → is_some (turn_at x o) ≡ true → IsDue (turn_at x o) us → slice_get (owners_of us) 0 ≡ Some x.thread.0
  due_owner x None us h d = absurd cc
  due_owner x (Some v) [] h d = absurd d
  due_owner x (Some v) (u ∷ us) h d = ap (λ (w : Turn). Some w.thread.0) (sym d)

  module _ (s : State) (counts : ℕ → ℕ) (a : Seen) (reached : IsReached p s) (sees : Same a (seen s counts)) (turns : List Turn) (g : ℕ) where
    pub may_of : (x : Step) → MayTake gated p input s (drop g turns) counts x → May (rules gated p) (owners_of turns) a g x.thread.0
    may_of x m =
        let t = x.thread.0 in
        let y = present s t (ready_made p s t m.takes.is_ready) in
        let see = looks gated p s t y.0 reached y.1 in
        let allowed = goes_by s t (next_of p s t) (did_allowed gated p input s m.takes.after t x m.takes.is_step) (ready_acts p s t m.takes.is_ready) in
        let own = owner_in t (drop g turns) m.owner in
        let below : nat_lt (counts t) GUIDED_STEP_LIMIT ≡ true = let b = m.budget in grind (arith, nat_tests) in
        record {
          going = ap (λ (q : Shared). sync.over q.objects.sync) sees.objects ∙ is_going p s t m.takes.is_ready;
          can = ap (λ (l : Thread). local_goes p l.local && nat_lt l.taken GUIDED_STEP_LIMIT) (sees.locals t)
              ∙ and_from (local_goes p (local_at s t)) (nat_lt (counts t) GUIDED_STEP_LIMIT) (see.goes ∙ allowed.0) below;
          turn = g + own.0;
          left = omega arith;
          own = sym (get_behind g turns own.0) ∙ own.1;
          next = λ v. ap (slice_get (owners_of turns)) (plus_none g) ∙ sym (get_behind g turns 0)
              ∙ due_owner x (happening_in x.kind) (drop g turns) (event_seen s x reached m.takes ∙ ap (λ (l : Thread). local_event gated p l.local) (sym (sees.locals t)) ∙ v) m.due;
          ready = λ v. ap (λ (l : Thread). local_granted p t l.local a.objects.objects) (sees.locals t) ∙ ap (λ (q : Shared). local_granted p t (local_at s t) q.objects) sees.objects
              ∙ see.granted ∙ allowed.1;
        }
      where
        plus_none : (n : ℕ) → n ≡ n + 0
        plus_none n = omega arith

    -- and the other way: the step is there
    pub steps_of_may : (t : ℕ) → May (rules gated p) (owners_of turns) a g t → Steps gated p input t s
    steps_of_may t m = go (slice_get s.locals t) refl
      where
        event_is_seen : (b : Bool) → local_event gated p (local_at s t) ≡ b → (rules gated p).is_event (a.locals t) ≡ b
        event_is_seen b e = ap (λ (l : Thread). local_event gated p l.local) (sees.locals t) ∙ e

        granted_seen : local_event gated p (local_at s t) ≡ true → local_granted p t (local_at s t) (objects_of s) ≡ true
        granted_seen e =
            ap (λ (q : Shared). local_granted p t (local_at s t) q.objects) (sym sees.objects) ∙ ap (λ (l : Thread). local_granted p t l.local a.objects.objects) (sym (sees.locals t))
            ∙ m.ready (event_is_seen true e)

        go : (o : Option LocalState) → slice_get s.locals t ≡ o → Steps gated p input t s
        go None e =
            let n = none_granted p s t e in
            let k : local_granted p t (local_at s t) (objects_of s) ≡ true = granted_seen (ap (local_event gated p) n.0) in
            let q : true ≡ false = sym k ∙ n.1 in absurd cc
        go (Some l) e =
            let see = looks gated p s t l reached e in
            let can = and_parts (local_goes p (local_at s t)) (nat_lt (counts t) GUIDED_STEP_LIMIT)
            (ap (λ (l : Thread). local_goes p l.local && nat_lt l.taken GUIDED_STEP_LIMIT) (sym (sees.locals t)) ∙ m.can) in
            steps_by gated p input t s (ap (λ (q : Shared). sync.over q.objects.sync) (sym sees.objects) ∙ m.going) (sym see.goes ∙ can.0) (by_event (is_some (turn_of gated p s t)) refl)
          where
            by_event : (b : Bool) → is_some (turn_of gated p s t) ≡ b → is_granted s.sync t (next_of p s t) ≡ true
            by_event true v = let see = looks gated p s t l reached e in sym see.granted ∙ granted_seen (see.event ∙ v)
            by_event false v = plain_granted gated (Rattle.pg_run.specs.State.instr_of s t) s.sync t (next_of p s t) (sym (turn_is gated p s t) ∙ v)
