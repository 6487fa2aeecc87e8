-- Along a good schedule: a thread whose next step isn't refused is ready, and its step doesn't trap.
use Rattle.std.proofs.Common.{◌≡◌, ℕ, ℤ, List, [], ◌∷◌, length, Bool, true, false, Some, refl, sym, ◌∙◌, ap, subst, ◌⊎◌, inl, inr}
use Rattle.std.specs.Prelude.{◌&&◌, not, nat_lt, if◌then◌else◌}
use Rattle.pg_law_course.specs.pg_ir.declared.ids.InstrId.{InstrId}
use Rattle.pg_law_course.specs.pg_ir.declared.request.Request.{Request}
use Rattle.pg_law_course.specs.pg_ir.Program.{NumberedProgram}
use Rattle.pg_law_course.specs.pg_run_thread.declared.action.Action.{Action}
use Rattle.pg_law_course.specs.pg_run_thread.declared.action.Action.TheVariants as actions
use Rattle.pg_law_course.specs.pg_run_trace.declared.schedule.Schedule.{Schedule}
use Rattle.pg_law_course.specs.pg_run_trace.declared.step.Happening.{Happening}
use Rattle.pg_law_course.specs.pg_run_trace.declared.step.Step.{Step}
use Rattle.pg_law_course.specs.pg_run_trace.declared.turn.Turn.{Turn}
use Rattle.pg_law_course.specs.pg_run_trace.Recording.{happening_of as request_happening}
use Rattle.pg_law_course.specs.pg_run.Bound.{next_by, next_step}
use Rattle.pg_law_course.specs.pg_run.MachineStep.{Did, Stepped, Trapped, answered, may_act, ready, settled, step, taken}
use Rattle.pg_law_course.specs.pg_run.Permitted.{IsFull, IsHeldBy, IsPermitted, has_spent, has_turn, turns_left}
use Rattle.pg_law_course.specs.pg_run.State.{State, initial, instr_of, next_of}
use Rattle.pg_law_course.specs.pg_law_effects.PermittedSteps.{IsDue}
use Rattle.pg_law_course.proofs.of_pg_law_effects.PermittedStepByStep.{permitted_more}
use Rattle.pg_law_course.proofs.of_pg_law_effects.RunsByThreads.{same_runs}
use Rattle.pg_law_course.specs.pg_law_runs.Cuts.{CanRun, CanStep}
use Rattle.pg_law_course.proofs.of_pg_law_runs.PermittedRuns as law
use Rattle.pg_law_course.specs.pg_law_order.Good.{IsGoodRun, run_along}
use Rattle.pg_law_course.proofs.of_pg_law_order.GoodRunsServe.{whole}
use Rattle.pg_locked.proofs.DueEvents.{event_goes}
use Rattle.pg_locked.proofs.NextTurns.{IsDueStep}
use Rattle.pg_law_course.specs.pg_run.pg_run_objects.Sync as sync

abbrev turn_at : ℕ → ℕ → Happening → Turn
turn_at t i h = record { thread = record { 0 = t }; instr = record { 0 = i }; kind = h.kind; object = h.object }

-- ---- steps

-- the step was done
abbrev pub IsDone : Stepped → Type 0
IsDone (Did x z) = Unit {0}
IsDone (Trapped name id) = ⊥

-- thread t is ready, and its step doesn't trap
pub record CanTake (gated : List InstrId) (p : NumberedProgram) (input : List ℤ) (s : State) (t : ℕ) : Type 0 where
  pub is_ready : ready p s t ≡ true
  pub is_done : IsDone (step gated p input s t)

not_over : (p : NumberedProgram) (s : State) (t : ℕ) → ready p s t ≡ true → sync.over s.sync ≡ false
unfolding ready
not_over p s t h = go (sync.over s.sync) refl
  where
    go : (b : Bool) → sync.over s.sync ≡ b → sync.over s.sync ≡ false
    go false e = e
    go true e = absurd (let k : false ≡ true = sym (ap (λ (b : Bool). not b && may_act s t (next_of p s t)) e) ∙ h in cc)

ready_by : (p : NumberedProgram) (s : State) (t : ℕ) → sync.over s.sync ≡ false → may_act s t (next_of p s t) ≡ true → ready p s t ≡ true
unfolding ready
ready_by p s t o m = ap (λ (b : Bool). not b && may_act s t (next_of p s t)) o ∙ ap (λ (b : Bool). not false && b) m

-- an action that only the thread's own state, the input or memory decides
abbrev IsPlain : Action → Type 0
IsPlain actions.Ended = ⊥
IsPlain (actions.Trap name) = ⊥
IsPlain (actions.Event r) = ⊥
IsPlain a = Unit {0}

plain_acts : (s : State) (t : ℕ) (a : Action) → IsPlain a → may_act s t a ≡ true
plain_acts s t actions.Local h = refl
plain_acts s t (actions.In i) h = refl
plain_acts s t actions.InLen h = refl
plain_acts s t (actions.Load r) h = refl
plain_acts s t (actions.Store r n) h = refl
plain_acts s t actions.Ended h = absurd h
plain_acts s t (actions.Trap name) h = absurd h
plain_acts s t (actions.Event r) h = absurd h

plain_done : (gated : List InstrId) (p : NumberedProgram) (input : List ℤ) (s : State) (t : ℕ) (a : Action) → IsPlain a → IsDone (settled gated p s t (taken p s t (answered p input s t a)))
unfolding answered
plain_done gated p input s t actions.Local h = tt
plain_done gated p input s t (actions.In i) h = tt
plain_done gated p input s t actions.InLen h = tt
plain_done gated p input s t (actions.Load r) h = tt
plain_done gated p input s t (actions.Store r n) h = tt
plain_done gated p input s t actions.Ended h = absurd h
plain_done gated p input s t (actions.Trap name) h = absurd h
plain_done gated p input s t (actions.Event r) h = absurd h

plain : (gated : List InstrId) (p : NumberedProgram) (input : List ℤ) (s : State) (t : ℕ) (a : Action) → next_of p s t ≡ a → IsPlain a → sync.over s.sync ≡ false → CanTake gated p input s t
unfolding step
plain gated p input s t a e h o = record {
  is_ready = ready_by p s t o (ap (may_act s t) e ∙ plain_acts s t a h);
  is_done = subst (λ (b : Action). IsDone (settled gated p s t (taken p s t (answered p input s t b)))) (sym e) (plain_done gated p input s t a h);
}

-- ---- a permitted run that can be prolonged

module _ (p : NumberedProgram) (input : List ℤ) (turns : List Turn) (gated : List InstrId) (xs : List Step) (z : State) (h : IsPermitted p input turns gated xs z) where
  takes : (t : ℕ) → CanStep p input turns gated xs t → CanTake gated p input z t
  takes t c =
      let k = (permitted_more p input turns gated xs c.step c.after).0 c.permitted in
      let same : k.0 ≡ z = (same_runs gated p input (initial p) k.0 z xs xs k.1.run h.run refl).1 in
      let is_step : step gated p input z t ≡ Did c.step k.2.0.takes.after = subst (λ (v : State). step gated p input v t ≡ Did c.step k.2.0.takes.after) same
      (subst (λ (u : ℕ). step gated p input k.0 u ≡ Did c.step k.2.0.takes.after) c.own k.2.0.takes.is_step) in
      record {
        is_ready = subst (λ (v : State). ready p v t ≡ true) same (subst (λ (u : ℕ). ready p k.0 u ≡ true) c.own k.2.0.takes.is_ready);
        is_done = subst IsDone (sym is_step) tt;
      }

module _ (p : NumberedProgram) (input : List ℤ) (s : Schedule) (can : CanRun p input) (good : IsGoodRun p input s)
    (xs : List Step) (z : State) (h : IsPermitted p input s.turns s.gated xs z) (us : List Turn) (left : turns_left s.turns xs ≡ us) where
  -- the run isn't over while turns are left
  goes_on : (t : ℕ) → has_turn t us ≡ true → sync.over z.sync ≡ false
  goes_on t own = go (law.goes_on p input s.turns s.gated can (run_along p input s).trace (run_along p input s).state (whole p input s good) xs z h)
    where
      held : (vs : List Turn) → has_turn t vs ≡ true → IsHeldBy s.gated p xs z vs → sync.over z.sync ≡ false
      held [] k f = absurd cc
      held (u ∷ vs) k f = f.going

      go : IsFull s.gated p s.turns xs z ⊎ ((i : ℕ) × CanStep p input s.turns s.gated xs i) → sync.over z.sync ≡ false
      go (inl f) = held us own (subst (IsHeldBy s.gated p xs z) left f)
      go (inr c) = not_over p z c.0 (takes p input s.turns s.gated xs z h c.0 c.1).is_ready

  at_event : (t : ℕ) (r : Request) → next_of p z t ≡ actions.Event r → has_spent xs t ≡ false → (v : Turn) → v.thread.0 ≡ t → IsDue (Some v) us → CanTake s.gated p input z t
  at_event t r e spent v own due = go us left due
    where
      go : (vs : List Turn) → turns_left s.turns xs ≡ vs → IsDue (Some v) vs → CanTake s.gated p input z t
      go [] q d = absurd d
      go (u ∷ vs) q d =
          let same : u.thread.0 ≡ t = ap (λ (w : Turn). w.thread.0) (sym d) ∙ own in
          takes p input s.turns s.gated xs z h t (subst (CanStep p input s.turns s.gated xs) same
          (event_goes p input s can good xs z h u vs q r (ap (next_of p z) same ∙ e) (ap (has_spent xs) same ∙ spent)))

  by_action : (t : ℕ) (a : Action) → next_of p z t ≡ a → has_turn t us ≡ true → has_spent xs t ≡ false → IsDueStep (next_by s.gated z t a) us → CanTake s.gated p input z t
  by_action t actions.Ended e own spent d = absurd d
  by_action t (actions.Trap name) e own spent d = absurd d
  by_action t (actions.Event r) e own spent d = at_event t r e spent (turn_at t (instr_of z t) (request_happening t (length z.sync.threads) r)) refl d
  by_action t actions.Local e own spent d = plain s.gated p input z t actions.Local e tt (goes_on t own)
  by_action t (actions.In i) e own spent d = plain s.gated p input z t (actions.In i) e tt (goes_on t own)
  by_action t actions.InLen e own spent d = plain s.gated p input z t actions.InLen e tt (goes_on t own)
  by_action t (actions.Load r) e own spent d = plain s.gated p input z t (actions.Load r) e tt (goes_on t own)
  by_action t (actions.Store r n) e own spent d = plain s.gated p input z t (actions.Store r n) e tt (goes_on t own)

  pub record IsMade (t : ℕ) : Type 0 where
    pub made : nat_lt t (length z.locals) ≡ true
    pub takes : CanTake s.gated p input z t

  -- its next step is due
  pub due_takes : (t : ℕ) → has_turn t us ≡ true → has_spent xs t ≡ false → IsDueStep (next_step p (record { state = z; input = input; gated = s.gated }) t) us → IsMade t
  due_takes t own spent due = go (nat_lt t (length z.locals)) refl due
    where
      go : (b : Bool) → nat_lt t (length z.locals) ≡ b
          → IsDueStep (if b then next_by s.gated z t (next_of p z t) else Rattle.pg_law_course.specs.pg_run.declared.machine.Next.TheVariants.NotMade) us → IsMade t
      go true e d = record { made = e; takes = by_action t (next_of p z t) refl own spent d }
      go false e d = absurd d
