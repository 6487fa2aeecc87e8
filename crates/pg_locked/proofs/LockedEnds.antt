-- What lies under the lock ends as the guided run: where no turn is left, or the owner of the next turn has stopped.
use Rattle.std.proofs.Common.{◌≡◌, ℕ, ℤ, zero, suc, ◌+◌, ◌<◌, ◌≤◌, List, [], ◌∷◌, length, drop, Bool, true, false, Option, Some, None, refl, sym, ap, ◌∙◌, subst, arith}
use Rattle.std.proofs.lemmas.Bool.{le-leb, lt-leb, ltb-true, or_left, or_right}
use Rattle.std.specs.Prelude.{◌||◌, is_some, nat_lt, slice_get, slice_index, if◌then◌else◌}
use Rattle.pg_law_course.specs.pg_num.declared.limits.TheConstants.{GUIDED_STEP_LIMIT}
use Rattle.pg_law_course.specs.pg_ir.declared.ids.InstrId.{InstrId}
use Rattle.pg_law_course.specs.pg_ir.declared.request.TrapName.{TrapName}
use Rattle.pg_law_course.specs.pg_ir.Program.{NumberedProgram}
use Rattle.pg_law_course.specs.pg_law_threads.Effects.{deeds}
use Rattle.pg_law_course.specs.pg_law_threads.Intervals.{turns_done}
use Rattle.pg_law_course.specs.pg_run.pg_run_objects.Sync as sync
use Rattle.pg_law_course.specs.pg_run_trace.declared.schedule.Schedule.{Schedule}
use Rattle.pg_law_course.specs.pg_run_trace.declared.turn.Turn.{Turn}
use Rattle.pg_law_course.specs.pg_run.declared.guided_end.GuidedEnd.{GuidedEnd}
use Rattle.pg_law_course.specs.pg_run.declared.guided_end.GuidedEnd.TheVariants as ends
use Rattle.pg_law_course.specs.pg_run.declared.machine.Next.{Next}
use Rattle.pg_law_course.specs.pg_run.declared.machine.Next.TheVariants as nexts
use Rattle.pg_law_course.specs.pg_run.Bound.{BoundState, next_by, next_step}
use Rattle.pg_law_course.specs.pg_run.Guided.{GuidedRun}
use Rattle.pg_law_course.specs.pg_run.MachineStep.{trap_of}
use Rattle.pg_law_course.specs.pg_run.Permitted.{IsHeldBy, end_before, full_end, has_spent, traps, trapped, turns_left}
use Rattle.pg_law_course.specs.pg_run.Runs.{events, steps_of}
use Rattle.pg_law_course.specs.pg_run.State.{State, exit_value_of, initial, next_of}
use Rattle.pg_law_course.specs.pg_law_effects.PermittedSteps.{none_taken}
use Rattle.pg_law_course.proofs.of_pg_law_effects.FullGuidedRun.{full_is}
use Rattle.pg_law_course.specs.pg_law_runs.Cuts.{HasEndedAs}
use Rattle.pg_law_course.proofs.of_pg_law_runs.PermittedRuns as law
use Rattle.pg_law_course.proofs.of_pg_law_runs.RunsAsDeeds.{turns_are}
use Rattle.pg_law_course.specs.pg_law_order.Good.{run_along}
use Rattle.pg_law_course.specs.pg_law_order.Served.{guided_along}
use Rattle.pg_law_course.proofs.of_pg_law_order.FullRunOutput.{full_goes_on}
use Rattle.pg_law_course.proofs.of_pg_law_order.GoodRunsServe.{stays, whole}
use Rattle.pg_law_course.specs.Plan.{guided_deeds}
use Rattle.pg_law_course.proofs.GuidedOutput.{same_turns}
use Rattle.pg_locked.specs.Standing.{EndsAsGuided, Given, GoesOn, IsLocked, Standing}
use Rattle.pg_locked.proofs.LockedSteps.{left_is}
use Rattle.pg_locked.proofs.NextTurns.{TellsTrap, next_traps}

count_is : (p : NumberedProgram) (input : List ℤ) (s : Schedule) → length (events (run_along p input s).trace) ≡ (guided_along p input s).turns
unfolding guided_deeds
count_is p input s =
    let a : turns_done deeds 0 (guided_deeds p input s) ≡ 0 + length (events (run_along p input s).trace) = turns_are s.gated p input (initial p) none_taken 0 (run_along p input s).trace in
    let b : (guided_along p input s).turns ≡ turns_done deeds 0 (guided_deeds p input s) = same_turns p input s in
    omega (arith, a, b)

-- ---- lists of turns

none_left : (n : ℕ) (us : List Turn) → slice_get us n ≡ None → drop n us ≡ []
none_left zero [] e = refl
none_left zero (u ∷ us) e = absurd cc
none_left (suc n) [] e = refl
none_left (suc n) (u ∷ us) e = none_left n us e

one_left : (n : ℕ) (us : List Turn) (u : Turn) → slice_get us n ≡ Some u → drop n us ≡ u ∷ drop (suc n) us
one_left zero [] u e = absurd cc
one_left zero (v ∷ us) u e = (let k : v ≡ u = cc in ap (λ (w : Turn). w ∷ us) k)
one_left (suc n) [] u e = absurd cc
one_left (suc n) (v ∷ us) u e = one_left n us u e

-- ---- threads that are there

within : (xs : List ℕ) (t : ℕ) → 0 < slice_index xs t → t < length xs
within [] zero h = let k : 0 < 0 = h in absurd (omega (arith, k))
within [] (suc t) h = let k : 0 < 0 = h in absurd (omega (arith, k))
within (x ∷ xs) zero h = omega arith
within (x ∷ xs) (suc t) h = let k = within xs t h in omega (arith, k)

is_made : (p : NumberedProgram) (m : BoundState) (t : ℕ) (name : TrapName) (id : InstrId) → next_step p m t ≡ nexts.Trap name id → t < length m.state.locals
is_made p m t name id e = go (nat_lt t (length m.state.locals)) refl e
  where
    go : (b : Bool) → nat_lt t (length m.state.locals) ≡ b → Path Next (if b then next_by m.gated m.state t (next_of p m.state t) else nexts.NotMade) (nexts.Trap name id) → t < length m.state.locals
    go true q k = ltb-true t (length m.state.locals) q
    go false q k = absurd cc

-- ---- the end

module _ (g : Given) (p : NumberedProgram) (s : Schedule) (m : BoundState) (taken : List ℕ) (done : ℕ) (h : IsLocked g p s m taken done) where
  abbrev full : GuidedRun
  full = run_along p m.input s

  abbrev now : Standing
  now = record { state = m.state; taken = taken; done = done }

  guided_end : full_end p s.turns full.trace full.state ≡ (guided_along p m.input s).end
  guided_end = ((full_is p m.input s.turns s.gated).full (stays p m.input s h.good)).1

  ended : (end : GuidedEnd) → HasEndedAs p s.turns full.trace full.state h.steps m.state → full_end p s.turns h.steps m.state ≡ end → EndsAsGuided g now end
  ended end e q = subst (λ (k : Given). EndsAsGuided k now end) h.same (record {
    printed = e.printed ∙ (full_goes_on s.gated p m.input s.turns).printed;
    end = sym q ∙ e.end ∙ guided_end;
    turns = sym h.done_is ∙ ap (λ (us : List Turn). length us) e.events ∙ count_is p m.input s;
  })

  left : (us : List Turn) → drop done s.turns ≡ us → turns_left s.turns h.steps ≡ us
  left us e = left_is g p s m taken done h ∙ e

  -- no turn is left
  pub exits : slice_get s.turns done ≡ None → EndsAsGuided g now (ends.Exit (exit_value_of m.state))
  exits none = go (sync.over m.state.sync) refl
    where
      nothing : turns_left s.turns h.steps ≡ []
      nothing = left [] (none_left done s.turns none)

      has : HasEndedAs p s.turns full.trace full.state h.steps m.state
      has = let e = law.ends p m.input s.turns s.gated h.can full.trace full.state (whole p m.input s h.good) h.steps m.state h.permitted
          (subst (λ (us : List Turn). IsHeldBy s.gated p h.steps m.state us) (sym nothing) tt) in
          record { events = e.events; printed = ap (λ (v : State). v.printed) e.state; value = ap (λ (v : State). v.value) e.state; end = e.end }

      here : (b : Bool) → sync.over m.state.sync ≡ b → full_end p s.turns h.steps m.state ≡ (if b then ends.Exit (exit_value_of m.state) else ends.Strayed)
      here b q = ap (λ (us : List Turn). end_before p h.steps m.state us) nothing ∙ ap (λ (c : Bool). if c then ends.Exit (exit_value_of m.state) else ends.Strayed) q

      go : (b : Bool) → sync.over m.state.sync ≡ b → EndsAsGuided g now (ends.Exit (exit_value_of m.state))
      go true q = ended (ends.Exit (exit_value_of m.state)) has (here true q)
      go false q = absurd (stays p m.input s h.good (sym (has.end ∙ guided_end) ∙ here false q))

  -- the owner of the next turn has stopped
  module _ (u : Turn) (next : slice_get s.turns done ≡ Some u) where
    first : turns_left s.turns h.steps ≡ u ∷ drop (suc done) s.turns
    first = left (u ∷ drop (suc done) s.turns) (one_left done s.turns u next)

    held : (traps p m.state u.thread.0 || has_spent h.steps u.thread.0) ≡ true → HasEndedAs p s.turns full.trace full.state h.steps m.state
    held e = law.held_ends p m.input s.turns s.gated h.can full.trace full.state (whole p m.input s h.good) h.steps m.state h.permitted u (drop (suc done) s.turns) first e

    here : (b : Bool) (o : Option TrapName) → has_spent h.steps u.thread.0 ≡ b → trap_of m.state u.thread.0 (next_of p m.state u.thread.0) ≡ o
        → full_end p s.turns h.steps m.state ≡ (if b then ends.Budget u.thread else trapped m.state u.thread.0 o)
    here b o e q =
        ap (λ (us : List Turn). end_before p h.steps m.state us) first
        ∙ ap (λ (c : Bool). if c then ends.Budget u.thread else trapped m.state u.thread.0 (trap_of m.state u.thread.0 (next_of p m.state u.thread.0))) e
        ∙ ap (λ (v : Option TrapName). if b then ends.Budget u.thread else trapped m.state u.thread.0 v) q

    -- it has spent its steps
    pub spends : GUIDED_STEP_LIMIT ≤ slice_index taken u.thread.0 → EndsAsGuided g now (ends.Budget u.thread)
    spends le =
        let lt = within taken u.thread.0 (omega (arith, le)) in
        let spent : has_spent h.steps u.thread.0 ≡ true = le-leb GUIDED_STEP_LIMIT (steps_of u.thread.0 h.steps) (let c = h.counts u.thread.0 lt in omega (arith, c, le)) in
        ended (ends.Budget u.thread) (held (or_right (traps p m.state u.thread.0) (has_spent h.steps u.thread.0) spent))
        (here true (trap_of m.state u.thread.0 (next_of p m.state u.thread.0)) spent refl)

    -- it traps by itself
    pub stops : (name : TrapName) (id : InstrId) → slice_index taken u.thread.0 < GUIDED_STEP_LIMIT → next_step p m u.thread.0 ≡ nexts.Trap name id → EndsAsGuided g now (ends.Trap name id)
    stops name id more is =
        let made = is_made p m u.thread.0 name id is in
        let lt : u.thread.0 < length taken = (let k = h.machine.few in let w = h.wide in omega (arith, k, w, made)) in
        let told = subst (TellsTrap m.state u.thread.0 (next_of p m.state u.thread.0)) is (next_traps p m u.thread.0) in
        let spent : has_spent h.steps u.thread.0 ≡ false = lt-leb GUIDED_STEP_LIMIT (steps_of u.thread.0 h.steps) (let c = h.counts u.thread.0 lt in omega (arith, c, more)) in
        ended (ends.Trap name id) (held (or_left (traps p m.state u.thread.0) (has_spent h.steps u.thread.0) (ap (λ (o : Option TrapName). is_some o) told.0)))
        (here false (Some name) spent told.0 ∙ ap (λ (i : InstrId). ends.Trap name i) (sym told.1))

  -- a turn is left, and its owner has a step left and doesn't trap by itself
  pub goes_on : (u : Turn) → slice_get s.turns done ≡ Some u → slice_index taken u.thread.0 < GUIDED_STEP_LIMIT
      → ((name : TrapName) (id : InstrId) → next_step p m u.thread.0 ≡ nexts.Trap name id → ⊥) → GoesOn g now
  goes_on u next few goes = subst (λ (k : Given). GoesOn k now) h.same (record {
    turn = u;
    next = next;
    few = few;
    goes = λ name id is. goes name id (subst (λ (gated : List InstrId). next_step p (record { state = m.state; input = m.input; gated = gated }) u.thread.0 ≡ nexts.Trap name id) (sym h.gated) is);
  })
