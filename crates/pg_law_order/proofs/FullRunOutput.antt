-- What the full guided run does behind the guided run: no events, and so it prints no more.
use Rattle.std.proofs.Common.{◌≡◌, ℕ, ℤ, zero, suc, List, [], ◌∷◌, ◌++◌, drop, Bool, true, false, Option, Some, None, refl, sym, ap, ◌∙◌, append-nil}
use Rattle.std.specs.Prelude.{◌==◌, ◌&&◌, ◌||◌, not, is_some, slice_index, if◌then◌else◌}
use Rattle.std.proofs.lemmas.List.Elements.{filter_map-append}
use Rattle.pg_num.specs.declared.limits.TheConstants.{THREAD_LIMIT}
use Rattle.pg_ir.specs.declared.ids.InstrId.{InstrId}
use Rattle.pg_ir.specs.Program.{NumberedProgram}
use Rattle.pg_run_objects.specs.Sync as sync
use Rattle.pg_run_thread.specs.declared.action.Action.{Action}
use Rattle.pg_run_thread.specs.declared.action.Action.TheVariants as actions
use Rattle.pg_run_trace.specs.declared.turn.Turn.{Turn}
use Rattle.pg_run_trace.specs.declared.step.Step.{Step}
use Rattle.pg_run.specs.Guided.{GuidedRun, Walk, guided_of, here}
use Rattle.pg_run.specs.FullGuided.{full_guided_of, gone_on, on_plain, stands, stops_early, walk_alone, with_others, with_walk}
use Rattle.pg_run.specs.MachineStep.{Did, Stepped, Trapped, happening_of, is_ended, step, trap_of, turn_of, turn_with}
use Rattle.pg_run.specs.Permitted.{has_turn}
use Rattle.pg_run.specs.Runs.{event_of, events}
use Rattle.pg_run.specs.State.{State, next_of}
use Rattle.pg_law_runs.specs.pg_law_effects.Effect.{RequestEffect, effect, effect_of, printed_with, request_effect}
use Rattle.pg_law_runs.proofs.of_pg_law_effects.StepsApart.{left_by}
use Rattle.pg_law_runs.proofs.of_pg_law_effects.FullGuidedRunPermitted.{alone}

or_last : (a b : Bool) → b ≡ true → (a || b) ≡ true
or_last true b e = refl
or_last false b e = e

module _ (gated : List InstrId) (p : NumberedProgram) (input : List ℤ) where
  abbrev stands_by : ℕ → State → Action → Bool
  stands_by t s action = is_ended action || is_some (trap_of s t action) || is_some (turn_with s t (happening_of gated s t action))

  asks_none : (t : ℕ) (s : State) (action : Action) → stands_by t s action ≡ false → is_some (request_effect p s t action) ≡ false
  asks_none t s actions.Local h = refl
  asks_none t s (actions.In i) h = refl
  asks_none t s actions.InLen h = refl
  asks_none t s (actions.Load r) h = refl
  asks_none t s (actions.Store r n) h = refl
  asks_none t s (actions.Event r) h = absurd (let k : true ≡ false = sym (or_last (is_some (sync.check s.sync t r)) true refl) ∙ h in cc)
  asks_none t s (actions.Trap name) h = refl
  asks_none t s actions.Ended h = refl

  -- a step that is no event prints nothing
  keeps_printed : (t : ℕ) (s : State) → is_some (request_effect p s t (next_of p s t)) ≡ false → (effect s (effect_of p input s t)).printed ≡ s.printed
  unfolding effect effect_of
  keeps_printed t s k = go (request_effect p s t (next_of p s t)) k
    where
      go : (r : Option RequestEffect) → is_some r ≡ false → printed_with r s.printed ≡ s.printed
      go None q = refl
      go (Some r) q = absurd cc

  prints_none : (t : ℕ) (s z : State) (x : Step) → stands gated p s t ≡ false → step gated p input s t ≡ Did x z → z.printed ≡ s.printed
  unfolding turn_of
  prints_none t s z x h e = ap (λ (v : State). v.printed) (left_by gated p input s z t x e) ∙ keeps_printed t s (asks_none t s (next_of p s t) h)

  on_walk_printed : (t n : ℕ) (s : State) (o : Stepped) (more : State → Walk) → stands gated p s t ≡ false → step gated p input s t ≡ o
      → ((z : State) → (more z).state.printed ≡ z.printed) → (on_plain s n o more).state.printed ≡ s.printed
  on_walk_printed t n s (Trapped name id) more h e ih = refl
  on_walk_printed t n s (Did x z) more h e ih = ih z ∙ prints_none t s z x h e

  walk_by : (t n : ℕ) (s : State) (b : Bool) → stands gated p s t ≡ b → ((z : State) → (walk_alone n gated p input t z).state.printed ≡ z.printed)
      → (if b then here s (suc n) None else on_plain s n (step gated p input s t) (λ z. walk_alone n gated p input t z)).state.printed ≡ s.printed
  walk_by t n s true e ih = refl
  walk_by t n s false e ih = on_walk_printed t n s (step gated p input s t) (λ z. walk_alone n gated p input t z) e refl ih

  walk_printed : (t n : ℕ) (s : State) → (walk_alone n gated p input t s).state.printed ≡ s.printed
  unfolding walk_alone
  walk_printed t zero s = refl
  walk_printed t (suc n) s = walk_by t n s (stands gated p s t) refl (walk_printed t n)

  -- ---- the other threads

  pub record GoesOn (r0 r : GuidedRun) : Type 0 where
    pub printed : r.state.printed ≡ r0.state.printed
    pub events : events r.trace ≡ events r0.trace

  stays : (r : GuidedRun) → GoesOn r r
  stays r = record { printed = refl; events = refl }

  walked : (t : ℕ) (r0 r : GuidedRun) → GoesOn r0 r → GoesOn r0 (with_walk r t (walk_alone (slice_index r.left t) gated p input t r.state))
  walked t r0 r h =
      let w = walk_alone (slice_index r.left t) gated p input t r.state in
      record {
        printed = walk_printed t (slice_index r.left t) r.state ∙ h.printed;
        events = filter_map-append event_of r.trace w.trace ∙ ap (λ (us : List Turn). events r.trace ++ us) (alone gated p input t (slice_index r.left t) r.state).plain
            ∙ append-nil (events r.trace) ∙ h.events;
      }

  others : (n : ℕ) (next : Turn) (later : List Turn) (r : GuidedRun) → GoesOn r (with_others n gated p input next later r)
  unfolding with_others
  others zero next later r = stays r
  others (suc t) next later r = go (not (t == next.thread.0) && has_turn t later) (others t next later r)
    where
      go : (b : Bool) → GoesOn r (with_others t gated p input next later r) →
          GoesOn r (if b then with_walk (with_others t gated p input next later r) t
          (walk_alone (slice_index (with_others t gated p input next later r).left t) gated p input t (with_others t gated p input next later r).state) else with_others t gated p input next
          later r)
      go true h = walked t r (with_others t gated p input next later r) h
      go false h = h

  goes_on : (us : List Turn) (r : GuidedRun) → GoesOn r (gone_on gated p input us r)
  goes_on [] r = stays r
  goes_on (next ∷ later) r = others THREAD_LIMIT next later r

  pub full_goes_on : (turns : List Turn) → GoesOn (guided_of p input turns gated) (full_guided_of p input turns gated)
  unfolding full_guided_of
  full_goes_on turns = go (stops_early (guided_of p input turns gated).end)
    where
      go : (b : Bool) → GoesOn (guided_of p input turns gated)
          (if b then gone_on gated p input (drop (guided_of p input turns gated).turns turns) (guided_of p input turns gated) else guided_of p input turns gated)
      go true = goes_on (drop (guided_of p input turns gated).turns turns) (guided_of p input turns gated)
      go false = stays (guided_of p input turns gated)
