-- The full guided run is permitted and full, and ends as the guided run does.
use Rattle.std.proofs.Common.{◌≡◌, ◌≢◌, ℕ, ℤ, zero, suc, ◌+◌, ◌<◌, ◌≤◌, List, [], ◌∷◌, ◌++◌, length, drop, take, replicate, Bool, true, false, Option}
use Rattle.std.proofs.Common.{Some, None, Result, Ok, Err, refl, sym, ◌∙◌, ap, subst, arith, inl, inr, ◌⊎◌}
use Rattle.std.specs.Prelude.{◌==◌, ◌&&◌, ◌||◌, not, nat_le, is_some, slice_get, slice_set, slice_index, if◌then◌else◌}
use Rattle.std.proofs.lemmas.Bool.Decides.{nat_tests}
use Rattle.std.proofs.lemmas.List.Elements.{filter_map-append}
use Rattle.std.proofs.lemmas.Option.{slice_get_within, slice_get_past}
use Rattle.pg_num.specs.declared.limits.TheConstants.{GUIDED_STEP_LIMIT, THREAD_LIMIT}
use Rattle.pg_ir.specs.declared.ids.InstrId.{InstrId}
use Rattle.pg_ir.specs.declared.request.TrapName.{TrapName}
use Rattle.pg_ir.specs.Program.{NumberedProgram}
use Rattle.pg_run.specs.pg_run_objects.Sync as sync
use Rattle.pg_run_thread.specs.declared.action.Action.{Action}
use Rattle.pg_run_thread.specs.declared.action.Action.TheVariants as actions
use Rattle.pg_run_thread.specs.LocalState.{LocalState}
use Rattle.pg_run.specs.pg_run_trace.declared.turn.Turn.{Turn}
use Rattle.pg_run.specs.pg_run_trace.declared.step.Step.{Step}
use Rattle.pg_run.specs.declared.guided_end.GuidedEnd.{GuidedEnd}
use Rattle.pg_run.specs.declared.guided_end.GuidedEnd.TheVariants as ends
use Rattle.pg_run.specs.State.{State, initial, action_in, id_in, next_of, instr_of}
use Rattle.pg_run.specs.MachineStep.{Answered, Stepped, Did, Trapped, answered, is_ended, may_act, ready, settled, step, taken, trap_of, turn_of, turn_with, happening_of}
use Rattle.pg_run.specs.Runs.{Takes, event_of, events, steps_of}
use Rattle.pg_run.specs.Permitted.{IsFull, IsHeld, IsHeldBy, IsPermitted, end_before, full_end, has_spent, has_turn, rests, traps, trapped, turns_left}
use Rattle.pg_run.specs.Guided.{GuidedRun, Walk, all_left, behind, guided, guided_of, here}
use Rattle.pg_run.specs.FullGuided.{completed, full_guided_of, gone_on, on_plain, stands, stops_early, walk_alone, with_others, with_thread, with_walk}
use Rattle.pg_run.proofs.GuidedExits.{guided_exits}
use Rattle.pg_run.proofs.GuidedPermitted.{guided_permitted}
use Rattle.pg_run.proofs.GuidedRuns.{guided_is, same_as_itself, same_number}
use Rattle.pg_law_effects.specs.Effect.{effect, effect_by, effect_of, request_effect, sync_with}
use Rattle.pg_law_effects.specs.PermittedSteps.{IsDue, MayTake, PermittedSteps, none_taken, one_more, turns_behind}
use Rattle.pg_law_effects.proofs.StepsApart.{left_by}
use Rattle.pg_law_effects.proofs.ThreadLimits.{FewThreads, few_initial, few_run}
use Rattle.pg_law_effects.proofs.PermittedStepByStep.{permitted_is, steps_append, steps_join}
use Rattle.pg_law_effects.proofs.ToldByStep.{event_is, thread_of}
use Rattle.pg_law_effects.proofs.GuidedWalks.{Guides, HaltsAt, HaltsBy, guides, index_other, index_set, one_more_step, other_step}
use Rattle.pg_run.proofs.Threads.{set_other}

-- ---- tests

or_first : (a b : Bool) → a ≡ true → (a || b) ≡ true
or_first true b e = refl
or_first false b e = absurd cc

or_last : (a b : Bool) → b ≡ true → (a || b) ≡ true
or_last true b e = refl
or_last false b e = e

-- ---- how many steps a thread has left

index_within : (n v t : ℕ) → slice_index (replicate n v) t ≤ v
index_within zero v zero = omega arith
index_within zero v (suc t) = omega arith
index_within (suc n) v zero = omega arith
index_within (suc n) v (suc t) = index_within n v t

pub all_within : (t : ℕ) → slice_index all_left t ≤ GUIDED_STEP_LIMIT
unfolding all_left
all_within t = index_within THREAD_LIMIT GUIDED_STEP_LIMIT t

-- ---- a plain step

module _ (gated : List InstrId) (p : NumberedProgram) (input : List ℤ) where
  -- a thread that doesn't stand takes a step that is no event
  pub record Goes (t : ℕ) (s : State) : Type 0 where
    pub told : Step
    pub left : State
    pub did : step gated p input s t ≡ Did told left
    pub acts : may_act s t (next_of p s t) ≡ true
    pub plain : is_some (request_effect p s t (next_of p s t)) ≡ false

  abbrev Settles : ℕ → State → Answered → Type 0
  Settles t s o = (x : Step) × (z : State) × (settled gated p s t (taken p s t o) ≡ Did x z)

  abbrev stands_by : ℕ → State → Action → Bool
  stands_by t s action = is_ended action || is_some (trap_of s t action) || is_some (turn_with s t (happening_of gated s t action))

  goes_by : (t : ℕ) (s : State) (action : Action) → stands_by t s action ≡ false
      → Settles t s (answered p input s t action) × (may_act s t action ≡ true) × (is_some (request_effect p s t action) ≡ false)
  unfolding answered
  goes_by t s actions.Local h = ((_, _, refl), refl, refl)
  goes_by t s (actions.In i) h = ((_, _, refl), refl, refl)
  goes_by t s actions.InLen h = ((_, _, refl), refl, refl)
  goes_by t s (actions.Load r) h = ((_, _, refl), refl, refl)
  goes_by t s (actions.Store r n) h = ((_, _, refl), refl, refl)
  goes_by t s (actions.Event r) h = absurd (let k : true ≡ false = sym (or_last (is_some (sync.check s.sync t r)) true refl) ∙ h in cc)
  goes_by t s (actions.Trap name) h = absurd cc
  goes_by t s actions.Ended h = absurd cc

  goes : (t : ℕ) (s : State) → stands gated p s t ≡ false → Goes t s
  unfolding step turn_of
  goes t s h = let k = goes_by t s (next_of p s t) h in record { told = k.0.0; left = k.0.1; did = k.0.2; acts = k.1; plain = k.2 }

  ready_by : (o a : Bool) → o ≡ false → a ≡ true → (not o && a) ≡ true
  ready_by o a h k = rw (h, k) refl

  is_ready : (t : ℕ) (s : State) → sync.over s.sync ≡ false → may_act s t (next_of p s t) ≡ true → ready p s t ≡ true
  unfolding ready
  is_ready t s h k = ready_by (sync.over s.sync) _ h k

  -- what a plain step leaves
  plain_sync : (t : ℕ) (s : State) → is_some (request_effect p s t (next_of p s t)) ≡ false → (effect s (effect_of p input s t)).sync ≡ s.sync
  unfolding effect effect_of
  plain_sync t s h = go (request_effect p s t (next_of p s t)) h
    where
      go : (r : Option Rattle.pg_law_effects.specs.Effect.RequestEffect) → is_some r ≡ false → sync_with r s.sync ≡ s.sync
      go None k = refl
      go (Some r) k = absurd cc

  plain_others : (t u : ℕ) (s : State) → is_some (request_effect p s t (next_of p s t)) ≡ false → (u ≡ t → ⊥)
      → slice_get (effect s (effect_of p input s t)).locals u ≡ slice_get s.locals u
  unfolding effect effect_of
  plain_others t u s h n =
      go (request_effect p s t (next_of p s t)) (Rattle.pg_law_effects.specs.Effect.own_after p (Rattle.pg_law_effects.specs.Effect.answer_to input s t (next_of p s t)) (slice_get s.locals t)) h
    where
      go : (r : Option Rattle.pg_law_effects.specs.Effect.RequestEffect) (l : Option LocalState) → is_some r ≡ false
          → slice_get (Rattle.pg_law_effects.specs.Effect.local_set t l (Rattle.pg_law_effects.specs.Effect.locals_with r s.locals)) u ≡ slice_get s.locals u
      go None None k = refl
      go None (Some l) k = set_other s.locals t u l n
      go (Some r) l k = absurd cc

  -- ---- one thread alone

  pub record Alone (t n : ℕ) (s : State) (w : Walk) : Type 0 where
    pub own : steps_of t w.trace + w.left ≡ n
    pub other : (u : ℕ) → (u ≡ t → ⊥) → steps_of u w.trace ≡ 0
    pub plain : events w.trace ≡ []
    pub objects : w.state.sync ≡ s.sync
    pub locals : (u : ℕ) → (u ≡ t → ⊥) → slice_get w.state.locals u ≡ slice_get s.locals u
    pub rests : (stands gated p w.state t ≡ true) ⊎ (w.left ≡ 0)
    pub permitted : (us : List Turn) (counts : ℕ → ℕ) → has_turn t us ≡ true → counts t + n ≤ GUIDED_STEP_LIMIT → sync.over s.sync ≡ false
        → PermittedSteps gated p input s us counts w.trace w.state

  rests_here : (t n : ℕ) (s : State) → (stands gated p s t ≡ true) ⊎ (n ≡ 0) → Alone t n s (here s n None)
  rests_here t n s h = record { own = omega arith; other = λ u k. refl; plain = refl; objects = refl; locals = λ u k. refl; rests = h; permitted = λ us counts k l o. refl }

  one_more_own : (t : ℕ) (counts : ℕ → ℕ) → one_more t counts t ≡ suc (counts t)
  one_more_own t counts = rw (same_as_itself t) refl

  goes_first : (t n : ℕ) (s : State) (more : State → Walk) → stands gated p s t ≡ false → ((z : State) → Alone t n z (more z))
      → Alone t (suc n) s (on_plain s n (step gated p input s t) more)
  goes_first t n s more st h =
      let g = goes t s st in
      subst (λ (o : Stepped). Alone t (suc n) s (on_plain s n o more)) (sym g.did) (by_step g)
    where
      by_step : (g : Goes t s) → Alone t (suc n) s (behind (g.told ∷ []) (more g.left))
      by_step g =
          let x = g.told in
          let z = g.left in
          let r = h z in
          let i : x.thread.0 ≡ t = thread_of gated p input s z t x g.did in
          let ze : z ≡ effect s (effect_of p input s t) = left_by gated p input s z t x g.did in
          let e : event_of x ≡ None = event_is gated p input s z t x g.did ∙ no_turn st in
          let sy : z.sync ≡ s.sync = ap (λ (v : State). v.sync) ze ∙ plain_sync t s g.plain in
          record {
            own = let c = one_more_step t x (more z).trace i in let o = r.own in omega (arith, c, o);
            other = λ u k. other_step u x (more z).trace (λ q. k (sym q ∙ i)) ∙ r.other u k;
            plain = rw e r.plain;
            objects = r.objects ∙ sy;
            locals = λ u k. r.locals u k ∙ ap (λ (v : State). slice_get v.locals u) ze ∙ plain_others t u s g.plain k;
            rests = r.rests;
            permitted = λ us counts k l o. (
              record {
                takes = record {
                  after = z;
                  is_ready = subst (λ (u : ℕ). ready p s u ≡ true) (sym i) (is_ready t s o g.acts);
                  is_step = subst (λ (u : ℕ). step gated p input s u ≡ Did x z) (sym i) g.did;
                };
                owner = subst (λ (u : ℕ). has_turn u us ≡ true) (sym i) k;
                budget = subst (λ (u : ℕ). counts u < GUIDED_STEP_LIMIT) (sym i) (omega (arith, l));
                due = rw e tt;
              },
              subst (λ (v : Option Turn). PermittedSteps gated p input z (turns_behind v us) (one_more x.thread.0 counts) (more z).trace (more z).state) (sym e)
                  (r.permitted us (one_more x.thread.0 counts) k (more_left x i counts l) (ap sync.over sy ∙ o)),
            );
          }
        where
          more_left : (x : Step) → x.thread.0 ≡ t → (counts : ℕ → ℕ) → counts t + suc n ≤ GUIDED_STEP_LIMIT → one_more x.thread.0 counts t + n ≤ GUIDED_STEP_LIMIT
          more_left x i counts l =
              let c : one_more x.thread.0 counts t ≡ suc (counts t) = ap (λ (u : ℕ). one_more u counts t) i ∙ one_more_own t counts in
              omega (arith, c, l)

          no_turn_by : (a b : Bool) (v : Option Turn) → (a || b || is_some v) ≡ false → v ≡ None
          no_turn_by true b v k = absurd cc
          no_turn_by false true v k = absurd cc
          no_turn_by false false None k = refl
          no_turn_by false false (Some v) k = absurd cc

          no_turn : stands gated p s t ≡ false → turn_of gated p s t ≡ None
          no_turn k = no_turn_by (is_ended (next_of p s t)) (traps p s t) (turn_of gated p s t) k

  walk_by : (t n : ℕ) (s : State) (b : Bool) → stands gated p s t ≡ b → ((z : State) → Alone t n z (walk_alone n gated p input t z))
      → Alone t (suc n) s (if b then here s (suc n) None else on_plain s n (step gated p input s t) (λ z. walk_alone n gated p input t z))
  walk_by t n s true e h = rests_here t (suc n) s (inl e)
  walk_by t n s false e h = goes_first t n s (λ z. walk_alone n gated p input t z) e h

  pub alone : (t n : ℕ) (s : State) → Alone t n s (walk_alone n gated p input t s)
  unfolding walk_alone
  alone t zero s = rests_here t 0 s (inr refl)
  alone t (suc n) s = walk_by t n s (stands gated p s t) refl (alone t n)

  -- ---- what another thread's plain steps leave

  instr_same : (s z : State) (t : ℕ) → slice_get s.locals t ≡ slice_get z.locals t → instr_of s t ≡ instr_of z t
  unfolding instr_of
  instr_same s z t e = ap id_in e

  next_same : (s z : State) (t : ℕ) → slice_get s.locals t ≡ slice_get z.locals t → next_of p s t ≡ next_of p z t
  unfolding next_of
  next_same s z t e = ap (action_in p) e

  trap_same : (s z : State) (t : ℕ) (action : Action) → s.sync ≡ z.sync → trap_of s t action ≡ trap_of z t action
  trap_same s z t (actions.Event r) e = ap (λ (y : sync.Sync). sync.check y t r) e
  trap_same s z t (actions.Trap name) e = refl
  trap_same s z t action e = refl

  event_same : (s z : State) (t : ℕ) (action : Action) → instr_of s t ≡ instr_of z t
      → is_some (turn_with s t (happening_of gated s t action)) ≡ is_some (turn_with z t (happening_of gated z t action))
  event_same s z t (actions.Load r) e = ap (λ (n : ℕ). is_some
      (turn_with s t (Rattle.pg_run.specs.MachineStep.happening_if
      (Rattle.pg_run.specs.MachineStep.is_gated gated n) Rattle.pg_run.specs.pg_run_trace.declared.turn.TurnKind.TheVariants.Load r.start))) e ∙ some_same s z t _
    where
      some_same : (s z : State) (t : ℕ) (o : Option Rattle.pg_run.specs.pg_run_trace.declared.step.Happening.Happening) → is_some (turn_with s t o) ≡ is_some (turn_with z t o)
      some_same s z t None = refl
      some_same s z t (Some h) = refl
  event_same s z t (actions.Store r n) e = ap (λ (n : ℕ). is_some
      (turn_with s t (Rattle.pg_run.specs.MachineStep.happening_if
      (Rattle.pg_run.specs.MachineStep.is_gated gated n) Rattle.pg_run.specs.pg_run_trace.declared.turn.TurnKind.TheVariants.Store r.start))) e ∙ some_same s z t _
    where
      some_same : (s z : State) (t : ℕ) (o : Option Rattle.pg_run.specs.pg_run_trace.declared.step.Happening.Happening) → is_some (turn_with s t o) ≡ is_some (turn_with z t o)
      some_same s z t None = refl
      some_same s z t (Some h) = refl
  event_same s z t (actions.Event r) e = refl
  event_same s z t action e = refl

  pub stands_same : (s z : State) (t : ℕ) → slice_get s.locals t ≡ slice_get z.locals t → s.sync ≡ z.sync → stands gated p s t ≡ stands gated p z t
  unfolding turn_of
  stands_same s z t e y =
      ap (λ (o : Option TrapName). is_ended (next_of p s t) || is_some o || is_some (turn_with s t (happening_of gated s t (next_of p s t)))) (trap_same s z t (next_of p s t) y)
      ∙ ap (λ (b : Bool). is_ended (next_of p s t) || is_some (trap_of z t (next_of p s t)) || b) (event_same s z t (next_of p s t) (instr_same s z t e))
      ∙ ap (stands_by t z) (next_same s z t e)

  pub trap_kept : (s z : State) (t : ℕ) → slice_get s.locals t ≡ slice_get z.locals t → s.sync ≡ z.sync → trap_of s t (next_of p s t) ≡ trap_of z t (next_of p z t)
  trap_kept s z t e y = trap_same s z t (next_of p s t) y ∙ ap (trap_of z t) (next_same s z t e)

  -- ---- the other threads, one after another

  module _ (turns : List Turn) (next : Turn) (later : List Turn) (r0 : GuidedRun) (going : sync.over r0.state.sync ≡ false) where
    pub record Gone (n : ℕ) (r : GuidedRun) : Type 0 where
      pub objects : r.state.sync ≡ r0.state.sync
      pub left_turns : turns_left turns r.trace ≡ next ∷ later
      pub permitted : PermittedSteps gated p input (initial p) turns none_taken r.trace r.state
      pub counts : (t : ℕ) → slice_index r.left t + steps_of t r.trace ≡ slice_index all_left t
      pub owner : slice_get r.state.locals next.thread.0 ≡ slice_get r0.state.locals next.thread.0
      pub spent : steps_of next.thread.0 r.trace ≡ steps_of next.thread.0 r0.trace
      pub others : (t : ℕ) → t < n → (t ≡ next.thread.0 → ⊥) → has_turn t later ≡ true → (stands gated p r.state t ≡ true) ⊎ (slice_index r.left t ≡ 0)
      pub end : r.end ≡ r0.end

    has_later : (t : ℕ) → has_turn t later ≡ true → has_turn t (next ∷ later) ≡ true
    has_later t h = go (next.thread.0 == t) refl
      where
        go : (b : Bool) → (next.thread.0 == t) ≡ b → has_turn t (next ∷ later) ≡ true
        go true e = rw e refl
        go false e = rw e h

    no_events : (xs ys : List Step) → events ys ≡ [] → turns_left turns (xs ++ ys) ≡ turns_left turns xs
    no_events xs ys h = ap (λ (us : List Turn). drop (length us) turns)
        (filter_map-append event_of xs ys ∙ ap (λ (us : List Turn). events xs ++ us) h ∙ Rattle.std.proofs.Common.append-nil (events xs))

    not_same : (t u : ℕ) (b : Bool) → (t == u) ≡ b → not b ≡ true → t ≡ u → ⊥
    not_same t u true e h q = absurd cc
    not_same t u false e h q = let k : true ≡ false = sym (same_as_itself u) ∙ ap (λ (i : ℕ). i == u) (sym q) ∙ e in absurd cc

    goes_on : (t : ℕ) (r : GuidedRun) → Gone t r → (t ≡ next.thread.0 → ⊥) → has_turn t later ≡ true
        → Gone (suc t) (with_walk r t (walk_alone (slice_index r.left t) gated p input t r.state))
    goes_on t r h other has =
        let w = walk_alone (slice_index r.left t) gated p input t r.state in
        let a = alone t (slice_index r.left t) r.state in
        let fits : slice_index r.left t + steps_of t r.trace ≤ GUIDED_STEP_LIMIT = let c = h.counts t in let l = all_within t in omega (arith, c, l) in
        let less : w.left ≤ slice_index r.left t = let o = a.own in omega (arith, o) in
        record {
          objects = a.objects ∙ h.objects;
          left_turns = no_events r.trace w.trace a.plain ∙ h.left_turns;
          permitted = (steps_join gated p input (initial p) w.state turns none_taken r.trace w.trace).1 (
            r.state,
            h.permitted,
            a.permitted (turns_left turns r.trace) (λ u. none_taken u + steps_of u r.trace)
                (subst (λ (us : List Turn). has_turn t us ≡ true) (sym h.left_turns) (has_later t has)) (omega (arith, fits)) (ap sync.over h.objects ∙ going),
          );
          counts = λ u. counts_by u (u == t) refl less a;
          owner = a.locals next.thread.0 (λ q. other (sym q)) ∙ h.owner;
          spent = steps_append next.thread.0 r.trace w.trace ∙ (let c = a.other next.thread.0 (λ q. other (sym q)) in let d = h.spent in omega (arith, c, d));
          others = λ u l n k. others_by u (u == t) refl less a l n k;
          end = h.end;
        }
      where
        counts_by : (u : ℕ) (b : Bool) → (u == t) ≡ b → (walk_alone (slice_index r.left t) gated p input t r.state).left ≤ slice_index r.left t
            → Alone t (slice_index r.left t) r.state (walk_alone (slice_index r.left t) gated p input t r.state) →
            slice_index (slice_set r.left t (walk_alone (slice_index r.left t) gated p input t r.state).left) u + steps_of u
            (r.trace ++ (walk_alone (slice_index r.left t) gated p input t r.state).trace) ≡ slice_index all_left u
        counts_by u true e less a =
            let w = walk_alone (slice_index r.left t) gated p input t r.state in
            let q : u ≡ t = same_number u t e in
            let c : steps_of t (r.trace ++ w.trace) ≡ steps_of t r.trace + steps_of t w.trace = steps_append t r.trace w.trace in
            let i : slice_index (slice_set r.left t w.left) t ≡ w.left = index_set r.left t w.left less in
            let o = a.own in
            let d = h.counts t in
            subst (λ (v : ℕ). slice_index (slice_set r.left t w.left) v + steps_of v (r.trace ++ w.trace) ≡ slice_index all_left v) (sym q) (omega (arith, c, i, o, d))
        counts_by u false e less a =
            let w = walk_alone (slice_index r.left t) gated p input t r.state in
            let n : (u ≡ t → ⊥) = λ q. (let k : true ≡ false = sym (same_as_itself t) ∙ ap (λ (i : ℕ). i == t) (sym q) ∙ e in absurd cc) in
            let c = steps_append u r.trace w.trace in
            let i = index_other r.left t u w.left n in
            let o = a.other u n in
            let d = h.counts u in
            omega (arith, c, i, o, d)

        others_by : (u : ℕ) (b : Bool) → (u == t) ≡ b → (walk_alone (slice_index r.left t) gated p input t r.state).left ≤ slice_index r.left t
            → Alone t (slice_index r.left t) r.state (walk_alone (slice_index r.left t) gated p input t r.state) → u < suc t → (u ≡ next.thread.0 → ⊥) → has_turn u later ≡ true →
            (stands gated p (walk_alone (slice_index r.left t) gated p input t r.state).state u ≡ true)
            ⊎ (slice_index (slice_set r.left t (walk_alone (slice_index r.left t) gated p input t r.state).left) u ≡ 0)
        others_by u true e less a l n k = own (same_number u t e) a.rests
          where
            own : u ≡ t → (stands gated p (walk_alone (slice_index r.left t) gated p input t r.state).state t ≡ true)
                ⊎ ((walk_alone (slice_index r.left t) gated p input t r.state).left ≡ 0)
                → (stands gated p (walk_alone (slice_index r.left t) gated p input t r.state).state u ≡ true)
                ⊎ (slice_index (slice_set r.left t (walk_alone (slice_index r.left t) gated p input t r.state).left) u ≡ 0)
            own q (inl x) = inl (subst (λ (v : ℕ). stands gated p (walk_alone (slice_index r.left t) gated p input t r.state).state v ≡ true) (sym q) x)
            own q (inr x) = inr (ap (slice_index (slice_set r.left t (walk_alone (slice_index r.left t) gated p input t r.state).left)) q
                ∙ index_set r.left t (walk_alone (slice_index r.left t) gated p input t r.state).left less ∙ x)
        others_by u false e less a l n k = kept apart (h.others u (below apart) n k)
          where
            apart : u ≡ t → ⊥
            apart q = let k : true ≡ false = sym (same_as_itself t) ∙ ap (λ (i : ℕ). i == t) (sym q) ∙ e in absurd cc

            below : (u ≡ t → ⊥) → u < t
            below c = go (Rattle.std.proofs.lemmas.Bool.cases_lt u t)
              where
                go : (u < t) ⊎ (t ≤ u) → u < t
                go (inl x) = x
                go (inr x) = absurd (c (omega (arith, x, l)))

            kept : (u ≡ t → ⊥) → (stands gated p r.state u ≡ true) ⊎ (slice_index r.left u ≡ 0)
                → (stands gated p (walk_alone (slice_index r.left t) gated p input t r.state).state u ≡ true)
                ⊎ (slice_index (slice_set r.left t (walk_alone (slice_index r.left t) gated p input t r.state).left) u ≡ 0)
            kept c (inl x) = inl (stands_same (walk_alone (slice_index r.left t) gated p input t r.state).state r.state u (a.locals u c) a.objects ∙ x)
            kept c (inr x) = inr (index_other r.left t u _ c ∙ x)

    stays : (t : ℕ) (r : GuidedRun) (a b : Bool) → (t == next.thread.0) ≡ a → has_turn t later ≡ b → (not a && b) ≡ false → Gone t r → Gone (suc t) r
    stays t r a b e k c h = record {
      objects = h.objects;
      left_turns = h.left_turns;
      permitted = h.permitted;
      counts = h.counts;
      owner = h.owner;
      spent = h.spent;
      end = h.end;
      others = λ u l n q. by_cases u l n q (u == t) refl;
    }
      where
        none : (a b : Bool) → (t == next.thread.0) ≡ a → has_turn t later ≡ b → (not a && b) ≡ false → (t ≡ next.thread.0 → ⊥) → has_turn t later ≡ true → ⊥
        none true b e k c n q = n (same_number t next.thread.0 e)
        none false true e k c n q = absurd cc
        none false false e k c n q = let z : true ≡ false = sym q ∙ k in absurd cc

        by_cases : (u : ℕ) → u < suc t → (u ≡ next.thread.0 → ⊥) → has_turn u later ≡ true → (d : Bool) → (u == t) ≡ d
            → (stands gated p r.state u ≡ true) ⊎ (slice_index r.left u ≡ 0)
        by_cases u l n q true f =
            let same : u ≡ t = same_number u t f in
            absurd (none a b e k c (λ z. n (same ∙ z)) (subst (λ (v : ℕ). has_turn v later ≡ true) same q))
        by_cases u l n q false f = go (Rattle.std.proofs.lemmas.Bool.cases_lt u t)
          where
            go : (u < t) ⊎ (t ≤ u) → (stands gated p r.state u ≡ true) ⊎ (slice_index r.left u ≡ 0)
            go (inl x) = h.others u x n q
            go (inr x) = let s : u ≡ t = omega (arith, x, l) in absurd (let z : true ≡ false = sym (same_as_itself t) ∙ ap (λ (i : ℕ). i == t) (sym s) ∙ f in cc)

    one : (t : ℕ) (r : GuidedRun) → Gone t r → Gone (suc t) (with_thread gated p input next later t r)
    one t r h = go (t == next.thread.0) (has_turn t later) refl refl
      where
        go : (a b : Bool) → (t == next.thread.0) ≡ a → has_turn t later ≡ b
            → Gone (suc t) (if not (t == next.thread.0) && has_turn t later then with_walk r t (walk_alone (slice_index r.left t) gated p input t r.state) else r)
        go true b e k = rw e (stays t r true b e k refl h)
        go false true e k = rw (e, k) (goes_on t r h (not_same t next.thread.0 false e refl) k)
        go false false e k = rw (e, k) (stays t r false false e k refl h)

    pub all_gone : (n : ℕ) → Gone 0 r0 → Gone n (with_others n gated p input next later r0)
    unfolding with_others
    all_gone zero h = h
    all_gone (suc t) h = one t (with_others t gated p input next later r0) (all_gone t h)
