-- A permitted run of the machine is a permitted run of deeds.
use Rattle.std.proofs.Common.{◌≡◌, ℕ, ℤ, ◌+◌, ◌<◌, ◌^◌, List, [], ◌∷◌, length, drop, Bool, true, false, Option, Some, None, refl, sym, ◌∙◌, ap, subst}
use Rattle.std.proofs.Common.{arith, zero, suc}
use Rattle.std.specs.Prelude.{◌==◌, is_some, if◌then◌else◌, cond}
use Rattle.std.proofs.lemmas.List.Sums.{sum_by-cons}
use Rattle.pg_ir.specs.declared.ids.InstrId.{InstrId}
use Rattle.pg_ir.specs.Program.{NumberedProgram}
use Rattle.pg_ir.specs.WellFormed.{IsProgram}
use Rattle.pg_law_threads.specs.Effects as plans
use Rattle.pg_law_threads.specs.Effects.{Deed, Same, deeds}
use Rattle.pg_law_threads.specs.Intervals.{done_after, turns_done}
use Rattle.pg_law_threads.specs.Machines as machines
use Rattle.pg_law_threads.specs.Machines.{May}
use Rattle.pg_law_threads.proofs.EffectsOfSteps.{deed_refl, same_then}
use Rattle.pg_run_trace.specs.declared.turn.Turn.{Turn}
use Rattle.pg_run_trace.specs.declared.step.Step.{Step}
use Rattle.pg_run.specs.State.{State}
use Rattle.pg_run.specs.Runs.{IsRun, Takes, event_of, events, steps_of}
use Rattle.pg_run.proofs.GuidedRuns.{same_as_itself, same_number}
use Rattle.pg_law_effects.specs.Effect as effects
use Rattle.pg_law_effects.specs.Effect.{Effect, RequestEffect, effect, effect_of}
use Rattle.pg_law_effects.specs.PermittedSteps.{PermittedSteps, one_more, turns_behind}
use Rattle.pg_law_effects.specs.Reached.{IsReached}
use Rattle.pg_law_effects.specs.Views.{LeadsTo, cell_at, cell_written, local_at, objects_of, objects_with}
use Rattle.pg_law_effects.proofs.StepsApart.{left_by}
use Rattle.pg_law_effects.proofs.ReachedStates.{reached_step}
use Rattle.pg_law_effects.proofs.StepViews.{leads_to}
use Rattle.pg_law_runs.specs.Deeds.{Does, Seen, Shared, Thread, deed_of, deeds_of, owners_of, rules, seen, shared_after, shared_of}
use Rattle.pg_law_runs.proofs.DeedDependence.{deed_event, may_of, request_event}

-- ---- numbers

pub flipped : (u t : ℕ) (b : Bool) → (u == t) ≡ b → (t == u) ≡ b
flipped u t true e = ap (λ (i : ℕ). t == i) (same_number u t e) ∙ same_as_itself t
flipped u t false e = go (t == u) refl
  where
    go : (b : Bool) → (t == u) ≡ b → (t == u) ≡ false
    go false q = q
    go true q = let k : true ≡ false = sym (same_as_itself u) ∙ ap (λ (i : ℕ). u == i) (sym (same_number t u q)) ∙ e in absurd cc

counted : (b : Bool) (n k : ℕ) → (if b then suc n else n) + k ≡ n + (cond b 1 0 + k)
counted true n k = omega arith
counted false n k = omega arith

pub count_more : (t : ℕ) (counts : ℕ → ℕ) (x : Step) (xs : List Step) → one_more x.thread.0 counts t + steps_of t xs ≡ counts t + steps_of t (x ∷ xs)
count_more t counts x xs = counted (x.thread.0 == t) (counts t) (steps_of t xs) ∙ ap (λ (k : ℕ). counts t + k) (sym (sum_by-cons (λ (y : Step). cond (y.thread.0 == t) 1 0) x xs))

drop_one : (g : ℕ) (us : List Turn) → drop 1 (drop g us) ≡ drop (suc g) us
drop_one zero us = refl
drop_one (suc g) [] = refl
drop_one (suc g) (u ∷ us) = drop_one g us

pub left_behind : (o : Option Turn) (g : ℕ) (us : List Turn) → turns_behind o (drop g us) ≡ drop (done_after (is_some o) g) us
left_behind None g us = refl
left_behind (Some v) g us = drop_one g us

old_same : (o : Option ℕ) (n : ℕ) → plans.or_old o n ≡ effects.or_old o n
old_same None n = refl
old_same (Some m) n = refl

not_true : (b : Bool) → (b ≡ true → ⊥) → b ≡ false
not_true true h = absurd (h refl)
not_true false h = refl

module _ (gated : List InstrId) (p : NumberedProgram) (input : List ℤ) where
  -- ---- what a step leaves

  shared_left : (s : State) (t : ℕ) (r : Option RequestEffect) → is_some r ≡ false
      → Path Shared (shared_of s) (record { objects = objects_with t r (objects_of s); printed = effects.printed_with r s.printed })
  shared_left s t None h = refl
  shared_left s t (Some r) h = absurd cc

  after_shared : (s : State) (e : Effect) → objects_of (effect s e) ≡ objects_with e.thread e.request (objects_of s) → shared_after s e ≡ shared_of (effect s e)
  unfolding effect
  after_shared s e h = ap (λ (o : Rattle.pg_law_effects.specs.Views.Objects). record { objects = o; printed = effects.printed_with e.request s.printed }) (sym h)

  thread_is : (s : State) (t : ℕ) → (effect_of p input s t).thread ≡ t
  unfolding effect_of
  thread_is s t = refl

  abbrev pub next_state : State → Step → State
  next_state s x = effect s (effect_of p input s x.thread.0)

  pub leads : (s : State) (counts : ℕ → ℕ) (a : Seen) (x : Step) → IsReached p s → Same a (seen s counts) → Takes gated p input s x
      → Same (plans.effect a (deed_of p input s counts x)) (seen (next_state s x) (one_more x.thread.0 counts))
  leads s counts a x reached sees h = record {
    locals = λ u. locals u (u == x.thread.0) refl;
    cells = λ c. old_same (cell_written e c) (a.cells c) ∙ ap (effects.or_old (cell_written e c)) (sees.cells c) ∙ sym (to.cells c);
    objects = objects (is_some (event_of x)) refl;
  }
    where
      e : Effect
      e = effect_of p input s x.thread.0

      to : LeadsTo (effect_of p input s x.thread.0) s (next_state s x)
      to = subst (LeadsTo (effect_of p input s x.thread.0) s) (left_by gated p input s h.after x.thread.0 x h.is_step) (leads_to gated p input s h.after x.thread.0 x reached h.is_ready h.is_step)

      own : (u : ℕ) (b : Bool) → (u == x.thread.0) ≡ b → local_at (next_state s x) u ≡ (if b then (effect_of p input s x.thread.0).local else local_at s u)
      own u b q = to.locals u ∙ ap (λ (t : ℕ). if u == t then (effect_of p input s x.thread.0).local else local_at s u) (thread_is s x.thread.0)
          ∙ ap (λ (c : Bool). if c then (effect_of p input s x.thread.0).local else local_at s u) q

      locals : (u : ℕ) (b : Bool) → (u == x.thread.0) ≡ b → Path Thread
          (if u == x.thread.0 then record { local = (effect_of p input s x.thread.0).local; taken = suc (counts x.thread.0) } else a.locals u)
          (record { local = local_at (next_state s x) u; taken = one_more x.thread.0 counts u })
      locals u true q = rw (q, flipped u x.thread.0 true q) (
          ap (λ (l : Option Rattle.pg_run_thread.specs.LocalState.LocalState). record { local = l; taken = suc (counts x.thread.0) }) (sym (own u true q))
          ∙ ap (λ (i : ℕ). record { local = local_at (next_state s x) u; taken = suc (counts i) }) (sym (same_number u x.thread.0 q)))
      locals u false q = rw (q, flipped u x.thread.0 false q)
          (sees.locals u ∙ ap (λ (l : Option Rattle.pg_run_thread.specs.LocalState.LocalState). record { local = l; taken = counts u }) (sym (own u false q)))

      objects : (b : Bool) → is_some (event_of x) ≡ b → plans.or_old (if is_some (event_of x) then Some (shared_after s (effect_of p input s x.thread.0)) else None) a.objects
          ≡ shared_of (next_state s x)
      objects true v = rw v (after_shared s (effect_of p input s x.thread.0) to.objects)
      objects false v = rw v (sees.objects ∙ shared_left s (effect_of p input s x.thread.0).thread (effect_of p input s x.thread.0).request
          (not_true (is_some (effect_of p input s x.thread.0).request) (λ r. let k = request_event gated p input s x h r in let q : true ≡ false = sym k ∙ v in cc))
          ∙ after_shared s (effect_of p input s x.thread.0) to.objects)

  -- ---- a run

  pub record Ran (s : State) (counts : ℕ → ℕ) (a : Seen) (turns : List Turn) (g : ℕ) (xs : List Step) (z : State) : Type 0 where
    pub permitted : machines.IsPermitted (rules gated p) (Does gated p input) (owners_of turns) a g (deeds_of p input s counts xs)
    pub looks : Same (plans.effects a (deeds_of p input s counts xs)) (seen z (λ t. counts t + steps_of t xs))
    pub reached : IsReached p z

  pub counts_by : (s : State) (m n : ℕ → ℕ) → ((t : ℕ) → m t ≡ n t) → Same (seen s m) (seen s n)
  counts_by s m n h = record { locals = λ t. ap (λ (i : ℕ). record { local = local_at s t; taken = i }) (h t); cells = λ c. refl; objects = refl }

  pub run_is : (s : State) (counts : ℕ → ℕ) (a : Seen) (turns : List Turn) (g : ℕ) (xs : List Step) (z : State) → IsProgram p → length input < 2 ^ 64 →
      IsReached p s → Same a (seen s counts) → PermittedSteps gated p input s (drop g turns) counts xs z → Ran s counts a turns g xs z
  unfolding deeds_of
  run_is s counts a turns g [] z program small reached sees h = record {
    permitted = tt;
    looks = same_then sees (subst (λ (w : State). Same (seen s counts) (seen w (λ t. counts t + steps_of t []))) h (counts_by s counts (λ t. counts t + steps_of t []) (λ t. omega arith)));
    reached = subst (IsReached p) h reached;
  }
  run_is s counts a turns g (x ∷ xs) z program small reached sees h =
      let m = h.0 in
      let t = x.thread.0 in
      let d = deed_of p input s counts x in
      let w : m.takes.after ≡ next_state s x = left_by gated p input s m.takes.after t x m.takes.is_step in
      let next_reached : IsReached p (next_state s x) = subst (IsReached p) w (reached_step gated p input s m.takes.after t x program small reached m.takes.is_ready m.takes.is_step) in
      let more : PermittedSteps gated p input (next_state s x) (drop (done_after (deeds.is_event d) g) turns) (one_more t counts) xs z =
      subst (λ (us : List Turn). PermittedSteps gated p input (next_state s x) us (one_more t counts) xs z)
      (left_behind (event_of x) g turns ∙ ap (λ (b : Bool). drop (done_after b g) turns) (sym (deed_event gated p input s counts x)))
      (subst (λ (v : State). PermittedSteps gated p input v (turns_behind (event_of x) (drop g turns)) (one_more t counts) xs z) w h.1) in
      let rest = run_is (next_state s x) (one_more t counts) (plans.effect a d) turns (done_after (deeds.is_event d) g) xs z program small next_reached
      (leads s counts a x reached sees m.takes) more in
      record {
        permitted = (
          record {
            may = may_of gated p input s counts a reached sees turns g x m;
            is_step = record { state = s; counts = counts; reached = reached; looks = sees; told = x; takes = m.takes; is_deed = deed_refl d };
          },
          rest.permitted,
        );
        looks = same_then rest.looks (counts_by z (λ u. one_more t counts u + steps_of u xs) (λ u. counts u + steps_of u (x ∷ xs)) (λ u. count_more u counts x xs));
        reached = rest.reached;
      }

  -- ---- how many turns are done

  more_events : (o : Option Turn) (x : Step) (xs : List Step) (g : ℕ) → event_of x ≡ o → done_after (is_some o) g + length (events xs) ≡ g + length (events (x ∷ xs))
  more_events None x xs g e = rw e refl
  more_events (Some v) x xs g e = rw e (omega arith)

  pub turns_are : (s : State) (counts : ℕ → ℕ) (g : ℕ) (xs : List Step) → turns_done deeds g (deeds_of p input s counts xs) ≡ g + length (events xs)
  unfolding deeds_of
  turns_are s counts g [] = omega arith
  turns_are s counts g (x ∷ xs) =
      turns_are (next_state s x) (one_more x.thread.0 counts) (done_after (deeds.is_event (deed_of p input s counts x)) g) xs
      ∙ ap (λ (b : Bool). done_after b g + length (events xs)) (deed_event gated p input s counts x) ∙ more_events (event_of x) x xs g refl

  -- what a run leaves, whether it is permitted or not
  pub looks_run : (s : State) (counts : ℕ → ℕ) (a : Seen) (xs : List Step) (z : State) → IsProgram p → length input < 2 ^ 64 → IsReached p s → Same a (seen s counts)
      → IsRun gated p input s xs z →
      Same (plans.effects a (deeds_of p input s counts xs)) (seen z (λ t. counts t + steps_of t xs)) × IsReached p z
  unfolding deeds_of
  looks_run s counts a [] z program small reached sees h = (
    same_then sees (subst (λ (w : State). Same (seen s counts) (seen w (λ t. counts t + steps_of t []))) h (counts_by s counts (λ t. counts t + steps_of t []) (λ t. omega arith))),
    subst (IsReached p) h reached,
  )
  looks_run s counts a (x ∷ xs) z program small reached sees h =
      let w : h.0.after ≡ next_state s x = left_by gated p input s h.0.after x.thread.0 x h.0.is_step in
      let next_reached : IsReached p (next_state s x) = subst (IsReached p) w (reached_step gated p input s h.0.after x.thread.0 x program small reached h.0.is_ready h.0.is_step) in
      let rest = looks_run (next_state s x) (one_more x.thread.0 counts) (plans.effect a (deed_of p input s counts x)) xs z program small next_reached (leads s counts a x reached sees h.0)
      (subst (λ (v : State). IsRun gated p input v xs z) w h.1) in
      (same_then rest.0 (counts_by z (λ u. one_more x.thread.0 counts u + steps_of u xs) (λ u. counts u + steps_of u (x ∷ xs)) (λ u. count_more u counts x xs)), rest.1)
