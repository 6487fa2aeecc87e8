-- A full run can't be prolonged.
use Rattle.std.proofs.Common.{◌≡◌, ℕ, ℤ, ◌+◌, ◌-◌, ◌≤◌, List, [], ◌∷◌, length, drop, Bool, true, false, Option, Some, None, refl, sym, ◌∙◌, ap, subst}
use Rattle.std.proofs.Common.{arith, zero, suc}
use Rattle.std.specs.Prelude.{◌==◌, ◌&&◌, ◌||◌, nat_lt, is_some, slice_get}
use Rattle.std.proofs.lemmas.Bool.Decides.{nat_tests}
use Rattle.std.proofs.lemmas.Bool.{and_parts}
use Rattle.pg_num.specs.declared.limits.TheConstants.{GUIDED_STEP_LIMIT}
use Rattle.pg_ir.specs.declared.ids.InstrId.{InstrId}
use Rattle.pg_ir.specs.Program.{NumberedProgram}
use Rattle.pg_law_threads.specs.Effects.{Same}
use Rattle.pg_law_threads.specs.Machines.{May}
use Rattle.pg_law_threads.proofs.LastAndNextTurn.{owner_below}
use Rattle.pg_run_objects.specs.Sync as sync
use Rattle.pg_run_thread.specs.declared.action.Action.{Action}
use Rattle.pg_run_thread.specs.declared.action.Action.TheVariants as actions
use Rattle.pg_run_trace.specs.declared.turn.Turn.{Turn}
use Rattle.pg_run_trace.specs.declared.step.Step.{Step}
use Rattle.pg_run.specs.State.{State, next_of}
use Rattle.pg_run.specs.MachineStep.{is_ended, may_act, trap_of, turn_of}
use Rattle.pg_run.specs.Runs.{Takes, event_of, events, steps_of}
use Rattle.pg_run.specs.Permitted.{IsFull, IsHeld, IsHeldBy, has_spent, has_turn, rests, traps, turns_left}
use Rattle.pg_run.proofs.StepsBegin.{ready_acts}
use Rattle.pg_run.proofs.GuidedRuns.{same_as_itself, same_number}
use Rattle.pg_law_effects.specs.Reached.{IsReached}
use Rattle.pg_law_effects.proofs.ThreadLimits.{IsAllowed, did_allowed}
use Rattle.pg_law_effects.proofs.ToldByStep.{event_is}
use Rattle.pg_law_runs.specs.Deeds.{Seen, Shared, Thread, local_event, local_goes, owners_of, rules, seen}
use Rattle.pg_law_runs.proofs.StepRules.{Steps}
use Rattle.pg_law_runs.proofs.DeedDependence.{event_seen, get_behind, steps_of_may}

no_trap : (s : State) (t : ℕ) (action : Action) → IsAllowed s t action → trap_of s t action ≡ None
no_trap s t (actions.Event r) h = h
no_trap s t (actions.Trap name) h = absurd h
no_trap s t actions.Local h = refl
no_trap s t (actions.In i) h = refl
no_trap s t actions.InLen h = refl
no_trap s t (actions.Load r) h = refl
no_trap s t (actions.Store r n) h = refl
no_trap s t actions.Ended h = refl

pub not_ended : (s : State) (t : ℕ) (action : Action) → may_act s t action ≡ true → is_ended action ≡ false
not_ended s t actions.Ended h = absurd cc
not_ended s t actions.Local h = refl
not_ended s t (actions.In i) h = refl
not_ended s t actions.InLen h = refl
not_ended s t (actions.Load r) h = refl
not_ended s t (actions.Store r n) h = refl
not_ended s t (actions.Event r) h = refl
not_ended s t (actions.Trap name) h = refl

pub turn_there : (t : ℕ) (us : List Turn) (i : ℕ) → slice_get (owners_of us) i ≡ Some t → has_turn t us ≡ true
turn_there t [] i h = absurd cc
turn_there t (u ∷ us) zero h = let e : u.thread.0 ≡ t = cc in rw (e, same_as_itself t) refl
turn_there t (u ∷ us) (suc i) h = go (u.thread.0 == t) (turn_there t us i h)
  where
    go : (b : Bool) → has_turn t us ≡ true → (b || has_turn t us) ≡ true
    go true k = refl
    go false k = k

owners_length : (us : List Turn) → length (owners_of us) ≡ length us
owners_length [] = refl
owners_length (u ∷ us) = ap suc (owners_length us)

pub drop_end : (g : ℕ) (us : List Turn) → drop g us ≡ [] → length us ≤ g
drop_end zero us e = rw e (omega arith)
drop_end (suc g) [] e = omega arith
drop_end (suc g) (u ∷ us) e = let k = drop_end g us e in omega (arith, k)

-- a thread that may step doesn't trap, and has steps left
module _ (gated : List InstrId) (p : NumberedProgram) (input : List ℤ) (turns : List Turn) (xs : List Step) (z : State) (a : Seen) (reached : IsReached p z)
    (sees : Same a (seen z (λ t. steps_of t xs))) (t : ℕ) (m : May (rules gated p) (owners_of turns) a (length (events xs)) t) where
  pub steps : Steps gated p input t z
  steps = steps_of_may gated p input z (λ i. steps_of i xs) a reached sees turns (length (events xs)) t m

  pub no_traps : traps p z t ≡ false
  no_traps = subst (λ (v : ℕ). traps p z v ≡ false) steps.own
      (ap is_some (no_trap z steps.told.thread.0 (next_of p z steps.told.thread.0) (did_allowed gated p input z steps.takes.after steps.told.thread.0 steps.told steps.takes.is_step)))

  left : nat_lt (steps_of t xs) GUIDED_STEP_LIMIT ≡ true
  left = (and_parts (local_goes p (a.locals t).local) (nat_lt (steps_of t xs) GUIDED_STEP_LIMIT)
      (ap (λ (n : ℕ). local_goes p (a.locals t).local && nat_lt n GUIDED_STEP_LIMIT) (ap (λ (l : Thread). l.taken) (sym (sees.locals t))) ∙ m.can)).1

  pub not_spent : has_spent xs t ≡ false
  not_spent = let l = left in grind (arith, nat_tests)

module _ (gated : List InstrId) (p : NumberedProgram) (input : List ℤ) (turns : List Turn) (xs : List Step) (z : State) (a : Seen) (reached : IsReached p z)
    (sees : Same a (seen z (λ t. steps_of t xs))) (full : IsFull gated p turns xs z) where
  abbrev done : ℕ
  done = length (events xs)

  over_is : sync.over a.objects.objects.sync ≡ sync.over z.sync
  over_is = ap (λ (q : Shared). sync.over q.objects.sync) sees.objects

  -- where the run is over it has all turns
  pub all_turns : (rules gated p).over a.objects ≡ true → length (owners_of turns) ≤ length (events xs)
  all_turns v = go (turns_left turns xs) refl full
    where
      go : (us : List Turn) → turns_left turns xs ≡ us → IsHeldBy gated p xs z us → length (owners_of turns) ≤ length (events xs)
      go [] e h = let k = drop_end done turns e in let l = owners_length turns in omega (arith, k, l)
      go (u ∷ us) e h = let k : true ≡ false = sym v ∙ over_is ∙ h.going in absurd cc

  held : (t : ℕ) (u : Turn) (us : List Turn) → turns_left turns xs ≡ u ∷ us → IsHeld gated p xs z u us → May (rules gated p) (owners_of turns) a (length (events xs)) t → ⊥
  held t u us e h m = go (t == u.thread.0) refl
    where
      k : Steps gated p input t z
      k = steps gated p input turns xs z a reached sees t m

      taken : Takes gated p input z k.told
      taken = k.takes

      steady : traps p z t ≡ false
      steady = no_traps gated p input turns xs z a reached sees t m

      unspent : has_spent xs t ≡ false
      unspent = not_spent gated p input turns xs z a reached sees t m

      goes : is_ended (next_of p z t) ≡ false
      goes = subst (λ (v : ℕ). is_ended (next_of p z v) ≡ false) k.own (not_ended z k.told.thread.0 (next_of p z k.told.thread.0) (ready_acts p z k.told.thread.0 taken.is_ready))

      first_owner : slice_get (owners_of turns) (length (events xs)) ≡ Some u.thread.0
      first_owner = let q : length (events xs) ≡ length (events xs) + 0 =
          omega arith in ap (slice_get (owners_of turns)) q ∙ sym (get_behind gated p input (length (events xs)) turns 0) ∙ ap (λ (l : List Turn). slice_get (owners_of l) 0) e

      -- thread t has a later turn, where it isn't the owner of the next
      later : (t ≡ u.thread.0 → ⊥) → has_turn t us ≡ true
      later ne = at (m.turn - length (events xs)) (ap (λ (l : List Turn). slice_get (owners_of l) (m.turn - length (events xs))) (sym e)
          ∙ get_behind gated p input (length (events xs)) turns (m.turn - length (events xs)) ∙ ap (slice_get (owners_of turns)) sum ∙ m.own)
        where
          sum : length (events xs) + (m.turn - length (events xs)) ≡ m.turn
          sum = let l = m.left in omega (arith, l)

          at : (i : ℕ) → slice_get (owners_of (u ∷ us)) i ≡ Some t → has_turn t us ≡ true
          at zero q = absurd (ne (let w : u.thread.0 ≡ t = cc in sym w))
          at (suc i) q = turn_there t us i q

      own : t ≡ u.thread.0 → ⊥
      own q =
          let w : (traps p z t || has_spent xs t) ≡ true = subst (λ (v : ℕ). (traps p z v || has_spent xs v) ≡ true) (sym q) h.owner in
          let n : true ≡ false = sym w ∙ rw (steady, unspent) refl in
          absurd cc

      by_event : (b : Bool) → is_some (turn_of gated p z t) ≡ b → (t ≡ u.thread.0 → ⊥) → ⊥
      by_event false v ne =
          let w : rests gated p xs z t ≡ true = h.others t ne (later ne) in
          let n : true ≡ false = sym w ∙ rw (goes, steady, unspent, v) refl in
          absurd cc
      by_event true v ne =
          let i : is_some (event_of k.told) ≡ true = ap is_some (event_is gated p input z taken.after k.told.thread.0 k.told taken.is_step)
          ∙ subst (λ (w : ℕ). is_some (turn_of gated p z w) ≡ true) (sym k.own) v in
          let seen_event : (rules gated p).is_event (a.locals t) ≡ true =
          ap (λ (l : Thread). local_event gated p l.local) (sees.locals t)
          ∙ subst (λ (w : ℕ). local_event gated p (Rattle.pg_law_effects.specs.Views.local_at z w) ≡ true) k.own (sym (event_seen gated p input z k.told reached taken) ∙ i) in
          let q : Path (Option ℕ) (Some t) (Some u.thread.0) = sym (m.next seen_event) ∙ first_owner in
          ne (let w : t ≡ u.thread.0 = cc in w)

      go : (b : Bool) → (t == u.thread.0) ≡ b → ⊥
      go true q = own (same_number t u.thread.0 q)
      go false q = by_event (is_some (turn_of gated p z t)) refl (λ w. let n : true ≡ false = sym (same_as_itself u.thread.0) ∙ ap (λ (i : ℕ). i == u.thread.0) (sym w) ∙ q in absurd cc)

  pub maximal : (t : ℕ) → May (rules gated p) (owners_of turns) a (length (events xs)) t → ⊥
  maximal t m = go (turns_left turns xs) refl full
    where
      go : (us : List Turn) → turns_left turns xs ≡ us → IsHeldBy gated p xs z us → ⊥
      go [] e h =
          let k = drop_end (length (events xs)) turns e in
          let l = owners_length turns in
          let b = owner_below (owners_of turns) m.turn t m.own in
          let c = m.left in absurd (omega (arith, k, l, b, c))
      go (u ∷ us) e h = held t u us e h m
