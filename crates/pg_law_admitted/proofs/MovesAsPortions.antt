-- Moves of a run and the portions that they are: where threads stand behind them.
use mathlib.Core.Path.{fun_ext}
use Rattle.std.specs.List.{AllByRecursion as AllOf}
use Rattle.std.specs.Prelude.{if◌then◌else◌}
use Rattle.std.proofs.Common.{◌==◌, ◌||◌, ◌∙◌, ◌∷◌, ◌≡◌, ◌⊎◌, Bool, List, None, Option, Some, [], ap, false, inl, inr, refl, subst, suc, sym, true, ℕ, ℤ}
use Rattle.std.proofs.lemmas.Bool.{cases_eq, eq-eqb, ne_eqb, true≢false}
use Rattle.pg_law_threads.specs.Effects.{deeds, effect, effects}
use Rattle.pg_law_threads.specs.Plans.{Fits, Moves}
use Rattle.pg_law_threads.specs.Steps.{touches}
use Rattle.pg_run_thread.specs.LocalState.{LocalState}
use Rattle.pg_run_trace.specs.declared.step.Step.{Step}
use Rattle.pg_run_trace.specs.declared.turn.Turn.{Turn}
use Rattle.pg_region_accesses.specs.Accesses.{RootedList}
use Rattle.pg_run.specs.State.{State}
use Rattle.pg_slice_rules.specs.Known.{Taken, thread_of}
use Rattle.pg_slice_rules.specs.Moments.{thread_in}
use Rattle.pg_law_effects.specs.PermittedSteps.{one_more}
use Rattle.pg_law_effects.specs.Views.{cell_at, local_at, objects_of}
use Rattle.pg_law_plan.specs.Fits.{IsAlikeFor, thread_before}
use Rattle.pg_law_plan.specs.Likes.{IsCellLike, IsThreadLike, MovedThread, StandLike, like}
use Rattle.pg_law_plan.specs.Lists.{Has}
use Rattle.pg_law_plan.specs.Moves.{RunDeed, RunState, moved}
use Rattle.pg_law_plan.specs.Units.{PlanUnit, ReferenceRun, cell_known, deed_of, reads_cell, standing_of, writes_cell}
use Rattle.pg_law_plan.proofs.KnownBeforeUnits.{no_if, yes_if}
use Rattle.pg_law_plan.proofs.UnitTurns.{is_some_if}
use Rattle.pg_law_admitted.specs.Falls.{FallInto, IsStepOf}
use Rattle.pg_law_admitted.specs.Free.{IsAnyMove}
use Rattle.pg_law_admitted.specs.Invariant.{AreChained, IsInInstance, IsOfUnit, Portion, RestsAlike, StandsInside, TouchesWithin, may_touch, owner, steps_in, units_done}
use Rattle.pg_law_admitted.proofs.NoEventsInside.{IsLeft}
use Rattle.pg_law_admitted.proofs.UnitNumbers.{counts_after, one_more_other, one_more_same}
use Rattle.pg_law_admitted.proofs.NextUnits.{InTurn}

abbrev pub mover : Option LocalState → ℕ → MovedThread
mover l n = record { local = l; moves = n }

-- each portion has the number of its thread's portions before it, and is in its turn
abbrev pub AreInTurn : ReferenceRun → Taken → (ℕ → ℕ) → List Portion → Type 0
AreInTurn r d c [] = Unit {0}
AreInTurn r d c (e ∷ es) = (e.unit.units ≡ c (owner e.unit)) × (InTurn r d c e.unit × AreInTurn r d (one_more (owner e.unit) c) es)

-- a step of a move that fits a unit touches no more cells than that may
pub touches_within : (input : List ℤ) (d : Taken) (u : PlanUnit) (e : RunDeed) → Fits (like input) (deed_of d u) e → (xs : List Step) → AllOf (IsStepOf e) xs → AllOf (TouchesWithin d u) xs
touches_within input d u e f [] h = tt
touches_within input d u e f (x ∷ xs) h = (
  record {
    reads = λ b k. touched b (f.reads b (h.0.reads b k));
    writes = λ b k. sym (is_some_if (writes_cell d u.seen b) (cell_known u.known b)) ∙ f.writes b (h.0.writes b k);
  },
  touches_within input d u e f xs h.1,
)
  where
    touched : (b : ℕ) → touches deeds (deed_of d u) b ≡ true → touches (may_touch d) u b ≡ true
    touched b k = ap (λ (w : Bool). reads_cell d u.seen b || w) (sym (is_some_if (writes_cell d u.seen b) (cell_known u.known b))) ∙ k

module _ (r : ReferenceRun) (d : Taken) (input : List ℤ) (sums : ℕ → Option RootedList) (turns : List Turn) where
  -- a looks like s, but for threads that take none of these steps: each is left inside the instance of its portion
  abbrev pub Left : Option Portion → ℕ → State → Type 0
  Left None t s = ⊥
  Left (Some e) t s = StandsInside r d sums e t s

  pub still_left : (p : Option Portion) (t : ℕ) (s z : State) → Left p t s → local_at s t ≡ local_at z t → Left p t z
  still_left None t s z h e = h
  still_left (Some p) t s z h e = record { own = h.own; free = h.free; begun = h.begun; local = h.local; is_local = sym e ∙ h.is_local; within = h.within }

  pub record Looks (at : ℕ → Option Portion) (xs : List Step) (a : RunState) (s : State) (c : ℕ → ℕ) : Type 0 where
    pub locals : (t : ℕ) → (a.locals t ≡ (moved s c).locals t) ⊎ (IsLeft r.gated r.program t s × (Left (at t) t s × ((y : Step) → Has xs y → y.thread.0 ≡ t → ⊥)))
    pub cells : (b : ℕ) → a.cells b ≡ cell_at s b
    pub objects : a.objects ≡ objects_of s

  -- where thread t stands behind portions: as it looks, or inside the instance of an earlier one or of one of these
  abbrev pub StandsBehind : Option Portion → List Portion → RunState → State → ℕ → Type 0
  StandsBehind e es a z t = ((a.locals t).local ≡ local_at z t) ⊎ ((Left e t z × AllOf (λ (p : Portion). owner p.unit ≡ t → ⊥) es) ⊎ IsInInstance r d sums es t z)

  -- moves into which these steps fall, which lead to z, but for threads that are left inside an instance; and the portions that they are
  pub record Falls (at : ℕ → Option Portion) (s : State) (a : RunState) (g : ℕ) (xs : List Step) (z : State) : Type 0 where
    pub moves : List RunDeed
    pub are : Moves (IsAnyMove r d input sums turns) a g moves
    pub fall : FallInto xs moves
    pub counts : ℕ → ℕ
    pub locals : (t : ℕ) → ((effects a moves).locals t ≡ (moved z counts).locals t) ⊎ IsLeft r.gated r.program t z
    pub cells : (b : ℕ) → (effects a moves).cells b ≡ cell_at z b
    pub objects : (effects a moves).objects ≡ objects_of z
    pub portions : List Portion
    pub whole : steps_in portions ≡ xs
    pub chained : AreChained r input s portions z
    pub each : AllOf (IsOfUnit r d input sums) portions
    pub along : AreInTurn r d (λ t. (a.locals t).moves) portions
    pub counted : (t : ℕ) → ((effects a moves).locals t).moves ≡ counts_after (λ t. (a.locals t).moves) (units_done portions) t
    pub stand : (t : ℕ) → StandsBehind (at t) portions (effects a moves) z t

  -- no steps are no moves
  pub falls_none : (at : ℕ → Option Portion) (s z : State) (a : RunState) (g : ℕ) (c : ℕ → ℕ) → Looks at [] a s c → s ≡ z → Falls at s a g [] z
  falls_none at s z a g c looks same = record {
    moves = [];
    are = tt;
    fall = refl;
    counts = c;
    locals = λ t. by t (looks.locals t);
    cells = λ b. looks.cells b ∙ ap (λ (v : State). cell_at v b) same;
    objects = looks.objects ∙ ap objects_of same;
    portions = [];
    whole = refl;
    chained = same;
    each = tt;
    along = tt;
    stand = λ t. stand t (looks.locals t);
    counted = λ t. refl;
  }
    where
      stand : (t : ℕ) → (a.locals t ≡ (moved s c).locals t) ⊎ (IsLeft r.gated r.program t s × (Left (at t) t s × ((y : Step) → Has [] y → y.thread.0 ≡ t → ⊥)))
          → StandsBehind (at t) [] a z t
      stand t (inl e) = inl (ap (λ (l : MovedThread). l.local) e ∙ ap (λ (v : State). local_at v t) same)
      stand t (inr k) = inr (inl (subst (Left (at t) t) same k.1.0, tt))

      by : (t : ℕ) → (a.locals t ≡ (moved s c).locals t) ⊎ (IsLeft r.gated r.program t s × (Left (at t) t s × ((y : Step) → Has [] y → y.thread.0 ≡ t → ⊥)))
          → (a.locals t ≡ (moved z c).locals t) ⊎ IsLeft r.gated r.program t z
      by t (inl e) = inl (e ∙ ap (λ (v : State). (moved v c).locals t) same)
      by t (inr k) = inr (subst (IsLeft r.gated r.program t) same k.0)

  -- ---- a move that does the unit u, from s on by the step x

  module _ (at : ℕ → Option Portion) (x : Step) (s z : State) (c : ℕ → ℕ) (a : RunState) (u : PlanUnit) (own : thread_in u.seen.moment ≡ x.thread.0)
      (thread : IsThreadLike input (thread_before u) (a.locals (thread_in u.seen.moment)))
      (looks_own : a.locals x.thread.0 ≡ (moved s c).locals x.thread.0) (cells : (b : ℕ) → a.cells b ≡ cell_at s b) (objects : a.objects ≡ objects_of s) where
    -- what the unit rests on is alike in s too
    pub rests_alike : IsAlikeFor input d u a → RestsAlike input d u s
    rests_alike k = record {
      thread = subst (λ (l : MovedThread). StandLike input (standing_of (local_at u.state (thread_in u.seen.moment)) (thread_of u.seen.before (thread_in u.seen.moment)).calls) l.local)
          (subst (λ (i : ℕ). a.locals i ≡ (moved s c).locals i) (sym own) looks_own) k.thread.stands;
      cells = λ b w. subst (IsCellLike input (cell_known u.seen.before b)) (cells b) (k.cells b w);
      objects = λ w. k.objects w ∙ objects;
    }

    -- the thread's portion from here on, if it is left inside of one
    abbrev pub in_next : Option Portion → ℕ → Option Portion
    in_next p t = if t == x.thread.0 then p else at t

    -- how many moves each thread has done behind a move
    moves_next : (e : RunDeed) → e.thread ≡ x.thread.0 → e.to.moves ≡ suc (c x.thread.0) → (t : ℕ)
        → ((effect a e).locals t).moves ≡ one_more (owner u) (λ (t : ℕ). (a.locals t).moves) t
    moves_next e mine to t = by (cases_eq t x.thread.0)
      where
        by : (t ≡ x.thread.0) ⊎ (t ≡ x.thread.0 → ⊥) → ((effect a e).locals t).moves ≡ one_more (owner u) (λ (t : ℕ). (a.locals t).moves) t
        by (inl k) = ap (λ (l : MovedThread). l.moves) (yes_if (t == e.thread) e.to (a.locals t) (eq-eqb t e.thread (k ∙ sym mine))) ∙ to
            ∙ ap (λ (l : MovedThread). suc l.moves) (sym looks_own) ∙ ap (λ (i : ℕ). suc (a.locals i).moves) (sym k)
            ∙ sym (one_more_same (owner u) t (λ (t : ℕ). (a.locals t).moves) (own ∙ sym k))
        by (inr ne) = ap (λ (l : MovedThread). l.moves) (no_if (t == e.thread) e.to (a.locals t) (ne_eqb t e.thread (λ w. ne (w ∙ mine))))
            ∙ sym (one_more_other (owner u) t (λ (t : ℕ). (a.locals t).moves) (λ w. ne (sym w ∙ own)))

    pub along_next : (p : Portion) → p.unit ≡ u → (e : RunDeed) → e.thread ≡ x.thread.0 → e.to.moves ≡ suc (c x.thread.0) → InTurn r d (λ (t : ℕ). (a.locals t).moves) u
        → (es : List Portion) → AreInTurn r d (λ (t : ℕ). ((effect a e).locals t).moves) es →
        (u.units ≡ (a.locals (owner u)).moves) × (InTurn r d (λ (t : ℕ). (a.locals t).moves) u × AreInTurn r d (one_more (owner u) (λ (t : ℕ). (a.locals t).moves)) es)
    along_next p is e mine to turn es k = (sym thread.moves, (turn, subst (λ (n : ℕ → ℕ). AreInTurn r d n es) (fun_ext (moves_next e mine to)) k))

    pub counted_next : (e : RunDeed) → e.thread ≡ x.thread.0 → e.to.moves ≡ suc (c x.thread.0) → (ds : List RunDeed) (us : List PlanUnit)
        → ((t : ℕ) → ((effects (effect a e) ds).locals t).moves ≡ counts_after (λ (t : ℕ). ((effect a e).locals t).moves) us t) →
        (t : ℕ) → ((effects (effect a e) ds).locals t).moves ≡ counts_after (one_more (owner u) (λ (t : ℕ). (a.locals t).moves)) us t
    counted_next e mine to ds us k t = k t ∙ ap (λ (n : ℕ → ℕ). counts_after n us t) (fun_ext (moves_next e mine to))

    push : (e : Portion) (es : List Portion) (t : ℕ) → IsInInstance r d sums es t z → IsInInstance r d sums (e ∷ es) t z
    push e es t i = record { before = e ∷ i.before; portion = i.portion; later = i.later; among = ap (λ (l : List Portion). e ∷ l) i.among; last = i.last; inside = i.inside }

    not_own : (t : ℕ) → (t == x.thread.0) ≡ false → owner u ≡ t → ⊥
    not_own t w k = true≢false (sym (eq-eqb t x.thread.0 (sym k ∙ own)) ∙ w)

    pub stand_single : (e : Portion) → owner e.unit ≡ owner u → (es : List Portion) (b : RunState) (t : ℕ) → StandsBehind (in_next None t) es b z t → StandsBehind (at t) (e ∷ es) b z t
    stand_single e same es b t = go (t == x.thread.0) refl
      where
        go : (v : Bool) → (t == x.thread.0) ≡ v → StandsBehind (if v then None else at t) es b z t → StandsBehind (at t) (e ∷ es) b z t
        go v w (inl k) = inl k
        go v w (inr (inr i)) = inr (inr (push e es t i))
        go true w (inr (inl l)) = absurd l.0
        go false w (inr (inl l)) = inr (inl (l.0, ((λ k. not_own t w (sym same ∙ k)), l.1)))

    pub stand_free : (e : Portion) → owner e.unit ≡ owner u → (es : List Portion) (b : RunState) (t : ℕ) → StandsBehind (in_next (Some e) t) es b z t → StandsBehind (at t) (e ∷ es) b z t
    stand_free e same es b t = go (t == x.thread.0) refl
      where
        go : (v : Bool) → (t == x.thread.0) ≡ v → StandsBehind (if v then Some e else at t) es b z t → StandsBehind (at t) (e ∷ es) b z t
        go v w (inl k) = inl k
        go v w (inr (inr i)) = inr (inr (push e es t i))
        go true w (inr (inl l)) = inr (inr (record { before = []; portion = e; later = es; among = refl; last = l.1; inside = l.0 }))
        go false w (inr (inl l)) = inr (inl (l.0, ((λ k. not_own t w (sym same ∙ k)), l.1)))

    -- where another thread takes steps
    pub left_next : (p : Option Portion) (t : ℕ) (v : State) → (t ≡ x.thread.0 → ⊥) → local_at s t ≡ local_at v t → Left (at t) t s → Left (in_next p t) t v
    left_next p t v ne e h = subst (λ (o : Option Portion). Left o t v) (sym (no_if (t == x.thread.0) p (at t) (ne_eqb t x.thread.0 ne))) (still_left (at t) t s v h e)
