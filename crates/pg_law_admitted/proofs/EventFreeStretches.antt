-- Stretches of a run: steps of one thread that are no events.
use Rattle.std.proofs.Common.{◌≡◌, ℕ, ℤ, ◌⊎◌, ◌<◌, ◌≤◌, ◌^◌, ◌==◌, ◌||◌, ◌++◌, Bool, true, false, List, [], ◌∷◌, length, Option, Some, None}
use Rattle.std.proofs.Common.{refl, sym, ap, ◌∙◌, subst, inl, inr}
use Rattle.std.specs.Prelude.{is_some, if◌then◌else◌}
use Rattle.std.specs.List.{AllByRecursion as AllOf, list_any}
use Rattle.std.proofs.lemmas.Bool.{cases_eq, cases_lt, false_from_ne_true, ne_eqb, true≢false}
use Rattle.pg_num.specs.declared.layout.TheConstants.{MEMORY_BYTES}
use Rattle.pg_ir.specs.WellFormed.{IsProgram}
use Rattle.pg_ir.specs.declared.ids.InstrId.{InstrId}
use Rattle.pg_ir.specs.Program.{NumberedProgram}
use Rattle.pg_law_threads.specs.Effects as plans
use Rattle.pg_law_threads.proofs.EffectsOfSteps.{same_refl}
use Rattle.pg_run_trace.specs.declared.step.Happening.{Happening}
use Rattle.pg_run_trace.specs.declared.step.Step.{Step}
use Rattle.pg_run_trace.specs.declared.turn.Turn.{Turn}
use Rattle.pg_run_trace.specs.Races.{recorded}
use Rattle.pg_run_trace.specs.Steps.{event_of, happening_in}
use Rattle.pg_run.specs.MachineStep.{Did}
use Rattle.pg_run.specs.Runs.{IsRun, Takes}
use Rattle.pg_run.specs.State.{State}
use Rattle.pg_law_effects.specs.Effect.{effect_of}
use Rattle.pg_law_effects.specs.PermittedSteps.{MayTake, PermittedSteps, one_more, turns_behind}
use Rattle.pg_law_effects.specs.Reached.{IsReached}
use Rattle.pg_law_effects.specs.Views.{cell_at, cell_written, local_at, objects_of, objects_with}
use Rattle.pg_law_effects.proofs.ReachedStates.{reached_step}
use Rattle.pg_law_instances.specs.Stays.{AreOf}
use Rattle.pg_law_plan.proofs.of_pg_law_runs.ToldCells.{IsTold, told}
use Rattle.pg_law_plan.specs.Likes.{MovedThread}
use Rattle.pg_law_plan.specs.Moves.{moved}
use Rattle.pg_law_plan.proofs.StepsAreMoves.{moved_by, moves_lead}
use Rattle.pg_law_plan.proofs.KnownBeforeUnits.{no_if}
use Rattle.pg_law_admitted.specs.Unbroken.{BeginsWith}

-- no event
abbrev pub IsQuietStep : Step → Type 0
IsQuietStep x = recorded.is_event x ≡ false

pub no_turn : (x : Step) → recorded.is_event x ≡ false → event_of x ≡ None
no_turn x h = go (happening_in x.kind) refl
  where
    go : (o : Option Happening) → happening_in x.kind ≡ o → event_of x ≡ None
    go None e = rw e refl
    go (Some v) e = absurd (true≢false (sym (ap is_some e) ∙ h))

old_kept : (o : Option ℕ) (n : ℕ) → is_some o ≡ false → plans.or_old o n ≡ n
old_kept None n h = refl
old_kept (Some m) n h = absurd (true≢false h)

none_first : (a b : Bool) → (a || b) ≡ false → a ≡ false
none_first true b h = absurd (true≢false h)
none_first false b h = refl

none_second : (a b : Bool) → (a || b) ≡ false → b ≡ false
none_second true b h = absurd (true≢false h)
none_second false b h = h

-- ---- steps of one thread at the front

pub record OwnFront (t : ℕ) (xs : List Step) : Type 0 where
  pub front : List Step
  pub behind : List Step
  pub whole : xs ≡ front ++ behind
  pub own : AreOf t front
  pub stops : BeginsWith t behind → ⊥

pub own_front : (t : ℕ) (xs : List Step) → OwnFront t xs
unfolding BeginsWith
own_front t [] = record { front = []; behind = []; whole = refl; own = tt; stops = λ b. b }
own_front t (x ∷ xs) = go (cases_eq x.thread.0 t) (own_front t xs)
  where
    go : (x.thread.0 ≡ t) ⊎ (x.thread.0 ≡ t → ⊥) → OwnFront t xs → OwnFront t (x ∷ xs)
    go (inl e) k = record { front = x ∷ k.front; behind = k.behind; whole = ap (λ (l : List Step). x ∷ l) k.whole; own = (e, k.own); stops = k.stops }
    go (inr n) k = record { front = []; behind = x ∷ xs; whole = refl; own = tt; stops = n }

module _ (gated : List InstrId) (p : NumberedProgram) (input : List ℤ) where
  pub run_of : (us : List Turn) (counts : ℕ → ℕ) (s z : State) (xs : List Step) → PermittedSteps gated p input s us counts xs z → IsRun gated p input s xs z
  run_of us counts s z [] h = h
  run_of us counts s z (x ∷ xs) h = (h.0.takes, run_of (turns_behind (event_of x) us) (one_more x.thread.0 counts) h.0.takes.after z xs h.1)

  pub run_halves : (s z : State) (xs ys : List Step) → IsRun gated p input s (xs ++ ys) z → (m : State) × IsRun gated p input s xs m × IsRun gated p input m ys z
  run_halves s z [] ys h = (s, refl, h)
  run_halves s z (x ∷ xs) ys h = let k = run_halves h.0.after z xs ys h.1 in (k.0, (h.0, k.1), k.2)

  -- steps lead to one state
  pub one_end : (s z z' : State) (xs : List Step) → IsRun gated p input s xs z → IsRun gated p input s xs z' → z ≡ z'
  one_end s z z' [] h k = sym h ∙ k
  one_end s z z' (x ∷ xs) h k =
      let q : Did x h.0.after ≡ Did x k.0.after = sym h.0.is_step ∙ k.0.is_step in
      let w : h.0.after ≡ k.0.after = cc in
      one_end k.0.after z z' xs (subst (λ (v : State). IsRun gated p input v xs z) w h.1) k.1

  -- a permitted run, cut behind a stretch
  pub record Halves (s : State) (us : List Turn) (counts : ℕ → ℕ) (xs ys : List Step) (z : State) : Type 0 where
    pub state : State
    pub counts' : ℕ → ℕ
    pub front : PermittedSteps gated p input s us counts xs state
    pub behind : PermittedSteps gated p input state us counts' ys z

  pub halves : (us : List Turn) (counts : ℕ → ℕ) (s z : State) (xs ys : List Step) → AllOf IsQuietStep xs → PermittedSteps gated p input s us counts (xs ++ ys) z
      → Halves s us counts xs ys z
  halves us counts s z [] ys q h = record { state = s; counts' = counts; front = refl; behind = h }
  halves us counts s z (x ∷ xs) ys q h =
      let e : turns_behind (event_of x) us ≡ us = ap (λ o. turns_behind o us) (no_turn x q.0) in
      let k = halves us (one_more x.thread.0 counts) h.0.takes.after z xs ys q.1
      (subst (λ (vs : List Turn). PermittedSteps gated p input h.0.takes.after vs (one_more x.thread.0 counts) (xs ++ ys) z) e h.1) in
      record {
        state = k.state;
        counts' = k.counts';
        front = (h.0, subst (λ (vs : List Turn). PermittedSteps gated p input h.0.takes.after vs (one_more x.thread.0 counts) xs k.state) (sym e) k.front);
        behind = k.behind;
      }

  -- ---- what a stretch leaves

  pub record StretchLeaves (t : ℕ) (xs : List Step) (s z : State) : Type 0 where
    pub locals : (u : ℕ) → (u ≡ t → ⊥) → local_at z u ≡ local_at s u
    pub cells : (b : ℕ) → list_any (λ y. recorded.writes y b) xs ≡ false → cell_at z b ≡ cell_at s b
    pub objects : objects_of z ≡ objects_of s

  module _ (program : IsProgram p) (small : length input < 2 ^ 64) where
    -- what a step doesn't write is no cell that it changes
    unwritten : (counts : ℕ → ℕ) (s : State) (x : Step) → Takes gated p input s x → recorded.is_event x ≡ false → (b : ℕ) → recorded.writes x b ≡ false
        → is_some (cell_written (effect_of p input s x.thread.0) b) ≡ false
    unwritten counts s x h quiet b w = go (cases_lt b MEMORY_BYTES)
      where
        k : IsTold x (Rattle.pg_law_plan.specs.pg_law_runs.Deeds.deed_of p input s counts x)
        k = told gated p input s counts x h

        go : (b < MEMORY_BYTES) ⊎ (MEMORY_BYTES ≤ b) → is_some (cell_written (effect_of p input s x.thread.0) b) ≡ false
        go (inl l) = k.writes b l ∙ w
        go (inr g) = false_from_ne_true (is_some (cell_written (effect_of p input s x.thread.0) b)) (λ e. true≢false (sym (k.event ∙ k.word_written b g e) ∙ quiet))

    one_leaves : (us : List Turn) (counts : ℕ → ℕ) (t : ℕ) (s : State) (x : Step) (m : MayTake gated p input s us counts x) → IsReached p s → x.thread.0 ≡ t
        → recorded.is_event x ≡ false → StretchLeaves t (x ∷ []) s m.takes.after
    unfolding moved_by
    one_leaves us counts t s x m reached own quiet =
        let k = (moves_lead gated p input us s counts (moved s counts) (x ∷ []) m.takes.after program small reached (same_refl (moved s counts)) (m, refl)).1 in
        record {
          locals = λ u ne. ap (λ (l : MovedThread). l.local) (sym (k.locals u) ∙ no_if (u == x.thread.0) _ _ (ne_eqb u x.thread.0 (λ q. ne (q ∙ own))));
          cells = λ b w. sym (k.cells b) ∙ old_kept (cell_written (effect_of p input s x.thread.0) b) (cell_at s b)
              (unwritten counts s x m.takes quiet b (none_first (recorded.writes x b) false w));
          objects = sym k.objects ∙ ap (λ (c : Bool). plans.or_old
              (if c then Some (objects_with (effect_of p input s x.thread.0).thread (effect_of p input s x.thread.0).request (objects_of s)) else None) (objects_of s)) (ap is_some (no_turn x quiet));
        }

    pub stretch_leaves : (us : List Turn) (counts : ℕ → ℕ) (t : ℕ) (s z : State) (xs : List Step) → PermittedSteps gated p input s us counts xs z → IsReached p s → AreOf t xs
        → AllOf IsQuietStep xs → StretchLeaves t xs s z
    stretch_leaves us counts t s z [] h reached own quiet = subst (StretchLeaves t [] s) h (record { locals = λ u ne. refl; cells = λ b w. refl; objects = refl })
    stretch_leaves us counts t s z (x ∷ xs) h reached own quiet =
        let m = h.0 in
        let a = one_leaves us counts t s x m reached own.0 quiet.0 in
        let b = stretch_leaves (turns_behind (event_of x) us) (one_more x.thread.0 counts) t m.takes.after z xs h.1
        (reached_step gated p input s m.takes.after x.thread.0 x program small reached m.takes.is_ready m.takes.is_step) own.1 quiet.1 in
        record {
          locals = λ u ne. b.locals u ne ∙ a.locals u ne;
          cells = λ c w. b.cells c (none_second (recorded.writes x c) _ w) ∙ a.cells c (ap (λ (k : Bool). k || false) (none_first (recorded.writes x c) _ w));
          objects = b.objects ∙ a.objects;
        }
