-- The full guided run is unbroken.
use Rattle.std.proofs.Common.{◌≡◌, ℕ, ℤ, ◌⊎◌, ◌+◌, ◌<◌, zero, suc, List, [], ◌∷◌, ◌++◌, drop, Bool, true, false, Option, Some, None, Result, Ok, Err, refl}
use Rattle.std.proofs.Common.{sym, ap, ◌∙◌, subst, arith, inl, inr}
use Rattle.std.specs.Prelude.{◌==◌, ◌&&◌, not, is_some, slice_set, slice_index, if◌then◌else◌}
use Rattle.std.proofs.lemmas.Bool.{true≢false}
use Rattle.pg_num.specs.declared.limits.TheConstants.{THREAD_LIMIT}
use Rattle.pg_ir.specs.declared.ids.InstrId.{InstrId}
use Rattle.pg_ir.specs.Program.{NumberedProgram}
use Rattle.pg_run_trace.specs.declared.step.Step.{Step}
use Rattle.pg_run_trace.specs.declared.turn.Turn.{Turn}
use Rattle.pg_run.specs.declared.guided_end.GuidedEnd.{GuidedEnd}
use Rattle.pg_run.specs.State.{State, initial}
use Rattle.pg_run.specs.MachineStep.{Did, Stepped, Trapped, step}
use Rattle.pg_run.specs.Permitted.{has_turn}
use Rattle.pg_run.specs.Runs.{event_of, steps_of}
use Rattle.pg_run.specs.Guided.{GuidedRun, Walk, all_left, due, ended_at, guided, guided_of, on_due, on_step, walk}
use Rattle.pg_run.specs.FullGuided.{full_guided_of, gone_on, on_plain, stands, stops_early, walk_alone, with_others, with_walk}
use Rattle.pg_run.proofs.GuidedRuns.{same_as_itself, step_is, turn_if}
use Rattle.pg_law_effects.proofs.FullGuidedRunPermitted.{alone}
use Rattle.pg_law_effects.proofs.PermittedStepByStep.{steps_append}
use Rattle.pg_law_effects.proofs.ToldByStep.{thread_of}
use Rattle.pg_law_admitted.specs.Unbroken.{BeginsWith, IsUnbroken}

-- unbroken, and only of these threads does a run's last step have no event
Leaves : (ℕ → Type 0) → List Step → Type 0
Leaves p [] = Unit {0}
Leaves p (x ∷ xs) = (event_of x ≡ None → BeginsWith x.thread.0 xs ⊎ (p x.thread.0 × (steps_of x.thread.0 xs ≡ 0))) × Leaves p xs

begins_more : (t : ℕ) (xs ys : List Step) → BeginsWith t xs → BeginsWith t (xs ++ ys)
unfolding BeginsWith
begins_more t [] ys h = absurd h
begins_more t (x ∷ xs) ys h = h

leaves_more : (p q : ℕ → Type 0) (xs : List Step) → ((t : ℕ) → p t → q t) → Leaves p xs → Leaves q xs
unfolding Leaves
leaves_more p q [] f h = tt
leaves_more p q (x ∷ xs) f h = (λ e. go (h.0 e), leaves_more p q xs f h.1)
  where
    go : BeginsWith x.thread.0 xs ⊎ (p x.thread.0 × (steps_of x.thread.0 xs ≡ 0)) → BeginsWith x.thread.0 xs ⊎ (q x.thread.0 × (steps_of x.thread.0 xs ≡ 0))
    go (inl b) = inl b
    go (inr k) = inr (f x.thread.0 k.0, k.1)

leaves_append : (p q : ℕ → Type 0) (xs ys : List Step) → ((t : ℕ) → p t → q t × (steps_of t ys ≡ 0)) → Leaves p xs → Leaves q ys → Leaves q (xs ++ ys)
unfolding Leaves
leaves_append p q [] ys f h k = k
leaves_append p q (x ∷ xs) ys f h k = (λ e. go (h.0 e), leaves_append p q xs ys f h.1 k)
  where
    go : BeginsWith x.thread.0 xs ⊎ (p x.thread.0 × (steps_of x.thread.0 xs ≡ 0)) → BeginsWith x.thread.0 (xs ++ ys) ⊎ (q x.thread.0 × (steps_of x.thread.0 (xs ++ ys) ≡ 0))
    go (inl b) = inl (begins_more x.thread.0 xs ys b)
    go (inr k) = let l = f x.thread.0 k.0 in inr (l.0, (let a = steps_append x.thread.0 xs ys in let n = k.1 in let m = l.1 in omega (arith, a, n, m)))

unbroken_if : (p : ℕ → Type 0) (xs : List Step) → Leaves p xs → IsUnbroken xs
unfolding Leaves IsUnbroken
unbroken_if p [] h = tt
unbroken_if p (x ∷ xs) h = (λ e. go (h.0 e), unbroken_if p xs h.1)
  where
    go : BeginsWith x.thread.0 xs ⊎ (p x.thread.0 × (steps_of x.thread.0 xs ≡ 0)) → BeginsWith x.thread.0 xs ⊎ (steps_of x.thread.0 xs ≡ 0)
    go (inl b) = inl b
    go (inr k) = inr k.1

-- a step of thread t before steps that begin with t, or are none
goes_before : (p : ℕ → Type 0) (t : ℕ) (x : Step) (xs : List Step) → x.thread.0 ≡ t → BeginsWith t xs ⊎ (p t × (xs ≡ []))
    → BeginsWith x.thread.0 xs ⊎ (p x.thread.0 × (steps_of x.thread.0 xs ≡ 0))
goes_before p t x xs i (inl b) = inl (subst (λ (u : ℕ). BeginsWith u xs) (sym i) b)
goes_before p t x xs i (inr k) = inr (subst p (sym i) k.0, ap (steps_of x.thread.0) k.1)

module _ (gated : List InstrId) (p : NumberedProgram) (input : List ℤ) where
  -- ---- one walk to a turn

  -- the owner's last step is the turn, where the walk comes to it
  Stopped : Turn → Option GuidedEnd → ℕ → Type 0
  Stopped u e t = (t ≡ u.thread.0) × (is_some e ≡ true)

  record Walked (u : Turn) (w : Walk) : Type 0 where
    leaves : Leaves (Stopped u w.end) w.trace
    first : BeginsWith u.thread.0 w.trace ⊎ (Stopped u w.end u.thread.0 × (w.trace ≡ []))

  ends_here : (u : Turn) (n : ℕ) (s : State) (e : GuidedEnd) → Walked u (record { trace = []; state = s; left = n; end = Some e })
  unfolding Leaves Stopped
  ends_here u n s e = record { leaves = tt; first = inr ((refl, refl), refl) }

  walked_by : (u : Turn) (n : ℕ) (s : State) (b : Bool) (o : Stepped) (more : State → Walk) → due gated p u s ≡ Ok b → step gated p input s u.thread.0 ≡ o
      → ((z : State) → Walked u (more z)) → Walked u (on_step s n b o more)
  unfolding Leaves Stopped BeginsWith turn_if
  walked_by u n s b (Trapped name id) more d e h = ends_here u (suc n) s _
  walked_by u n s true (Did x z) more d e h =
      let k = step_is gated p input u s z true x d e in
      record { leaves = (λ q. absurd (true≢false (ap is_some (sym k.1 ∙ q))), tt); first = inl (thread_of gated p input s z u.thread.0 x e) }
  walked_by u n s false (Did x z) more d e h =
      let i = thread_of gated p input s z u.thread.0 x e in
      record { leaves = (λ q. goes_before (Stopped u (more z).end) u.thread.0 x (more z).trace i (h z).first, (h z).leaves); first = inl i }

  due_walked : (u : Turn) (n : ℕ) (s : State) (d : Result Bool GuidedEnd) → due gated p u s ≡ d → ((z : State) → Walked u (walk n gated p input u z))
      → Walked u (on_due s n d (λ b. on_step s n b (step gated p input s u.thread.0) (λ t. walk n gated p input u t)))
  due_walked u n s (Err end) e h = ends_here u (suc n) s end
  due_walked u n s (Ok b) e h = walked_by u n s b (step gated p input s u.thread.0) (λ t. walk n gated p input u t) e refl h

  walked : (u : Turn) (n : ℕ) (s : State) → Walked u (walk n gated p input u s)
  unfolding walk
  walked u zero s = ends_here u 0 s _
  walked u (suc n) s = due_walked u n s (due gated p u s) refl (walked u n)

  -- ---- the guided run

  -- thread t has the next of these turns
  IsNext : List Turn → ℕ → Type 0
  IsNext [] t = ⊥
  IsNext (u ∷ us) t = t ≡ u.thread.0

  record Guides (us : List Turn) (k : ℕ) (r : GuidedRun) : Type 0 where
    count : ℕ
    turns : r.turns ≡ k + count
    leaves : Leaves (IsNext (drop count us)) r.trace

  guides_by : (u : Turn) (us : List Turn) (k : ℕ) (w : Walk) (left : List ℕ) (e : Option GuidedEnd) (more : State → List ℕ → GuidedRun) → w.end ≡ e → Walked u w
      → ((z : State) (rest : List ℕ) → Guides us (k + 1) (more z rest)) → Guides (u ∷ us) k (ended_at w left k e more)
  unfolding Stopped IsNext
  guides_by u us k w left (Some e) more q h g = record { count = 0; turns = omega arith; leaves = leaves_more (Stopped u w.end) (IsNext (u ∷ us)) w.trace next h.leaves }
    where
      next : (t : ℕ) → Stopped u w.end t → IsNext (u ∷ us) t
      next t x = x.0
  guides_by u us k w left None more q h g =
      let r = g w.state left in
      record {
        count = suc r.count;
        turns = let e = r.turns in omega arith;
        leaves = leaves_append (Stopped u w.end) (IsNext (drop r.count us)) w.trace (more w.state left).trace none h.leaves r.leaves;
      }
    where
      none : (t : ℕ) → Stopped u w.end t → IsNext (drop (g w.state left).count us) t × (steps_of t (more w.state left).trace ≡ 0)
      none t x = absurd (true≢false (sym x.1 ∙ ap is_some q))

  guides : (us : List Turn) (k : ℕ) (s : State) (left : List ℕ) → Guides us k (guided gated p input us k s left)
  unfolding guided Leaves
  guides [] k s left = record { count = 0; turns = omega arith; leaves = tt }
  guides (u ∷ us) k s left =
      let w = walk (slice_index left u.thread.0) gated p input u s in
      guides_by u us k w (slice_set left u.thread.0 w.left) w.end (λ t rest. guided gated p input us (k + 1) t rest) refl (walked u (slice_index left u.thread.0) s)
      (λ z rest. guides us (k + 1) z rest)

  -- ---- the other threads behind it

  record Alone (t : ℕ) (w : Walk) : Type 0 where
    leaves : Leaves (λ (u : ℕ). u ≡ t) w.trace
    first : BeginsWith t w.trace ⊎ ((t ≡ t) × (w.trace ≡ []))

  rests_alone : (t n : ℕ) (s : State) → Alone t (record { trace = []; state = s; left = n; end = None })
  unfolding Leaves
  rests_alone t n s = record { leaves = tt; first = inr (refl, refl) }

  steps_alone : (t n : ℕ) (s : State) (o : Stepped) (more : State → Walk) → step gated p input s t ≡ o → ((z : State) → Alone t (more z)) → Alone t (on_plain s n o more)
  unfolding Leaves BeginsWith
  steps_alone t n s (Trapped name id) more e h = rests_alone t (suc n) s
  steps_alone t n s (Did x z) more e h =
      let i = thread_of gated p input s z t x e in
      record { leaves = (λ q. goes_before (λ (u : ℕ). u ≡ t) t x (more z).trace i (h z).first, (h z).leaves); first = inl i }

  walk_by : (t n : ℕ) (s : State) (b : Bool) → ((z : State) → Alone t (walk_alone n gated p input t z))
      → Alone t (if b then record { trace = []; state = s; left = suc n; end = None } else on_plain s n (step gated p input s t) (λ z. walk_alone n gated p input t z))
  walk_by t n s true h = rests_alone t (suc n) s
  walk_by t n s false h = steps_alone t n s (step gated p input s t) (λ z. walk_alone n gated p input t z) refl h

  walks_alone : (t n : ℕ) (s : State) → Alone t (walk_alone n gated p input t s)
  unfolding walk_alone
  walks_alone t zero s = rests_alone t 0 s
  walks_alone t (suc n) s = walk_by t n s (stands gated p s t) (walks_alone t n)

  module _ (next : Turn) (later : List Turn) (r0 : GuidedRun) (h0 : Leaves (λ (t : ℕ). t ≡ next.thread.0) r0.trace) where
    -- the owner of the next turn, or one of the first n threads
    Gone : ℕ → ℕ → Type 0
    Gone n t = (t ≡ next.thread.0) ⊎ (t < n)

    more_gone : (n t : ℕ) → Gone n t → Gone (suc n) t
    unfolding Gone
    more_gone n t (inl e) = inl e
    more_gone n t (inr l) = inr (omega (arith, l))

    goes : (t : ℕ) (r : GuidedRun) → (t ≡ next.thread.0 → ⊥) → Leaves (Gone t) r.trace
        → Leaves (Gone (suc t)) (with_walk r t (walk_alone (slice_index r.left t) gated p input t r.state)).trace
    unfolding Gone
    goes t r other h =
        let w = walk_alone (slice_index r.left t) gated p input t r.state in
        leaves_append (Gone t) (Gone (suc t)) r.trace w.trace (λ u g. (more_gone t u g, (alone gated p input t (slice_index r.left t) r.state).other u (not_own u g)))
        h (leaves_more (λ (u : ℕ). u ≡ t) (Gone (suc t)) w.trace own (walks_alone t (slice_index r.left t) r.state).leaves)
      where
        not_own : (u : ℕ) → Gone t u → u ≡ t → ⊥
        not_own u (inl e) q = other (sym q ∙ e)
        not_own u (inr l) q = omega (arith, l, q)

        own : (u : ℕ) → u ≡ t → Gone (suc t) u
        own u e = inr (omega (arith, e))

    one : (t : ℕ) (r : GuidedRun) (a b : Bool) → (t == next.thread.0) ≡ a → Leaves (Gone t) r.trace
        → Leaves (Gone (suc t)) (if not a && b then with_walk r t (walk_alone (slice_index r.left t) gated p input t r.state) else r).trace
    one t r true b e h = leaves_more (Gone t) (Gone (suc t)) r.trace (more_gone t) h
    one t r false false e h = leaves_more (Gone t) (Gone (suc t)) r.trace (more_gone t) h
    one t r false true e h = goes t r (λ q. true≢false (sym (same_as_itself next.thread.0) ∙ ap (λ (i : ℕ). i == next.thread.0) (sym q) ∙ e)) h

    all : (n : ℕ) → Leaves (Gone n) (with_others n gated p input next later r0).trace
    unfolding Gone with_others
    all zero = leaves_more (λ (t : ℕ). t ≡ next.thread.0) (Gone 0) r0.trace first h0
      where
        first : (t : ℕ) → t ≡ next.thread.0 → Gone 0 t
        first t e = inl e
    all (suc t) = one t (with_others t gated p input next later r0) (t == next.thread.0) (has_turn t later) refl (all t)

  behind_turns : (us : List Turn) (r : GuidedRun) → Leaves (IsNext us) r.trace → IsUnbroken (gone_on gated p input us r).trace
  unfolding IsNext
  behind_turns [] r h = unbroken_if (IsNext []) r.trace h
  behind_turns (u ∷ us) r h = unbroken_if (Gone u us r h THREAD_LIMIT) _ (all u us r h THREAD_LIMIT)

  by_end : (b : Bool) (us : List Turn) (r : GuidedRun) → Leaves (IsNext us) r.trace → IsUnbroken (if b then gone_on gated p input us r else r).trace
  by_end true us r h = behind_turns us r h
  by_end false us r h = unbroken_if (IsNext us) r.trace h

pub full_unbroken : (p : NumberedProgram) (input : List ℤ) (turns : List Turn) (gated : List InstrId) → IsUnbroken (full_guided_of p input turns gated).trace
unfolding full_guided_of guided_of
full_unbroken p input turns gated =
    let g = guides gated p input turns 0 (initial p) all_left in
    let r = guided gated p input turns 0 (initial p) all_left in
    let e : r.turns ≡ g.count = let q = g.turns in omega arith in
    by_end gated p input (stops_early r.end) (drop r.turns turns) r (subst (λ (n : ℕ). Leaves (IsNext gated p input (drop n turns)) r.trace) (sym e) g.leaves)

-- and so is the guided run
pub guided_unbroken : (p : NumberedProgram) (input : List ℤ) (turns : List Turn) (gated : List InstrId) → IsUnbroken (guided_of p input turns gated).trace
unfolding guided_of
guided_unbroken p input turns gated =
    let g = guides gated p input turns 0 (initial p) all_left in
    unbroken_if (IsNext gated p input (drop g.count turns)) (guided gated p input turns 0 (initial p) all_left).trace g.leaves
