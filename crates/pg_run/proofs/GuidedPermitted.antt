-- A guided run is permitted: no thread takes more than its steps, and each step's thread has a turn left.
use Rattle.std.proofs.Common.{◌≡◌, ℕ, ℤ, zero, suc, ◌+◌, ◌≤◌, List, [], ◌∷◌, ◌++◌, length, drop, take, replicate, Bool, true, false, Option, Some, None, Result}
use Rattle.std.proofs.Common.{Ok, Err, refl, sym, ap, ◌∙◌, subst, arith, append-nil}
use Rattle.std.specs.Prelude.{◌==◌, cond, IfSome, slice_get, slice_set, slice_index}
use Rattle.std.proofs.lemmas.List.Sums.{sum_by-append, sum_by-cons}
use Rattle.pg_run_trace.specs.pg_num.declared.limits.TheConstants.{GUIDED_STEP_LIMIT, THREAD_LIMIT}
use Rattle.pg_run_trace.specs.pg_ir.declared.ids.InstrId.{InstrId}
use Rattle.pg_run_trace.specs.pg_ir.Program.{NumberedProgram}
use Rattle.pg_run_trace.specs.declared.turn.Turn.{Turn}
use Rattle.pg_run_trace.specs.declared.step.Step.{Step}
use Rattle.pg_run.specs.declared.guided_end.GuidedEnd.{GuidedEnd}
use Rattle.pg_run.specs.State.{State, initial}
use Rattle.pg_run.specs.MachineStep.{Stepped, Did, Trapped, step}
use Rattle.pg_run.specs.Guided.{GuidedRun, Walk, all_left, due, ended_at, guided, guided_of, on_due, on_step, walk}
use Rattle.pg_run.specs.Runs.{event_of, events, steps_of}
use Rattle.pg_run.specs.Permitted.{IsPermitted, has_turn}
use Rattle.pg_run.proofs.GuidedRuns.{guided_is, same_as_itself, same_number, step_is, told, turn_if}

-- ---- counts

is_same : (a b : ℕ) → a ≡ b → (a == b) ≡ true
is_same a b e = subst (λ (c : ℕ). (a == c) ≡ true) e (same_as_itself a)

is_other : (a b : ℕ) → (a ≡ b → ⊥) → (a == b) ≡ false
is_other a b h = go (a == b) refl
  where
    go : (c : Bool) → (a == b) ≡ c → (a == b) ≡ false
    go true q = absurd (h (same_number a b q))
    go false q = q

one_of : ℕ → Step → ℕ
one_of t x = cond (x.thread.0 == t) 1 0

step_more : (t : ℕ) (x : Step) (xs : List Step) → x.thread.0 ≡ t → steps_of t (x ∷ xs) ≡ 1 + steps_of t xs
step_more t x xs e = sum_by-cons (λ (y : Step). cond (y.thread.0 == t) 1 0) x xs ∙ ap (λ (b : Bool). cond b 1 0 + steps_of t xs) (is_same x.thread.0 t e)

step_other : (t : ℕ) (x : Step) (xs : List Step) → (x.thread.0 ≡ t → ⊥) → steps_of t (x ∷ xs) ≡ 0 + steps_of t xs
step_other t x xs h = sum_by-cons (λ (y : Step). cond (y.thread.0 == t) 1 0) x xs ∙ ap (λ (b : Bool). cond b 1 0 + steps_of t xs) (is_other x.thread.0 t h)

steps_append : (t : ℕ) (xs ys : List Step) → steps_of t (xs ++ ys) ≡ steps_of t xs + steps_of t ys
steps_append t xs ys = sum_by-append (λ (y : Step). cond (y.thread.0 == t) 1 0) xs ys

-- ---- turns that are left

after_event : Option Turn → List Turn → List Turn
after_event None us = us
after_event (Some v) us = drop 1 us

-- before each of these steps its thread has one of the turns that are left
Owned : List Turn → List Step → Type 0
Owned us [] = Unit {0}
Owned us (x ∷ xs) = (has_turn x.thread.0 us ≡ true) × Owned (after_event (event_of x) us) xs

drop_none : (n : ℕ) → Path (List Turn) (drop n []) []
drop_none zero = refl
drop_none (suc n) = refl

behind_event : (v : Option Turn) (us : List Turn) (t : ℕ) (x : Step) (xs : List Step) → event_of x ≡ v → has_turn t (drop (length (events xs)) (after_event v us)) ≡ true
    → has_turn t (drop (length (events (x ∷ xs))) us) ≡ true
unfolding after_event
behind_event None us t x xs e h = rw e h
behind_event (Some v) [] t x xs e h = rw e (subst (λ (vs : List Turn). has_turn t vs ≡ true) (drop_none (length (events xs))) h)
behind_event (Some v) (u ∷ us) t x xs e h = rw e h

owner_at : (us : List Turn) (xs : List Step) (i : ℕ) → Owned us xs → IfSome (slice_get xs i) (λ (x : Step). has_turn x.thread.0 (drop (length (events (take i xs))) us) ≡ true)
unfolding Owned
owner_at us [] zero h = tt
owner_at us [] (suc i) h = tt
owner_at us (x ∷ xs) zero h = h.0
owner_at us (x ∷ xs) (suc i) h = go (slice_get xs i) (owner_at (after_event (event_of x) us) xs i h.1)
  where
    go : (o : Option Step) → IfSome o (λ (y : Step). has_turn y.thread.0 (drop (length (events (take i xs))) (after_event (event_of x) us)) ≡ true)
        → IfSome o (λ (y : Step). has_turn y.thread.0 (drop (length (events (x ∷ take i xs))) us) ≡ true)
    go None k = tt
    go (Some y) k = behind_event (event_of x) us y.thread.0 x (take i xs) refl k

-- ---- one walk

module _ (gated : List InstrId) (p : NumberedProgram) (input : List ℤ) (u : Turn) where
  thread_is : (s z : State) (x : Step) → step gated p input s u.thread.0 ≡ Did x z → x.thread.0 ≡ u.thread.0
  thread_is s z x e = let k = told gated p input u s z u.thread.0 x e in sym (ap (λ (y : Step). y.thread.0) k.1)

  -- what may come behind a walk
  May : Option GuidedEnd → List Turn → List Step → Type 0
  May None us ys = Owned us ys
  May (Some e) us ys = ys ≡ []

  record Counts (n : ℕ) (w : Walk) : Type 0 where
    own : (t : ℕ) → t ≡ u.thread.0 → steps_of t w.trace + w.left ≡ n
    other : (t : ℕ) → (t ≡ u.thread.0 → ⊥) → steps_of t w.trace ≡ 0
    owned : (us : List Turn) (ys : List Step) → May w.end us ys → Owned (u ∷ us) (w.trace ++ ys)

  owner_has : (us : List Turn) (t : ℕ) → t ≡ u.thread.0 → has_turn t (u ∷ us) ≡ true
  owner_has us t e = rw (is_same u.thread.0 t (sym e)) refl

  nothing : (s : State) (n : ℕ) (e : GuidedEnd) → Counts n (record { trace = []; state = s; left = n; end = Some e })
  unfolding May Owned
  nothing s n e = record { own = λ t h. omega arith; other = λ t h. refl; owned = λ us ys h. rw h tt }

  stepped : (n : ℕ) (s : State) (b : Bool) (o : Stepped) (more : State → Walk) → due gated p u s ≡ Ok b → step gated p input s u.thread.0 ≡ o → ((z : State) → Counts n (more z))
      → Counts (suc n) (on_step s n b o more)
  unfolding May Owned after_event turn_if
  stepped n s b (Trapped name id) more d e h = nothing s (suc n) _
  stepped n s true (Did x z) more d e h =
      let i = thread_is s z x e in
      let k = step_is gated p input u s z true x d e in
      record {
        own = λ t q. let c = step_more t x [] (i ∙ sym q) in omega (arith, c);
        other = λ t q. step_other t x [] (λ c. q (sym c ∙ i));
        owned = λ us ys q. (owner_has us x.thread.0 i, rw k.1 q);
      }
  stepped n s false (Did x z) more d e h =
      let i = thread_is s z x e in
      let k = step_is gated p input u s z false x d e in
      record {
        own = λ t q. let c = step_more t x (more z).trace (i ∙ sym q) in let r = (h z).own t q in omega (arith, c, r);
        other = λ t q. step_other t x (more z).trace (λ c. q (sym c ∙ i)) ∙ (let r = (h z).other t q in omega (arith, r));
        owned = λ us ys q. (owner_has us x.thread.0 i, rw k.1 ((h z).owned us ys q));
      }

  due_counts : (n : ℕ) (s : State) (d : Result Bool GuidedEnd) → due gated p u s ≡ d → ((z : State) → Counts n (walk n gated p input u z))
      → Counts (suc n) (on_due s n d (λ b. on_step s n b (step gated p input s u.thread.0) (λ t. walk n gated p input u t)))
  due_counts n s (Err end) e h = nothing s (suc n) end
  due_counts n s (Ok b) e h = stepped n s b (step gated p input s u.thread.0) (λ t. walk n gated p input u t) e refl h

  walk_counts : (n : ℕ) (s : State) → Counts n (walk n gated p input u s)
  unfolding walk
  walk_counts zero s = nothing s 0 _
  walk_counts (suc n) s = due_counts n s (due gated p u s) refl (walk_counts n)

-- ---- the run

set_own : (xs : List ℕ) (t v : ℕ) → slice_index (slice_set xs t v) t ≤ v
set_own [] zero v = omega arith
set_own [] (suc t) v = omega arith
set_own (x ∷ xs) zero v = omega arith
set_own (x ∷ xs) (suc t) v = set_own xs t v

set_other : (xs : List ℕ) (t i v : ℕ) → (i ≡ t → ⊥) → slice_index (slice_set xs t v) i ≡ slice_index xs i
set_other [] zero zero v h = refl
set_other [] zero (suc i) v h = refl
set_other [] (suc t) zero v h = refl
set_other [] (suc t) (suc i) v h = refl
set_other (x ∷ xs) zero zero v h = absurd (h refl)
set_other (x ∷ xs) zero (suc i) v h = refl
set_other (x ∷ xs) (suc t) zero v h = refl
set_other (x ∷ xs) (suc t) (suc i) v h = set_other xs t i v (λ e. h (ap suc e))

module _ (gated : List InstrId) (p : NumberedProgram) (input : List ℤ) where
  record Keeps (us : List Turn) (lefts : List ℕ) (r : GuidedRun) : Type 0 where
    counts : (t : ℕ) → steps_of t r.trace ≤ slice_index lefts t
    owned : Owned us r.trace

  by_owner : (u : Turn) (lefts : List ℕ) (w : Walk) (ys : List Step) (t : ℕ) (b : Bool) → (t == u.thread.0) ≡ b → Counts gated p input u (slice_index lefts u.thread.0) w
      → steps_of t ys ≤ slice_index (slice_set lefts u.thread.0 w.left) t → steps_of t w.trace + steps_of t ys ≤ slice_index lefts t
  by_owner u lefts w ys t true q c h =
      let e = same_number t u.thread.0 q in
      let k : steps_of t w.trace + w.left ≡ slice_index lefts t = c.own t e ∙ ap (slice_index lefts) (sym e) in
      let l : slice_index (slice_set lefts u.thread.0 w.left) t ≤ w.left =
      subst (λ (i : ℕ). slice_index (slice_set lefts u.thread.0 w.left) i ≤ w.left) (sym e) (set_own lefts u.thread.0 w.left) in
      omega (arith, k, l, h)
  by_owner u lefts w ys t false q c h =
      let n : (t ≡ u.thread.0 → ⊥) = λ e. absurd (let r = sym q ∙ is_same t u.thread.0 e in cc) in
      let k = c.other t n in
      let l = set_other lefts u.thread.0 t w.left n in
      omega (arith, k, l, h)

  ended_keeps : (u : Turn) (us : List Turn) (k : ℕ) (lefts : List ℕ) (w : Walk) (e : Option GuidedEnd) (more : State → List ℕ → GuidedRun) → w.end ≡ e
      → Counts gated p input u (slice_index lefts u.thread.0) w → ((z : State) (rest : List ℕ) → Keeps us rest (more z rest))
      → Keeps (u ∷ us) lefts (ended_at w (slice_set lefts u.thread.0 w.left) k e more)
  unfolding May
  ended_keeps u us k lefts w (Some e) more q c g = record {
    counts = λ t. let h = by_owner u lefts w [] t (t == u.thread.0) refl c (omega arith) in omega (arith, h);
    owned = subst (Owned (u ∷ us)) (append-nil w.trace) (c.owned us [] (subst (λ (o : Option GuidedEnd). May gated p input u o us []) (sym q) refl));
  }
  ended_keeps u us k lefts w None more q c g =
      let r = g w.state (slice_set lefts u.thread.0 w.left) in
      record {
        counts = λ t. let h = by_owner u lefts w (more w.state (slice_set lefts u.thread.0 w.left)).trace t (t == u.thread.0) refl c (r.counts t) in let a =
            steps_append t w.trace (more w.state (slice_set lefts u.thread.0 w.left)).trace in omega (arith, h, a);
        owned = c.owned us _ (subst (λ (o : Option GuidedEnd). May gated p input u o us (more w.state (slice_set lefts u.thread.0 w.left)).trace) (sym q) r.owned);
      }

  guided_keeps : (us : List Turn) (k : ℕ) (s : State) (lefts : List ℕ) → Keeps us lefts (guided gated p input us k s lefts)
  unfolding guided Owned
  guided_keeps [] k s lefts = record { counts = λ t. omega arith; owned = tt }
  guided_keeps (u ∷ us) k s lefts =
      let w = walk (slice_index lefts u.thread.0) gated p input u s in
      ended_keeps u us k lefts w w.end (λ t rest. guided gated p input us (k + 1) t rest) refl (walk_counts gated p input u (slice_index lefts u.thread.0) s)
      (λ z rest. guided_keeps us (k + 1) z rest)

within : (n v t : ℕ) → slice_index (replicate n v) t ≤ v
within zero v zero = omega arith
within zero v (suc t) = omega arith
within (suc n) v zero = omega arith
within (suc n) v (suc t) = within n v t

all_within : (t : ℕ) → slice_index all_left t ≤ GUIDED_STEP_LIMIT
unfolding all_left
all_within t = within THREAD_LIMIT GUIDED_STEP_LIMIT t

prefix : (n : ℕ) (us : List Turn) → take n us ++ drop (length (take n us)) us ≡ us
prefix zero us = refl
prefix (suc n) [] = refl
prefix (suc n) (u ∷ us) = ap (λ (vs : List Turn). u ∷ vs) (prefix n us)

pub guided_permitted : (p : NumberedProgram) (input : List ℤ) (us : List Turn) (gated : List InstrId)
    → IsPermitted p input us gated (guided_of p input us gated).trace (guided_of p input us gated).state
unfolding guided_of
guided_permitted p input us gated =
    let r = guided gated p input us 0 (initial p) all_left in
    let h = guided_is p input us gated in
    let k = guided_keeps gated p input us 0 (initial p) all_left in
    record {
      run = h.0;
      in_order = subst (λ (vs : List Turn). vs ++ drop (length vs) us ≡ us) (sym h.1) (prefix r.turns us);
      budget = λ t. omega (arith, k.counts t, all_within t);
      owners = λ i. owner_at us r.trace i k.owned;
    }
