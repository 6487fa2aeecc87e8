-- A permitted run is one whose steps may be taken one after another.
use Rattle.std.proofs.Common.{◌≡◌, ℕ, ℤ, zero, suc, ◌+◌, ◌<◌, ◌≤◌, List, [], ◌∷◌, ◌++◌, length, drop, take, Bool, true, false, Option, Some, None, refl}
use Rattle.std.proofs.Common.{sym, ◌∙◌, ap, subst, arith}
use Rattle.std.specs.Prelude.{◌==◌, ◌↔◌, cond, IfSome, slice_get, if◌then◌else◌}
use Rattle.std.proofs.lemmas.List.Sums.{sum_by-append, sum_by-cons}
use Rattle.std.proofs.lemmas.List.Elements.{filter_map-append}
use Rattle.pg_num.specs.declared.limits.TheConstants.{GUIDED_STEP_LIMIT}
use Rattle.pg_ir.specs.declared.ids.InstrId.{InstrId}
use Rattle.pg_ir.specs.Program.{NumberedProgram}
use Rattle.pg_run.specs.pg_run_trace.declared.turn.Turn.{Turn}
use Rattle.pg_run.specs.pg_run_trace.declared.step.Step.{Step}
use Rattle.pg_run.specs.State.{State, initial}
use Rattle.pg_run.specs.Runs.{IsRun, Takes, event_of, events, steps_of}
use Rattle.pg_run.specs.Permitted.{IsPermitted, has_turn, turns_left}
use Rattle.pg_run.proofs.GuidedRuns.{same_as_itself, same_number}
use Rattle.pg_law_effects.specs.PermittedSteps.{IsDue, MayTake, PermittedSteps, none_taken, one_more, turns_behind}

-- ---- counts

-- a step more, of the same thread or of another
counted : (b : Bool) (n k : ℕ) → (if b then suc n else n) + k ≡ n + (cond b 1 0 + k)
counted true n k = omega arith
counted false n k = omega arith

count_first : (t : ℕ) (x : Step) (xs : List Step) → steps_of t (x ∷ xs) ≡ cond (x.thread.0 == t) 1 0 + steps_of t xs
count_first t x xs = sum_by-cons (λ (y : Step). cond (y.thread.0 == t) 1 0) x xs

count_more : (t : ℕ) (counts : ℕ → ℕ) (x : Step) (xs : List Step) → one_more x.thread.0 counts t + steps_of t xs ≡ counts t + steps_of t (x ∷ xs)
count_more t counts x xs = counted (x.thread.0 == t) (counts t) (steps_of t xs) ∙ ap (λ (k : ℕ). counts t + k) (sym (count_first t x xs))

pub count_own : (x : Step) (xs : List Step) → steps_of x.thread.0 (x ∷ xs) ≡ 1 + steps_of x.thread.0 xs
count_own x xs = count_first x.thread.0 x xs ∙ ap (λ (b : Bool). cond b 1 0 + steps_of x.thread.0 xs) (same_as_itself x.thread.0)

pub steps_append : (t : ℕ) (xs ys : List Step) → steps_of t (xs ++ ys) ≡ steps_of t xs + steps_of t ys
steps_append t xs ys = sum_by-append (λ (y : Step). cond (y.thread.0 == t) 1 0) xs ys

-- ---- turns

drop_none : (n : ℕ) → Path (List Turn) (drop n []) []
drop_none zero = refl
drop_none (suc n) = refl

left_behind : (v : Option Turn) (us : List Turn) (x : Step) (xs : List Step) → event_of x ≡ v → drop (length (events xs)) (turns_behind v us) ≡ drop (length (events (x ∷ xs))) us
left_behind None us x xs e = rw e refl
left_behind (Some v) [] x xs e = rw e (drop_none (length (events xs)))
left_behind (Some v) (u ∷ us) x xs e = rw e refl

pub turns_more : (us : List Turn) (x : Step) (xs : List Step) → turns_left (turns_behind (event_of x) us) xs ≡ turns_left us (x ∷ xs)
turns_more us x xs = left_behind (event_of x) us x xs refl

head_or : Turn → List Turn → Turn
head_or d [] = d
head_or d (u ∷ us) = u

tail_of : List Turn → List Turn
tail_of [] = []
tail_of (u ∷ us) = us

-- the events of a step and of those behind it are the first of the turns
pub first_due : (v : Option Turn) (us : List Turn) (x : Step) (xs : List Step) → event_of x ≡ v → events (x ∷ xs) ++ turns_left us (x ∷ xs) ≡ us
    → IsDue v us × (events xs ++ turns_left (turns_behind v us) xs ≡ turns_behind v us)
unfolding head_or tail_of
first_due None us x xs e h = (tt, rw e at h)
first_due (Some v) [] x xs e h = let k : Path (List Turn) (v ∷ (events xs ++ [])) [] = rw e at h in absurd cc
first_due (Some v) (u ∷ us) x xs e h =
    let k : v ∷ (events xs ++ drop (length (events xs)) us) ≡ u ∷ us = rw e at h in
    (ap (head_or v) k, ap tail_of k)

due_first : (v : Option Turn) (us : List Turn) (x : Step) (xs : List Step) → event_of x ≡ v → IsDue v us → events xs ++ turns_left (turns_behind v us) xs ≡ turns_behind v us
    → events (x ∷ xs) ++ turns_left us (x ∷ xs) ≡ us
due_first None us x xs e d h = rw e h
due_first (Some v) [] x xs e d h = absurd d
due_first (Some v) (u ∷ us) x xs e d h = rw e (ap (λ (ws : List Turn). v ∷ ws) h ∙ ap (λ (w : Turn). w ∷ us) d)

-- ---- from any state on

module _ (gated : List InstrId) (p : NumberedProgram) (input : List ℤ) where
  -- what a permitted run is, from a state on where these turns are left and each thread has taken so many steps
  pub record PermittedFrom (s : State) (us : List Turn) (counts : ℕ → ℕ) (xs : List Step) (z : State) : Type 0 where
    pub run : IsRun gated p input s xs z
    pub in_order : events xs ++ turns_left us xs ≡ us
    pub budget : (t : ℕ) → counts t + steps_of t xs ≤ GUIDED_STEP_LIMIT
    pub owners : (i : ℕ) → IfSome (slice_get xs i) (λ (x : Step). has_turn x.thread.0 (turns_left us (take i xs)) ≡ true)

  first_fits : (counts : ℕ → ℕ) (x : Step) → ((t : ℕ) → counts t ≤ GUIDED_STEP_LIMIT) → counts x.thread.0 < GUIDED_STEP_LIMIT → (t : ℕ)
      → one_more x.thread.0 counts t ≤ GUIDED_STEP_LIMIT
  first_fits counts x h k t = go (x.thread.0 == t) refl
    where
      go : (b : Bool) → (x.thread.0 == t) ≡ b → one_more x.thread.0 counts t ≤ GUIDED_STEP_LIMIT
      go false e = rw e (h t)
      go true e =
          let same : x.thread.0 ≡ t = same_number x.thread.0 t e in
          let l : counts t < GUIDED_STEP_LIMIT = subst (λ (u : ℕ). counts u < GUIDED_STEP_LIMIT) same k in
          rw e (omega (arith, l))

  owners_more : (us : List Turn) (x : Step) (xs : List Step) → has_turn x.thread.0 us ≡ true
      → ((i : ℕ) → IfSome (slice_get xs i) (λ (y : Step). has_turn y.thread.0 (turns_left (turns_behind (event_of x) us) (take i xs)) ≡ true)) → (i : ℕ)
      → IfSome (slice_get (x ∷ xs) i) (λ (y : Step). has_turn y.thread.0 (turns_left us (take i (x ∷ xs))) ≡ true)
  owners_more us x xs h k zero = h
  owners_more us x xs h k (suc i) = subst (λ (ws : List Turn). IfSome (slice_get xs i) (λ (y : Step). has_turn y.thread.0 ws ≡ true)) (turns_more us x (take i xs)) (k i)

  owners_less : (us : List Turn) (x : Step) (xs : List Step) → ((i : ℕ) → IfSome (slice_get (x ∷ xs) i) (λ (y : Step). has_turn y.thread.0 (turns_left us (take i (x ∷ xs))) ≡ true))
      → (i : ℕ) → IfSome (slice_get xs i) (λ (y : Step). has_turn y.thread.0 (turns_left (turns_behind (event_of x) us) (take i xs)) ≡ true)
  owners_less us x xs k i = subst (λ (ws : List Turn). IfSome (slice_get xs i) (λ (y : Step). has_turn y.thread.0 ws ≡ true)) (sym (turns_more us x (take i xs))) (k (suc i))

  pub from_steps : (s z : State) (us : List Turn) (counts : ℕ → ℕ) (xs : List Step) → ((t : ℕ) → counts t ≤ GUIDED_STEP_LIMIT) → PermittedSteps gated p input s us counts xs z
      → PermittedFrom s us counts xs z
  from_steps s z us counts [] b h = record { run = h; in_order = refl; budget = λ t. let k = b t in omega (arith, k); owners = λ i. tt }
  from_steps s z us counts (x ∷ xs) b h =
      let r = from_steps h.0.takes.after z (turns_behind (event_of x) us) (one_more x.thread.0 counts) xs (first_fits counts x b h.0.budget) h.1 in
      record {
        run = (h.0.takes, r.run);
        in_order = due_first (event_of x) us x xs refl h.0.due r.in_order;
        budget = λ t. subst (λ (n : ℕ). n ≤ GUIDED_STEP_LIMIT) (count_more t counts x xs) (r.budget t);
        owners = owners_more us x xs h.0.owner r.owners;
      }

  pub to_steps : (s z : State) (us : List Turn) (counts : ℕ → ℕ) (xs : List Step) → PermittedFrom s us counts xs z → PermittedSteps gated p input s us counts xs z
  to_steps s z us counts [] h = h.run
  to_steps s z us counts (x ∷ xs) h =
      let d = first_due (event_of x) us x xs refl h.in_order in
      let m : MayTake gated p input s us counts x = record {
        takes = h.run.0;
        owner = h.owners 0;
        budget = let k = h.budget x.thread.0 in let c = count_own x xs in omega (arith, k, c);
        due = d.0;
      } in (
        m,
        to_steps h.run.0.after z (turns_behind (event_of x) us) (one_more x.thread.0 counts) xs (record {
          run = h.run.1;
          in_order = d.1;
          budget = λ t. subst (λ (n : ℕ). n ≤ GUIDED_STEP_LIMIT) (sym (count_more t counts x xs)) (h.budget t);
          owners = owners_less us x xs h.owners;
        }),
      )

-- ---- permitted runs

pub permitted_is : (p : NumberedProgram) (input : List ℤ) (turns : List Turn) (gated : List InstrId) (xs : List Step) (s : State) → IsPermitted p input turns gated xs s
    ↔ PermittedSteps gated p input (initial p) turns none_taken xs s
permitted_is p input turns gated xs s = (
  λ h. to_steps gated p input (initial p) s turns none_taken xs (record { run = h.run; in_order = h.in_order; budget = λ t. let k = h.budget t in omega (arith, k); owners = h.owners }),
  λ h. let r = from_steps gated p input (initial p) s turns none_taken xs (λ t. omega arith) h in
      record { run = r.run; in_order = r.in_order; budget = λ t. let k = r.budget t in omega (arith, k); owners = r.owners },
)

-- ---- one list of steps behind another

turns_after : List Turn → List Step → List Turn
turns_after us [] = us
turns_after us (x ∷ xs) = turns_after (turns_behind (event_of x) us) xs

counts_after : (ℕ → ℕ) → List Step → ℕ → ℕ
counts_after counts [] = counts
counts_after counts (x ∷ xs) = counts_after (one_more x.thread.0 counts) xs

turns_after_is : (us : List Turn) (xs : List Step) → turns_after us xs ≡ turns_left us xs
unfolding turns_after
turns_after_is us [] = refl
turns_after_is us (x ∷ xs) = turns_after_is (turns_behind (event_of x) us) xs ∙ turns_more us x xs

counts_after_is : (counts : ℕ → ℕ) (xs : List Step) (t : ℕ) → counts_after counts xs t ≡ counts t + steps_of t xs
unfolding counts_after
counts_after_is counts [] t = omega arith
counts_after_is counts (x ∷ xs) t = counts_after_is (one_more x.thread.0 counts) xs t ∙ count_more t counts x xs

more_same : (t : ℕ) (m n : ℕ → ℕ) → ((u : ℕ) → m u ≡ n u) → (u : ℕ) → one_more t m u ≡ one_more t n u
more_same t m n h u = ap (λ (k : ℕ). if t == u then suc k else k) (h u)

module _ (gated : List InstrId) (p : NumberedProgram) (input : List ℤ) where
  counts_same : (s z : State) (us : List Turn) (m n : ℕ → ℕ) (xs : List Step) → ((t : ℕ) → m t ≡ n t) → PermittedSteps gated p input s us m xs z
      → PermittedSteps gated p input s us n xs z
  counts_same s z us m n [] e h = h
  counts_same s z us m n (x ∷ xs) e h = (
    record { takes = h.0.takes; owner = h.0.owner; budget = subst (λ (k : ℕ). k < GUIDED_STEP_LIMIT) (e x.thread.0) h.0.budget; due = h.0.due },
    counts_same h.0.takes.after z (turns_behind (event_of x) us) (one_more x.thread.0 m) (one_more x.thread.0 n) xs (more_same x.thread.0 m n e) h.1,
  )

  splits : (s z : State) (us : List Turn) (counts : ℕ → ℕ) (xs ys : List Step) → PermittedSteps gated p input s us counts (xs ++ ys) z
      → (v : State) × PermittedSteps gated p input s us counts xs v × PermittedSteps gated p input v (turns_after us xs) (counts_after counts xs) ys z
  unfolding turns_after counts_after
  splits s z us counts [] ys h = (s, refl, h)
  splits s z us counts (x ∷ xs) ys h = let k = splits h.0.takes.after z (turns_behind (event_of x) us) (one_more x.thread.0 counts) xs ys h.1 in (k.0, (h.0, k.1), k.2)

  joins : (s v z : State) (us : List Turn) (counts : ℕ → ℕ) (xs ys : List Step) → PermittedSteps gated p input s us counts xs v
      → PermittedSteps gated p input v (turns_after us xs) (counts_after counts xs) ys z → PermittedSteps gated p input s us counts (xs ++ ys) z
  unfolding turns_after counts_after
  joins s v z us counts [] ys h k = subst (λ (w : State). PermittedSteps gated p input w us counts ys z) (sym h) k
  joins s v z us counts (x ∷ xs) ys h k = (h.0, joins h.0.takes.after v z (turns_behind (event_of x) us) (one_more x.thread.0 counts) xs ys h.1 k)

  pub steps_join : (s z : State) (us : List Turn) (counts : ℕ → ℕ) (xs ys : List Step) → PermittedSteps gated p input s us counts (xs ++ ys) z
      ↔ ((v : State) × PermittedSteps gated p input s us counts xs v × PermittedSteps gated p input v (turns_left us xs) (λ t. counts t + steps_of t xs) ys z)
  steps_join s z us counts xs ys = (
    λ h. let k = splits s z us counts xs ys h in (
      k.0,
      k.1,
      counts_same k.0 z (turns_left us xs) (counts_after counts xs) _ ys (counts_after_is counts xs)
          (subst (λ (ws : List Turn). PermittedSteps gated p input k.0 ws (counts_after counts xs) ys z) (turns_after_is us xs) k.2),
    ),
    λ h. joins s h.0 z us counts xs ys h.1 (subst (λ (ws : List Turn). PermittedSteps gated p input h.0 ws (counts_after counts xs) ys z) (sym (turns_after_is us xs))
        (counts_same h.0 z (turns_left us xs) _ (counts_after counts xs) ys (λ t. sym (counts_after_is counts xs t)) h.2)),
  )

-- one step more
pub permitted_more : (p : NumberedProgram) (input : List ℤ) (turns : List Turn) (gated : List InstrId) (xs : List Step) (x : Step) (z : State)
    → IsPermitted p input turns gated (xs ++ x ∷ []) z
    ↔ ((s : State) × IsPermitted p input turns gated xs s × ((m : MayTake gated p input s (turns_left turns xs) (λ t. steps_of t xs) x) × (m.takes.after ≡ z)))
permitted_more p input turns gated xs x z =
    let both = permitted_is p input turns gated (xs ++ x ∷ []) z in
    let parts = steps_join gated p input (initial p) z turns none_taken xs (x ∷ []) in (
      λ h. let k = parts.0 (both.0 h) in (
        k.0,
        (permitted_is p input turns gated xs k.0).1 k.1,
        counts_same gated p input k.0 z (turns_left turns xs) _ (λ t. steps_of t xs) (x ∷ []) (λ t. omega arith) k.2,
      ),
      λ h. both.1 (parts.1 (h.0, (permitted_is p input turns gated xs h.0).0 h.1, counts_same gated p input h.0 z (turns_left turns xs) (λ t. steps_of t xs) _ (x ∷ []) (λ t. omega arith) h.2)),
    )
