-- The units of each thread are numbered in order: by its number a unit is known among its thread's, and so is which are before it.
use Rattle.std.specs.List.{AllByRecursion as AllOf}
use Rattle.std.specs.Prelude.{if◌then◌else◌}
use Rattle.std.proofs.Common.{◌++◌, ◌+◌, ◌<◌, ◌==◌, ◌∙◌, ◌∷◌, ◌≡◌, ◌≤◌, ◌⊎◌, Bool, List, [], ap, arith, cond, false, inl, inr, length, refl}
use Rattle.std.proofs.Common.{subst, suc, sym, true, ℕ}
use Rattle.std.proofs.lemmas.Bool.{cases_eq, eq-eqb, eqb-true, ne_eqb}
use Rattle.pg_law_threads.proofs.DoneLists.{cons_head, cons_tail}
use Rattle.pg_run.specs.State.{State, initial}
use Rattle.pg_slice_rules.specs.Known.{Taken}
use Rattle.pg_law_effects.specs.PermittedSteps.{none_taken, one_more}
use Rattle.pg_law_plan.specs.pg_law_runs.Cuts.{IsFrontOf}
use Rattle.pg_law_plan.specs.Lists.{Has}
use Rattle.pg_law_plan.specs.Units.{Met, PlanUnit, ReferenceRun, last_from, met_in, unit_of, units_from, units_of}
use Rattle.pg_law_plan.proofs.KnownBeforeUnits.{no_if, yes_if}
use Rattle.pg_law_admitted.specs.Invariant.{owner, units_by}

-- each unit has the number of its thread's units before it, where each thread has so many before these
abbrev pub NumberedFrom : (ℕ → ℕ) → List PlanUnit → Type 0
NumberedFrom c [] = Unit {0}
NumberedFrom c (u ∷ us) = (u.units ≡ c (owner u)) × NumberedFrom (one_more (owner u) c) us

-- how many each thread has behind these
abbrev pub counts_after : (ℕ → ℕ) → List PlanUnit → ℕ → ℕ
counts_after c [] = c
counts_after c (u ∷ us) = counts_after (one_more (owner u) c) us

pub one_more_same : (t v : ℕ) (c : ℕ → ℕ) → t ≡ v → one_more t c v ≡ suc (c v)
one_more_same t v c e = yes_if (t == v) (suc (c v)) (c v) (eq-eqb t v e)

pub one_more_other : (t v : ℕ) (c : ℕ → ℕ) → (t ≡ v → ⊥) → one_more t c v ≡ c v
one_more_other t v c ne = no_if (t == v) (suc (c v)) (c v) (ne_eqb t v ne)

pub one_more_least : (t v : ℕ) (c : ℕ → ℕ) → c v ≤ one_more t c v
one_more_least t v c = go (cases_eq t v)
  where
    go : (t ≡ v) ⊎ (t ≡ v → ⊥) → c v ≤ one_more t c v
    go (inl e) = let k = one_more_same t v c e in omega (arith, k)
    go (inr ne) = let k = one_more_other t v c ne in omega (arith, k)

pub counts_grow : (c : ℕ → ℕ) (us : List PlanUnit) (t : ℕ) → c t ≤ counts_after c us t
counts_grow c [] t = omega arith
counts_grow c (u ∷ us) t = let a = one_more_least (owner u) t c in let b = counts_grow (one_more (owner u) c) us t in omega (arith, a, b)

-- the numbers of the members are those between
pub has_between : (c : ℕ → ℕ) (us : List PlanUnit) (w : PlanUnit) → NumberedFrom c us → Has us w → (c (owner w) ≤ w.units) × (w.units < counts_after c us (owner w))
has_between c [] w n h = absurd h
has_between c (u ∷ us) w n (inl e) = subst (λ (v : PlanUnit). (c (owner v) ≤ v.units) × (v.units < counts_after c (u ∷ us) (owner v))) e (
  (let k = n.0 in omega (arith, k)),
  (let k = n.0 in let a = one_more_same (owner u) (owner u) c refl in let b = counts_grow (one_more (owner u) c) us (owner u) in omega (arith, k, a, b)),
)
has_between c (u ∷ us) w n (inr h) =
    let k = has_between (one_more (owner u) c) us w n.1 h in
    let a = one_more_least (owner u) (owner w) c in ((let b = k.0 in omega (arith, a, b)), k.1)

pub one_numbered : (c : ℕ → ℕ) (us : List PlanUnit) (u v : PlanUnit) → NumberedFrom c us → Has us u → Has us v → owner u ≡ owner v → u.units ≡ v.units → u ≡ v
one_numbered c [] u v n a b e k = absurd a
one_numbered c (x ∷ us) u v n (inl p) (inl q) e k = sym p ∙ q
one_numbered c (x ∷ us) u v n (inl p) (inr b) e k = absurd (twice x v (ap owner p ∙ e) (n.0) (ap (λ (w : PlanUnit). w.units) p ∙ k) (has_between (one_more (owner x) c) us v n.1 b).0)
  where
    twice : (x v : PlanUnit) → owner x ≡ owner v → x.units ≡ c (owner x) → x.units ≡ v.units → one_more (owner x) c (owner v) ≤ v.units → ⊥
    twice x v e m k le = let a = one_more_same (owner x) (owner v) c e in let b = ap c e in omega (arith, a, b, m, k, le)
one_numbered c (x ∷ us) u v n (inr a) (inl q) e k = absurd (twice x u (ap owner q ∙ sym e) (n.0) (ap (λ (w : PlanUnit). w.units) q ∙ sym k) (has_between (one_more (owner x) c) us u n.1 a).0)
  where
    twice : (x v : PlanUnit) → owner x ≡ owner v → x.units ≡ c (owner x) → x.units ≡ v.units → one_more (owner x) c (owner v) ≤ v.units → ⊥
    twice x v e m k le = let a = one_more_same (owner x) (owner v) c e in let b = ap c e in omega (arith, a, b, m, k, le)
one_numbered c (x ∷ us) u v n (inr a) (inr b) e k = one_numbered (one_more (owner x) c) us u v n.1 a b e k

-- a unit stands at one place
pub one_place : (c : ℕ → ℕ) (us zs : List PlanUnit) (u : PlanUnit) (vs ws : List PlanUnit) → NumberedFrom c (us ++ u ∷ vs) → us ++ u ∷ vs ≡ zs ++ u ∷ ws → us ≡ zs
one_place c [] [] u vs ws n e = refl
one_place c [] (z ∷ zs) u vs ws n e = absurd (again (subst (λ (l : List PlanUnit). Has l u) (sym (cons_tail e)) (middle zs)))
  where
    middle : (zs : List PlanUnit) → Has (zs ++ u ∷ ws) u
    middle [] = inl refl
    middle (z ∷ zs) = inr (middle zs)

    again : Has vs u → ⊥
    again h = let k = (has_between (one_more (owner u) c) vs u n.1 h).0 in let a = one_more_same (owner u) (owner u) c refl in let b = n.0 in omega (arith, k, a, b)
one_place c (x ∷ us) [] u vs ws n e = absurd (again (subst (λ (v : PlanUnit). Has (us ++ u ∷ vs) v) (sym (cons_head e)) (middle us)))
  where
    middle : (us : List PlanUnit) → Has (us ++ u ∷ vs) u
    middle [] = inl refl
    middle (z ∷ us) = inr (middle us)

    again : Has (us ++ u ∷ vs) x → ⊥
    again h = let k = (has_between (one_more (owner x) c) (us ++ u ∷ vs) x n.1 h).0 in let a = one_more_same (owner x) (owner x) c refl in let b = n.0 in omega (arith, k, a, b)
one_place c (x ∷ us) (z ∷ zs) u vs ws n e = ap (λ (y : PlanUnit). y ∷ us) (cons_head e)
    ∙ ap (λ (l : List PlanUnit). z ∷ l) (one_place (one_more (owner x) c) us zs u vs ws n.1 (cons_tail e))

-- ---- the units of one thread

same_turned : (a b : ℕ) → (a == b) ≡ (b == a)
same_turned a b = by (cases_eq a b)
  where
    by : (a ≡ b) ⊎ (a ≡ b → ⊥) → (a == b) ≡ (b == a)
    by (inl q) = eq-eqb a b q ∙ sym (eq-eqb b a (sym q))
    by (inr q) = ne_eqb a b q ∙ sym (ne_eqb b a (λ w. q (sym w)))

-- how many of them there are
pub counts_are : (t : ℕ) (c : ℕ → ℕ) (us : List PlanUnit) → counts_after c us t ≡ c t + length (units_by t us)
counts_are t c [] = omega arith
counts_are t c (u ∷ us) = go (t == owner u) refl (counts_are t (one_more (owner u) c) us)
  where
    go : (b : Bool) → (t == owner u) ≡ b → counts_after (one_more (owner u) c) us t ≡ one_more (owner u) c t + length (units_by t us)
        → counts_after (one_more (owner u) c) us t ≡ c t + length (cond b (u ∷ units_by t us) (units_by t us))
    go true e k = let s = one_more_same (owner u) t c (sym (eqb-true t (owner u) e)) in omega (arith, k, s)
    go false e k = let s : one_more (owner u) c t ≡ c t = no_if (owner u == t) (suc (c t)) (c t) (same_turned (owner u) t ∙ e) in omega (arith, k, s)

abbrev pub Consecutive : ℕ → List PlanUnit → Type 0
Consecutive k [] = Unit {0}
Consecutive k (u ∷ us) = (u.units ≡ k) × Consecutive (suc k) us

pub by_thread : (t : ℕ) (c : ℕ → ℕ) (us : List PlanUnit) → NumberedFrom c us → Consecutive (c t) (units_by t us)
by_thread t c [] n = tt
by_thread t c (u ∷ us) n = go (t == owner u) refl (by_thread t (one_more (owner u) c) us n.1)
  where
    go : (b : Bool) → (t == owner u) ≡ b → Consecutive (one_more (owner u) c t) (units_by t us) → Consecutive (c t) (cond b (u ∷ units_by t us) (units_by t us))
    go true e k = let s = sym (eqb-true t (owner u) e) in (n.0 ∙ ap c s, subst (λ (i : ℕ). Consecutive i (units_by t us)) (one_more_same (owner u) t c s) k)
    go false e k = subst (λ (i : ℕ). Consecutive i (units_by t us)) (ap (λ (b : Bool). if b then suc (c t) else c t) (same_turned (owner u) t ∙ e)) k

pub all_by : (P : PlanUnit → Type 0) (t : ℕ) (us : List PlanUnit) → AllOf P us → AllOf (λ (u : PlanUnit). P u × (owner u ≡ t)) (units_by t us)
all_by P t [] h = tt
all_by P t (u ∷ us) h = go (t == owner u) refl (all_by P t us h.1)
  where
    go : (b : Bool) → (t == owner u) ≡ b → AllOf (λ (u : PlanUnit). P u × (owner u ≡ t)) (units_by t us)
        → AllOf (λ (u : PlanUnit). P u × (owner u ≡ t)) (cond b (u ∷ units_by t us) (units_by t us))
    go true e k = ((h.0, sym (eqb-true t (owner u) e)), k)
    go false e k = k

pub has_by : (t : ℕ) (us : List PlanUnit) (w : PlanUnit) → Has us w → owner w ≡ t → Has (units_by t us) w
has_by t [] w h e = absurd h
has_by t (u ∷ us) w h e = go (t == owner u) refl h (λ k. has_by t us w k e)
  where
    go : (b : Bool) → (t == owner u) ≡ b → (u ≡ w) ⊎ Has us w → (Has us w → Has (units_by t us) w) → Has (cond b (u ∷ units_by t us) (units_by t us)) w
    go true q (inl k) more = inl k
    go true q (inr k) more = inr (more k)
    go false q (inl k) more = absurd (Rattle.std.proofs.lemmas.Bool.true≢false (sym (eq-eqb t (owner u) (sym e ∙ ap owner (sym k))) ∙ q))
    go false q (inr k) more = more k

module _ (r : ReferenceRun) (d : Taken) where
  numbered_from : (last : State) (counts : ℕ → ℕ) (ms : List Met) → NumberedFrom counts (units_from r d last counts ms)
  unfolding units_from
  numbered_from last counts [] = tt
  numbered_from last counts (m ∷ ms) = go m.seen.live (λ counts. numbered_from last counts ms)
    where
      go : (b : Bool) → ((counts : ℕ → ℕ) → NumberedFrom counts (units_from r d last counts ms)) →
          NumberedFrom counts (if b then unit_of r d last counts m ms ∷ units_from r d last (one_more (owner (unit_of r d last counts m ms)) counts) ms else units_from r d last counts ms)
      go true more = (refl, more (one_more (owner (unit_of r d last counts m ms)) counts))
      go false more = more counts

  pub units_numbered : NumberedFrom none_taken (units_of r d)
  units_numbered = numbered_from (last_from r (initial r.program) r.steps) none_taken (met_in r d)

  pub one_unit : (u v : PlanUnit) → Has (units_of r d) u → Has (units_of r d) v → owner u ≡ owner v → u.units ≡ v.units → u ≡ v
  one_unit u v a b e k = one_numbered none_taken (units_of r d) u v units_numbered a b e k

  -- of numbered units of the run those with lower numbers are members
  pub found : (c : ℕ → ℕ) (us : List PlanUnit) (w : PlanUnit) → NumberedFrom c us → AllOf (Has (units_of r d)) us → Has (units_of r d) w → c (owner w) ≤ w.units
      → w.units < counts_after c us (owner w) → Has us w
  found c [] w n a h le lt = absurd (omega (arith, le, lt))
  found c (u ∷ us) w n a h le lt = go (cases_eq (owner u) (owner w)) (cases_eq w.units (c (owner w))) (λ k. found (one_more (owner u) c) us w n.1 a.1 h k lt)
    where
      go : (owner u ≡ owner w) ⊎ (owner u ≡ owner w → ⊥) → (w.units ≡ c (owner w)) ⊎ (w.units ≡ c (owner w) → ⊥)
          → (one_more (owner u) c (owner w) ≤ w.units → Has us w) → Has (u ∷ us) w
      go (inl e) (inl k) more = inl (one_unit u w a.0 h e (n.0 ∙ ap c e ∙ sym k))
      go (inl e) (inr k) more = inr (more (let s = one_more_same (owner u) (owner w) c e in higher s))
        where
          higher : one_more (owner u) c (owner w) ≡ suc (c (owner w)) → one_more (owner u) c (owner w) ≤ w.units
          higher s = by (Rattle.std.proofs.lemmas.Bool.cases_lt (c (owner w)) w.units)
            where
              by : (c (owner w) < w.units) ⊎ (w.units ≤ c (owner w)) → one_more (owner u) c (owner w) ≤ w.units
              by (inl l) = omega (arith, l, s)
              by (inr g) = absurd (k (let q = le in omega (arith, q, g)))
      go (inr ne) k more = inr (more (let s = one_more_other (owner u) (owner w) c ne in omega (arith, s, le)))

  -- ---- the first units of a thread

  first_of : (t k : ℕ) (xs ys : List PlanUnit) → Consecutive k xs → Consecutive k ys → AllOf (λ (u : PlanUnit). Has (units_of r d) u × (owner u ≡ t)) xs
      → AllOf (λ (u : PlanUnit). Has (units_of r d) u × (owner u ≡ t)) ys →
      ((w : PlanUnit) → Has (units_of r d) w → owner w ≡ t → k ≤ w.units → Has ys w) → IsFrontOf xs ys
  first_of t k [] ys n m h g f = (ys, refl)
  first_of t k (a ∷ xs) [] n m h g f = absurd (f a h.0.0 h.0.1 (let e = n.0 in omega (arith, e)))
  first_of t k (a ∷ xs) (b ∷ ys) n m h g f =
      let same : a ≡ b = one_unit a b h.0.0 g.0.0 (h.0.1 ∙ sym g.0.1) (n.0 ∙ sym m.0) in
      let more = first_of t (suc k) xs ys n.1 m.1 h.1 g.1 (λ w x y le. behind w le (f w x y (omega (arith, le)))) in
      (more.0, ap (λ (l : List PlanUnit). a ∷ l) more.1 ∙ ap (λ (u : PlanUnit). u ∷ ys) same)
    where
      behind : (w : PlanUnit) → suc k ≤ w.units → (b ≡ w) ⊎ Has ys w → Has ys w
      behind w le (inl e) = let x = ap (λ (u : PlanUnit). u.units) e in let y = m.0 in absurd (omega (arith, le, x, y))
      behind w le (inr q) = q

  has_self : (us : List PlanUnit) → AllOf (Has us) us
  has_self us = Rattle.pg_law_plan.proofs.ListMembers.has_all us

  -- units of thread t, numbered from 0 on, are its first
  pub are_first : (t : ℕ) (xs : List PlanUnit) → Consecutive 0 xs → AllOf (λ (u : PlanUnit). Has (units_of r d) u × (owner u ≡ t)) xs → IsFrontOf xs (units_by t (units_of r d))
  are_first t xs n h = first_of t 0 xs (units_by t (units_of r d)) n (by_thread t none_taken (units_of r d) units_numbered) h
      (all_by (Has (units_of r d)) t (units_of r d) (has_self (units_of r d))) (λ w x y le. has_by t (units_of r d) w x y)
