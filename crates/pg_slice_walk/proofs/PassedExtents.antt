-- What has to be known behind a step and passes an extent in which it stands has to be known behind the extent's branch step.
use Rattle.std.proofs.Common.{◌≡◌, ℕ, zero, suc, ◌+◌, ◌<◌, ◌≤◌, ◌==◌, Bool, true, false, List, [], ◌∷◌, length, Option, Some, None, refl, sym, ap, ◌∙◌}
use Rattle.std.proofs.Common.{subst, inl, inr, ◌⊎◌, arith, eqb-true, eq-eqb}
use Rattle.std.specs.Prelude.{Contains, ◌&&◌, ◌||◌, nat_le, nat_lt, not, slice_get, if◌then◌else◌}
use Rattle.std.specs.List.{AllByRecursion}
use Rattle.std.proofs.lemmas.Bool.{true≢false, cases_lt, le-leb, lt-ltb}
use Rattle.pg_slice_rules.specs.Moments.{Moment, thread_in}
use Rattle.pg_slice_rules.specs.Extents.{Extent}
use Rattle.pg_slice_rules.specs.Freeable.{FreeRegion}
use Rattle.pg_slice_rules.specs.Known.{Reference, SymbolicState, Seen, Taken, after_step, start_of, thread_of}
use Rattle.pg_slice_back.specs.pg_law_least.Keeps.{ExtentsKeep, every}
use Rattle.pg_slice_back.proofs.of_pg_law_least.LikeValues.{Likes}
use Rattle.pg_region_paths.proofs.Elements.{cases as cases_in, none_in}
use Rattle.pg_slice_back.specs.pg_law_demands.Along.{known_at}
use Rattle.pg_slice_back.specs.pg_law_demands.Back.{byte_demand, register_demand, word_demand}
use Rattle.pg_slice_back.specs.pg_law_demands.Cells.{Byte, Demand, IsMet, Register}
use Rattle.pg_slice_back.specs.pg_law_demands.Passed.{first_free, or_first, passes_cell, passing, passing_by, region_at_step}
use Rattle.pg_slice_back.proofs.of_pg_law_demands.PassedByExtents.{first_in}
use Rattle.pg_slice_back.proofs.of_pg_law_demands.StepsInExtents.{passing_met}
use Rattle.pg_slice_demands.specs.declared.demanded.Demanded.{Demanded}
use Rattle.pg_slice_demands.specs.Asked.{asked_of, asks_byte}
use Rattle.pg_slice_back.specs.Met.{AreMet}
use Rattle.pg_slice_walk.specs.Sets.{Passes}
use Rattle.pg_slice_back.proofs.of_pg_law_demands.StepBack.{of_every}
use Rattle.pg_slice_back.proofs.KnownBefore.{At, at_step, next_step, the_link}
use Rattle.pg_slice_walk.proofs.OpenExtents.{in_run}
use Rattle.pg_slice_walk.proofs.StepsInExtents.{Begins, inside, opened}
use Rattle.pg_slice_walk.proofs.StepMoments.{get_there}

some_is : {A : Type 0} (x y : A) → Some x ≡ Some y → x ≡ y
some_is x y q = cc

-- ---- the oldest extent that isn't pinned, where only those of one branch step aren't

module _ (b : ℕ) where
  abbrev others : ℕ → Bool
  others j = not (j == b)

  this_one : (j : ℕ) → not (j == b) ≡ false → j ≡ b
  this_one j q = go (j == b) refl
    where
      go : (c : Bool) → (j == b) ≡ c → j ≡ b
      go true f = eqb-true j b f
      go false f = absurd (true≢false (sym (ap not f) ∙ q))

  free_is : (es : List Extent) (z : Extent) → first_free others es ≡ Some z → z.step ≡ b
  free_is [] z h = let y : None ≡ Some z = h in absurd (cc)
  free_is (x ∷ es) z h = go (first_free others es) refl (not (x.step == b)) refl (λ q. free_is es z q) h
    where
      go : (o : Option Extent) → first_free others es ≡ o → (c : Bool) → not (x.step == b) ≡ c
          → (first_free others es ≡ Some z → z.step ≡ b) → or_first c x o ≡ Some z → z.step ≡ b
      go (Some y) q c f more h = more (q ∙ h)
      go None q true f more h = let y : None ≡ Some z = h in absurd (cc)
      go None q false f more h = subst (λ (y : Extent). y.step ≡ b) (some_is x z h) (this_one x.step f)

  free_some : (es : List Extent) (x : Extent) → x.step ≡ b → Contains es x → first_free others es ≡ None → ⊥
  free_some [] x s c h = none_in x c
  free_some (y ∷ es) x s c h = go (first_free others es) refl (not (y.step == b)) refl (λ d q. free_some es x s d q) h (cases_in y es x c)
    where
      go : (o : Option Extent) → first_free others es ≡ o → (k : Bool) → not (y.step == b) ≡ k → (Contains es x → first_free others es ≡ None → ⊥) → or_first k y o ≡ None →
          (y ≡ x) ⊎ Contains es x → ⊥
      go (Some z) q k f more h d = let g : Some z ≡ None = h in absurd (cc)
      go None q false f more h d = let g : Some y ≡ None = h in absurd (cc)
      go None q true f more h (inl e) = true≢false (sym f ∙ ap not (eq-eqb y.step b (ap (λ (z : Extent). z.step) e ∙ s)))
      go None q true f more h (inr d) = more d q

-- ---- what passes

either_true : (a : Bool) → (a || true) ≡ true
either_true true = refl
either_true false = refl

register_passes : (r : FreeRegion) (t depth : ℕ) (w : Demanded) → Passes r t depth w → (i j k : ℕ) (v : Bool)
    → asked_of w i j k ≡ Some v → passes_cell r t depth (Register i j k) ≡ true
register_passes r t depth w p i j k v a = go (i == t) refl
  where
    below : i ≡ t → (b : Bool) → (j == depth) ≡ b → (nat_lt j depth || (b && not (r.sets k))) ≡ true
    below z true f =
        let e : j ≡ depth = eqb-true j depth f in
        let s : r.sets k ≡ false = p.none.registers k v (subst (λ (l : ℕ). asked_of w t l k ≡ Some v) e (subst (λ (u : ℕ). asked_of w u j k ≡ Some v) z a)) in
        rw s (either_true (nat_lt j depth))
    below z false f = on (cases_lt j depth)
      where
        on : (j < depth) ⊎ (depth ≤ j) → (nat_lt j depth || (false && not (r.sets k))) ≡ true
        on (inl l) = rw (lt-ltb j depth l) refl
        on (inr l) = apart (cases_lt depth j)
          where
            apart : (depth < j) ⊎ (j ≤ depth) → (nat_lt j depth || (false && not (r.sets k))) ≡ true
            apart (inl g) = absurd (p.above j k v (subst (λ (u : ℕ). asked_of w u j k ≡ Some v) z a) g)
            apart (inr g) = absurd (true≢false (sym (eq-eqb j depth (omega (arith, l, g))) ∙ f))

    go : (b : Bool) → (i == t) ≡ b → (not b || (nat_lt j depth || ((j == depth) && not (r.sets k)))) ≡ true
    go false f = refl
    go true f = below (eqb-true i t f) (j == depth) refl

byte_passes : (r : FreeRegion) (t depth : ℕ) (w : Demanded) → Passes r t depth w → (b : ℕ) → asks_byte w b ≡ true → passes_cell r t depth (Byte b) ≡ true
byte_passes r t depth w p b a = rw (p.none.bytes b a) refl

-- a step's thread, the extents open there, and the step in the run in which all is known
pub record Stood : Type 0 where
  pub t : ℕ
  pub es : List Extent
  pub y : Seen

abbrev pub stood_at : Reference → ℕ → Moment → Stood
stood_at R n m = record { t = thread_in m; es = (thread_of (known_at R every n) (thread_in m)).extents; y = of_every R n m (known_at R every n) }

module _ (R : Reference) (keeps : ExtentsKeep R) (e : Taken) where
  pub step_is : (n : ℕ) (m : Moment) → slice_get R.moments n ≡ Some m → known_at R e (suc n) ≡ after_step R e n m (known_at R e n)
  step_is n m q = let z : 0 + n ≡ n = omega arith in subst (λ (i : ℕ). known_at R e (suc n) ≡ after_step R e i m (known_at R e n)) z (next_step R e 0 n (start_of R.program) R.moments m q)

  module _ (n : ℕ) (m : Moment) (q : slice_get R.moments n ≡ Some m) (x : Extent) (c : Contains (thread_of (known_at R every n) (thread_in m)).extents x) (below : n ≤ length R.moments)
      (r : FreeRegion) (is : region_at_step R x.step ≡ Some r) where
    open stood_at R n m use {t, es, y}

    low : nat_le x.depth (length m.calls) ≡ true
    low =
        let d = (inside R keeps n below t x c).deep in
        let h : length (thread_of (known_at R every n) t).calls ≡ length m.calls = keeps.calls y (in_run R keeps n m q) in
        le-leb x.depth (length m.calls) (omega (arith, d, h))

    same_depth : (z : Extent) → Contains es z → z.step ≡ x.step → z.depth ≡ x.depth
    same_depth z d s =
        let i = inside R keeps n below t z d in
        let j = inside R keeps n below t x c in
        let g : i.begun ≡ j.begun = some_is i.begun j.begun (sym i.stands ∙ ap (slice_get R.moments) s ∙ j.stands) in
        i.depth ∙ ap (λ (k : Moment). length k.calls) g ∙ sym j.depth

    pass_demand : (d : Demand) → passes_cell r t x.depth d.cell ≡ true → IsMet (known_at R e (suc n)) d → IsMet (known_at R e n) d
    pass_demand d p h = go (first_free (others x.step) es) refl
      where
        a : At R keeps e (length R.moments) n m (known_at R e n) (known_at R every n)
        a = at_step R keeps e n m q

        all : AllByRecursion (IsMet (known_at R e n)) (passing R y (first_free (others x.step) es) (d ∷ []))
        all = passing_met R keeps e (length R.moments) (Likes every) (the_link e (length R.moments)) n m (known_at R e n) (known_at R every n) a.like a.in_run (others x.step) (d ∷ [])
            (subst (λ (s : SymbolicState). IsMet s d) (step_is n m q) h, tt)

        go : (o : Option Extent) → first_free (others x.step) es ≡ o → IsMet (known_at R e n) d
        go None f = absurd (free_some x.step es x refl c f)
        go (Some z) f =
            let s : z.step ≡ x.step = free_is x.step es z f in
            let k : z.depth ≡ x.depth = same_depth z (first_in (others x.step) es z f) s in
            let g : AllByRecursion (IsMet (known_at R e n)) (passing_by y z.depth (region_at_step R z.step) (d ∷ [])) =
            subst (λ (o : Option Extent). AllByRecursion (IsMet (known_at R e n)) (passing R y o (d ∷ []))) f all in
            let l : AllByRecursion (IsMet (known_at R e n)) (passing_by y x.depth (Some r) (d ∷ [])) =
            subst (λ (o : Option FreeRegion). AllByRecursion (IsMet (known_at R e n)) (passing_by y x.depth o (d ∷ []))) is
            (subst (λ (i : ℕ). AllByRecursion (IsMet (known_at R e n)) (passing_by y x.depth (region_at_step R i) (d ∷ []))) s
            (subst (λ (i : ℕ). AllByRecursion (IsMet (known_at R e n)) (passing_by y i (region_at_step R z.step) (d ∷ []))) k g)) in
            (kept (nat_le x.depth (length m.calls)) low (passes_cell r t x.depth d.cell) p l).0
          where
            kept : (b : Bool) → b ≡ true → (v : Bool) → v ≡ true → AllByRecursion (IsMet (known_at R e n)) (if b then (if v then d ∷ [] else []) else [])
                → AllByRecursion (IsMet (known_at R e n)) (d ∷ [])
            kept true f true g h = h
            kept true f false g h = absurd (true≢false (sym g))
            kept false f v g h = absurd (true≢false (sym f))

    pass_one : (w : Demanded) → Passes r t x.depth w → AreMet (known_at R e (suc n)) w → AreMet (known_at R e n) w
    pass_one w p h = record {
      registers = λ i j k v a. pass_demand (register_demand i j k v) (register_passes r t x.depth w p i j k v a) (h.registers i j k v a);
      bytes = λ b a. pass_demand (byte_demand b true) (byte_passes r t x.depth w p b a) (h.bytes b a);
    }

  pub skipped : (n : ℕ) (m : Moment) (q : slice_get R.moments n ≡ Some m) → n ≤ length R.moments → (x : Extent) → Contains (thread_of (known_at R every n) (thread_in m)).extents x →
      (r : FreeRegion) → region_at_step R x.step ≡ Some r → (w : Demanded) → Passes r (thread_in m) x.depth w → AreMet (known_at R e (suc n)) w → AreMet (known_at R e (suc x.step)) w
  skipped zero m q l x c r is w p h = let i = (inside R keeps 0 l (thread_in m) x c).earlier in absurd (omega (arith, i))
  skipped (suc n) m q l x c r is w p h = go (get_there R.moments n (omega (arith, l))) (λ k f d g. skipped n k f (omega (arith, l)) x d r is w g before)
    where
      before : AreMet (known_at R e (suc n)) w
      before = pass_one (suc n) m q x c l r is w p h

      go : (k : Moment) × (slice_get R.moments n ≡ Some k) →
          ((k : Moment) → slice_get R.moments n ≡ Some k → Contains (thread_of (known_at R every n) (thread_in k)).extents x
          → Passes r (thread_in k) x.depth w → AreMet (known_at R e (suc x.step)) w) →
          AreMet (known_at R e (suc x.step)) w
      go (k, f) more = on (opened R keeps n k f (thread_in m) x c)
        where
          on : Contains (thread_of (known_at R every n) (thread_in m)).extents x ⊎ Begins R n (thread_in m) k x → AreMet (known_at R e (suc x.step)) w
          on (inl d) =
              let z : thread_in k ≡ thread_in m = keeps.together (of_every R n k (known_at R every n)) (in_run R keeps n k f) (thread_in m) x d in
              more k f (subst (λ (i : ℕ). Contains (thread_of (known_at R every n) i).extents x) (sym z) d) (subst (λ (i : ℕ). Passes r i x.depth w) (sym z) p)
          on (inr b) = subst (λ (i : ℕ). AreMet (known_at R e (suc i)) w) (ap (λ (z : Extent). z.step) b.own) before

  -- no step in the extent changes a thread's word
  pub word_skipped : (n : ℕ) (m : Moment) (q : slice_get R.moments n ≡ Some m) → n ≤ length R.moments → (x : Extent) → Contains (thread_of (known_at R every n) (thread_in m)).extents x →
      (r : FreeRegion) → region_at_step R x.step ≡ Some r → (u : ℕ) (b : Bool) → IsMet (known_at R e (suc n)) (word_demand u b) → IsMet (known_at R e (suc x.step)) (word_demand u b)
  word_skipped zero m q l x c r is u b h = let i = (inside R keeps 0 l (thread_in m) x c).earlier in absurd (omega (arith, i))
  word_skipped (suc n) m q l x c r is u b h = go (get_there R.moments n (omega (arith, l))) (λ k f d. word_skipped n k f (omega (arith, l)) x d r is u b before)
    where
      before : IsMet (known_at R e (suc n)) (word_demand u b)
      before = pass_demand (suc n) m q x c l r is (word_demand u b) refl h

      go : (k : Moment) × (slice_get R.moments n ≡ Some k) →
          ((k : Moment) → slice_get R.moments n ≡ Some k → Contains (thread_of (known_at R every n) (thread_in k)).extents x → IsMet (known_at R e (suc x.step)) (word_demand u b)) →
          IsMet (known_at R e (suc x.step)) (word_demand u b)
      go (k, f) more = on (opened R keeps n k f (thread_in m) x c)
        where
          on : Contains (thread_of (known_at R every n) (thread_in m)).extents x ⊎ Begins R n (thread_in m) k x → IsMet (known_at R e (suc x.step)) (word_demand u b)
          on (inl d) =
              let z : thread_in k ≡ thread_in m = keeps.together (of_every R n k (known_at R every n)) (in_run R keeps n k f) (thread_in m) x d in
              more k f (subst (λ (i : ℕ). Contains (thread_of (known_at R every n) i).extents x) (sym z) d)
          on (inr g) = subst (λ (i : ℕ). IsMet (known_at R e (suc i)) (word_demand u b)) (ap (λ (z : Extent). z.step) g.own) before
