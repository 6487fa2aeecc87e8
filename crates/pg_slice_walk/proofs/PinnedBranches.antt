-- Where the region of an open extent may set what has to be known and the older extents are pinned, its branch step is.
use Rattle.std.proofs.Common.{◌≡◌, ℕ, suc, ◌≤◌, ◌<◌, ◌==◌, Bool, true, false, List, [], ◌∷◌, ◌++◌, length, Option, Some, refl, sym, ◌∙◌, subst, inl, inr, eq-eqb}
use Rattle.std.specs.Prelude.{Contains, ◌&&◌, ◌||◌, nat_lt, slice_get}
use Rattle.std.proofs.lemmas.Bool.{lt-ltb}
use Rattle.std.proofs.lemmas.List.Elements.{Contains-append_right}
use Rattle.pg_slice_rules.specs.Moments.{Moment, thread_in}
use Rattle.pg_slice_rules.specs.Extents.{Extent, is_live}
use Rattle.pg_slice_rules.specs.Freeable.{FreeRegion}
use Rattle.pg_slice_rules.specs.Known.{Reference, SymbolicState, Taken, registers_of, thread_of}
use Rattle.pg_slice_back.specs.pg_law_least.Keeps.{ExtentsKeep, every}
use Rattle.pg_slice_back.proofs.of_pg_law_least.LikeValues.{Likes}
use Rattle.pg_slice_back.proofs.of_pg_law_least.OldestFreeExtent.{or_this, stand}
use Rattle.pg_region_paths.proofs.Elements.{here}
use Rattle.pg_slice_back.specs.pg_law_demands.Along.{known_at}
use Rattle.pg_slice_back.specs.pg_law_demands.Back.{byte_demand, register_demand}
use Rattle.pg_slice_back.specs.pg_law_demands.Cells.{Demand, IsMet}
use Rattle.pg_slice_back.specs.pg_law_demands.Passed.{count_at, may_set_cell, region_at_step, sets_any}
use Rattle.pg_slice_back.proofs.of_pg_law_demands.StepsInExtents.{pinned_if}
use Rattle.pg_slice_demands.specs.declared.demanded.Demanded.{Demanded}
use Rattle.pg_slice_back.specs.Met.{AreMet}
use Rattle.pg_slice_back.specs.Sets.{AsksRegion}
use Rattle.pg_slice_back.proofs.KnownBefore.{at_step, the_link}
use Rattle.pg_slice_walk.proofs.StepsInExtents.{inside}
use Rattle.pg_slice_walk.proofs.PassedExtents.{step_is, stood_at}

-- what stands still among the older ones stands still among all
stand_more : (e : Taken) (younger es : List Extent) (o : Extent) → stand e es ≡ Some o → stand e (younger ++ es) ≡ Some o
stand_more e [] es o h = h
stand_more e (y ∷ younger) es o h = rw (stand_more e younger es o h) (go (e.pinned y.step))
  where
    go : (b : Bool) → or_this b y (Some o) ≡ Some o
    go true = refl
    go false = refl

register_set : (r : FreeRegion) (t depth count i : ℕ) → i < count → r.sets i ≡ true → ((((t == t) && (depth == depth)) && (nat_lt i count && r.sets i)) || false) ≡ true
register_set r t depth count i l s = rw (eq-eqb t t refl, eq-eqb depth depth refl, lt-ltb i count l, s) refl

module _ (R : Reference) (keeps : ExtentsKeep R) (e : Taken) (n : ℕ) (m : Moment) (q : slice_get R.moments n ≡ Some m) (below : n ≤ length R.moments) (younger older : List Extent) (x : Extent)
    (whole : (thread_of (known_at R every n) (thread_in m)).extents ≡ younger ++ x ∷ older) (live : is_live e.pinned older ≡ true)
    (r : FreeRegion) (is : region_at_step R x.step ≡ Some r) where
  open stood_at R n m use {t, es, y}

  inside_it : Contains es x
  inside_it = subst (λ (zs : List Extent). Contains zs x) (sym whole) (Contains-append_right younger (x ∷ older) x (here x older))

  by_demand : (d : Demand) → IsMet (known_at R e (suc n)) d → (may_set_cell r t x.depth (count_at y x.depth) d.cell || false) ≡ true → e.pinned x.step ≡ true
  by_demand d h s =
      let a = at_step R keeps e n m q in
      pinned_if R keeps e (length R.moments) (Likes every) (the_link e (length R.moments)) n m (known_at R e n) (known_at R every n) a.like a.in_run x older
      (λ o f. subst (λ (zs : List Extent). stand e zs ≡ Some o) (sym whole) (stand_more e younger (x ∷ older) o f)) live (d ∷ [])
      (subst (λ (s : SymbolicState). IsMet s d) (step_is R keeps e n m q) h, tt)
      (subst (λ (o : Option FreeRegion). sets_any o y x.depth (d ∷ []) ≡ true) (sym is) s)

  pub pinned_open : (count : ℕ) → count ≡ length (registers_of (known_at R every x.step) (thread_in m)) → (w : Demanded) → AreMet (known_at R e (suc n)) w →
      AsksRegion (Some r) (thread_in m) x.depth count w → e.pinned x.step ≡ true
  pinned_open count c w met (inl s) =
      let z : count_at y x.depth ≡ count = (inside R keeps n below t x inside_it).count ∙ sym c in
      by_demand (register_demand t x.depth s.0 s.1) (met.registers t x.depth s.0 s.1 s.4)
      (subst (λ (k : ℕ). ((((t == t) && (x.depth == x.depth)) && (nat_lt s.0 k && r.sets s.0)) || false) ≡ true) (sym z) (register_set r t x.depth count s.0 s.2 s.3))
  pinned_open count c w met (inr s) = by_demand (byte_demand s.0 true) (met.bytes s.0 s.2) (rw s.1 refl)
