-- A step that may not be live: what is demanded of cells that an open extent's region may have set pins its branch step, and what
-- passes the step is met before it too.
use Rattle.std.proofs.Common.{◌≡◌, ℕ, ◌<◌, ◌≤◌, ◌==◌, Bool, true, false, List, [], ◌∷◌, length, Option, Some, None, refl, sym, ap, ◌∙◌, subst, inl, inr}
use Rattle.std.proofs.Common.{◌⊎◌, arith, ltb-true, leb-true}
use Rattle.std.specs.Prelude.{Contains, ◌&&◌, ◌||◌, filter, nat_le, nat_lt, not, slice_index_or, if◌then◌else◌}
use Rattle.std.specs.List.{AllByRecursion, AllZip, list_any}
use Rattle.std.proofs.lemmas.Bool.{true≢false, and_parts, or_cases, eqb-true, eq-eqb}
use Rattle.pg_ir.specs.declared.instr.Instr.{Instr}
use Rattle.pg_law_least.specs.pg_slice_rules.declared.decision.Decision.TheVariants.{Pinned}
use Rattle.pg_law_least.specs.pg_slice_rules.Moments.{Moment, instr_in}
use Rattle.pg_law_least.specs.pg_slice_rules.Freeable.{FreeRegion}
use Rattle.pg_law_least.specs.pg_slice_rules.SymbolicValues.{Symbolic, unset}
use Rattle.pg_law_least.specs.pg_slice_rules.Extents.{Extent, edge_in, is_live}
use Rattle.pg_law_least.specs.pg_slice_rules.Known.{Reference, SymbolicState, Taken, SymbolicThread, after_step, start_of, thread_of, top_of}
use Rattle.pg_law_least.specs.Keeps.{ExtentsKeep, KeepsTo, MaySetPhis, every, may_write, steps_of}
use Rattle.pg_law_least.proofs.AlikeLists.{length_like}
use Rattle.pg_law_least.proofs.KeptLikeness.{IsLink}
use Rattle.pg_law_least.proofs.LiveSteps.{top_like}
use Rattle.pg_law_least.proofs.ThreadsAfterSteps.{bytes_next, live_at, own_bytes, own_calls, own_words, thread_own, words_next}
use Rattle.pg_law_least.proofs.OldestFreeExtent.{height_by, live_stand, not_live, stand, stand_in}
use Rattle.pg_law_least.proofs.LiveStepsInside.{bytes_kept, plain_edge, words_kept}
use Rattle.pg_law_least.proofs.AlikeKnowledge.{Still, ThreadLike}
use Rattle.pg_law_demands.specs.Cells.{Byte, Cell, Demand, IsMet, Register, Word, call_at, cell_symbolic, is_met}
use Rattle.pg_law_demands.specs.Passed.{count_at, first_free, may_set_cell, passes_cell, passing, passing_by, region_at_step, sets_any}
use Rattle.pg_law_demands.proofs.ValuesBefore.{none_unknown}
use Rattle.pg_law_demands.proofs.DemandsBack.{top_is}
use Rattle.pg_law_demands.proofs.StepBack.{IsRun, here_at, high, of_every, other_thread}
use Rattle.pg_law_demands.proofs.PassedByExtents.{call_below, find_step, first_in, forgotten_top, region_of_steps, register_same}

filter_met : (P Q : Demand → Type 0) (f : Demand → Bool) (qs : List Demand) → ((c : Demand) → f c ≡ true → P c → Q c) → AllByRecursion P qs → AllByRecursion Q (filter f qs)
filter_met P Q f [] h k = tt
filter_met P Q f (c ∷ qs) h k = go (f c) refl (filter_met P Q f qs h k.1)
  where
    go : (b : Bool) → f c ≡ b → AllByRecursion Q (filter f qs) → AllByRecursion Q (filter f (c ∷ qs))
    go false q more = rw q more
    go true q more = rw q (h c q k.0, more)

not_true : (b : Bool) → not b ≡ true → b ≡ false
not_true false q = refl
not_true true q = sym q

module _ (R : Reference) (keeps : ExtentsKeep R) (e : Taken) (bound : ℕ) (L : Symbolic → Symbolic → Type 0) (link : IsLink e every bound L) where
  module _ (n : ℕ) (m : Moment) (s u : SymbolicState) (like : IsRun R keeps e bound L link s u)
      (in_run : Contains (steps_of R) (of_every R n m u)) where
    open here_at R n m s u use {y, t, region, cs, cu}

    abbrev es : List Extent
    es = (thread_of u t).extents

    own : ThreadLike R keeps e every bound L link s.bytes (thread_of s t) (thread_of u t) (thread_of u t)
    own = like.threads t

    begun_before : t < length s.threads
    begun_before = let a = keeps.known y in_run in let b = like.fewer in omega (arith, a, b)

    calls_now : (b : Bool) → live_at R e n m s ≡ b → (thread_of (after_step R e n m s) t).calls ≡ own_calls R.program e n m region s b (instr_in R.program m)
    calls_now b q = ap (λ (h : SymbolicThread). h.calls) (thread_own R e n m s begun_before) ∙ ap (λ (b : Bool). own_calls R.program e n m region s b (instr_in R.program m)) q

    bytes_now : (b : Bool) → live_at R e n m s ≡ b → (after_step R e n m s).bytes ≡ own_bytes R.program e n m region s b (instr_in R.program m)
    bytes_now b q = bytes_next R e n m s ∙ ap (λ (b : Bool). own_bytes R.program e n m region s b (instr_in R.program m)) q

    words_now : (b : Bool) → live_at R e n m s ≡ b → (after_step R e n m s).words ≡ own_words R.program e n m region s b (instr_in R.program m)
    words_now b q = words_next R e n m s ∙ ap (λ (b : Bool). own_words R.program e n m region s b (instr_in R.program m)) q

    -- ---- where the thread stands still

    module _ (x : Extent) (stands : stand e es ≡ Some x) where
      st : Still R keeps e every bound L link s.bytes cs x
      st = own.still x stands

      dead : live_at R e n m s ≡ false
      dead = let c = stand_in e es x stands in ap (is_live e.pinned) own.first ∙ not_live e es x c.0 c.1

      low_calls : length cs ≡ x.depth
      low_calls = own.height ∙ ap (λ (o : Option Extent). height_by o (length cu)) stands

      region_is : region_at_step R x.step ≡ Some st.region
      region_is = ap (region_at_step R) st.number ∙ (region_of_steps R st.branch st.seen ∙ st.is)

      count_is : count_at y x.depth ≡ length (top_of cs)
      count_is =
          let a : length cs ≡ length own.above.low = length_like (λ xs ys. AllZip L xs ys) cs own.above.low own.above.like in
          let b : length own.above.low ≡ x.depth = sym a ∙ low_calls in
          ap (λ (c : List (List Symbolic)). length (call_at x.depth c)) own.above.whole
          ∙ (ap length (call_below own.above.more own.above.low x.depth b)
          ∙ (ap length (top_is x.depth own.above.low b)
          ∙ sym (length_like L (top_of cs) (top_of own.above.low) (top_like R.program e every bound L link cs own.above.low own.above.like))))

      unmet : (whole : Bool) (c : Cell) → may_set_cell st.region t x.depth (count_at y x.depth) c ≡ true → is_met whole (cell_symbolic (after_step R e n m s) c) ≡ true → ⊥
      unmet whole (Register i j r) q h =
          let a = and_parts ((i == t) && (j == x.depth)) (nat_lt r (count_at y x.depth) && st.region.sets r) q in
          let b = and_parts (i == t) (j == x.depth) a.0 in
          let c = and_parts (nat_lt r (count_at y x.depth)) (st.region.sets r) a.1 in
          let v : i ≡ t = eqb-true i t b.0 in
          let w : j ≡ x.depth = eqb-true j x.depth b.1 in
          let l : r < count_at y x.depth = ltb-true r (count_at y x.depth) c.0 in
          let f : is_met whole (slice_index_or (call_at j (thread_of (after_step R e n m s) t).calls) r unset) ≡ true =
          subst (λ (i : ℕ). is_met whole (slice_index_or (call_at j (thread_of (after_step R e n m s) i).calls) r unset) ≡ true) v h in
          let g : is_met whole (slice_index_or (call_at x.depth cs) r unset) ≡ true =
          subst (λ (j : ℕ). is_met whole (slice_index_or (call_at j cs) r unset) ≡ true) w
          (subst (λ (c : List (List Symbolic)). is_met whole (slice_index_or (call_at j c) r unset) ≡ true) (calls_now false dead) f) in
          let k : is_met whole (slice_index_or (top_of cs) r unset) ≡ true =
          subst (λ (c : List Symbolic). is_met whole (slice_index_or c r unset) ≡ true) (top_is x.depth cs low_calls) g in
          none_unknown whole (Pinned x.step)
          (subst (λ (z : Symbolic). is_met whole z ≡ true) (forgotten_top cs st.region.sets (Pinned x.step) r st.registers (omega (arith, l, count_is)) c.1) k)
      unmet whole (Byte b) q h =
          none_unknown whole (Pinned x.step)
          (subst (λ (z : Symbolic). is_met whole z ≡ true) (st.writes b q) (subst (λ (f : ℕ → Symbolic). is_met whole (f b) ≡ true) (bytes_now false dead) h))
      unmet whole (Word w) q h = true≢false (sym q)

      none_set : (qs : List Demand) → AllByRecursion (IsMet (after_step R e n m s)) qs →
          list_any (λ (c : Demand). may_set_cell st.region t x.depth (count_at y x.depth) c.cell) qs ≡ true → ⊥
      none_set [] k h = true≢false (sym h)
      none_set (c ∷ qs) k h = go (or_cases (may_set_cell st.region t x.depth (count_at y x.depth) c.cell)
          (list_any (λ (c : Demand). may_set_cell st.region t x.depth (count_at y x.depth) c.cell) qs) h) (λ q. none_set qs k.1 q)
        where
          go : (may_set_cell st.region t x.depth (count_at y x.depth) c.cell ≡ true)
              ⊎ (list_any (λ (c : Demand). may_set_cell st.region t x.depth (count_at y x.depth) c.cell) qs ≡ true) →
              (list_any (λ (c : Demand). may_set_cell st.region t x.depth (count_at y x.depth) c.cell) qs ≡ true → ⊥) → ⊥
          go (inl q) more = unmet c.whole c.cell q k.0
          go (inr q) more = more q

    -- the branch step of an extent is pinned where older ones are and its region may have set what is met
    pub pinned_if : (x : Extent) (older : List Extent) → ((o : Extent) → stand e (x ∷ older) ≡ Some o → stand e es ≡ Some o) → is_live e.pinned older ≡ true → (qs : List Demand) →
        AllByRecursion (IsMet (after_step R e n m s)) qs → sets_any (region_at_step R x.step) y x.depth qs ≡ true → e.pinned x.step ≡ true
    pinned_if x older sub l qs k h = go (e.pinned x.step) refl
      where
        go : (b : Bool) → e.pinned x.step ≡ b → e.pinned x.step ≡ true
        go true f = f
        go false f =
            let stands : stand e es ≡ Some x = sub x (rw (live_stand e older l, f) refl) in
            absurd (none_set x stands qs k (subst (λ (o : Option FreeRegion). sets_any o y x.depth qs ≡ true) (region_is x stands) h))

    -- ---- what passes

    module _ (x : Extent) (inside : Contains es x) (q : FreeRegion) (is : region_at_step R x.step ≡ Some q) (below : x.depth ≤ length m.calls) where
      keep : KeepsTo R q x.depth y
      keep =
          let b = find_step R 0 (start_of R.program) R.moments x.step q is in
          let z = b.2 in
          keeps.keep b.0 b.1 y in_run q b.3 x inside (omega (arith, z))

      register_before : (b : Bool) → live_at R e n m s ≡ b → (o : Option Instr) → instr_in R.program m ≡ o → (j r : ℕ) → (j < x.depth) ⊎ ((j ≡ x.depth) × (q.sets r ≡ false)) →
          slice_index_or (call_at j (own_calls R.program e n m region s b o)) r unset ≡ slice_index_or (call_at j cs) r unset
      register_before false f o g j r kept = refl
      register_before true f None g j r kept = refl
      register_before true f (Some z) g j r kept =
          let live : is_live e.pinned es ≡ true = sym (ap (is_live e.pinned) own.first) ∙ f in
          register_same R.program e n m region z q.sets x.depth
          (λ l. keep.result l z g)
          (λ l. subst (MaySetPhis R.program q.sets) (plain_edge R.program m m.did.did.kind keep.plain ∙ ap (edge_in R.program m) g) (keep.phis l))
          keep.inner
          (λ v h. keep.deeper (record { instr = z; value = v; stands = g; returns = h }))
          (λ v h. keep.target (record { instr = z; value = v; stands = g; returns = h }))
          cs (high R keeps e bound L link n m s u like in_run live) below j r kept m.did.did.kind keep.plain s

      byte_before : (b : Bool) (o : Option Instr) → instr_in R.program m ≡ o → (i : ℕ) → may_write q.accesses i ≡ false → own_bytes R.program e n m region s b o i ≡ s.bytes i
      byte_before false o g i f = refl
      byte_before true None g i f = refl
      byte_before true (Some z) g i f = bytes_kept R.program e n m region z (may_write q.accesses) i f m.did.did.kind keep.plain s
          (λ a h v w. keep.stores a (record { instr = z; stands = g; store = v; kind = h }) i (keeps.bounds y in_run a (record { instr = z; stands = g; store = v; kind = h }) i w))
          (λ a h v. keep.stores a (record { instr = z; stands = g; store = v; kind = h }) i)
          (λ p h. keep.inner_stores p h i)

      word_before : (b : Bool) (o : Option Instr) → own_words R.program e n m region s b o ≡ s.words
      word_before false o = refl
      word_before true None = refl
      word_before true (Some z) = words_kept R.program m z m.did.did.kind keep.plain s

      kept_cell : (whole : Bool) (c : Cell) → passes_cell q t x.depth c ≡ true → is_met whole (cell_symbolic (after_step R e n m s) c) ≡ true → is_met whole (cell_symbolic s c) ≡ true
      kept_cell whole (Register i j r) p h = go (i == t) refl p
        where
          part : nat_lt j x.depth ≡ true ⊎ ((j == x.depth) && not (q.sets r)) ≡ true → (j < x.depth) ⊎ ((j ≡ x.depth) × (q.sets r ≡ false))
          part (inl a) = inl (ltb-true j x.depth a)
          part (inr a) = let b = and_parts (j == x.depth) (not (q.sets r)) a in inr (eqb-true j x.depth b.0, not_true (q.sets r) b.1)

          go : (b : Bool) → (i == t) ≡ b → (not b || (nat_lt j x.depth || ((j == x.depth) && not (q.sets r)))) ≡ true → is_met whole (cell_symbolic s (Register i j r)) ≡ true
          go false f p = other_thread R e n m s i j r whole (λ z. true≢false (sym (eq-eqb i t z) ∙ f)) h
          go true f p =
              let v : i ≡ t = eqb-true i t f in
              let w : is_met whole (slice_index_or (call_at j (own_calls R.program e n m region s (live_at R e n m s) (instr_in R.program m))) r unset) ≡ true =
              subst (λ (c : List (List Symbolic)). is_met whole (slice_index_or (call_at j c) r unset) ≡ true) (calls_now (live_at R e n m s) refl)
              (subst (λ (i : ℕ). is_met whole (slice_index_or (call_at j (thread_of (after_step R e n m s) i).calls) r unset) ≡ true) v h) in
              subst (λ (i : ℕ). is_met whole (slice_index_or (call_at j (thread_of s i).calls) r unset) ≡ true) (sym v)
              (subst (λ (z : Symbolic). is_met whole z ≡ true)
              (register_before (live_at R e n m s) refl (instr_in R.program m) refl j r (part (or_cases (nat_lt j x.depth) ((j == x.depth) && not (q.sets r)) p))) w)
      kept_cell whole (Byte b) p h = subst (λ (z : Symbolic). is_met whole z ≡ true)
          (ap (λ (f : ℕ → Symbolic). f b) (bytes_now (live_at R e n m s) refl) ∙ byte_before (live_at R e n m s) (instr_in R.program m) refl b (not_true (may_write q.accesses b) p)) h
      kept_cell whole (Word w) p h = subst (λ (ws : List Symbolic). is_met whole (slice_index_or ws w unset) ≡ true)
          (words_now (live_at R e n m s) refl ∙ word_before (live_at R e n m s) (instr_in R.program m)) h

    pub passing_met : (pinned : ℕ → Bool) (qs : List Demand) → AllByRecursion (IsMet (after_step R e n m s)) qs → AllByRecursion (IsMet s) (passing R y (first_free pinned es) qs)
    passing_met pinned qs k = go (first_free pinned es) refl
      where
        below : (x : Extent) → Contains es x → (q : FreeRegion) → region_at_step R x.step ≡ Some q → (b : Bool) → nat_le x.depth (length m.calls) ≡ b →
            AllByRecursion (IsMet s) (if b then filter (λ (c : Demand). passes_cell q t x.depth c.cell) qs else [])
        below x inside q is false f = tt
        below x inside q is true f = filter_met (IsMet (after_step R e n m s)) (IsMet s) (λ (c : Demand). passes_cell q t x.depth c.cell) qs
            (λ c p h. kept_cell x inside q is (leb-true x.depth (length m.calls) f) c.whole c.cell p h) k

        by_region : (x : Extent) → Contains es x → (o : Option FreeRegion) → region_at_step R x.step ≡ o → AllByRecursion (IsMet s) (passing_by y x.depth o qs)
        by_region x inside None f = tt
        by_region x inside (Some q) f = below x inside q f (nat_le x.depth (length m.calls)) refl

        go : (o : Option Extent) → first_free pinned es ≡ o → AllByRecursion (IsMet s) (passing R y o qs)
        go None f = tt
        go (Some x) f = by_region x (first_in pinned es x f) (region_at_step R x.step) refl
