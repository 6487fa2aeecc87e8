-- A live step under closed decisions: from what is known behind it to what is known before it.
use Rattle.std.proofs.Common.{◌≡◌, ℕ, suc, ◌+◌, ◌<◌, ◌≤◌, ◌==◌, Bool, true, false, List, [], ◌∷◌, length, Option, refl, sym, ◌∙◌, subst, inl, inr}
use Rattle.std.proofs.Common.{◌⊎◌, arith, ltb-true, ltb-false}
use Rattle.std.specs.Prelude.{not, nat_lt, slice_index_or, if◌then◌else◌}
use Rattle.std.proofs.lemmas.Bool.{true≢false, eqb-true, eq-eqb, cases_lt, lt-ltb}
use Rattle.pg_ir.specs.declared.instr.Instr.{Instr}
use Rattle.pg_ir.specs.Program.{NumberedProgram}
use Rattle.pg_run_trace.specs.declared.step.Step.{Step}
use Rattle.pg_slice_rules.specs.Moments.{Moment, instr_in, thread_in}
use Rattle.pg_slice_rules.specs.Freeable.{FreeRegion}
use Rattle.pg_slice_rules.specs.SymbolicValues.{Symbolic, unset}
use Rattle.pg_slice_rules.specs.Known.{Reference, SymbolicState, Seen, Taken, after_step, region_of, registers_of, start_of, thread_of, top_of, under_top}
use Rattle.pg_law_least.specs.Keeps.{every}
use Rattle.pg_law_least.proofs.AlikeLists.{length_like}
use Rattle.pg_law_least.proofs.LikeValues.{Likes}
use Rattle.pg_law_least.proofs.LiveSteps.{CallsLike, top_like}
use Rattle.pg_law_least.proofs.LiveStepsInside.{none_above}
use Rattle.pg_slice_passes.specs.pg_slice_replay.declared.run.ReferenceRun.{ReferenceRun}
use Rattle.pg_law_demands.specs.Along.{known_at}
use Rattle.pg_law_demands.specs.Cells.{Demand, IsMet, call_at, is_met}
use Rattle.pg_law_demands.specs.Back.{Asked, back, back_byte, back_cell, back_other, back_top, byte_demand, caller_count, only, register_count, register_demand}
use Rattle.pg_law_demands.proofs.StepBack.{callers_long, high, of_every, past_end, step_back}
use Rattle.pg_law_demands.proofs.DemandsBack.{Asks, top_is}
use Rattle.pg_slice_back.specs.declared.registers.Counts.{Counts}
use Rattle.pg_slice_back.specs.Leaves.{IsAbove}
use Rattle.pg_slice_back.specs.Steps.{IsLiveStep}
use Rattle.pg_slice_back.proofs.KnownBefore.{At, Standing, at_step, next_step, the_link}

-- the last of three tests that all hold
picked : (e : Taken) (s : SymbolicState) (a b c : Bool) (x y z w : Asked) → a ≡ true → b ≡ true → c ≡ true
    → Asks e s (if not a then x else if not b then y else if c then z else w) → Asks e s z
picked e s true true true x y z w f g l h = h
picked e s true true false x y z w f g l h = absurd (true≢false (sym l))
picked e s true false c x y z w f g l h = absurd (true≢false (sym g))
picked e s false b c x y z w f g l h = absurd (true≢false (sym f))

-- the second of two, where the first holds and the second doesn't
passed : (e : Taken) (s : SymbolicState) (a b : Bool) (x y z : Asked) → a ≡ true → b ≡ false → Asks e s (if not a then x else if not b then y else z) → Asks e s y
passed e s true false x y z f g h = h
passed e s true true x y z f g h = absurd (true≢false g)
passed e s false b x y z f g h = absurd (true≢false (sym f))

module _ (R : Reference) (e : Taken) (p : NumberedProgram) (r : ReferenceRun) (x : Instr) (step : Step) (counts : Counts) (n : ℕ) (m : Moment) (st : IsLiveStep R e p r x step counts n m) where
  abbrev pub s : SymbolicState
  s = known_at R e n

  abbrev pub u : SymbolicState
  u = known_at R every n

  abbrev pub after : SymbolicState
  after = known_at R e (suc n)

  abbrev pub t : ℕ
  t = thread_in m

  abbrev pub k : ℕ
  k = length m.calls

  abbrev pub standing : Standing
  standing = record { s = s; after = after; t = t; k = k }

  abbrev bound : ℕ
  bound = length R.moments

  abbrev pub region : Option FreeRegion
  region = region_of R.program R.regions m (instr_in R.program m)

  abbrev pub y : Seen
  y = of_every R n m u

  abbrev cs : List (List Symbolic)
  cs = (thread_of s t).calls

  abbrev cu : List (List Symbolic)
  cu = (thread_of u t).calls

  pub here : At R st.keeps e bound n m s u
  here = at_step R st.keeps e n m st.stands

  next : after ≡ after_step R e n m s
  next = let z : 0 + n ≡ n = omega arith in subst (λ (i : ℕ). after ≡ after_step R e i m s) z (next_step R e 0 n (start_of R.program) R.moments m st.stands)

  pub tall : length cs ≡ k
  tall = high R st.keeps e bound (Likes every) (the_link e bound) n m s u here.like here.in_run st.live

  alike : CallsLike R.program e every bound (Likes every) (the_link e bound) cs cu
  alike = none_above R.program e every bound (Likes every) (the_link e bound) cs cu (here.like.threads t).above (tall ∙ sym (st.keeps.calls y here.in_run))

  long : length (registers_of u t) ≡ length (registers_of s t)
  long = sym (length_like (Likes every) (registers_of s t) (registers_of u t) (top_like R.program e every bound (Likes every) (the_link e bound) cs cu alike))

  back_of : (q : Demand) → IsMet after q → Asks e s (back_cell R.program y x q.whole q.cell)
  back_of q h =
      subst (λ (o : Option Instr). Asks e s (back R.program y o q)) st.instr
      (step_back R st.keeps e bound (Likes every) (the_link e bound) n m s u here.like here.in_run st.live q (subst (λ (z : SymbolicState). IsMet z q) next h))

  pub byte_back : (b : ℕ) → IsMet after (byte_demand b true) → Asks e s (back_byte t k n region x b true m.did.did.kind)
  byte_back b h = back_of (byte_demand b true) h

  -- what a register asks for, by whether it is one of the step's own thread
  abbrev asked_if : (b : Bool) (v j i : ℕ) (w : Bool) → Asked
  asked_if b v j i w =
      if not b then only (register_demand v j i w ∷ [])
      else if not (j == k) then back_other R.program t k (caller_count y) m x j i w m.did.did.kind
      else if nat_lt i (register_count y) then back_top R.program t k n m region x i w m.did.did.kind else only []

  -- a register of the present call
  pub present_back : (i : ℕ) (w : Bool) → i < counts.present → IsMet after (register_demand t k i w) → Asks e s (back_top R.program t k n m region x i w m.did.did.kind)
  present_back i w l h =
      let c = st.counted.present in
      let g : i < register_count y = omega (arith, l, c) in
      picked e s (t == t) (k == k) (nat_lt i (register_count y)) (only (register_demand t k i w ∷ [])) (back_other R.program t k (caller_count y) m x k i w m.did.did.kind)
      (back_top R.program t k n m region x i w m.did.did.kind) (only []) (eq-eqb t t refl) (eq-eqb k k refl) (lt-ltb i (register_count y) g) (back_of (register_demand t k i w) h)

  -- and of another
  pub other_back : (j i : ℕ) (w : Bool) → (j ≡ k → ⊥) → IsMet after (register_demand t j i w) → Asks e s (back_other R.program t k (caller_count y) m x j i w m.did.did.kind)
  other_back j i w o h = go (j == k) refl
    where
      go : (b : Bool) → (j == k) ≡ b → Asks e s (back_other R.program t k (caller_count y) m x j i w m.did.did.kind)
      go true f = absurd (o (eqb-true j k f))
      go false f =
          passed e s (t == t) (j == k) (only (register_demand t j i w ∷ [])) (back_other R.program t k (caller_count y) m x j i w m.did.did.kind)
          (if nat_lt i (register_count y) then back_top R.program t k n m region x i w m.did.did.kind else only []) (eq-eqb t t refl) f (back_of (register_demand t j i w) h)

  -- behind the end of the present call
  beyond : (i : ℕ) (w : Bool) → register_count y ≤ i → IsMet s (register_demand t k i w)
  beyond i w l =
      let f : length (top_of cs) ≤ i = omega (arith, l, long) in
      subst (λ (c : List Symbolic). is_met w (slice_index_or c i unset) ≡ true) (sym (top_is k cs tall))
      (subst (λ (z : Symbolic). is_met w z ≡ true) (sym (past_end (top_of cs) i unset f)) refl)

  -- behind the end of the call under the present one
  under_is : (c : List (List Symbolic)) (j : ℕ) → length c ≡ suc j → call_at j c ≡ top_of (under_top c)
  under_is [] j q = absurd (omega (arith, q))
  under_is (rs ∷ low) j q = go (suc (length low) == j) refl
    where
      go : (b : Bool) → (suc (length low) == j) ≡ b → (if b then rs else call_at j low) ≡ top_of low
      go true f = let z : suc (length low) ≡ j = eqb-true (suc (length low)) j f in absurd (omega (arith, z, q))
      go false f = top_is j low (omega (arith, q))

  pub beyond_under : (j i : ℕ) (w : Bool) → k ≡ suc j → caller_count y ≤ i → IsMet s (register_demand t j i w)
  beyond_under j i w q l =
      let c = callers_long (Likes every) cs cu alike in
      let f : length (top_of (under_top cs)) ≤ i = omega (arith, l, c) in
      subst (λ (c : List Symbolic). is_met w (slice_index_or c i unset) ≡ true) (sym (under_is cs j (tall ∙ q)))
      (subst (λ (z : Symbolic). is_met w z ≡ true) (sym (past_end (top_of (under_top cs)) i unset f)) refl)

  pub no_call : k ≡ 0 → (i : ℕ) (w : Bool) → IsMet s (register_demand t 0 i w)
  no_call q i w = subst (λ (c : List (List Symbolic)). is_met w (slice_index_or (call_at 0 c) i unset) ≡ true) (sym (empty cs (tall ∙ q))) refl
    where
      empty : (c : List (List Symbolic)) → length c ≡ 0 → c ≡ []
      empty [] q = refl
      empty (rs ∷ low) q = absurd (omega (arith, q))

  -- what a step leaves that sets these registers of the present call
  module _ (sets : ℕ → Bool)
      (low : (j i : ℕ) (w : Bool) → j < k → Asks e s (back_other R.program t k (caller_count y) m x j i w m.did.did.kind) → IsMet s (register_demand t j i w))
      (top : (i : ℕ) (w : Bool) → sets i ≡ false → i < register_count y → Asks e s (back_top R.program t k n m region x i w m.did.did.kind) → IsMet s (register_demand t k i w)) where
    present : (i : ℕ) (w : Bool) → sets i ≡ false → (c : Bool) → nat_lt i (register_count y) ≡ c →
        Asks e s (if c then back_top R.program t k n m region x i w m.did.did.kind else only []) → IsMet s (register_demand t k i w)
    present i w f true g h = top i w f (ltb-true i (register_count y) g) h
    present i w f false g h = beyond i w (ltb-false i (register_count y) g)

    own : (j i : ℕ) (w : Bool) → (IsAbove t k sets t j i → ⊥) → (b : Bool) → (j == k) ≡ b →
        Asks e s (if not b then back_other R.program t k (caller_count y) m x j i w m.did.did.kind
        else if nat_lt i (register_count y) then back_top R.program t k n m region x i w m.did.did.kind else only []) → IsMet s (register_demand t j i w)
    own j i w o false f h = go (cases_lt j k)
      where
        above : (k < j) ⊎ (j ≤ k) → k ≤ j → IsMet s (register_demand t j i w)
        above (inl g) l = absurd (o (refl, inl g))
        above (inr g) l = let z : j ≡ k = omega (arith, l, g) in absurd (true≢false (sym (eq-eqb j k z) ∙ f))

        go : (j < k) ⊎ (k ≤ j) → IsMet s (register_demand t j i w)
        go (inl l) = low j i w l h
        go (inr l) = above (cases_lt k j) l
    own j i w o true f h = subst (λ (c : ℕ). IsMet s (register_demand t c i w)) (sym q) (set (sets i) refl)
      where
        q : j ≡ k
        q = eqb-true j k f

        set : (b : Bool) → sets i ≡ b → IsMet s (register_demand t k i w)
        set true g = absurd (o (refl, inr (q, g)))
        set false g = present i w g (nat_lt i (register_count y)) refl h

    pub registers_leave : (v j i : ℕ) (w : Bool) → (IsAbove t k sets v j i → ⊥) → IsMet after (register_demand v j i w) → IsMet s (register_demand v j i w)
    registers_leave v j i w o h = go (v == t) refl (back_of (register_demand v j i w) h)
      where
        go : (b : Bool) → (v == t) ≡ b → Asks e s (asked_if b v j i w) → IsMet s (register_demand v j i w)
        go false f h = h.0.0
        go true f h =
            let q : v ≡ t = eqb-true v t f in
            subst (λ (c : ℕ). IsMet s (register_demand c j i w)) (sym q)
            (own j i w (λ z. o (subst (λ (c : ℕ). IsAbove t k sets c j i) (sym q) z)) (j == k) refl h)

  -- a register of another thread
  pub other_thread : (v j i : ℕ) (w : Bool) → (v ≡ t → ⊥) → IsMet after (register_demand v j i w) → IsMet s (register_demand v j i w)
  other_thread v j i w o h = go (v == t) refl (back_of (register_demand v j i w) h)
    where
      go : (b : Bool) → (v == t) ≡ b → Asks e s (asked_if b v j i w) → IsMet s (register_demand v j i w)
      go false f h = h.0.0
      go true f h = absurd (o (eqb-true v t f))
