-- One step back over a live step of a run: from what is known after it to what is known before.
use Rattle.std.proofs.Common.{◌≡◌, ℕ, zero, suc, ◌<◌, ◌≤◌, ◌==◌, Bool, true, false, List, [], ◌∷◌, length, Option, Some, None, refl, sym, ap, ◌∙◌, subst}
use Rattle.std.proofs.Common.{inl, inr, ◌⊎◌, arith, ltb-true}
use Rattle.std.specs.Prelude.{Contains, nat_lt, not, slice_index_or, if◌then◌else◌}
use Rattle.std.specs.List.{AllZip}
use Rattle.std.proofs.lemmas.Bool.{true≢false, eqb-true, eq-eqb, cases_lt}
use Rattle.pg_ir.specs.declared.instr.Instr.{Instr}
use Rattle.pg_run_trace.specs.declared.step.StepKind.TheVariants as kinds
use Rattle.pg_run_trace.specs.declared.step.Access.{Access}
use Rattle.pg_run_trace.specs.Steps.{range_of}
use Rattle.pg_law_least.specs.pg_slice_rules.Moments.{Moment, instr_in, thread_in}
use Rattle.pg_law_least.specs.pg_slice_rules.Freeable.{FreeRegion, bounds_of}
use Rattle.pg_law_least.specs.pg_slice_rules.SymbolicValues.{Symbolic, is_within, unset}
use Rattle.pg_law_least.specs.pg_slice_rules.Extents.{Extent, edge_in, is_live}
use Rattle.pg_law_least.specs.pg_slice_rules.Known.{Reference, SymbolicState, Seen, Taken, SymbolicThread, after_step, is_branch, no_thread, region_of, registers_of, thread_of, top_of, under_top}
use Rattle.pg_law_least.specs.Keeps.{ExtentsKeep, MaySetPhis, every, is_store, steps_of}
use Rattle.pg_law_least.proofs.AlikeLists.{length_like}
use Rattle.pg_law_least.proofs.KeptLikeness.{IsLink}
use Rattle.pg_law_least.proofs.LiveSteps.{CallsLike, calls_by, top_like}
use Rattle.pg_law_least.proofs.ThreadsAfterSteps.{bytes_after, bytes_next, calls_after, live_at, own_bytes, own_calls, own_words, thread_other, thread_own, words_behind, words_next}
use Rattle.pg_law_least.proofs.OldestFreeExtent.{height_by, live_stand}
use Rattle.pg_law_least.proofs.KnownCallCounts.{region_branch}
use Rattle.pg_law_least.proofs.LeftUnknown.{branch_plain}
use Rattle.pg_law_least.proofs.LiveStepsInside.{none_above, plain_edge}
use Rattle.pg_law_least.proofs.AlikeKnowledge.{RunLike, ThreadLike}
use Rattle.pg_law_demands.specs.Cells.{Byte, Cell, Demand, IsMet, Register, Word, call_at, cell_symbolic, is_met}
use Rattle.pg_law_demands.specs.Back.{back, back_cell, back_other, back_top, caller_count, only, register_count, register_demand}
use Rattle.pg_law_demands.proofs.DemandsBack.{Asks, byte_back, kind_back, other_back, word_back}

pub past_end : {A : Type 0} (xs : List A) (i : ℕ) (z : A) → length xs ≤ i → slice_index_or xs i z ≡ z
past_end [] i z l = refl
past_end (x ∷ xs) zero z l = absurd (omega (arith, l))
past_end (x ∷ xs) (suc i) z l = past_end xs i z (omega (arith, l))

pub callers_long : (L : Symbolic → Symbolic → Type 0) (cs ct : List (List Symbolic)) → AllZip (AllZip L) cs ct → length (top_of (under_top ct)) ≡ length (top_of (under_top cs))
callers_long L [] [] h = refl
callers_long L [] (rt ∷ ct) h = absurd h
callers_long L (rs ∷ cs) [] h = absurd h
callers_long L (rs ∷ []) (rt ∷ []) h = refl
callers_long L (rs ∷ []) (rt ∷ ru ∷ ct) h = absurd h.1
callers_long L (rs ∷ rv ∷ cs) (rt ∷ []) h = absurd h.1
callers_long L (rs ∷ rv ∷ cs) (rt ∷ ru ∷ ct) h = sym (length_like L rv ru h.1.0)

-- step n, with what is known before it
abbrev pub seen_with : Reference → ℕ → Moment → Bool → SymbolicState → Seen
seen_with R n m live s = record { number = n; moment = m; region = region_of R.program R.regions m (instr_in R.program m); live = live; before = s }

abbrev pub of_every : Reference → ℕ → Moment → SymbolicState → Seen
of_every R n m u = seen_with R n m (is_live every.pinned (thread_of u (thread_in m)).extents) u

-- a step in the run in which all is known, its thread and region, and the thread's calls by what is known under some decisions
-- and under all
pub record Here : Type 0 where
  pub y : Seen
  pub t : ℕ
  pub region : Option FreeRegion
  pub cs : List (List Symbolic)
  pub cu : List (List Symbolic)

abbrev pub here_at : Reference → ℕ → Moment → SymbolicState → SymbolicState → Here
here_at R n m s u = record {
  y = of_every R n m u;
  t = thread_in m;
  region = region_of R.program R.regions m (instr_in R.program m);
  cs = (thread_of s (thread_in m)).calls;
  cu = (thread_of u (thread_in m)).calls;
}

-- what is known of other threads' registers stays
pub other_thread : (R : Reference) (e : Taken) (n : ℕ) (m : Moment) (s : SymbolicState) (i j r : ℕ) (whole : Bool) → (i ≡ thread_in m → ⊥)
    → IsMet (after_step R e n m s) (register_demand i j r whole) → IsMet s (register_demand i j r whole)
other_thread R e n m s i j r whole o h = go (cases_lt i (length s.threads))
  where
    go : (i < length s.threads) ⊎ (length s.threads ≤ i) → IsMet s (register_demand i j r whole)
    go (inl l) = subst (λ (z : SymbolicThread). is_met whole (slice_index_or (call_at j z.calls) r unset) ≡ true) (thread_other R e n m s i o l) h
    go (inr l) = subst (λ (z : SymbolicThread). is_met whole (slice_index_or (call_at j z.calls) r unset) ≡ true) (sym (past_end s.threads i no_thread l)) refl

module _ (R : Reference) (keeps : ExtentsKeep R) (e : Taken) (bound : ℕ) (L : Symbolic → Symbolic → Type 0) (link : IsLink e every bound L) where
  abbrev pub IsRun : SymbolicState → SymbolicState → Type 0
  IsRun s u = RunLike R keeps e every bound L link s u u

  module _ (n : ℕ) (m : Moment) (s u : SymbolicState) (like : IsRun s u)
      (in_run : Contains (steps_of R) (of_every R n m u))
      (live : is_live e.pinned (thread_of u (thread_in m)).extents ≡ true) where
    open here_at R n m s u use {y, t, region, cs, cu}

    own : ThreadLike R keeps e every bound L link s.bytes (thread_of s t) (thread_of u t) (thread_of u t)
    own = like.threads t

    pub live_before : live_at R e n m s ≡ true
    live_before = ap (is_live e.pinned) own.first ∙ live

    begun_before : t < length s.threads
    begun_before = let a = keeps.known y in_run in let b = like.fewer in omega (arith, a, b)

    as_high : length cs ≡ length cu
    as_high = own.height ∙ ap (λ (o : Option Extent). height_by o (length cu)) (live_stand e (thread_of u t).extents live)

    pub high : length cs ≡ length m.calls
    high = as_high ∙ keeps.calls y in_run

    alike : CallsLike R.program e every bound L link cs cu
    alike = none_above R.program e every bound L link cs cu own.above as_high

    registers_long : length (registers_of u t) ≡ length (registers_of s t)
    registers_long = sym (length_like L (registers_of s t) (registers_of u t) (top_like R.program e every bound L link cs cu alike))

    words_long : length u.words ≡ length s.words
    words_long = sym (length_like L s.words u.words like.words)

    own_edge : (x : Instr) → instr_in R.program m ≡ Some x → (r : FreeRegion) → region ≡ Some r → MaySetPhis R.program r.sets (edge_in R.program m (Some x))
    own_edge x q r h =
        let b : is_branch m.did.did.kind ≡ true = region_branch R.program R.regions m x r (subst (λ (o : Option Instr). region_of R.program R.regions m o ≡ Some r) q h) in
        subst (MaySetPhis R.program r.sets) (plain_edge R.program m m.did.did.kind (branch_plain m.did.did.kind b) ∙ ap (edge_in R.program m) q) (keeps.own y in_run r h)

    fits : (x : Instr) → instr_in R.program m ≡ Some x → (b : ℕ) (a : Access) → m.did.did.kind ≡ kinds.Access a → is_store x.op ≡ true → is_within (range_of a) b ≡ true →
        is_within (bounds_of a.pointer) b ≡ true
    fits x q b a f h = keeps.bounds y in_run a (record { instr = x; stands = q; store = h; kind = f }) b

    calls_now : (o : Option Instr) → instr_in R.program m ≡ o → (thread_of (after_step R e n m s) t).calls ≡ calls_after R.program e n m region o s cs
    calls_now o q =
        ap (λ (h : SymbolicThread). h.calls) (thread_own R e n m s begun_before)
        ∙ ap (λ (b : Bool). own_calls R.program e n m region s b (instr_in R.program m)) live_before
        ∙ ap (λ (o : Option Instr). calls_after R.program e n m region o s cs) q

    bytes_now : (o : Option Instr) → instr_in R.program m ≡ o → (after_step R e n m s).bytes ≡ bytes_after R.program e n m region o s
    bytes_now o q =
        bytes_next R e n m s
        ∙ ap (λ (b : Bool). own_bytes R.program e n m region s b (instr_in R.program m)) live_before
        ∙ ap (λ (o : Option Instr). bytes_after R.program e n m region o s) q

    words_now : (o : Option Instr) → instr_in R.program m ≡ o → (after_step R e n m s).words ≡ words_behind R.program m o s
    words_now o q =
        words_next R e n m s
        ∙ ap (λ (b : Bool). own_words R.program e n m region s b (instr_in R.program m)) live_before
        ∙ ap (λ (o : Option Instr). words_behind R.program m o s) q

    module _ (x : Instr) (stands : instr_in R.program m ≡ Some x) where
      present : (r : ℕ) (whole : Bool) (c : List (List Symbolic)) → cs ≡ c → r < length (top_of c) →
          is_met whole (slice_index_or (call_at (length m.calls) (calls_by R.program e n m region x m.did.did.kind s c)) r unset) ≡ true →
          Asks e s (back_top R.program t (length m.calls) n m region x r whole m.did.did.kind)
      present r whole [] q l h = absurd (omega (arith, l))
      present r whole (rs ∷ low) q l h = kind_back R.program e n m region x s rs low q (ap length (sym q) ∙ high) (own_edge x stands) r whole l m.did.did.kind h

      own_register : (j r : ℕ) (whole : Bool) → is_met whole (slice_index_or (call_at j (calls_by R.program e n m region x m.did.did.kind s cs)) r unset) ≡ true →
          (b : Bool) → (j == length m.calls) ≡ b → (c : Bool) → nat_lt r (length (registers_of u t)) ≡ c →
          Asks e s (if not b then back_other R.program t (length m.calls) (caller_count y) m x j r whole m.did.did.kind
          else if c then back_top R.program t (length m.calls) n m region x r whole m.did.did.kind else only [])
      own_register j r whole h false f c g =
          other_back R.program e n m region x s cs refl high j (λ q. true≢false (sym (eq-eqb j (length m.calls) q) ∙ f)) r whole (caller_count y) (callers_long L cs cu alike) m.did.did.kind h
      own_register j r whole h true f false g = (tt, tt)
      own_register j r whole h true f true g =
          let q : j ≡ length m.calls = eqb-true j (length m.calls) f in
          let l : r < length (registers_of u t) = ltb-true r (length (registers_of u t)) g in
          present r whole cs refl (omega (arith, l, registers_long))
          (subst (λ (i : ℕ). is_met whole (slice_index_or (call_at i (calls_by R.program e n m region x m.did.did.kind s cs)) r unset) ≡ true) q h)

      register_back : (i j r : ℕ) (whole : Bool) → IsMet (after_step R e n m s) (register_demand i j r whole) → (b : Bool) → (i == t) ≡ b →
          Asks e s (if not b then only (register_demand i j r whole ∷ [])
          else if not (j == length m.calls) then back_other R.program t (length m.calls) (caller_count y) m x j r whole m.did.did.kind
          else if nat_lt r (register_count y) then back_top R.program t (length m.calls) n m region x r whole m.did.did.kind else only [])
      register_back i j r whole h false f = ((other_thread R e n m s i j r whole (λ q. true≢false (sym (eq-eqb i t q) ∙ f)) h, tt), tt)
      register_back i j r whole h true f =
          let q : i ≡ t = eqb-true i t f in
          let z : is_met whole (slice_index_or (call_at j (thread_of (after_step R e n m s) t).calls) r unset) ≡ true =
          subst (λ (i : ℕ). is_met whole (slice_index_or (call_at j (thread_of (after_step R e n m s) i).calls) r unset) ≡ true) q h in
          own_register j r whole (subst (λ (c : List (List Symbolic)). is_met whole (slice_index_or (call_at j c) r unset) ≡ true) (calls_now (Some x) stands) z)
          (j == length m.calls) refl (nat_lt r (length (registers_of u t))) refl

      cell_back : (whole : Bool) (c : Cell) → is_met whole (cell_symbolic (after_step R e n m s) c) ≡ true → Asks e s (back_cell R.program y x whole c)
      cell_back whole (Register i j r) h = register_back i j r whole h (i == t) refl
      cell_back whole (Byte b) h = byte_back R.program e n m region x s high b whole m.did.did.kind (fits x stands b)
          (subst (λ (f : ℕ → Symbolic). is_met whole (f b) ≡ true) (bytes_now (Some x) stands) h)
      cell_back whole (Word w) h =
          rw words_long (word_back R.program e n m region x s high w whole m.did.did.kind
          (subst (λ (ws : List Symbolic). is_met whole (slice_index_or ws w unset) ≡ true) (words_now (Some x) stands) h))

    -- where there is no instruction
    same_cell : instr_in R.program m ≡ None → (whole : Bool) (c : Cell) → is_met whole (cell_symbolic (after_step R e n m s) c) ≡ true → is_met whole (cell_symbolic s c) ≡ true
    same_cell q whole (Register i j r) h = go (i == t) refl
      where
        go : (b : Bool) → (i == t) ≡ b → is_met whole (cell_symbolic s (Register i j r)) ≡ true
        go false f = other_thread R e n m s i j r whole (λ q. true≢false (sym (eq-eqb i t q) ∙ f)) h
        go true f =
            let z : i ≡ t = eqb-true i t f in
            subst (λ (i : ℕ). is_met whole (slice_index_or (call_at j (thread_of s i).calls) r unset) ≡ true) (sym z)
            (subst (λ (c : List (List Symbolic)). is_met whole (slice_index_or (call_at j c) r unset) ≡ true) (calls_now None q)
            (subst (λ (i : ℕ). is_met whole (slice_index_or (call_at j (thread_of (after_step R e n m s) i).calls) r unset) ≡ true) z h))
    same_cell q whole (Byte b) h = subst (λ (f : ℕ → Symbolic). is_met whole (f b) ≡ true) (bytes_now None q) h
    same_cell q whole (Word w) h = subst (λ (ws : List Symbolic). is_met whole (slice_index_or ws w unset) ≡ true) (words_now None q) h

    -- a demand that is met after the step asks for what is met before it, and for decisions that are taken
    pub step_back : (q : Demand) → IsMet (after_step R e n m s) q → Asks e s (back R.program y (instr_in R.program m) q)
    step_back q h = go (instr_in R.program m) refl
      where
        go : (o : Option Instr) → instr_in R.program m ≡ o → Asks e s (back R.program y o q)
        go None f = ((same_cell f q.whole q.cell h, tt), tt)
        go (Some x) f = cell_back x f q.whole q.cell h
