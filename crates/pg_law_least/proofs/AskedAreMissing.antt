-- What is asked for isn't taken, and is a decision of a step of the run.
use Rattle.std.proofs.Common.{◌≡◌, ℕ, zero, suc, ◌+◌, ◌<◌, ◌≤◌, Bool, true, false, List, [], ◌∷◌, ◌++◌, length, Option, Some, None, refl, sym, ◌∙◌}
use Rattle.std.proofs.Common.{subst, inl, inr, ◌⊎◌, arith}
use Rattle.std.specs.Prelude.{Contains, slice_index, slice_index_or, slice_set, if◌then◌else◌}
use Rattle.std.specs.List.{AllZip, AllByRecursion}
use Rattle.std.proofs.lemmas.Bool.{true≢false}
use Rattle.pg_ir.specs.declared.instr.Instr.{Instr}
use Rattle.pg_ir.specs.Program.{types_of}
use Rattle.pg_run_trace.specs.declared.turn.TurnKind.{TurnKind}
use Rattle.pg_run_trace.specs.declared.turn.TurnKind.TheVariants as turns
use Rattle.pg_run_trace.specs.declared.step.StepKind.{StepKind}
use Rattle.pg_run_trace.specs.declared.step.StepKind.TheVariants as kinds
use Rattle.pg_run_trace.specs.declared.step.Event.{Event}
use Rattle.pg_slice_rules.specs.declared.decision.Decision.{Decision}
use Rattle.pg_slice_rules.specs.declared.decision.Decision.TheVariants.{Pinned, Exact}
use Rattle.pg_slice_rules.specs.Moments.{Moment, instr_in, thread_in}
use Rattle.pg_slice_rules.specs.Freeable.{FreeRegion}
use Rattle.pg_slice_rules.specs.SymbolicValues.{Symbolic, Known, Bounded, Unknown, blames, bounds_blames, unset}
use Rattle.pg_slice_rules.specs.Known.{Reference, SymbolicState, Seen, Taken, SymbolicThread, after_step, fresh_thread, no_thread, seen_from, seen_in, start_of, thread_of, with_extents}
use Rattle.pg_slice_rules.specs.Rules.{Need, Value, Bounds, is_bound, is_disturbed, is_shared, need_blames, value_needs, bounds_needs}
use Rattle.pg_slice_rules.specs.Closed.{asks, asks_at}
use Rattle.pg_law_least.proofs.AlikeLists.{replicate_like}
use Rattle.pg_region_paths.proofs.Elements.{cases as cases_in, none_in}
use Rattle.pg_law_least.proofs.KeptLikeness.{IsLink}
use Rattle.pg_law_least.proofs.LiveSteps.{CallsLike, bytes_like, calls_like, top_like, words_like}
use Rattle.pg_law_least.proofs.ThreadsAfterSteps.{bytes_next, calls_after, bytes_after, words_behind, extents_after, made_at, made_by, made_in, next_calls, next_made, own_region, live_at}
use Rattle.pg_law_least.proofs.ThreadsAfterSteps.{threads_next}
use Rattle.pg_law_least.proofs.ThreadsAfterSteps.{with_calls, words_next}
use Rattle.pg_law_least.proofs.BlamedAreMissing.{BlamesNew, IsNew, SameNew, new_link}
use Rattle.pg_law_least.proofs.AskedOfValues.{NeedLike, NeedsWithin, SeenLike, bounds_within, values_within}
use Rattle.pg_law_least.proofs.AskedDecisions.{By_disturbed, By_bounds, By_pins, By_shared, By_values, IsAskedBy, all_in, asked_by, asked_if, in_all_of}

set_all : {A : Type 0} (P : A → Type 0) (xs : List A) (i : ℕ) (x : A) → AllByRecursion P xs → P x → AllByRecursion P (slice_set xs i x)
set_all P [] i x h k = tt
set_all P (y ∷ xs) zero x h k = (k, h.1)
set_all P (y ∷ xs) (suc i) x h k = (h.0, set_all P xs i x h.1 k)

index_all : {A : Type 0} (P : A → Type 0) (xs : List A) (i : ℕ) (z : A) → P z → AllByRecursion P xs → P (slice_index_or xs i z)
index_all P [] i z k h = k
index_all P (y ∷ xs) zero z k h = h.0
index_all P (y ∷ xs) (suc i) z k h = index_all P xs i z k h.1

append_all : {A : Type 0} (P : A → Type 0) (xs ys : List A) → AllByRecursion P xs → AllByRecursion P ys → AllByRecursion P (xs ++ ys)
append_all P [] ys h k = k
append_all P (x ∷ xs) ys h k = (h.0, append_all P xs ys h.1 k)

module _ (R : Reference) (d : Taken) (bound : ℕ) where
  abbrev L : Symbolic → Symbolic → Type 0
  L = SameNew d bound

  k : IsLink d d bound L
  k = new_link d bound

  abbrev CallsNew : SymbolicThread → Type 0
  CallsNew th = CallsLike R.program d d bound L k th.calls th.calls

  record StateNew (s : SymbolicState) : Type 0 where
    threads : AllByRecursion CallsNew s.threads
    bytes : (b : ℕ) → L (s.bytes b) (s.bytes b)
    words : AllZip L s.words s.words

  unset_new : L unset unset
  unset_new = (refl, tt)

  fresh_new : (f : ℕ) → CallsNew (fresh_thread R.program f)
  fresh_new f = (replicate_like L (length (types_of R.program f)) unset unset_new, tt)

  start_new : StateNew (start_of R.program)
  start_new = record {
    threads = (fresh_new R.program.main, tt);
    bytes = λ b. (refl, tt);
    words = ((refl, tt), tt);
  }

  module _ (n : ℕ) (l : n < bound) (m : Moment) (s : SymbolicState) (h : StateNew s) where
    abbrev th : SymbolicThread
    th = thread_of s (thread_in m)

    th_new : CallsNew th
    th_new = index_all CallsNew s.threads (thread_in m) no_thread tt h.threads

    same : d.pinned n ≡ false → d.pinned n ≡ true → ⊥
    same f g = true≢false (sym g ∙ f)

    differs : d.exact n ≡ false → d.exact n ≡ true → ⊥
    differs f g = true≢false (sym g ∙ f)

    calls_new : (b : Bool) (i : Option Instr) → CallsNew (record { calls = if b then calls_after R.program d n m (own_region R d n m s) i s th.calls else th.calls; extents = [] })
    calls_new false i = th_new
    calls_new true None = th_new
    calls_new true (Some x) = calls_like R.program d d bound L k n l m (own_region R d n m s) x (λ f g r q. absurd (same f g)) m.did.did.kind s s h.bytes h.words th.calls th.calls th_new

    bytes_new : (b : Bool) (i : Option Instr) (j : ℕ) →
        L ((if b then bytes_after R.program d n m (own_region R d n m s) i s else s.bytes) j) ((if b then bytes_after R.program d n m (own_region R d n m s) i s else s.bytes) j)
    bytes_new false i j = h.bytes j
    bytes_new true None j = h.bytes j
    bytes_new true (Some x) j = bytes_like R.program d d bound L k n l m (own_region R d n m s) x (λ f g r q. absurd (same f g)) m.did.did.kind s s (λ a q o f g. absurd (differs f g))
        (top_like R.program d d bound L k th.calls th.calls th_new) h.bytes h.words j

    words_new : (b : Bool) (i : Option Instr) → AllZip L (if b then words_behind R.program m i s else s.words) (if b then words_behind R.program m i s else s.words)
    words_new false i = h.words
    words_new true None = h.words
    words_new true (Some x) = words_like R.program d d bound L k n l m (own_region R d n m s) x (λ f g r q. absurd (same f g)) m.did.did.kind s s
        (top_like R.program d d bound L k th.calls th.calls th_new) h.words

    made_event : (e : Event) (kind : TurnKind) → AllByRecursion CallsNew (made_by R.program e kind)
    made_event e turns.Create = (fresh_new (slice_index e.operands 2), tt)
    made_event e kind = tt

    made_kind : (kind : StepKind) → AllByRecursion CallsNew (made_in R.program kind)
    made_kind (kinds.Event e) = made_event e e.kind
    made_kind kind = tt

    made_new : (b : Bool) (i : Option Instr) → AllByRecursion CallsNew (if b then made_at R.program m i else [])
    made_new false i = tt
    made_new true None = tt
    made_new true (Some x) = made_kind m.did.did.kind

    renewed : AllByRecursion CallsNew (with_calls (thread_in m) (next_calls R d n m s) s.threads ++ next_made R d n m s)
    renewed = append_all CallsNew _ _ (set_all CallsNew s.threads (thread_in m) _ h.threads (calls_new (live_at R d n m s) (instr_in R.program m)))
        (made_new (live_at R d n m s) (instr_in R.program m))

    threads_new : AllByRecursion CallsNew (with_extents (thread_in m) (extents_after R d n m s) (with_calls (thread_in m) (next_calls R d n m s) s.threads ++ next_made R d n m s))
    threads_new = set_all CallsNew (with_calls (thread_in m) (next_calls R d n m s) s.threads ++ next_made R d n m s) (thread_in m) _ renewed
        (index_all CallsNew (with_calls (thread_in m) (next_calls R d n m s) s.threads ++ next_made R d n m s) (thread_in m) no_thread tt renewed)

    step_new : StateNew (after_step R d n m s)
    step_new = record {
      threads = subst (AllByRecursion CallsNew) (sym (threads_next R d n m s)) threads_new;
      bytes = λ b. subst (λ (f : ℕ → Symbolic). L (f b) (f b)) (sym (bytes_next R d n m s)) (bytes_new (live_at R d n m s) (instr_in R.program m) b);
      words = subst (λ (ws : List Symbolic). AllZip L ws ws) (sym (words_next R d n m s)) (words_new (live_at R d n m s) (instr_in R.program m));
    }

    seen_new : (live : Bool) (region : Option FreeRegion) → SeenLike L (record { number = n; moment = m; region = region; live = live; before = s })
        (record { number = n; moment = m; region = region; live = live; before = s })
    seen_new live region = record {
      same = refl;
      live = λ q. q;
      registers = λ q. top_like R.program d d bound L k th.calls th.calls th_new;
      bytes = h.bytes;
      words = h.words;
    }

  -- each step of the run
  each_new : (n : ℕ) (s : SymbolicState) (ms : List Moment) → n + length ms ≤ bound → StateNew s → (x : Seen) → Contains (seen_from R d n s ms) x → SeenLike L x x × (x.number < bound)
  unfolding seen_from
  each_new n s [] l h x c = absurd (none_in x c)
  each_new n s (m ∷ ms) l h x c = go (cases_in _ (seen_from R d (suc n) (after_step R d n m s) ms) x c) (λ g t. each_new (suc n) (after_step R d n m s) ms (omega (arith, l)) g x t)
    where
      below : n < bound
      below = omega (arith, l)

      go : (record { number = n; moment = m; region = own_region R d n m s; live = live_at R d n m s; before = s } ≡ x) ⊎ Contains (seen_from R d (suc n) (after_step R d n m s) ms) x →
          (StateNew (after_step R d n m s) → Contains (seen_from R d (suc n) (after_step R d n m s) ms) x → SeenLike L x x × (x.number < bound)) → SeenLike L x x × (x.number < bound)
      go (inl e) more = subst (λ (z : Seen). SeenLike L z z × (z.number < bound)) e (seen_new n below m s h (live_at R d n m s) (own_region R d n m s), below)
      go (inr t) more = more (step_new n below m s h) t

  blamed : (s : Symbolic) (x : Decision) → BlamesNew d bound s → Contains (blames s) x → IsNew d bound x
  blamed (Known f g) x h c = absurd (none_in x c)
  blamed (Bounded f y) x h c = only (cases_in y [] x c)
    where
      only : (y ≡ x) ⊎ Contains [] x → IsNew d bound x
      only (inl e) = subst (IsNew d bound) e h
      only (inr t) = absurd (none_in x t)
  blamed (Unknown y) x h c = only (cases_in y [] x c)
    where
      only : (y ≡ x) ⊎ Contains [] x → IsNew d bound x
      only (inl e) = subst (IsNew d bound) e h
      only (inr t) = absurd (none_in x t)

  bounds_blamed : (s : Symbolic) (x : Decision) → BlamesNew d bound s → Contains (bounds_blames s) x → IsNew d bound x
  bounds_blamed (Known f g) x h c = absurd (none_in x c)
  bounds_blamed (Bounded f y) x h c = absurd (none_in x c)
  bounds_blamed (Unknown y) x h c = blamed (Unknown y) x h c

  need_new : (a b : Need) (x : Decision) → NeedLike L a b → Contains (need_blames a) x → IsNew d bound x
  need_new (Value s a) (Value t b) x h c = blamed s x h.0.1 c
  need_new (Value s a) (Bounds t b) x h c = absurd h
  need_new (Bounds s a) (Value t b) x h c = absurd h
  need_new (Bounds s a) (Bounds t b) x h c = bounds_blamed s x h.0.1 c

  needs_new : (ns ms : List Need) (x : Decision) → NeedsWithin L ns ms → (a : Need) → Contains ns a → Contains (need_blames a) x → IsNew d bound x
  needs_new ns ms x h a c q = let b = all_in (λ (a : Need). (b : Need) × Contains ms b × NeedLike L a b) ns a h c in need_new a b.0 x b.2 q

  rule_new : (all : List Seen) (y : Seen) (x : Decision) → SeenLike L y y → y.number < bound → IsAskedBy R d all y x → IsNew d bound x
  rule_new all y x h l (By_pins c) = let q = asked_if (is_bound y) (d.pinned y.number) (Pinned y.number) x c in subst (IsNew d bound) q.0 (q.2, l)
  rule_new all y x h l (By_values c) = let q = in_all_of need_blames (value_needs R d y) x c in needs_new _ _ x (values_within R d d bound L k y y h) q.0 q.1 q.2
  rule_new all y x h l (By_bounds c) = let q = in_all_of need_blames (bounds_needs R y) x c in needs_new _ _ x (bounds_within R d d bound L k y y h) q.0 q.1 q.2
  rule_new all y x h l (By_disturbed c) = let q = asked_if (is_disturbed all y) (d.pinned y.number) (Pinned y.number) x c in subst (IsNew d bound) q.0 (q.2, l)
  rule_new all y x h l (By_shared c) = let q = asked_if (is_shared all y) (d.exact y.number) (Exact y.number) x c in subst (IsNew d bound) q.0 (q.2, l)

-- what is asked for
pub asks_new : (R : Reference) (d : Taken) (x : Decision) → Contains (asks R d) x → IsNew d (length R.moments) x
unfolding asks
asks_new R d x c =
    let q = in_all_of (asks_at R d (seen_in R d)) (seen_in R d) x c in
    let s = each_new R d (length R.moments) 0 (start_of R.program) R.moments (omega arith) (start_new R d (length R.moments)) q.0 q.1 in
    rule_new R d (length R.moments) (seen_in R d) q.0 x s.0 s.1 (asked_by R d (seen_in R d) q.0 x q.2)
