-- What was followed along the moments holds of the steps with what is known before them.
use Rattle.std.proofs.Common.{◌≡◌, ℕ, zero, suc, ◌-◌, ◌<◌, ◌≤◌, Bool, true, false, List, [], ◌∷◌, length, Option, Some, None, refl, sym, ap, ◌∙◌, subst}
use Rattle.std.proofs.Common.{inl, inr, ◌⊎◌, arith}
use Rattle.std.specs.Prelude.{Contains, filter, not, slice_index_or}
use Rattle.std.proofs.lemmas.Bool.{cases_eq, cases_lt}
use Rattle.pg_ir.specs.declared.instr.Instr.{Instr}
use Rattle.pg_run_trace.specs.declared.turn.TurnKind.{TurnKind}
use Rattle.pg_run_trace.specs.declared.turn.TurnKind.TheVariants as turns
use Rattle.pg_run_trace.specs.declared.step.StepKind.{StepKind}
use Rattle.pg_run_trace.specs.declared.step.StepKind.TheVariants as kinds
use Rattle.pg_run_trace.specs.declared.step.Access.{Access}
use Rattle.pg_run_trace.specs.declared.step.Event.{Event}
use Rattle.pg_slice_rules.specs.Moments.{Moment, instr_in, thread_in}
use Rattle.pg_slice_rules.specs.Freeable.{FreeRegion, bounds_of}
use Rattle.pg_slice_rules.specs.SymbolicValues.{is_within}
use Rattle.pg_run_trace.specs.Steps.{range_of}
use Rattle.pg_slice_rules.specs.Extents.{Extent, begun, ends, open_after}
use Rattle.pg_slice_rules.specs.Known.{Reference, SymbolicState, Seen, Taken, SymbolicThread, after_step, edge_of, no_thread, seen_from, start_of, thread_of}
use Rattle.pg_law_least.specs.Keeps.{AreStacked, MaySetPhis, depth_of, edge_at, instr_of, is_branching, ExtentsKeep, KeepsTo, StoresBy, every, open_before, open_in, steps_of}
use Rattle.pg_law_least.specs.Along.{Goes, GoesFrom, OpenExtent, StepGoes, Track, calls_behind, extents_behind, extents_in, first_track, made_behind, made_by_event, made_by_kind, region_in}
use Rattle.pg_law_least.specs.Along.{step_at, with_begun}
use Rattle.pg_region_paths.proofs.Elements.{cases as cases_in, here, none_in, there}
use Rattle.pg_law_least.proofs.ThreadsAfterSteps.{extents_after, length_next, live_at, made_at, made_by, made_in, next_calls, next_made, own_calls, own_made, own_region, thread_made, thread_other}
use Rattle.pg_law_least.proofs.ThreadsAfterSteps.{thread_own}
use Rattle.pg_law_least.proofs.OldestFreeExtent.{live_every}
use Rattle.pg_law_least.proofs.KnownCallCounts.{calls_length}

-- ---- steps by their numbers

first_number : (R : Reference) (d : Taken) (n : ℕ) (s : SymbolicState) (ms : List Moment) (x : Seen) → Contains (seen_from R d n s ms) x → n ≤ x.number
unfolding seen_from
first_number R d n s [] x c = absurd (none_in x c)
first_number R d n s (m ∷ ms) x c = go (cases_in _ (seen_from R d (suc n) (after_step R d n m s) ms) x c) (λ c. first_number R d (suc n) (after_step R d n m s) ms x c)
  where
    go : (record { number = n; moment = m; region = own_region R d n m s; live = live_at R d n m s; before = s } ≡ x) ⊎ Contains (seen_from R d (suc n) (after_step R d n m s) ms) x →
        (Contains (seen_from R d (suc n) (after_step R d n m s) ms) x → suc n ≤ x.number) → n ≤ x.number
    go (inl e) more = let q : n ≡ x.number = ap (λ (z : Seen). z.number) e in omega (arith, q)
    go (inr c) more = let q = more c in omega (arith, q)

-- a number names one step
same_number : (R : Reference) (d : Taken) (n : ℕ) (s : SymbolicState) (ms : List Moment) (x y : Seen) → Contains (seen_from R d n s ms) x → Contains (seen_from R d n s ms) y →
    x.number ≡ y.number → x ≡ y
unfolding seen_from
same_number R d n s [] x y c f q = absurd (none_in x c)
same_number R d n s (m ∷ ms) x y c f q =
    go (cases_in _ (seen_from R d (suc n) (after_step R d n m s) ms) x c) (cases_in _ (seen_from R d (suc n) (after_step R d n m s) ms) y f)
    (λ c f. same_number R d (suc n) (after_step R d n m s) ms x y c f q)
  where
    go : (record { number = n; moment = m; region = own_region R d n m s; live = live_at R d n m s; before = s } ≡ x) ⊎ Contains (seen_from R d (suc n) (after_step R d n m s) ms) x →
        (record { number = n; moment = m; region = own_region R d n m s; live = live_at R d n m s; before = s } ≡ y) ⊎ Contains (seen_from R d (suc n) (after_step R d n m s) ms) y →
        (Contains (seen_from R d (suc n) (after_step R d n m s) ms) x → Contains (seen_from R d (suc n) (after_step R d n m s) ms) y → x ≡ y) → x ≡ y
    go (inl e) (inl f) more = sym e ∙ f
    go (inl e) (inr f) more = let a : n ≡ x.number = ap (λ (z : Seen). z.number) e in let b = first_number R d (suc n) (after_step R d n m s) ms y f in absurd (omega (arith, a, b, q))
    go (inr e) (inl f) more = let a : n ≡ y.number = ap (λ (z : Seen). z.number) f in let b = first_number R d (suc n) (after_step R d n m s) ms x e in absurd (omega (arith, a, b, q))
    go (inr e) (inr f) more = more e f

-- ---- extents with their regions

extents_stay : (f : Extent → Bool) (os : List OpenExtent) → extents_in (filter (λ (o : OpenExtent). f o.extent) os) ≡ filter f (extents_in os)
extents_stay f [] = refl
extents_stay f (o ∷ os) = go (f o.extent) refl (extents_stay f os)
  where
    go : (b : Bool) → f o.extent ≡ b → extents_in (filter (λ (o : OpenExtent). f o.extent) os) ≡ filter f (extents_in os) →
        extents_in (filter (λ (o : OpenExtent). f o.extent) (o ∷ os)) ≡ filter f (extents_in (o ∷ os))
    go true q h = rw q (ap (λ es. o.extent ∷ es) h)
    go false q h = rw q h

begun_same : (n depth : ℕ) (region : Option FreeRegion) (os : List OpenExtent) → extents_in (with_begun n depth region os) ≡ begun n depth region (extents_in os)
begun_same n depth None os = refl
begun_same n depth (Some r) os = refl

behind_same : (n depth : ℕ) (region : Option FreeRegion) (edge : Option ℕ) (os : List OpenExtent) →
    extents_in (extents_behind n depth region edge os) ≡ open_after n depth region edge (extents_in os)
behind_same n depth region edge os = extents_stay (λ (e : Extent). not (ends depth edge e)) (with_begun n depth region os)
    ∙ ap (filter (λ (e : Extent). not (ends depth edge e))) (begun_same n depth region os)

filtered_in : {A : Type 0} (f : A → Bool) (xs : List A) (x : A) → Contains (filter f xs) x → Contains xs x
filtered_in f [] x c = c
filtered_in f (y ∷ xs) x c = go (f y) refl (λ c. filtered_in f xs x c)
  where
    go : (b : Bool) → f y ≡ b → (Contains (filter f xs) x → Contains xs x) → Contains (y ∷ xs) x
    go true q more = on (cases_in y (filter f xs) x (rw q at c))
      where
        on : (y ≡ x) ⊎ Contains (filter f xs) x → Contains (y ∷ xs) x
        on (inl e) = subst (Contains (y ∷ xs)) e (here y xs)
        on (inr d) = there y xs x (more d)
    go false q more = there y xs x (more (rw q at c))

-- an extent of the list, with its region
named_in : (os : List OpenExtent) (e : Extent) → Contains (extents_in os) e → (o : OpenExtent) × Contains os o × (o.extent ≡ e)
named_in [] e c = absurd (none_in e c)
named_in (o ∷ os) e c = go (cases_in o.extent (extents_in os) e c) (λ c. named_in os e c)
  where
    go : (o.extent ≡ e) ⊎ Contains (extents_in os) e → (Contains (extents_in os) e → (p : OpenExtent) × Contains os p × (p.extent ≡ e)) →
        (p : OpenExtent) × Contains (o ∷ os) p × (p.extent ≡ e)
    go (inl q) more = (o, here o os, q)
    go (inr d) more = let h = more d in (h.0, there o os h.0 h.1, h.2)

-- ---- threads that are made

made_long : (R : Reference) (m : Moment) (i : Option Instr) → length (made_at R.program m i) ≡ made_behind i m.did.did.kind
made_long R m None = refl
made_long R m (Some x) = kind m.did.did.kind
  where
    event : (v : Event) (k : TurnKind) → length (made_by R.program v k) ≡ made_by_event k
    event v turns.Create = refl
    event v _ = refl

    kind : (k : StepKind) → length (made_in R.program k) ≡ made_by_kind k
    kind (kinds.Event v) = event v v.kind
    kind k = refl

made_extents : (R : Reference) (m : Moment) (i : Option Instr) (j : ℕ) → (slice_index_or (made_at R.program m i) j no_thread).extents ≡ []
made_extents R m None j = refl
made_extents R m (Some x) j = kind m.did.did.kind
  where
    event : (v : Event) (k : TurnKind) (j : ℕ) → (slice_index_or (made_by R.program v k) j no_thread).extents ≡ []
    event v turns.Create zero = refl
    event v turns.Create (suc j) = refl
    event v _ j = refl

    kind : (k : StepKind) → (slice_index_or (made_in R.program k) j no_thread).extents ≡ []
    kind (kinds.Event v) = event v v.kind j
    kind k = refl

made_calls : (R : Reference) (m : Moment) (i : Option Instr) (j : ℕ) → j < made_behind i m.did.did.kind → length (slice_index_or (made_at R.program m i) j no_thread).calls ≡ 1
made_calls R m None j l = absurd (omega (arith, l))
made_calls R m (Some x) j l = kind m.did.did.kind l
  where
    event : (v : Event) (k : TurnKind) (j : ℕ) → j < made_by_event k → length (slice_index_or (made_by R.program v k) j no_thread).calls ≡ 1
    event v turns.Create zero l = refl
    event v turns.Create (suc j) l = absurd (omega (arith, l))
    event v _ j l = absurd (omega (arith, l))

    kind : (k : StepKind) → j < made_by_kind k → length (slice_index_or (made_in R.program k) j no_thread).calls ≡ 1
    kind (kinds.Event v) l = event v v.kind j l
    kind k l = absurd (omega (arith, l))

module _ (R : Reference) where
  -- ---- a step by what it rests on

  keeps_as : (r : FreeRegion) (depth n : ℕ) (m : Moment) (live : Bool) (u : SymbolicState) → KeepsTo R r depth (step_at R n m) →
      KeepsTo R r depth (record { number = n; moment = m; region = region_in R m; live = live; before = u })
  keeps_as r depth n m live u h = record {
    plain = h.plain;
    result = h.result;
    phis = h.phis;
    inner = h.inner;
    deeper = λ q. h.deeper (record { instr = q.instr; value = q.value; stands = q.stands; returns = q.returns });
    target = λ q. h.target (record { instr = q.instr; value = q.value; stands = q.stands; returns = q.returns });
    stores = λ a q. h.stores a (record { instr = q.instr; stands = q.stands; store = q.store; kind = q.kind });
    inner_stores = h.inner_stores;
  }

  -- what is known of the run's threads is as was followed, and the open extents are those of the steps that they name
  record Tracks (u : SymbolicState) (a : Track) : Type 0 where
    threads : length u.threads ≡ a.threads
    calls : (t : ℕ) → t < a.threads → length (thread_of u t).calls ≡ a.calls t
    extents : (t : ℕ) → (thread_of u t).extents ≡ extents_in (a.extents t)
    regions : (t : ℕ) (o : OpenExtent) → Contains (a.extents t) o → (x : Seen) → Contains (steps_of R) x → o.extent.step ≡ x.number → (r : FreeRegion) → x.region ≡ Some r →
        o.region ≡ r

  first_tracks : Tracks (start_of R.program) first_track
  first_tracks = record {
    threads = refl;
    calls = first;
    extents = none;
    regions = λ t o c. absurd (none_in o c);
  }
    where
      first : (t : ℕ) → t < 1 → length (thread_of (start_of R.program) t).calls ≡ first_track.calls t
      first zero l = refl
      first (suc t) l = absurd (omega (arith, l))

      none : (t : ℕ) → (thread_of (start_of R.program) t).extents ≡ []
      none zero = refl
      none (suc t) = refl

  module _ (n : ℕ) (m : Moment) (u : SymbolicState) (a b : Track) (tracks : Tracks u a) (goes : StepGoes R n a m b)
      (in_run : Contains (steps_of R) (record { number = n; moment = m; region = region_in R m; live = live_at R every n m u; before = u })) where
    begun_in : thread_in m < length u.threads
    begun_in = let q = tracks.threads in let l = goes.known in omega (arith, q, l)

    live : live_at R every n m u ≡ true
    live = live_every (thread_of u (thread_in m)).extents

    made : next_made R every n m u ≡ made_at R.program m (instr_in R.program m)
    made = ap (λ (c : Bool). own_made R.program every n m (region_in R m) u c (instr_in R.program m)) live

    threads_next : length (after_step R every n m u).threads ≡ b.threads
    threads_next =
        let p = length_next R every n m u in
        let q : length (next_made R every n m u) ≡ made_behind (instr_in R.program m) m.did.did.kind = ap length made ∙ made_long R m (instr_in R.program m) in
        let f = tracks.threads in
        let g = goes.more in
        omega (arith, p, q, f, g)

    own_next : thread_of (after_step R every n m u) (thread_in m) ≡ record { calls = next_calls R every n m u; extents = extents_after R every n m u }
    own_next = thread_own R every n m u begun_in

    calls_own : length (next_calls R every n m u) ≡ b.calls (thread_in m)
    calls_own =
        ap (λ (c : Bool). length (own_calls R.program every n m (region_in R m) u c (instr_in R.program m))) live
        ∙ calls_length R.program every n m (region_in R m) u (instr_in R.program m) (thread_of u (thread_in m)).calls
        ∙ ap (calls_behind (instr_in R.program m) m.did.did.kind) (tracks.calls (thread_in m) goes.known)
        ∙ sym goes.own_calls

    calls_new : (t : ℕ) → (t ≡ thread_in m → ⊥) → length u.threads ≤ t → t < b.threads → length (thread_of (after_step R every n m u) t).calls ≡ b.calls t
    calls_new t o g l =
        let f = tracks.threads in
        let h = goes.more in
        let j : t - length u.threads < made_behind (instr_in R.program m) m.did.did.kind = omega (arith, f, h, l, g) in
        ap (λ (th : SymbolicThread). length th.calls) (thread_made R every n m u t o g ∙ ap (λ (ts : List SymbolicThread). slice_index_or ts (t - length u.threads) no_thread) made)
        ∙ made_calls R m (instr_in R.program m) (t - length u.threads) j
        ∙ sym (goes.first_call t (omega (arith, f, g)) l)

    calls_next : (t : ℕ) → t < b.threads → length (thread_of (after_step R every n m u) t).calls ≡ b.calls t
    calls_next t l = go (cases_eq t (thread_in m))
      where
        go : (t ≡ thread_in m) ⊎ (t ≡ thread_in m → ⊥) → length (thread_of (after_step R every n m u) t).calls ≡ b.calls t
        go (inl q) = ap (λ (t : ℕ). length (thread_of (after_step R every n m u) t).calls) q ∙ ap (λ (th : SymbolicThread). length th.calls) own_next ∙ calls_own ∙ ap b.calls (sym q)
        go (inr o) = on (cases_lt t (length u.threads))
          where
            on : (t < length u.threads) ⊎ (length u.threads ≤ t) → length (thread_of (after_step R every n m u) t).calls ≡ b.calls t
            on (inl g) =
                let f = tracks.threads in
                let h : t < a.threads = omega (arith, f, g) in
                ap (λ (th : SymbolicThread). length th.calls) (thread_other R every n m u t o g) ∙ tracks.calls t h ∙ sym (goes.other_calls t o h)
            on (inr g) = calls_new t o g l

    extents_own : extents_after R every n m u ≡ extents_in (b.extents (thread_in m))
    extents_own =
        ap (open_after n (length m.calls) (region_in R m) (edge_of R.program m m.did.did.kind)) (tracks.extents (thread_in m))
        ∙ sym (behind_same n (length m.calls) (region_in R m) (edge_of R.program m m.did.did.kind) (a.extents (thread_in m)))
        ∙ ap extents_in (sym goes.own_extents)

    extents_next : (t : ℕ) → (thread_of (after_step R every n m u) t).extents ≡ extents_in (b.extents t)
    extents_next t = go (cases_eq t (thread_in m))
      where
        go : (t ≡ thread_in m) ⊎ (t ≡ thread_in m → ⊥) → (thread_of (after_step R every n m u) t).extents ≡ extents_in (b.extents t)
        go (inl q) = ap (λ (t : ℕ). (thread_of (after_step R every n m u) t).extents) q ∙ ap (λ (th : SymbolicThread). th.extents) own_next ∙ extents_own
            ∙ ap (λ (t : ℕ). extents_in (b.extents t)) (sym q)
        go (inr o) = on (cases_lt t (length u.threads))
          where
            on : (t < length u.threads) ⊎ (length u.threads ≤ t) → (thread_of (after_step R every n m u) t).extents ≡ extents_in (b.extents t)
            on (inl g) = ap (λ (th : SymbolicThread). th.extents) (thread_other R every n m u t o g) ∙ tracks.extents t ∙ ap extents_in (sym (goes.other_extents t o))
            on (inr g) =
                ap (λ (th : SymbolicThread). th.extents) (thread_made R every n m u t o g ∙ ap (λ (ts : List SymbolicThread). slice_index_or ts (t - length u.threads) no_thread) made)
                ∙ made_extents R m (instr_in R.program m) (t - length u.threads)
                ∙ sym (past g)
                ∙ ap extents_in (sym (goes.other_extents t o))
              where
                past : length u.threads ≤ t → extents_in (a.extents t) ≡ []
                past g = sym (tracks.extents t) ∙ ap (λ (th : SymbolicThread). th.extents) (beyond u.threads t g)
                  where
                    beyond : (ts : List SymbolicThread) (t : ℕ) → length ts ≤ t → slice_index_or ts t no_thread ≡ no_thread
                    beyond [] t g = refl
                    beyond (th ∷ ts) zero g = absurd (omega (arith, g))
                    beyond (th ∷ ts) (suc t) g = beyond ts t (omega (arith, g))

    regions_own : (o : OpenExtent) → Contains (with_begun n (length m.calls) (region_in R m) (a.extents (thread_in m))) o → (x : Seen) → Contains (steps_of R) x →
        o.extent.step ≡ x.number → (r : FreeRegion) → x.region ≡ Some r → o.region ≡ r
    regions_own o c x d q r f = go (region_in R m) refl
      where
        old : Contains (a.extents (thread_in m)) o → o.region ≡ r
        old c = tracks.regions (thread_in m) o c x d q r f

        here_now : o.extent.step ≡ n → region_in R m ≡ Some r
        here_now e = ap (λ (z : Seen). z.region) (same_number R every 0 (start_of R.program) R.moments _ x in_run d (sym e ∙ q)) ∙ f

        go : (g : Option FreeRegion) → region_in R m ≡ g → o.region ≡ r
        go None e = old (subst (λ (g : Option FreeRegion). Contains (with_begun n (length m.calls) g (a.extents (thread_in m))) o) e c)
        go (Some s) e = on (cases_in _ (a.extents (thread_in m)) o (subst (λ (g : Option FreeRegion). Contains (with_begun n (length m.calls) g (a.extents (thread_in m))) o) e c))
          where
            on : (record { extent = record { step = n; join = s.join; depth = length m.calls }; region = s } ≡ o) ⊎ Contains (a.extents (thread_in m)) o → o.region ≡ r
            on (inl k) =
                let i : n ≡ o.extent.step = ap (λ (o : OpenExtent). o.extent.step) k in
                let j : Some s ≡ Some r = sym e ∙ here_now (sym i) in
                let h : s ≡ r = cc in
                sym (ap (λ (o : OpenExtent). o.region) k) ∙ h
            on (inr k) = old k

    regions_next : (t : ℕ) (o : OpenExtent) → Contains (b.extents t) o → (x : Seen) → Contains (steps_of R) x → o.extent.step ≡ x.number → (r : FreeRegion) →
        x.region ≡ Some r → o.region ≡ r
    regions_next t o c = go (cases_eq t (thread_in m))
      where
        go : (t ≡ thread_in m) ⊎ (t ≡ thread_in m → ⊥) → (x : Seen) → Contains (steps_of R) x → o.extent.step ≡ x.number → (r : FreeRegion) → x.region ≡ Some r →
            o.region ≡ r
        go (inl q) = regions_own o (filtered_in (λ (o : OpenExtent). not (ends (length m.calls) (edge_of R.program m m.did.did.kind) o.extent))
            (with_begun n (length m.calls) (region_in R m) (a.extents (thread_in m))) o
            (subst (λ (os : List OpenExtent). Contains os o) (ap b.extents q ∙ goes.own_extents) c))
        go (inr g) = tracks.regions t o (subst (λ (os : List OpenExtent). Contains os o) (goes.other_extents t g) c)

    next_tracks : Tracks (after_step R every n m u) b
    next_tracks = record { threads = threads_next; calls = calls_next; extents = extents_next; regions = regions_next }

  -- ---- what each step keeps to

  record StepKeeps (y : Seen) : Type 0 where
    known : thread_in y.moment < length y.before.threads
    calls : length (thread_of y.before (thread_in y.moment)).calls ≡ depth_of y
    bounds : (a : Access) → StoresBy R y a → (b : ℕ) → is_within (range_of a) b ≡ true → is_within (bounds_of a.pointer) b ≡ true
    branches : (r : FreeRegion) → y.region ≡ Some r → (i : Instr) → instr_of R y ≡ Some i → is_branching i.op ≡ true
    own : (r : FreeRegion) → y.region ≡ Some r → MaySetPhis R.program r.sets (edge_at R y)
    together : (t : ℕ) (e : Extent) → Contains (open_in y t) e → thread_in y.moment ≡ t
    nested : AreStacked (depth_of y) (edge_at R y) (begun y.number (depth_of y) y.region (open_before y))
    keep : (x : Seen) → Contains (steps_of R) x → (r : FreeRegion) → x.region ≡ Some r → (e : Extent) → Contains (open_before y) e → e.step ≡ x.number → KeepsTo R r e.depth y

  step_keeps : (n : ℕ) (m : Moment) (u : SymbolicState) (a b : Track) → Tracks u a → StepGoes R n a m b →
      StepKeeps (record { number = n; moment = m; region = region_in R m; live = live_at R every n m u; before = u })
  step_keeps n m u a b tracks goes = record {
    known = begun_here;
    calls = tracks.calls (thread_in m) goes.known ∙ goes.calls;
    bounds = λ c q. goes.bounds c (record { instr = q.instr; stands = q.stands; store = q.store; kind = q.kind });
    branches = goes.branches;
    own = goes.own;
    together = λ t e c. let o = named_in (a.extents t) e (subst (λ (es : List Extent). Contains es e) (tracks.extents t) c) in goes.together t o.0 o.1;
    nested = subst (λ (es : List Extent). AreStacked (length m.calls) (edge_of R.program m m.did.did.kind) (begun n (length m.calls) (region_in R m) es))
        (sym (tracks.extents (thread_in m))) goes.nested;
    keep = kept;
  }
    where
      begun_here : thread_in m < length u.threads
      begun_here = let q = tracks.threads in let l = goes.known in omega (arith, q, l)

      kept : (x : Seen) → Contains (steps_of R) x → (r : FreeRegion) → x.region ≡ Some r → (e : Extent) → Contains (thread_of u (thread_in m)).extents e → e.step ≡ x.number →
          KeepsTo R r e.depth (record { number = n; moment = m; region = region_in R m; live = live_at R every n m u; before = u })
      kept x d r f e c q =
          let o = named_in (a.extents (thread_in m)) e (subst (λ (es : List Extent). Contains es e) (tracks.extents (thread_in m)) c) in
          let g : o.0.region ≡ r = tracks.regions (thread_in m) o.0 o.1 x d (ap (λ (e : Extent). e.step) o.2 ∙ q) r f in
          let k : KeepsTo R o.0.region o.0.extent.depth (step_at R n m) = goes.keep o.0 o.1 in
          keeps_as r e.depth n m (live_at R every n m u) u (subst (λ (s : FreeRegion). KeepsTo R s e.depth (step_at R n m)) g
          (subst (λ (z : Extent). KeepsTo R o.0.region z.depth (step_at R n m)) o.2 k))

  each_keeps : (n : ℕ) (u : SymbolicState) (a : Track) (ms : List Moment) → Tracks u a → GoesFrom R n a ms →
      ((z : Seen) → Contains (seen_from R every n u ms) z → Contains (steps_of R) z) → (y : Seen) → Contains (seen_from R every n u ms) y → StepKeeps y
  unfolding seen_from
  each_keeps n u a [] tracks goes c y h = absurd (none_in y h)
  each_keeps n u a (m ∷ ms) tracks goes c y h =
      go (cases_in _ (seen_from R every (suc n) (after_step R every n m u) ms) y h)
      (λ h. each_keeps (suc n) (after_step R every n m u) goes.0 ms (next_tracks n m u a goes.0 tracks goes.1 (c _ (here _ (seen_from R every (suc n) (after_step R every n m u) ms)))) goes.2
      (λ z d. c z (there _ (seen_from R every (suc n) (after_step R every n m u) ms) z d)) y h)
    where
      go : (record { number = n; moment = m; region = region_in R m; live = live_at R every n m u; before = u } ≡ y) ⊎ Contains (seen_from R every (suc n) (after_step R every n m u) ms) y →
          (Contains (seen_from R every (suc n) (after_step R every n m u) ms) y → StepKeeps y) → StepKeeps y
      go (inl q) more = subst StepKeeps q (step_keeps n m u a goes.0 tracks goes.1)
      go (inr d) more = more d

  pub goes_keep : Goes R → ExtentsKeep R
  goes_keep goes = record {
    known = λ y c. (each y c).known;
    calls = λ y c. (each y c).calls;
    bounds = λ y c. (each y c).bounds;
    branches = λ y c. (each y c).branches;
    own = λ y c. (each y c).own;
    together = λ y c. (each y c).together;
    nested = λ y c. (each y c).nested;
    keep = λ x d y c. (each y c).keep x d;
  }
    where
      each : (y : Seen) → Contains (steps_of R) y → StepKeeps y
      each y c = each_keeps 0 (start_of R.program) first_track R.moments first_tracks goes (λ z c. c) y c
