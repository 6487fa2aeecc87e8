-- A step in an open extent: the extent's branch step, and the call in which that stands.
use Rattle.std.proofs.Common.{◌≡◌, ℕ, zero, suc, ◌<◌, ◌≤◌, ◌==◌, Bool, true, false, List, [], ◌∷◌, length, filter, Option, Some, None, refl, sym, ap, ◌∙◌}
use Rattle.std.proofs.Common.{subst, inl, inr, ◌⊎◌, arith, eqb-true, eq-eqb}
use Rattle.std.specs.Prelude.{Contains, not, slice_get, if◌then◌else◌}
use Rattle.std.proofs.lemmas.Bool.{true≢false}
use Rattle.std.proofs.lemmas.List.{length-map}
use Rattle.pg_ir.specs.declared.instr.Instr.{Instr}
use Rattle.pg_ir.specs.declared.instr.Op.{Op}
use Rattle.pg_ir.specs.declared.instr.Op.TheVariants as op
use Rattle.pg_ir.specs.declared.value.Value.{Value}
use Rattle.pg_ir.specs.Program.{NumberedProgram}
use Rattle.pg_run_trace.specs.declared.step.StepKind.{StepKind}
use Rattle.pg_run_trace.specs.declared.step.StepKind.TheVariants as kinds
use Rattle.pg_run_trace.specs.Steps.{happening_in}
use Rattle.pg_slice_rules.specs.Moments.{Moment, instr_in, thread_in}
use Rattle.pg_slice_rules.specs.Extents.{Extent, begun, ends}
use Rattle.pg_slice_rules.specs.Freeable.{FreeRegion, Regions}
use Rattle.pg_slice_rules.specs.SymbolicValues.{Symbolic}
use Rattle.pg_slice_rules.specs.Known.{Reference, SymbolicState, SymbolicThread, after_step, edge_of, is_branch, region_of, registers_of, thread_of}
use Rattle.pg_slice_back.specs.pg_law_least.Along.{region_in}
use Rattle.pg_slice_back.specs.pg_law_least.Keeps.{ExtentsKeep, KeepsTo, every, is_branching}
use Rattle.pg_slice_back.proofs.of_pg_law_least.KnownCallCounts.{region_branch}
use Rattle.pg_slice_back.proofs.of_pg_law_least.OldestFreeExtent.{live_every}
use Rattle.pg_slice_back.proofs.of_pg_law_least.ThreadsAfterSteps.{calls_after, own_calls, thread_own}
use Rattle.pg_region_paths.proofs.Elements.{cases as cases_in, here, none_in, there}
use Rattle.pg_slice_back.specs.pg_law_demands.Along.{known_at, known_from}
use Rattle.pg_slice_back.specs.pg_law_demands.Cells.{call_at}
use Rattle.pg_slice_back.proofs.of_pg_law_demands.DemandsBack.{eq_false, top_is}
use Rattle.pg_slice_back.specs.Lens.{lens_by_kind, lens_of, rest_of}
use Rattle.pg_slice_back.proofs.CallRegisterCounts.{kind_lens}
use Rattle.pg_slice_back.proofs.of_pg_law_demands.StepBack.{of_every}
use Rattle.pg_slice_walk.proofs.OpenExtents.{begun_before, in_run, next_is, other_next, own_next}
use Rattle.pg_slice_walk.proofs.StepMoments.{get_there}

-- ---- how many registers a call has

-- the one that has so many calls with it on top
abbrev lens_at : ℕ → List ℕ → ℕ
lens_at k [] = 0
lens_at k (l ∷ ls) = if suc (length ls) == k then l else lens_at k ls

at_lens : (k : ℕ) (cs : List (List Symbolic)) → length (call_at k cs) ≡ lens_at k (lens_of cs)
at_lens k [] = refl
at_lens k (rs ∷ cs) = rw (length-map cs (λ (rs : List Symbolic). length rs)) (go (suc (length cs) == k) (at_lens k cs))
  where
    go : (b : Bool) → length (call_at k cs) ≡ lens_at k (lens_of cs) → length (if b then rs else call_at k cs) ≡ (if b then length rs else lens_at k (lens_of cs))
    go true h = refl
    go false h = h

abbrev lens_behind : NumberedProgram → Option Instr → StepKind → List ℕ → List ℕ
lens_behind p None kind ls = ls
lens_behind p (Some x) kind ls = lens_by_kind p x.op kind ls

-- the call stays where none that began before it ends
pub record Stays (k : ℕ) (old new : List ℕ) : Type 0 where
  pub deep : k ≤ length new
  pub same : lens_at k new ≡ lens_at k old

called : (k l : ℕ) (ls : List ℕ) → k ≤ length ls → Stays k ls (l ∷ ls)
called k l ls d = record { deep = omega (arith, d); same = rw (eq_false (suc (length ls)) k (λ z. omega (arith, z, d))) refl }

returned : (k : ℕ) (ls : List ℕ) → k < length ls → Stays k ls (rest_of ls)
returned k [] d = absurd (omega (arith, d))
returned k (l ∷ ls) d = record { deep = omega (arith, d); same = sym (rw (eq_false (suc (length ls)) k (λ z. omega (arith, z, d))) refl) }

module _ (p : NumberedProgram) (k : ℕ) (ls : List ℕ) (deep : k ≤ length ls) where
  same : Stays k ls ls
  same = record { deep = deep; same = refl }

  stays_op : (o : Op) (kind : StepKind) → happening_in kind ≡ None → ((v : Option Value) → o ≡ op.Ret v → k < length ls) → Stays k ls (lens_by_kind p o kind ls)
  stays_op o (kinds.Access a) q f = same
  stays_op o (kinds.Event e) q f = absurd (cc)
  stays_op (op.Call g args) kind q f = called k _ ls deep
  stays_op (op.Ret v) kind q f = returned k ls (f v refl)
  stays_op o kind q f = same

  stays_by : (i : Option Instr) (kind : StepKind) → happening_in kind ≡ None → ((x : Instr) (v : Option Value) → i ≡ Some x
      → x.op ≡ op.Ret v → k < length ls) → Stays k ls (lens_behind p i kind ls)
  stays_by None kind q f = same
  stays_by (Some x) kind q f = stays_op x.op kind q (λ v h. f x v refl h)

branch_op : (p : NumberedProgram) (o : Op) (kind : StepKind) (ls : List ℕ) → is_branch kind ≡ true → is_branching o ≡ true → lens_by_kind p o kind ls ≡ ls
branch_op p o (kinds.Access a) ls q h = refl
branch_op p o (kinds.Event e) ls q h = absurd (true≢false (sym q))
branch_op p (op.Call g args) kind ls q h = absurd (true≢false (sym h))
branch_op p (op.Ret v) kind ls q h = absurd (true≢false (sym h))
branch_op p o kind ls q h = refl

branch_lens : (p : NumberedProgram) (regions : Regions) (m : Moment) (i : Option Instr) (r : FreeRegion) (ls : List ℕ) → region_of p regions m i ≡ Some r →
    ((x : Instr) → i ≡ Some x → is_branching x.op ≡ true) → lens_behind p i m.did.did.kind ls ≡ ls
branch_lens p regions m None r ls h b = refl
branch_lens p regions m (Some x) r ls h b = branch_op p x.op m.did.did.kind ls (region_branch p regions m x r h) (b x refl)

-- ---- the extents behind a step

filtered_in : {A : Type 0} (f : A → Bool) (xs : List A) (x : A) → Contains (filter f xs) x → Contains xs x
filtered_in f [] x c = absurd (none_in x c)
filtered_in {A} f (y ∷ xs) x c = go (f y) refl (λ d. filtered_in f xs x d)
  where
    on : (y ≡ x) ⊎ Contains (filter f xs) x → (Contains (filter f xs) x → Contains xs x) → Contains (y ∷ xs) x
    on (inl e) more = subst (Contains (y ∷ xs)) e (here y xs)
    on (inr d) more = there y xs x (more d)

    go : (b : Bool) → f y ≡ b → (Contains (filter f xs) x → Contains xs x) → Contains (y ∷ xs) x
    go false q more = there y xs x (more (subst (λ (b : Bool). Contains (if b then y ∷ filter f xs else filter f xs) x) q c))
    go true q more = on (cases_in y (filter f xs) x (subst (λ (b : Bool). Contains (if b then y ∷ filter f xs else filter f xs) x) q c)) more

-- the extent that a step begins
abbrev pub own_extent : ℕ → ℕ → FreeRegion → Extent
own_extent n depth r = record { step = n; join = r.join; depth = depth }

pub record Begins (R : Reference) (n t : ℕ) (m : Moment) (x : Extent) : Type 0 where
  pub region : FreeRegion
  pub is : region_in R m ≡ Some region
  pub thread : thread_in m ≡ t
  pub own : own_extent n (length m.calls) region ≡ x

module _ (R : Reference) (keeps : ExtentsKeep R) (n : ℕ) (m : Moment) (q : slice_get R.moments n ≡ Some m) where
  abbrev u : SymbolicState
  u = known_at R every n

  begun_cases : (o : Option FreeRegion) → region_in R m ≡ o → (es : List Extent) (x : Extent) → Contains (begun n (length m.calls) o es) x → Contains es x ⊎ Begins R n (thread_in m) m x
  begun_cases None f es x c = inl c
  begun_cases (Some r) f es x c = go (cases_in (own_extent n (length m.calls) r) es x c)
    where
      go : (own_extent n (length m.calls) r ≡ x) ⊎ Contains es x → Contains es x ⊎ Begins R n (thread_in m) m x
      go (inl e) = inr (record { region = r; is = f; thread = refl; own = e })
      go (inr d) = inl d

  own_cases : (x : Extent) → Contains (thread_of (after_step R every n m u) (thread_in m)).extents x → Contains (thread_of u (thread_in m)).extents x ⊎ Begins R n (thread_in m) m x
  own_cases x c =
      begun_cases (region_in R m) refl (thread_of u (thread_in m)).extents x
      (filtered_in (λ (e : Extent). not (ends (length m.calls) (edge_of R.program m m.did.did.kind) e)) (begun n (length m.calls) (region_in R m) (thread_of u (thread_in m)).extents) x
      (subst (λ (es : List Extent). Contains es x) (own_next R keeps n m q) c))

  -- an extent that is open behind a step was open before it, or the step begins it
  pub opened : (t : ℕ) (x : Extent) → Contains (thread_of (known_at R every (suc n)) t).extents x → Contains (thread_of u t).extents x ⊎ Begins R n t m x
  opened t x c = go (t == thread_in m) refl
    where
      c2 : Contains (thread_of (after_step R every n m u) t).extents x
      c2 = subst (λ (y : SymbolicState). Contains (thread_of y t).extents x) (next_is R keeps n m q) c

      go : (b : Bool) → (t == thread_in m) ≡ b → Contains (thread_of u t).extents x ⊎ Begins R n t m x
      go true f =
          let z : t ≡ thread_in m = eqb-true t (thread_in m) f in
          subst (λ (i : ℕ). Contains (thread_of u i).extents x ⊎ Begins R n i m x) (sym z)
          (own_cases x (subst (λ (i : ℕ). Contains (thread_of (after_step R every n m u) i).extents x) z c2))
      go false f =
          inl (subst (λ (es : List Extent). Contains es x) (other_next R keeps n m q t (λ z. true≢false (sym (eq-eqb t (thread_in m) z) ∙ f))) c2)

  -- the calls of the step's thread behind it
  pub lens_next : lens_of (thread_of (known_at R every (suc n)) (thread_in m)).calls ≡ lens_behind R.program (instr_in R.program m) m.did.did.kind (lens_of (thread_of u (thread_in m)).calls)
  lens_next =
      ap (λ (y : SymbolicState). lens_of (thread_of y (thread_in m)).calls) (next_is R keeps n m q)
      ∙ ap (λ (h : SymbolicThread). lens_of h.calls) (thread_own R every n m u (begun_before R keeps n m q))
      ∙ ap (λ (b : Bool). lens_of (own_calls R.program every n m (region_in R m) u b (instr_in R.program m))) (live_every (thread_of u (thread_in m)).extents)
      ∙ of_calls (instr_in R.program m)
    where
      of_calls : (i : Option Instr) → lens_of (calls_after R.program every n m (region_in R m) i u
          (thread_of u (thread_in m)).calls) ≡ lens_behind R.program i m.did.did.kind (lens_of (thread_of u (thread_in m)).calls)
      of_calls None = refl
      of_calls (Some x) = kind_lens R.program every n m (region_in R m) u x m.did.did.kind (thread_of u (thread_in m)).calls

-- ---- before a step

pub record Inside (R : Reference) (n t : ℕ) (x : Extent) : Type 0 where
  pub begun : Moment
  pub stands : slice_get R.moments x.step ≡ Some begun
  pub earlier : x.step < n
  pub thread : thread_in begun ≡ t
  pub region : FreeRegion
  pub is : region_in R begun ≡ Some region
  pub depth : x.depth ≡ length begun.calls
  pub deep : x.depth ≤ length (thread_of (known_at R every n) t).calls
  pub count : length (call_at x.depth (thread_of (known_at R every n) t).calls) ≡ length (registers_of (known_at R every x.step) t)

none_first : (R : Reference) (t : ℕ) (x : Extent) → Contains (thread_of (known_at R every 0) t).extents x → ⊥
unfolding known_from
none_first R zero x c = none_in x c
none_first R (suc t) x c = none_in x c

module _ (R : Reference) (keeps : ExtentsKeep R) where
  abbrev calls_at : ℕ → ℕ → List (List Symbolic)
  calls_at n t = (thread_of (known_at R every n) t).calls

  calls_long : (n t : ℕ) → length (lens_of (calls_at n t)) ≡ length (calls_at n t)
  calls_long n t = length-map (calls_at n t) (λ (rs : List Symbolic). length rs)

  -- behind the branch step
  first_inside : (n : ℕ) (m : Moment) → slice_get R.moments n ≡ Some m → (r : FreeRegion) → region_in R m ≡ Some r → Inside R (suc n) (thread_in m) (own_extent n (length m.calls) r)
  first_inside n m q r f = record {
    begun = m;
    stands = q;
    earlier = omega arith;
    thread = refl;
    region = r;
    is = f;
    depth = refl;
    deep = omega (arith, high, long, tall);
    count = at_lens (length m.calls) (calls_at (suc n) (thread_in m)) ∙ ap (λ (ls : List ℕ). lens_at (length m.calls) ls) lens
        ∙ sym (at_lens (length m.calls) (calls_at n (thread_in m))) ∙ ap (λ (rs : List Symbolic). length rs) (top_is (length m.calls) (calls_at n (thread_in m)) high);
  }
    where
      high : length (calls_at n (thread_in m)) ≡ length m.calls
      high = keeps.calls (of_every R n m (known_at R every n)) (in_run R keeps n m q)

      lens : lens_of (calls_at (suc n) (thread_in m)) ≡ lens_of (calls_at n (thread_in m))
      lens = lens_next R keeps n m q ∙ branch_lens R.program R.regions m (instr_in R.program m) r (lens_of (calls_at n (thread_in m))) f
          (keeps.branches (of_every R n m (known_at R every n)) (in_run R keeps n m q) r f)

      tall : length (lens_of (calls_at (suc n) (thread_in m))) ≡ length (calls_at n (thread_in m))
      tall = ap (λ (ls : List ℕ). length ls) lens ∙ calls_long n (thread_in m)

      long : length (lens_of (calls_at (suc n) (thread_in m))) ≡ length (calls_at (suc n) (thread_in m))
      long = calls_long (suc n) (thread_in m)

  keeps_to : (n : ℕ) (m : Moment) → slice_get R.moments n ≡ Some m → (x : Extent) → Contains (thread_of (known_at R every n) (thread_in m)).extents x → (i : Inside R n (thread_in m) x) →
      KeepsTo R i.region x.depth (of_every R n m (known_at R every n))
  keeps_to n m q x c i = keeps.keep (of_every R x.step i.begun (known_at R every x.step)) (in_run R keeps x.step i.begun i.stands)
      (of_every R n m (known_at R every n)) (in_run R keeps n m q) i.region i.is x c refl

  next_inside : (n : ℕ) (m : Moment) → slice_get R.moments n ≡ Some m → (x : Extent) → Contains (thread_of (known_at R every n) (thread_in m)).extents x → Inside R n (thread_in m) x →
      Inside R (suc n) (thread_in m) x
  next_inside n m q x c i = record {
    begun = i.begun;
    stands = i.stands;
    earlier = let l = i.earlier in omega (arith, l);
    thread = i.thread;
    region = i.region;
    is = i.is;
    depth = i.depth;
    deep = let d = s.deep in let e = ap (λ (ls : List ℕ). length ls) lens in omega (arith, d, e, long);
    count = at_lens x.depth (calls_at (suc n) (thread_in m)) ∙ ap (λ (ls : List ℕ). lens_at x.depth ls) lens ∙ s.same ∙ sym (at_lens x.depth (calls_at n (thread_in m))) ∙ i.count;
  }
    where
      high : length (calls_at n (thread_in m)) ≡ length m.calls
      high = keeps.calls (of_every R n m (known_at R every n)) (in_run R keeps n m q)

      long : length (lens_of (calls_at (suc n) (thread_in m))) ≡ length (calls_at (suc n) (thread_in m))
      long = calls_long (suc n) (thread_in m)

      before : length (lens_of (calls_at n (thread_in m))) ≡ length (calls_at n (thread_in m))
      before = calls_long n (thread_in m)

      lens : lens_of (calls_at (suc n) (thread_in m)) ≡ lens_behind R.program (instr_in R.program m) m.did.did.kind (lens_of (calls_at n (thread_in m)))
      lens = lens_next R keeps n m q

      k : KeepsTo R i.region x.depth (of_every R n m (known_at R every n))
      k = keeps_to n m q x c i

      s : Stays x.depth (lens_of (calls_at n (thread_in m))) (lens_behind R.program (instr_in R.program m) m.did.did.kind (lens_of (calls_at n (thread_in m))))
      s = stays_by R.program x.depth (lens_of (calls_at n (thread_in m))) (let d = i.deep in omega (arith, d, before)) (instr_in R.program m) m.did.did.kind k.plain
          (λ z v f h. let d = k.deeper (record { instr = z; value = v; stands = f; returns = h }) in omega (arith, d, high, before))

  -- of each extent that is open before step n
  pub inside : (n : ℕ) → n ≤ length R.moments → (t : ℕ) (x : Extent) → Contains (thread_of (known_at R every n) t).extents x → Inside R n t x
  inside zero l t x c = absurd (none_first R t x c)
  inside (suc n) l t x c = go (get_there R.moments n (omega (arith, l))) (λ d. inside n (omega (arith, l)) t x d)
    where
      go : (m : Moment) × (slice_get R.moments n ≡ Some m) → (Contains (thread_of (known_at R every n) t).extents x → Inside R n t x) → Inside R (suc n) t x
      go (m, q) more = on (opened R keeps n m q t x c)
        where
          on : Contains (thread_of (known_at R every n) t).extents x ⊎ Begins R n t m x → Inside R (suc n) t x
          on (inl d) =
              let z : thread_in m ≡ t = keeps.together (of_every R n m (known_at R every n)) (in_run R keeps n m q) t x d in
              subst (λ (i : ℕ). Inside R (suc n) i x) z
              (next_inside n m q x (subst (λ (i : ℕ). Contains (thread_of (known_at R every n) i).extents x) (sym z) d) (subst (λ (i : ℕ). Inside R n i x) (sym z) (more d)))
          on (inr b) =
              subst (λ (i : ℕ). Inside R (suc n) i x) b.thread
              (subst (λ (z : Extent). Inside R (suc n) (thread_in m) z) b.own (first_inside n m q b.region b.is))
