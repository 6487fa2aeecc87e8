-- The open extents of a thread before and after one of its steps.
use Rattle.std.proofs.Common.{◌≡◌, ℕ, ℤ, ◌<◌, ◌^◌, Bool, true, false, not, List, [], ◌∷◌, length, Option, Some, None, refl, sym, ap, ◌∙◌, subst, arith, inl}
use Rattle.std.proofs.Common.{inr, ◌⊎◌}
use Rattle.std.specs.Prelude.{Contains, filter, if◌then◌else◌}
use Rattle.std.proofs.lemmas.Bool.Decides.{nat_tests}
use Rattle.pg_num.specs.Places.{ByteRange}
use Rattle.pg_ir.specs.declared.ids.InstrId.{InstrId}
use Rattle.pg_ir.specs.declared.instr.Instr.{Instr}
use Rattle.pg_ir.specs.Program.{NumberedProgram}
use Rattle.pg_ir.specs.WellFormed.{IsProgram}
use Rattle.pg_region_accesses.specs.Accesses.{RootedList}
use Rattle.pg_region_paths.proofs.Elements.{cases, here, there, none_in}
use Rattle.pg_region_summaries.specs.Summaries.{AreSummaries}
use Rattle.pg_run_thread.specs.LocalState.{LocalState}
use Rattle.pg_run_trace.specs.declared.step.Access.{Access}
use Rattle.pg_run_trace.specs.declared.step.Step.{Step}
use Rattle.pg_run_trace.specs.declared.step.StepKind.{StepKind}
use Rattle.pg_run_trace.specs.declared.step.StepKind.TheVariants as told
use Rattle.pg_run_trace.specs.Steps.{event_of, happening_in, range_of, turn_at}
use Rattle.pg_run.specs.State.{State}
use Rattle.pg_run.specs.MachineStep.{is_gated}
use Rattle.pg_run.specs.Runs.{IsRun}
use Rattle.pg_slice_replay.specs.pg_slice_rules.Moments.{Moment, instr_in}
use Rattle.pg_slice_replay.specs.pg_slice_rules.Extents.{Extent, begun, ends, open_after}
use Rattle.pg_slice_replay.specs.pg_slice_rules.Freeable.{FreeRegion, Regions, bounds_of, region_at}
use Rattle.pg_slice_replay.specs.pg_slice_rules.Known.{Reference, Seen, is_branch, region_of}
use Rattle.pg_slice_replay.specs.pg_slice_rules.Rules.{kind_in}
use Rattle.pg_slice_replay.specs.pg_slice_rules.SymbolicValues.{is_within}
use Rattle.pg_law_least.specs.Keeps.{AreStacked, KeepsTo, MaySetPhis, StoresBy, depth_of, edge_at, instr_of, is_branching, is_store, MaySet}
use Rattle.pg_law_instances.specs.Leads.{IsWithin}
use Rattle.pg_law_instances.specs.Moves.{IsLoad, IsStore, IsPlacedAt}
use Rattle.pg_slice_replay.specs.OfRegions.{AreRegions}
use Rattle.pg_law_instances.specs.Stays.{TellsWithin}
use Rattle.pg_law_instances.specs.Together.{AreTogether, IsNext}
use Rattle.pg_law_instances.proofs.StepsKeepToRegion.{IsSeen, keeps_here, kind_here, no_store, same_instr, instr_here}
use Rattle.pg_law_instances.proofs.JoinLeadsOut.{within_none}
use Rattle.pg_law_instances.proofs.MachineSteps.{step_stays}
use Rattle.pg_law_instances.proofs.ExtentSteps.{Over, begun_edge, begun_ends, begun_instance, begun_over, freed_is, open_begun, open_ends, open_next, tells_branch, took_it}
use Rattle.pg_law_instances.proofs.OpenExtentIsInstance.{Open, instance, phis_may}
use Rattle.pg_law_instances.proofs.DoneSteps.{Plain, Requests, TellsPlain, Took}

-- ---- lists

filter_parts : {A : Type 0} (f : A → Bool) (xs : List A) (x : A) → Contains (filter f xs) x → Contains xs x × (f x ≡ true)
filter_parts f [] x c = absurd (none_in x c)
filter_parts {A} f (y ∷ xs) x c = go (f y) refl c (λ d. filter_parts f xs x d)
  where
    go : (b : Bool) → f y ≡ b → Contains (filter f (y ∷ xs)) x → (Contains (filter f xs) x → Contains xs x × (f x ≡ true)) → Contains (y ∷ xs) x × (f x ≡ true)
    go true q d more = pick (cases y (filter f xs) x (rw q at d))
      where
        pick : (y ≡ x) ⊎ Contains (filter f xs) x → Contains (y ∷ xs) x × (f x ≡ true)
        pick (inl e) = (subst (λ (z : A). Contains (y ∷ xs) z) e (here y xs), ap f (sym e) ∙ q)
        pick (inr k) = let r = more k in (there y xs x r.0, r.1)
    go false q d more = let r = more (rw q at d) in (there y xs x r.0, r.1)

not_true : (b : Bool) → not b ≡ true → b ≡ false
not_true true e = absurd cc
not_true false e = refl

branch_none : (k : StepKind) → is_branch k ≡ true → happening_in k ≡ None
branch_none (told.Branch c) e = refl
branch_none told.Other e = refl
branch_none (told.Allocation a r) e = refl
branch_none (told.Access a) e = absurd cc
branch_none (told.Event v) e = absurd cc

within_bounds : (a b : ByteRange) (i : ℕ) → IsWithin a b → is_within a i ≡ true → is_within b i ≡ true
within_bounds a b i h e = let f = h.from in let g = h.end in grind (arith, nat_tests, e, f, g)

module _ (p : NumberedProgram) (gates : List InstrId) (sums : ℕ → Option RootedList) (regions : Regions) (are : AreRegions p (λ i. is_gated gates i) sums regions) (moments : List Moment)
    (free_of : ℕ → Option FreeRegion) (block_of : ℕ → ℕ) (program : IsProgram p) (summaries : AreSummaries p (λ i. is_gated gates i) sums)
    (input : List ℤ) (small : length input < 2 ^ 64) where
  abbrev R : Reference
  R = record { program = p; regions = regions; moments = moments }

  abbrev IsOver : Extent → Extent → Type 0
  IsOver e o = Over p gates sums regions are moments free_of block_of program summaries input small e o

  -- each stands on the earlier ones
  abbrev pub IsStack : List Extent → Type 0
  IsStack [] = Unit {0}
  IsStack (e ∷ older) = ((o : Extent) → Contains older o → IsOver e o) × IsStack older

  filter_stack : (f : Extent → Bool) (es : List Extent) → IsStack es → IsStack (filter f es)
  filter_stack f [] h = tt
  filter_stack f (e ∷ es) h = go (f e) refl (filter_stack f es h.1)
    where
      go : (b : Bool) → f e ≡ b → IsStack (filter f es) → IsStack (filter f (e ∷ es))
      go true q k = rw q (λ o c. h.0 o (filter_parts f es o c).0, k)
      go false q k = rw q k

  module _ (s w z : State) (t : ℕ) (l : LocalState) (x : Step) (xs : List Step) (y : Seen)
      (h : IsSeen p gates sums regions are moments free_of block_of program summaries input small s w t l x y) (run : IsRun gates p input s (x ∷ xs) z) (together : AreTogether (x ∷ xs))
      (next : IsNext t (x ∷ xs))
      (es : List Extent) (opens : (e : Extent) → Contains es e → Open p gates sums are.found free_of block_of s t l e) (stack : IsStack es)
      (free_is : (r : FreeRegion) → y.region ≡ Some r → free_of y.number ≡ Some r) (block_is : (i : Instr) → instr_of R y ≡ Some i → block_of y.number ≡ i.block.0) where
    abbrev took_one : Took gates p s t l x w
    took_one = took_it p gates sums regions are moments free_of block_of program summaries input small s w z t l x xs y h run together next

    abbrev IsPlain : Type 0
    IsPlain = Plain gates p s t l x w took_one.local

    abbrev IsRequest : Type 0
    IsRequest = Requests p s t l x w took_one.local

    kind_is : kind_in y ≡ x.kind
    kind_is = kind_here p gates sums regions are moments free_of block_of program summaries input small s w z t l x xs y h run together next

    -- ---- a request is done in no extent, and begins none

    open_none : (e : Extent) → Contains es e → event_of x ≡ None
    open_none e c = let o = opens e c in within_none (instance p gates sums are.found free_of block_of o) x
        (step_stays (instance p gates sums are.found free_of block_of o) gates input s w t l x o.can h.is_ready h.is_step).tells

    no_open : IsRequest → (e : Extent) → Contains es e → ⊥
    no_open r e c =
        let o = opens e c in
        subst (TellsWithin (instance p gates sums are.found free_of block_of o)) r.is
        (step_stays (instance p gates sums are.found free_of block_of o) gates input s w t l x o.can h.is_ready h.is_step).tells

    no_region : IsRequest → (q : FreeRegion) → y.region ≡ Some q → ⊥
    no_region r q e = go (instr_in p y.moment) (sym h.region ∙ e)
      where
        none_some : (q : FreeRegion) → Path (Option FreeRegion) None (Some q) → ⊥
        none_some q k = cc

        go : (o : Option Instr) → region_of p regions y.moment o ≡ Some q → ⊥
        go None k = none_some q k
        go (Some i) k = none_some q (sym (ap (λ (b : StepKind). if is_branch b then region_at p y.moment (regions i.block.0) else None) (kind_is ∙ r.is)) ∙ k)

    freed_branch : (q : IsPlain) (r : FreeRegion) → y.region ≡ Some r → is_branch x.kind ≡ true
    freed_branch q r e = (freed_is p gates sums regions are moments free_of block_of program summaries input small s w z t l x xs y h run together next q r e).0

    region_none : (r : FreeRegion) → y.region ≡ Some r → event_of x ≡ None
    region_none r e = go took_one.did
      where
        go : IsPlain ⊎ IsRequest → event_of x ≡ None
        go (inl q) = ap (turn_at x) (branch_none x.kind (freed_branch q r e))
        go (inr q) = absurd (no_region q r e)

    -- ---- what holds before the step

    pub store_bounds : (a : Access) → StoresBy R y a → (b : ℕ) → is_within (range_of a) b ≡ true → is_within (bounds_of a.pointer) b ≡ true
    store_bounds a st b v = go took_one.did
      where
        k : x.kind ≡ told.Access a
        k = sym kind_is ∙ st.kind

        go : IsPlain ⊎ IsRequest → is_within (bounds_of a.pointer) b ≡ true
        go (inr q) = absurd (let u : told.Event q.event ≡ told.Access a = sym q.is ∙ k in cc)
        go (inl q) = by_access (subst (TellsPlain (is_gated gates q.frame.place) q.instr.op) k q.tells).by
          where
            store : is_store q.instr.op ≡ true
            store = ap (λ (j : Instr). is_store j.op) (same_instr p gates sums regions are moments free_of block_of program summaries input small s w z t l x xs y h run together next q st.instr
                st.stands) ∙ st.store

            by_access : (IsLoad q.instr.op × (a.writes ≡ false)) ⊎ (IsStore q.instr.op × (a.writes ≡ true) × IsPlacedAt a.pointer (range_of a)) → is_within (bounds_of a.pointer) b ≡ true
            by_access (inl c) = absurd (no_store q.instr.op c.0 store)
            by_access (inr c) = within_bounds (range_of a) (bounds_of a.pointer) b c.2.within v

    pub branch_is : (r : FreeRegion) → y.region ≡ Some r → (i : Instr) → instr_of R y ≡ Some i → is_branching i.op ≡ true
    branch_is r e i v = go took_one.did
      where
        go : IsPlain ⊎ IsRequest → is_branching i.op ≡ true
        go (inr q) = absurd (no_region q r e)
        go (inl q) =
            let same = same_instr p gates sums regions are moments free_of block_of program summaries input small s w z t l x xs y h run together next q i v in
            subst (λ (j : Instr). is_branching j.op ≡ true) same (tells_branch (is_gated gates q.frame.place) q.instr.op x.kind q.tells (freed_branch q r e)).1

    may_from : (sets : ℕ → Bool) (o : Option ℕ) → ((k : ℕ) → o ≡ Some k → sets k ≡ true) → MaySet sets o
    may_from sets None f = tt
    may_from sets (Some k) f = f k refl

    pub own_phis : (r : FreeRegion) → y.region ≡ Some r → MaySetPhis p r.sets (edge_at R y)
    own_phis r e = go took_one.did
      where
        by_edge : (q : IsPlain) (o : Option ℕ) → edge_at R y ≡ o → MaySetPhis p r.sets o
        by_edge q None u i c = absurd (none_in i c)
        by_edge q (Some to) u i c =
            let g = (freed_is p gates sums regions are moments free_of block_of program summaries input small s w z t l x xs y h run together next q r e).1 in
            let m = begun_edge p gates sums regions are moments free_of block_of program summaries input small s w z t l x xs y h run together next q r e to u in
            may_from r.sets i.result (λ k v. g.sets k
            ∙ phis_may (begun_instance p gates sums regions are moments free_of block_of program summaries input small s w z t l x xs y h run together next q r e) to m i c k v)

        go : IsPlain ⊎ IsRequest → MaySetPhis p r.sets (edge_at R y)
        go (inr q) = absurd (no_region q r e)
        go (inl q) = by_edge q (edge_at R y) refl

    pub keeps : (e : Extent) → Contains es e → (r : FreeRegion) → free_of e.step ≡ Some r → KeepsTo R r e.depth y
    keeps e c r f = go took_one.did
      where
        o : Open p gates sums are.found free_of block_of s t l e
        o = opens e c

        go : IsPlain ⊎ IsRequest → KeepsTo R r e.depth y
        go (inr q) = absurd (no_open q e c)
        go (inl q) =
            let same : o.free ≡ r = (let k : Some o.free ≡ Some r = sym o.known ∙ f in cc) in
            subst (λ (v : FreeRegion). KeepsTo R v e.depth y) same
            (keeps_here p gates sums regions are moments free_of block_of program summaries input small s w z t l x xs y h run together next q e o)

    -- ---- nested

    older_stacked : (us : List Extent) → ((e : Extent) → Contains us e → Contains es e) → IsStack us → AreStacked (depth_of y) (edge_at R y) us
    older_stacked [] sub k = tt
    older_stacked (e ∷ us) sub k = (λ o c u. later o c u took_one.did, older_stacked us (λ o c. sub o (there e us o c)) k.1)
      where
        later : (o : Extent) → Contains us o → ends (depth_of y) (edge_at R y) o ≡ true → IsPlain ⊎ IsRequest → ends (depth_of y) (edge_at R y) e ≡ true
        later o c u (inr q) = absurd (no_open q o (sub o (there e us o c)))
        later o c u (inl q) = open_ends p gates sums regions are moments free_of block_of program summaries input small s w z t l x xs y h run together next q o e
            (opens o (sub o (there e us o c))) (opens e (sub e (here e us))) (k.0 o c) u

    begun_stacked : (o : Option FreeRegion) → y.region ≡ o → AreStacked (depth_of y) (edge_at R y) (begun y.number (depth_of y) o es)
    begun_stacked None e = older_stacked es (λ u c. c) stack
    begun_stacked (Some r) e = (λ o c u. later o c u took_one.did, older_stacked es (λ u c. c) stack)
      where
        later : (o : Extent) → Contains es o → ends (depth_of y) (edge_at R y) o ≡ true → IsPlain ⊎ IsRequest
            → ends (depth_of y) (edge_at R y) (record { step = y.number; join = r.join; depth = depth_of y }) ≡ true
        later o c u (inr q) = absurd (no_region q r e)
        later o c u (inl q) = begun_ends p gates sums regions are moments free_of block_of program summaries input small s w z t l x xs y h run together next q r e o
            (record { step = y.number; join = r.join; depth = depth_of y }) (opens o c) refl refl u

    pub nested : AreStacked (depth_of y) (edge_at R y) (begun y.number (depth_of y) y.region es)
    nested = begun_stacked y.region refl

    -- ---- behind the step

    abbrev pub left : List Extent
    left = open_after y.number (depth_of y) y.region (edge_at R y) es

    block_plain : (q : IsPlain) → block_of y.number ≡ q.instr.block.0
    block_plain q = block_is q.instr (instr_here p gates sums regions are moments free_of block_of program summaries input small s w z t l x xs y h run together next q)

    begun_stack : (o : Option FreeRegion) → y.region ≡ o → IsStack (begun y.number (depth_of y) o es)
    begun_stack None e = stack
    begun_stack (Some r) e = (λ o c. over o c took_one.did, stack)
      where
        over : (o : Extent) → Contains es o → IsPlain ⊎ IsRequest → IsOver (record { step = y.number; join = r.join; depth = depth_of y }) o
        over o c (inr q) = absurd (no_region q r e)
        over o c (inl q) = begun_over p gates sums regions are moments free_of block_of program summaries input small s w z t l x xs y h run together next q r e o (opens o c)
            (record { step = y.number; join = r.join; depth = depth_of y }) refl (block_plain q)

    pub left_stack : IsStack left
    left_stack = filter_stack (λ e. not (ends (depth_of y) (edge_at R y) e)) (begun y.number (depth_of y) y.region es) (begun_stack y.region refl)

    from_begun : (o : Option FreeRegion) → y.region ≡ o → (e : Extent) → Contains (begun y.number (depth_of y) o es) e
        → Contains es e ⊎ ((r : FreeRegion) × (y.region ≡ Some r) × (record { step = y.number; join = r.join; depth = depth_of y } ≡ e))
    from_begun None k e c = inl c
    from_begun (Some r) k e c = go (cases (record { step = y.number; join = r.join; depth = depth_of y }) es e c)
      where
        go : (record { step = y.number; join = r.join; depth = depth_of y } ≡ e) ⊎ Contains es e
            → Contains es e ⊎ ((r : FreeRegion) × (y.region ≡ Some r) × (record { step = y.number; join = r.join; depth = depth_of y } ≡ e))
        go (inl v) = inr (r, k, v)
        go (inr d) = inl d

    pub left_none : (e : Extent) → Contains left e → event_of x ≡ None
    left_none e c = go (from_begun y.region refl e (filter_parts (λ u. not (ends (depth_of y) (edge_at R y) u)) (begun y.number (depth_of y) y.region es) e c).0)
      where
        go : Contains es e ⊎ ((r : FreeRegion) × (y.region ≡ Some r) × (record { step = y.number; join = r.join; depth = depth_of y } ≡ e)) → event_of x ≡ None
        go (inl d) = open_none e d
        go (inr r) = region_none r.0 r.1

    pub left_open : (e : Extent) → Contains left e → Open p gates sums are.found free_of block_of w t took_one.local e
    left_open e c = go took_one.did (from_begun y.region refl e k.0)
      where
        k : Contains (begun y.number (depth_of y) y.region es) e × (not (ends (depth_of y) (edge_at R y) e) ≡ true)
        k = filter_parts (λ u. not (ends (depth_of y) (edge_at R y) u)) (begun y.number (depth_of y) y.region es) e c

        stays : ends (depth_of y) (edge_at R y) e ≡ false
        stays = not_true (ends (depth_of y) (edge_at R y) e) k.1

        go : IsPlain ⊎ IsRequest → Contains es e ⊎ ((r : FreeRegion) × (y.region ≡ Some r) × (record { step = y.number; join = r.join; depth = depth_of y } ≡ e))
            → Open p gates sums are.found free_of block_of w t took_one.local e
        go (inr q) (inl d) = absurd (no_open q e d)
        go (inr q) (inr r) = absurd (no_region q r.0 r.1)
        go (inl q) (inl d) = open_next p gates sums regions are moments free_of block_of program summaries input small s w z t l x xs y h run together next q e (opens e d) stays
        go (inl q) (inr r) =
            open_begun p gates sums regions are moments free_of block_of program summaries input small s w z t l x xs y h run together next q r.0 r.1 e (ap (λ (u : Extent). u.join) (sym r.2))
            (ap (λ (u : Extent). u.depth) (sym r.2))
            (ap (λ (u : Extent). block_of u.step) (sym r.2) ∙ block_plain q) (ap (λ (u : Extent). free_of u.step) (sym r.2) ∙ free_is r.0 r.1) stays
