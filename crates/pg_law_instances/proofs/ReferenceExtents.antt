-- Reference runs keep their extents: along the run, from step to step.
use Rattle.std.proofs.Common.{◌≡◌, ◌≢◌, ℕ, ℤ, zero, suc, ◌+◌, ◌<◌, ◌≤◌, ◌^◌, true, List, [], ◌∷◌, length, Option, Some, None, refl, sym, ap}
use Rattle.std.proofs.Common.{◌∙◌, subst, arith, inl, inr, ◌⊎◌}
use Rattle.std.specs.Prelude.{Contains, slice_get}
use Rattle.std.proofs.lemmas.Bool.{cases_eq, cases_lt}
use Rattle.pg_ir.specs.declared.ids.InstrId.{InstrId}
use Rattle.pg_ir.specs.declared.instr.Instr.{Instr}
use Rattle.pg_ir.specs.declared.request.Request.{Request}
use Rattle.pg_ir.specs.Program.{NumberedProgram}
use Rattle.pg_ir.specs.WellFormed.{IsProgram}
use Rattle.pg_region_accesses.specs.Accesses.{RootedList}
use Rattle.pg_region_paths.proofs.Elements.{cases, here, there, none_in}
use Rattle.pg_law_threads.specs.Intervals.{Timed, did_of, done_after, times}
use Rattle.pg_law_threads.specs.Steps.{View}
use Rattle.pg_region_summaries.specs.Summaries.{AreSummaries}
use Rattle.pg_region.specs.Regions.{block_in}
use Rattle.pg_run_thread.specs.declared.action.Action.TheVariants as actions
use Rattle.pg_run_thread.specs.LocalState.{Frame, LocalState, fresh}
use Rattle.pg_run_thread.specs.States.{AreFramesOf, StandsAt}
use Rattle.pg_run_thread.specs.Step.{frames_action, next}
use Rattle.pg_run_thread.specs.Told.{id_of, place_in}
use Rattle.pg_run_trace.specs.declared.step.Step.{Step}
use Rattle.pg_run_trace.specs.declared.step.StepKind.{StepKind}
use Rattle.pg_run_trace.specs.declared.turn.Turn.{Turn}
use Rattle.pg_run_trace.specs.Races.{recorded, timed_by}
use Rattle.pg_run_trace.specs.Steps.{range_of}
use Rattle.pg_run_memory.specs.Memory.{byte_at}
use Rattle.pg_run.specs.State.{State, initial}
use Rattle.pg_run.specs.MachineStep.{is_gated, step}
use Rattle.pg_run.specs.Follow.{Exits, following_of}
use Rattle.pg_run.specs.Runs.{IsRun}
use Rattle.pg_run.proofs.StepsBegin.{ready_made}
use Rattle.pg_run.proofs.Threads.{set_length}
use Rattle.pg_slice_replay.specs.pg_law_effects.Reached.{HoldBytes, IsReached}
use Rattle.pg_slice_replay.proofs.of_pg_law_effects.ReachedStates.{present, reached_first, reached_step}
use Rattle.pg_slice_replay.specs.pg_slice_rules.Moments.{Moment, calls_of, instr_in, moments_from, moments_of, state_after, thread_in}
use Rattle.pg_slice_replay.specs.pg_slice_rules.Extents.{Extent, is_live, begun}
use Rattle.pg_slice_replay.specs.pg_slice_rules.Freeable.{FreeRegion, Regions, bounds_of}
use Rattle.pg_slice_replay.specs.pg_slice_rules.Known.{Reference, SymbolicState, Seen, after_step, region_of, seen_from, start_of, thread_of, SymbolicThread}
use Rattle.pg_law_least.specs.Keeps as keeps_of
use Rattle.pg_law_least.specs.Keeps.{ExtentsKeep, depth_of, edge_at, every, instr_of, open_before}
use Rattle.pg_slice_replay.specs.OfRegions.{AreRegions}
use Rattle.pg_law_instances.specs.Together.{AreTogether, IsNext}
use Rattle.pg_law_instances.proofs.OpenExtents.{IsStack, branch_is, keeps, left, left_none, left_open, left_stack, nested, own_phis, store_bounds}
use Rattle.pg_law_instances.proofs.StepsKeepToRegion.{IsSeen, instr_here}
use Rattle.pg_law_instances.proofs.JoinLeadsOut.{frames_of}
use Rattle.pg_law_instances.proofs.OpenExtentIsInstance.{Open}
use Rattle.pg_law_instances.proofs.ExtentSteps.{took_it}
use Rattle.pg_law_instances.proofs.KnownThreads.{Match, Walked, adds_by, lives_event, lives_plain, walked_by, Lives}
use Rattle.pg_law_instances.proofs.NextStepsOfThread.{exited}
use Rattle.pg_law_instances.proofs.DoneSteps.{Plain, Requests, Took}
use Rattle.pg_slice_replay.specs.pg_slice_rules.SymbolicValues.{is_within}
use Rattle.pg_run_trace.specs.declared.step.Access.{Access}
use Rattle.std.proofs.lemmas.Option.{slice_get_within}

-- ---- lists

did_times : {A : Type 0} (V : View A) (T : List ℕ) (k : ℕ) (xs : List A) → did_of (times V T k xs) ≡ xs
did_times V T k [] = refl
did_times V T k (x ∷ xs) = ap (λ (l : List _). x ∷ l) (did_times V T (done_after (V.is_event x) k) xs)

-- ---- what is to be shown of each step

pub record Facts (R : Reference) (free_of : ℕ → Option FreeRegion) (y : Seen) : Type 0 where
  pub known : thread_in y.moment < length y.before.threads
  pub calls : length (thread_of y.before (thread_in y.moment)).calls ≡ depth_of y
  pub bounds : (a : Access) → keeps_of.StoresBy R y a → (b : ℕ) → is_within (range_of a) b ≡ true → is_within (bounds_of a.pointer) b ≡ true
  pub branches : (r : FreeRegion) → y.region ≡ Some r → (i : Instr) → instr_of R y ≡ Some i → keeps_of.is_branching i.op ≡ true
  pub own : (r : FreeRegion) → y.region ≡ Some r → keeps_of.MaySetPhis R.program r.sets (edge_at R y)
  pub together : (t : ℕ) (e : Extent) → Contains (keeps_of.open_in y t) e → thread_in y.moment ≡ t
  pub nest : keeps_of.AreStacked (depth_of y) (edge_at R y) (begun y.number (depth_of y) y.region (open_before y))
  pub keep : (e : Extent) → Contains (open_before y) e → (r : FreeRegion) → free_of e.step ≡ Some r → keeps_of.KeepsTo R r e.depth y

-- the free region and the block of a step, by its number
pub record Named (R : Reference) (free_of : ℕ → Option FreeRegion) (block_of : ℕ → ℕ) (y : Seen) : Type 0 where
  pub free : (r : FreeRegion) → y.region ≡ Some r → free_of y.number ≡ Some r
  pub block : (i : Instr) → instr_of R y ≡ Some i → block_of y.number ≡ i.block.0

module _ (p : NumberedProgram) (gates : List InstrId) (sums : ℕ → Option RootedList) (regions : Regions) (are : AreRegions p (λ i. is_gated gates i) sums regions) (moments : List Moment)
    (free_of : ℕ → Option FreeRegion) (block_of : ℕ → ℕ) (program : IsProgram p) (summaries : AreSummaries p (λ i. is_gated gates i) sums)
    (input : List ℤ) (small : length input < 2 ^ 64) (z : State) where
  abbrev R : Reference
  R = record { program = p; regions = regions; moments = moments }

  abbrev OpenAt : State → ℕ → LocalState → Extent → Type 0
  OpenAt s t l e = Open p gates sums are.found free_of block_of s t l e

  abbrev Stacked : List Extent → Type 0
  Stacked es = IsStack p gates sums regions are moments free_of block_of program summaries input small es

  -- what holds before each step of the run
  pub record Inv (k : ℕ) (w : SymbolicState) (s : State) (ts : List (Timed Step)) : Type 0 where
    pub reached : IsReached p s
    pub run : IsRun gates p input s (did_of ts) z
    pub together : AreTogether (did_of ts)
    pub matches : Match w s
    pub alone : (t : ℕ) (e : Extent) → Contains (thread_of w t).extents e → IsNext t (did_of ts)
    pub opens : (t : ℕ) (l : LocalState) → slice_get s.locals t ≡ Some l → (e : Extent) → Contains (thread_of w t).extents e → OpenAt s t l e
    pub stack : (t : ℕ) → Stacked (thread_of w t).extents
    pub named : (y : Seen) → Contains (seen_from R every k w (moments_from gates p input s ts)) y → Named R free_of block_of y

  -- ---- one step

  module _ (k : ℕ) (w : SymbolicState) (s : State) (x : Timed Step) (ts : List (Timed Step)) (inv : Inv k w s (x ∷ ts)) where
    abbrev t : ℕ
    t = x.did.thread.0

    abbrev m : Moment
    m = record { did = x; calls = calls_of (slice_get s.locals t); bytes = byte_at s.memory }

    abbrev y : Seen
    y = record { number = k; moment = m; region = region_of p regions m (instr_in p m); live = is_live every.pinned (thread_of w t).extents; before = w }

    abbrev v : State
    v = inv.run.0.after

    local : (l : LocalState) × (slice_get s.locals t ≡ Some l)
    local = present s t (ready_made p s t inv.run.0.is_ready)

    abbrev l : LocalState
    l = local.0

    seen : IsSeen p gates sums regions are moments free_of block_of program summaries input small s v t l x.did y
    seen = record {
      moment = record { did = refl; calls = ap calls_of local.1; bytes = refl };
      region = refl;
      is_local = local.1;
      is_ready = inv.run.0.is_ready;
      is_step = inv.run.0.is_step;
      reached = inv.reached;
    }

    named_here : Named R free_of block_of y
    unfolding seen_from moments_from
    named_here = inv.named y (here y (seen_from R every (suc k) (after_step R every k m w) (moments_from gates p input (state_after s (step gates p input s t)) ts)))

    abbrev es : List Extent
    es = (thread_of w t).extents

    opens_here : (e : Extent) → Contains es e → OpenAt s t l e
    opens_here e c = inv.opens t l local.1 e c

    facts : Facts R free_of y
    facts = record {
      known = (let a = ready_made p s t inv.run.0.is_ready in let b = inv.matches.count in omega (arith, a, b));
      calls = inv.matches.calls t l local.1 ∙ ap (λ (o : Option LocalState). length (calls_of o)) (sym local.1);
      bounds = store_bounds p gates sums regions are moments free_of block_of program summaries input small s v z t l x.did (did_of ts) y seen inv.run inv.together refl es opens_here
          (inv.stack t) named_here.free named_here.block;
      branches = branch_is p gates sums regions are moments free_of block_of program summaries input small s v z t l x.did (did_of ts) y seen inv.run inv.together refl es opens_here
          (inv.stack t) named_here.free named_here.block;
      own = own_phis p gates sums regions are moments free_of block_of program summaries input small s v z t l x.did (did_of ts) y seen inv.run inv.together refl es opens_here
          (inv.stack t) named_here.free named_here.block;
      together = λ u e c. inv.alone u e c;
      nest = nested p gates sums regions are moments free_of block_of program summaries input small s v z t l x.did (did_of ts) y seen inv.run inv.together refl es opens_here
          (inv.stack t) named_here.free named_here.block;
      keep = keeps p gates sums regions are moments free_of block_of program summaries input small s v z t l x.did (did_of ts) y seen inv.run inv.together refl es opens_here
          (inv.stack t) named_here.free named_here.block;
    }

    -- ---- what is known behind it

    abbrev took : Took gates p s t l x.did v
    took = took_it p gates sums regions are moments free_of block_of program summaries input small s v z t l x.did (did_of ts) y seen inv.run inv.together refl

    abbrev w' : SymbolicState
    w' = after_step R every k m w

    abbrev left_here : List Extent
    left_here = left p gates sums regions are moments free_of block_of program summaries input small s v z t l x.did (did_of ts) y seen inv.run inv.together refl es opens_here
        (inv.stack t) named_here.free named_here.block

    small_thread : t < length w.threads
    small_thread = facts.known

    no_frames : l.frames ≡ [] → (r : Request) → next p l ≡ actions.Event r → ⊥
    unfolding next
    no_frames e r q = let u : actions.Ended ≡ actions.Event r = sym (ap (frames_action p l l.begun) e) ∙ q in cc

    stands_some : (f : ℕ) (o : Option Instr) → StandsAt p f o → (i : Instr) × (o ≡ Some i)
    stands_some f None h = absurd h
    stands_some f (Some i) h = (i, refl)

    request_instr : Requests p s t l x.did v took.local → (i : Instr) × (instr_in p m ≡ Some i)
    unfolding id_of
    request_instr q = go l.frames refl (frames_of p s t l inv.reached local.1)
      where
        go : (fs : List Frame) → l.frames ≡ fs → AreFramesOf p fs → (i : Instr) × (slice_get p.instrs x.did.instr.0 ≡ Some i)
        go [] e h = absurd (no_frames e q.request q.asks)
        go (f ∷ fs) e h =
            let i = stands_some f.function (slice_get p.instrs f.place) h.0.place in
            (i.0, ap (slice_get p.instrs) (took.instr ∙ ap place_in e) ∙ i.1)

    -- the threads of what is known behind it
    walked : Walked w w' t took.local.frames left_here (length v.locals)
    walked = go took.did
      where
        size : length (thread_of w t).calls ≡ length l.frames
        size = inv.matches.calls t l local.1

        go : Plain gates p s t l x.did v took.local ⊎ Requests p s t l x.did v took.local → Walked w w' t took.local.frames left_here (length v.locals)
        go (inl q) =
            let at : instr_in p m ≡ Some q.instr = instr_here p gates sums regions are moments free_of block_of program summaries input small s v z t l x.did
            (did_of ts) y seen inv.run inv.together refl q in
            let n : length v.locals ≡ length w.threads = ap (λ (ls : List LocalState). length ls) q.locals ∙ set_length s.locals t took.local ∙ sym inv.matches.count in
            subst (λ (c : ℕ). Walked w w' t took.local.frames left_here c) (sym n)
            (walked_by R k m w q.instr at small_thread took.local.frames (length w.threads)
            (lives_plain R k m w q.instr at small_thread (is_gated gates q.frame.place) x.did.kind q.frame q.below took.local.frames
            (size ∙ ap (λ (fs : List Frame). length fs) q.frames) q.tells q.moves))
        go (inr q) =
            let i = request_instr q in
            walked_by R k m w i.0 i.1 small_thread took.local.frames (length v.locals)
            (subst (λ (c : StepKind). Lives R k m w i.0 i.1 small_thread c took.local.frames (length v.locals)) (sym q.is)
            (lives_event R k m w i.0 i.1 small_thread q.event q.request l.frames took.local.frames (length v.locals) size q.kind q.moves
            (adds_by s v (length w.threads) q.request inv.matches.count q.adds)))

    fresh_frames : (u f : ℕ) → length (fresh p u f).frames ≡ 1
    unfolding fresh
    fresh_frames u f = refl

    -- of another thread nothing is open
    other_extents : (u : ℕ) → u ≢ t → (e : Extent) → Contains (thread_of w' u).extents e → ⊥
    other_extents u ne e c = go (cases_lt u (length w.threads))
      where
        go : (u < length w.threads) ⊎ (length w.threads ≤ u) → ⊥
        go (inl lt) = ne (sym (inv.alone u e (subst (λ (th : SymbolicThread). Contains th.extents e) (walked.others u ne lt) c)))
        go (inr le) = none_in e (subst (λ (l : List Extent). Contains l e) (walked.past u le).0 c)

    own_extent : (e : Extent) → Contains (thread_of w' t).extents e → Contains left_here e
    own_extent e c = subst (λ (l : List Extent). Contains l e) walked.own_extents c

    matches_next : Match w' v
    matches_next = record { count = walked.count; calls = λ u n e. go u n e (cases_eq u t) (cases_lt u (length w.threads)) }
      where
        go : (u : ℕ) (n : LocalState) → slice_get v.locals u ≡ Some n → (u ≡ t) ⊎ (u ≡ t → ⊥) → (u < length w.threads) ⊎ (length w.threads ≤ u)
            → length (thread_of w' u).calls ≡ length n.frames
        go u n e (inl q) b =
            let same : took.local ≡ n = (let r : Some took.local ≡ Some n = sym took.is_local ∙ ap (slice_get v.locals) (sym q) ∙ e in cc) in
            ap (λ (c : ℕ). length (thread_of w' c).calls) q ∙ walked.own_calls ∙ ap (λ (h : LocalState). length h.frames) same
        go u n e (inr ne) (inl lt) =
            let c = inv.matches.count in
            ap (λ (th : SymbolicThread). length th.calls) (walked.others u ne lt) ∙ inv.matches.calls u n (sym (took.others u ne (omega (arith, lt, c))) ∙ e)
        go u n e (inr ne) (inr le) =
            let c = inv.matches.count in
            let f = took.made u n (omega (arith, le, c)) e in
            let lt : u < length v.locals = slice_get_within v.locals u n e in
            let d = walked.count in
            (walked.past u le).1 (omega (arith, lt, d)) ∙ sym (ap (λ (h : LocalState). length h.frames) f.1 ∙ fresh_frames u f.0)

    next_there : (e : Extent) → Contains left_here e → IsNext t (did_of ts)
    next_there e c = inv.together.0 (left_none p gates sums regions are moments free_of block_of program summaries input small s v z t l x.did
        (did_of ts) y seen inv.run inv.together refl es opens_here (inv.stack t) named_here.free named_here.block e c)

    inv_there : Inv (suc k) w' v ts
    unfolding seen_from moments_from
    inv_there = record {
      reached = reached_step gates p input s v t x.did program small inv.reached inv.run.0.is_ready inv.run.0.is_step;
      run = inv.run.1;
      together = inv.together.1;
      matches = matches_next;
      alone = λ u e c. alone u e c (cases_eq u t);
      opens = λ u n q e c. opens u n q e c (cases_eq u t);
      stack = λ u. stack u (cases_eq u t);
      named = λ a c. inv.named a (there y (seen_from R every (suc k) w' (moments_from gates p input (state_after s (step gates p input s t)) ts)) a
          (subst (λ (b : State). Contains (seen_from R every (suc k) w' (moments_from gates p input b ts)) a) (sym (ap (state_after s) inv.run.0.is_step)) c));
    }
      where
        alone : (u : ℕ) (e : Extent) → Contains (thread_of w' u).extents e → (u ≡ t) ⊎ (u ≡ t → ⊥) → IsNext u (did_of ts)
        alone u e c (inl q) = subst (λ (n : ℕ). IsNext n (did_of ts)) (sym q) (next_there e (own_extent e (subst (λ (n : ℕ). Contains (thread_of w' n).extents e) q c)))
        alone u e c (inr ne) = absurd (other_extents u ne e c)

        opens : (u : ℕ) (n : LocalState) → slice_get v.locals u ≡ Some n → (e : Extent) → Contains (thread_of w' u).extents e → (u ≡ t) ⊎ (u ≡ t → ⊥) → OpenAt v u n e
        opens u n q e c (inr ne) = absurd (other_extents u ne e c)
        opens u n q e c (inl i) =
            let same : took.local ≡ n = (let r : Some took.local ≡ Some n = sym took.is_local ∙ ap (slice_get v.locals) (sym i) ∙ q in cc) in
            subst (λ (a : ℕ). OpenAt v a n e) (sym i) (subst (λ (b : LocalState). OpenAt v t b e) same
            (left_open p gates sums regions are moments free_of block_of program summaries input small s v z t l x.did (did_of ts) y seen inv.run inv.together refl es opens_here
            (inv.stack t) named_here.free named_here.block e
            (own_extent e (subst (λ (a : ℕ). Contains (thread_of w' a).extents e) i c))))

        stack : (u : ℕ) → (u ≡ t) ⊎ (u ≡ t → ⊥) → Stacked (thread_of w' u).extents
        stack u (inl q) = subst (λ (a : ℕ). Stacked (thread_of w' a).extents) (sym q) (subst Stacked (sym walked.own_extents)
            (left_stack p gates sums regions are moments free_of block_of program summaries input small s v z t l x.did (did_of ts) y seen inv.run inv.together refl es opens_here
            (inv.stack t) named_here.free named_here.block))
        stack u (inr ne) = none_stack (thread_of w' u).extents (other_extents u ne)
          where
            none_stack : (us : List Extent) → ((e : Extent) → Contains us e → ⊥) → Stacked us
            none_stack [] h = tt
            none_stack (e ∷ us) h = absurd (h e (here e us))

  -- ---- the run

  pub along : (ts : List (Timed Step)) (k : ℕ) (w : SymbolicState) (s : State) → Inv k w s ts → (a : Seen) → Contains (seen_from R every k w (moments_from gates p input s ts)) a
      → Facts R free_of a
  unfolding seen_from moments_from
  along [] k w s inv a c = absurd (none_in a c)
  along (x ∷ ts) k w s inv a c =
      go (cases (y k w s x ts inv) (seen_from R every (suc k) (after_step R every k (m k w s x ts inv) w) (moments_from gates p input (state_after s (step gates p input s x.did.thread.0)) ts)) a c)
      (λ d. along ts (suc k) (after_step R every k (m k w s x ts inv) w) inv.run.0.after (inv_there k w s x ts inv) a d)
    where
      go : (y k w s x ts inv
          ≡ a) ⊎ Contains (seen_from R every (suc k) (after_step R every k (m k w s x ts inv) w) (moments_from gates p input (state_after s (step gates p input s x.did.thread.0)) ts)) a →
          (Contains (seen_from R every (suc k) (after_step R every k (m k w s x ts inv) w) (moments_from gates p input inv.run.0.after ts)) a → Facts R free_of a) → Facts R free_of a
      go (inl e) more = subst (Facts R free_of) e (facts k w s x ts inv)
      go (inr d) more = more (subst (λ (b : State). Contains (seen_from R every (suc k) (after_step R every k (m k w s x ts inv) w) (moments_from gates p input b ts)) a)
          (ap (state_after s) inv.run.0.is_step) d)

-- ---- numbers of steps

-- a step stands at its number
pub numbered : (R : Reference) (k : ℕ) (w : SymbolicState) (ms : List Moment) (y : Seen) → Contains (seen_from R every k w ms) y
    → (j : ℕ) × (y.number ≡ k + j) × (slice_get (seen_from R every k w ms) j ≡ Some y)
unfolding seen_from
numbered R k w [] y c = absurd (none_in y c)
numbered R k w (m ∷ ms) y c = go (cases head (seen_from R every (suc k) (after_step R every k m w) ms) y c) (λ d. numbered R (suc k) (after_step R every k m w) ms y d)
  where
    head : Seen
    head = record { number = k; moment = m; region = region_of R.program R.regions m (instr_in R.program m); live = is_live every.pinned (thread_of w (thread_in m)).extents; before = w }

    go : (head ≡ y) ⊎ Contains (seen_from R every (suc k) (after_step R every k m w) ms) y
        → (Contains (seen_from R every (suc k) (after_step R every k m w) ms) y
        → (j : ℕ) × (y.number ≡ suc k + j) × (slice_get (seen_from R every (suc k) (after_step R every k m w) ms) j ≡ Some y)) →
        (j : ℕ) × (y.number ≡ k + j) × (slice_get (head ∷ seen_from R every (suc k) (after_step R every k m w) ms) j ≡ Some y)
    go (inl e) more = (0, ap (λ (a : Seen). a.number) (sym e) ∙ (let z : k ≡ k + 0 = omega arith in z), ap (λ (a : Seen). Some a) e)
    go (inr d) more = let r = more d in (suc r.0, (let q = r.1 in omega (arith, q)), r.2)

abbrev free_in : Option Seen → Option FreeRegion
free_in None = None
free_in (Some y) = y.region

abbrev block_at : Reference → Option Seen → ℕ
block_at R None = 0
block_at R (Some y) = block_in (instr_of R y)

-- ---- the whole run

module _ (p : NumberedProgram) (gates : List InstrId) (sums : ℕ → Option RootedList) (regions : Regions) (are : AreRegions p (λ i. is_gated gates i) sums regions) (program : IsProgram p)
    (summaries : AreSummaries p (λ i. is_gated gates i) sums) (input : List ℤ) (small : length input < 2 ^ 64) (bytes : HoldBytes p.globals)
    (turns : List Turn) (xs : List Step) (out : List ℕ) (value : ℤ) (exits : following_of p input turns gates ≡ Exits xs out value) where
  abbrev whole : Reference
  whole = record { program = p; regions = regions; moments = moments_of gates p input xs }

  abbrev all : List Seen
  all = keeps_of.steps_of whole

  abbrev frees : ℕ → Option FreeRegion
  frees n = free_in (slice_get all n)

  abbrev blocks : ℕ → ℕ
  blocks n = block_at whole (slice_get all n)

  at_number : (y : Seen) → Contains all y → slice_get all y.number ≡ Some y
  at_number y c =
      let r = numbered whole 0 (start_of p) (moments_of gates p input xs) y c in
      let n : y.number ≡ r.0 = (let q = r.1 in omega (arith, q)) in
      ap (slice_get all) n ∙ r.2

  named_all : (y : Seen) → Contains all y → Named whole frees blocks y
  named_all y c = record { free = λ r e. ap free_in (at_number y c) ∙ e; block = λ i e. ap (block_at whole) (at_number y c) ∙ ap block_in e }

  -- before the first step
  first_thread : (u : ℕ) → (thread_of (start_of p) u).extents ≡ []
  first_thread zero = refl
  first_thread (suc u) = refl

  none_first : (u : ℕ) (e : Extent) → Contains (thread_of (start_of p) u).extents e → ⊥
  none_first u e c = none_in e (subst (λ (l : List Extent). Contains l e) (first_thread u) c)

  first_match : Match (start_of p) (initial p)
  unfolding initial fresh
  first_match = record { count = refl; calls = calls }
    where
      calls : (u : ℕ) (l : LocalState) → slice_get (fresh p 0 p.main ∷ []) u ≡ Some l → length (thread_of (start_of p) u).calls ≡ length l.frames
      calls zero l e = let q : fresh p 0 p.main ≡ l = cc in ap (λ (m : LocalState). length m.frames) q
      calls (suc zero) l e = absurd cc
      calls (suc (suc u)) l e = absurd cc

  first_stack : (u : ℕ) → Stacked p gates sums regions are (moments_of gates p input xs) frees blocks program summaries input small (exited p input turns gates xs out value exits).state
      (thread_of (start_of p) u).extents
  first_stack zero = tt
  first_stack (suc u) = tt

  first_inv : Inv p gates sums regions are (moments_of gates p input xs) frees blocks program summaries input small (exited p input turns gates xs out value exits).state 0 (start_of p)
      (initial p) (timed_by recorded xs)
  first_inv =
      let x = exited p input turns gates xs out value exits in
      let same : did_of (timed_by recorded xs) ≡ xs = did_times recorded _ 0 xs in
      record {
        reached = reached_first p program bytes;
        run = subst (λ (l : List Step). IsRun gates p input (initial p) l x.state) (sym same) x.run;
        together = subst AreTogether (sym same) x.together;
        matches = first_match;
        alone = λ u e c. absurd (none_first u e c);
        opens = λ u l q e c. absurd (none_first u e c);
        stack = first_stack;
        named = named_all;
      }

  facts_of : (y : Seen) → Contains all y → Facts whole frees y
  facts_of y c = along p gates sums regions are (moments_of gates p input xs) frees blocks program summaries input small (exited p input turns gates xs out value exits).state
      (timed_by recorded xs) 0 (start_of p) (initial p) first_inv y c

  pub extents_keep : ExtentsKeep whole
  extents_keep = record {
    known = λ y c. (facts_of y c).known;
    calls = λ y c. (facts_of y c).calls;
    bounds = λ y c. (facts_of y c).bounds;
    branches = λ y c. (facts_of y c).branches;
    own = λ y c. (facts_of y c).own;
    together = λ y c. (facts_of y c).together;
    nested = λ y c. (facts_of y c).nest;
    keep = λ x d y c r e u k q. (facts_of y c).keep u k r (ap frees q ∙ ap free_in (at_number x d) ∙ e);
  }
