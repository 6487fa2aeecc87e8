-- What the units before one leave is what is known before it.
use Rattle.std.proofs.Common.{◌≡◌, ◌≢◌, ℕ, ℤ, ◌⊎◌, ◌<◌, ◌≤◌, ◌^◌, ◌==◌, ◌++◌, zero, suc, arith, Bool, true, false, List, [], ◌∷◌, length}
use Rattle.std.proofs.Common.{map, Option, Some, None, refl, sym, ap, ◌∙◌, subst, inl, inr}
use Rattle.std.specs.Prelude.{◌&&◌, is_some, slice_get, slice_index_or, if◌then◌else◌}
use Rattle.std.specs.List.{AllByRecursion as AllOf}
use Rattle.std.proofs.lemmas.Bool.{and_from, cases_eq, cases_lt, eq-eqb, ne_eqb, true≢false}
use Rattle.std.proofs.lemmas.Option.{slice_get_past, slice_get_within}
use Rattle.pg_ir.specs.WellFormed.{IsProgram}
use Rattle.pg_ir.specs.Program.{NumberedProgram}
use Rattle.pg_run_memory.specs.Memory.{byte_at}
use Rattle.pg_law_threads.specs.Effects as plans
use Rattle.pg_law_threads.specs.Effects.{Same, effects, or_old}
use Rattle.pg_law_threads.specs.Intervals.{done_after, timed, times}
use Rattle.pg_law_threads.proofs.DoneLists.{cons_head, cons_tail}
use Rattle.pg_run_thread.specs.LocalState.{LocalState}
use Rattle.pg_run_trace.specs.declared.step.Step.{Step}
use Rattle.pg_run_trace.specs.Races.{recorded}
use Rattle.pg_run_trace.specs.Steps.{happening_in}
use Rattle.pg_run.specs.Runs.{IsRun, Takes}
use Rattle.pg_run.specs.State.{State, initial}
use Rattle.pg_law_effects.specs.Effect.{RequestEffect, effect_of}
use Rattle.pg_law_effects.specs.PermittedSteps.{none_taken, one_more}
use Rattle.pg_law_effects.specs.Reached.{IsReached}
use Rattle.pg_law_effects.specs.Views.{LeadsTo, begun_in, local_at, objects_of, objects_with}
use Rattle.pg_law_effects.proofs.ReachedStates.{reached_first, reached_step}
use Rattle.pg_law_effects.proofs.StepViews.{leads_to}
use Rattle.pg_law_runs.proofs.DeedDependence.{request_event, some_turn}
use Rattle.pg_slice_rules.specs.Extents.{is_live}
use Rattle.pg_slice_rules.specs.Known.{SymbolicState, Seen, Taken, SymbolicThread, after_step, no_thread, region_of, seen_from, start_of, thread_of}
use Rattle.pg_slice_rules.specs.Moments.{Moment, calls_of, instr_in, moments_from, thread_in}
use Rattle.pg_slice_rules.specs.Rules.{footprints_in}
use Rattle.pg_run_trace.specs.Steps.{access_in}
use Rattle.std.specs.List.{list_any}
use Rattle.std.specs.Prelude.{nat_lt, ◌-◌}
use Rattle.pg_num.specs.declared.layout.TheConstants.{MEMORY_BYTES}
use Rattle.pg_law_plan.specs.Fits.{IsWithoutInstances, PlanRemembers, thread_before}
use Rattle.pg_law_plan.specs.Order.{IsOrderedRun}
use Rattle.pg_law_plan.specs.Units.{ExtentsArePlain, Met, PlanState, PlanUnit, ReferenceRun, access_touch, behind, cell_known, deed_of, is_event_at, is_instance, is_written_in, last_from}
use Rattle.pg_law_plan.specs.Units.{met_in, met_with, next_local, plan_start, reference_of, standing_of, states_from, turns_of, unit_of, units_from, units_of, word_written, writes_cell}
use Rattle.pg_law_effects.specs.Views.{is_thread}
use Rattle.pg_law_plan.proofs.EachUnit.{behind_is}
use Rattle.pg_law_plan.proofs.ChangedCells.{cells_kept, may_write}
use Rattle.pg_law_plan.proofs.FreeBranchEffects.{freed_kept, left_calls, left_cells, live_behind, others_open}
use Rattle.pg_law_plan.proofs.UnbegunThreads.{AreFresh, first_fresh, fresh_kept, others_kept}
use Rattle.pg_law_plan.proofs.WordsBeforeUnits.{first_words}
use Rattle.pg_law_plan.proofs.ThreadWords.{words_kept}

pub yes_if : {A : Type 0} (b : Bool) (x y : A) → b ≡ true → (if b then x else y) ≡ x
yes_if true x y h = refl
yes_if false x y h = absurd (true≢false (sym h))

pub no_if : {A : Type 0} (b : Bool) (x y : A) → b ≡ false → (if b then x else y) ≡ y
no_if true x y h = absurd (true≢false h)
no_if false x y h = refl

pub thread_is : (p : NumberedProgram) (input : List ℤ) (s : State) (t : ℕ) → (effect_of p input s t).thread ≡ t
unfolding effect_of
thread_is p input s t = refl

pub begun_there : (o : Option LocalState) (l : LocalState) → begun_in o ≡ Some l → is_some o ≡ true
begun_there None l e = absurd cc
begun_there (Some k) l e = refl

pub some_there : (ls : List LocalState) (u : ℕ) → is_some (slice_get ls u) ≡ true → u < length ls
some_there ls u h = go (slice_get ls u) refl h
  where
    go : (o : Option LocalState) → slice_get ls u ≡ o → is_some o ≡ true → u < length ls
    go None e k = absurd (true≢false (sym k))
    go (Some l) e k = slice_get_within ls u l e

-- of a thread that isn't made nothing is known
past_extents : (threads : List SymbolicThread) (u : ℕ) → length threads ≤ u → slice_index_or threads u no_thread ≡ no_thread
past_extents [] u h = refl
past_extents (x ∷ xs) zero h = absurd (omega (arith, h))
past_extents (x ∷ xs) (suc u) h = past_extents xs u (omega (arith, h))

and_none : (b : Bool) → (b && false) ≡ false
and_none true = refl
and_none false = refl

begun_none : (o : Option LocalState) → o ≡ None → begun_in o ≡ None
begun_none o e = ap begun_in e

module _ (r : ReferenceRun) (d : Taken) (program : IsProgram r.program) (small : length r.input < 2 ^ 64) where
  -- what holds before each step
  pub record Holds (known : SymbolicState) (s : State) : Type 0 where
    pub reached : IsReached r.program s
    pub words : length known.words ≡ length s.locals
    pub started : AreFresh r.program known s

  -- the steps of a run from a state on, as they are met
  abbrev pub met_from : List ℕ → ℕ → ℕ → SymbolicState → State → List Step → List Met
  met_from T k n known s xs = met_with (seen_from (reference_of r) d n known (moments_from r.gated r.program r.input s (times recorded T k xs))) (states_from r s xs)

  abbrev pub IsLeft : Seen → Type 0
  IsLeft x = x.live ≡ false → is_event_at x ≡ false

  -- a state of a plan before these steps: each thread stands where its next unit begins
  abbrev before : State → List Met → SymbolicState → State → (ℕ → ℕ) → PlanState
  before last ms known s counts = record {
    locals = λ v. record { standing = standing_of (next_local v last ms) (thread_of known v).calls; units = counts v };
    cells = cell_known known;
    objects = objects_of s;
  }

  module _ (n : ℕ) (m : Moment) (known : SymbolicState) (s : State) (counts : ℕ → ℕ) (last : State) (ms : List Met) (h : Takes r.gated r.program r.input s m.did.did) (holds : Holds known s)
      (plain : is_live d.pinned (thread_of known (thread_in m)).extents ≡ false → is_some (happening_in m.did.did.kind) ≡ false) where
    abbrev x : Seen
    x = record { number = n; moment = m; region = region_of r.program r.regions m (instr_in r.program m); live = is_live d.pinned (thread_of known (thread_in m)).extents; before = known }

    abbrev met : Met
    met = record { seen = x; state = s }

    abbrev u : PlanUnit
    u = unit_of r d last counts (record { seen = x; state = s }) ms

    abbrev after : SymbolicState
    after = after_step (reference_of r) d n m known

    pub holds_after : Holds after h.after
    holds_after = record {
      reached = reached_step r.gated r.program r.input s h.after (thread_in m) m.did.did program small holds.reached h.is_ready h.is_step;
      words = words_kept (reference_of r) d n m known r.gated r.input s h plain holds.words;
      started = fresh_kept (reference_of r) d n m known r.gated r.input s h plain holds.started;
    }

    to : LeadsTo (effect_of r.program r.input s (thread_in m)) s h.after
    to = leads_to r.gated r.program r.input s h.after (thread_in m) m.did.did holds.reached h.is_ready h.is_step

    -- another thread stays
    local_kept : (v : ℕ) → v ≢ thread_in m → local_at h.after v ≡ local_at s v
    local_kept v w = to.locals v ∙ ap (λ (t : ℕ). if v == t then (effect_of r.program r.input s (thread_in m)).local else local_at s v) (thread_is r.program r.input s (thread_in m))
        ∙ no_if (v == thread_in m) _ _ (ne_eqb v (thread_in m) w)

    -- no event changes no objects
    objects_kept : is_event_at x ≡ false → objects_of h.after ≡ objects_of s
    objects_kept e = to.objects ∙ ap (λ (o : Option RequestEffect). objects_with (effect_of r.program r.input s (thread_in m)).thread o (objects_of s))
        (none (effect_of r.program r.input s (thread_in m)).request refl)
      where
        none : (o : Option RequestEffect) → (effect_of r.program r.input s (thread_in m)).request ≡ o → o ≡ None
        none None q = refl
        none (Some k) q = absurd (true≢false (sym (sym (some_turn m.did.did (happening_in m.did.did.kind)) ∙ request_event r.gated r.program r.input s m.did.did h (ap is_some q)) ∙ e))

    single_writes : is_instance d x ≡ false → (c : ℕ) → writes_cell d x c ≡ may_write r.program d n m x.region known m.did.did.kind c
    single_writes f c = ap (λ (b : Bool). if nat_lt c MEMORY_BYTES then list_any (λ g. is_written_in g c)
        (access_touch d n (access_in m.did.did.kind) ++ (if b then footprints_in x.region else [])) else is_thread (word_written (thread_in m) m.did.did.kind) (c - MEMORY_BYTES)) f

    -- a unit changes no cells but those that it may write
    cells_same : is_live d.pinned (thread_of known (thread_in m)).extents ≡ true → (c : ℕ) → writes_cell d x c ≡ false → cell_known after c ≡ cell_known known c
    cells_same live c w = go (is_instance d x) refl
      where
        go : (b : Bool) → is_instance d x ≡ b → cell_known after c ≡ cell_known known c
        go true f = freed_kept (reference_of r) d x refl live f c w
        go false f = cells_kept (reference_of r) d n m known r.gated r.input s h live f (holds.reached.machine.threads ∙ sym holds.words) c (sym (single_writes f c) ∙ w)

    -- where a thread stands before its next unit
    abbrev Stays : Type 0
    Stays = (v : ℕ) → is_live d.pinned (thread_of after v).extents ≡ true → next_local v last ms ≡ local_at h.after v

    skipped : (v : ℕ) → v ≢ thread_in m → next_local v last (met ∷ ms) ≡ next_local v last ms
    skipped v w = ap (λ (b : Bool). if x.live && b then local_at s v else next_local v last ms) (ne_eqb (thread_in m) v (λ e. w (sym e))) ∙ no_if (x.live && false) _ _ (and_none x.live)

    -- another thread stands as before
    standing_kept : Stays → (v : ℕ) → v ≢ thread_in m → standing_of (next_local v last ms) (thread_of known v).calls ≡ standing_of (next_local v last ms) (thread_of after v).calls
    standing_kept stays v w = go (cases_lt v (length known.threads))
      where
        go : (v < length known.threads) ⊎ (length known.threads ≤ v)
            → standing_of (next_local v last ms) (thread_of known v).calls ≡ standing_of (next_local v last ms) (thread_of after v).calls
        go (inl lt) = ap (λ c. standing_of (next_local v last ms) c) (sym (others_kept (reference_of r) d n m known r.gated r.input s h plain v w lt))
        go (inr le) =
            let none_left : (thread_of after v).extents ≡ [] = others_open (reference_of r) d n m known v w ∙ ap (λ (z : SymbolicThread). z.extents) (past_extents known.threads v le) in
            let size = holds.started.number in
            let none : next_local v last ms ≡ None =
            stays v (ap (is_live d.pinned) none_left) ∙ local_kept v w ∙ begun_none (slice_get s.locals v) (slice_get_past s.locals v (omega (arith, le, size))) in
            ap (λ (o : Option LocalState). standing_of o (thread_of known v).calls) none ∙ sym (ap (λ (o : Option LocalState). standing_of o (thread_of after v).calls) none)

    -- behind a unit
    unit_same : is_live d.pinned (thread_of known (thread_in m)).extents ≡ true → Stays → (z : PlanState) → Same z (before last (met ∷ ms) known s counts) →
        Same (plans.effect z (deed_of d u)) (before last ms after (behind r s (thread_in m)) (one_more (thread_in m) counts))
    unit_same live stays z same = subst (λ (b : State). Same (plans.effect z (deed_of d u)) (before last ms after b (one_more (thread_in m) counts))) (sym (behind_is r d s m.did.did h)) (record {
      locals = λ v. by_thread v (cases_eq v (thread_in m));
      cells = λ c. by_cell c (writes_cell d x c) refl;
      objects = by_event (is_event_at x) refl;
    })
      where
        local_is : u.local ≡ next_local (thread_in m) last ms
        local_is = go (is_instance d x) refl
          where
            go : (b : Bool) → is_instance d x ≡ b → u.local ≡ next_local (thread_in m) last ms
            go true f = yes_if (is_instance d x) _ _ f
            go false f = no_if (is_instance d x) _ _ f ∙ ap (λ (b : State). local_at b (thread_in m)) (behind_is r d s m.did.did h)
                ∙ sym (stays (thread_in m) (live_behind (reference_of r) d n m known live f))

        own : (deed_of d u).to ≡ (before last ms after h.after (one_more (thread_in m) counts)).locals (thread_in m)
        own = ap (λ (l : Option LocalState). record { standing = standing_of l (thread_of after (thread_in m)).calls; units = suc (counts (thread_in m)) }) local_is
            ∙ ap (λ (k : ℕ). record { standing = standing_of (next_local (thread_in m) last ms) (thread_of after (thread_in m)).calls; units = k })
            (sym (yes_if (thread_in m == thread_in m) (suc (counts (thread_in m))) (counts (thread_in m)) (eq-eqb (thread_in m) (thread_in m) refl)))

        by_thread : (v : ℕ) → (v ≡ thread_in m) ⊎ (v ≢ thread_in m)
            → (if v == thread_in m then (deed_of d u).to else z.locals v) ≡ (before last ms after h.after (one_more (thread_in m) counts)).locals v
        by_thread v (inl e) = yes_if (v == thread_in m) (deed_of d u).to (z.locals v) (eq-eqb v (thread_in m) e)
            ∙ subst (λ (i : ℕ). (deed_of d u).to ≡ (before last ms after h.after (one_more (thread_in m) counts)).locals i) (sym e) own
        by_thread v (inr w) = no_if (v == thread_in m) (deed_of d u).to (z.locals v) (ne_eqb v (thread_in m) w) ∙ same.locals v
            ∙ ap (λ (l : Option LocalState). record { standing = standing_of l (thread_of known v).calls; units = counts v }) (skipped v w)
            ∙ ap (λ o. record { standing = o; units = counts v }) (standing_kept stays v w)
            ∙ ap (λ (k : ℕ). record { standing = standing_of (next_local v last ms) (thread_of after v).calls; units = k })
            (sym (no_if (thread_in m == v) (suc (counts v)) (counts v) (ne_eqb (thread_in m) v (λ e. w (sym e)))))

        by_cell : (c : ℕ) (b : Bool) → writes_cell d x c ≡ b → or_old (if b then Some (cell_known after c) else None) (z.cells c) ≡ cell_known after c
        by_cell c true e = refl
        by_cell c false e = same.cells c ∙ sym (cells_same live c e)

        by_event : (b : Bool) → is_event_at x ≡ b → or_old (if b then Some (objects_of (behind r s (thread_in m))) else None) z.objects ≡ objects_of h.after
        by_event true e = ap objects_of (behind_is r d s m.did.did h)
        by_event false e = same.objects ∙ sym (objects_kept e)

    -- behind a step that is left out
    skip_same : is_live d.pinned (thread_of known (thread_in m)).extents ≡ false → (z : PlanState) → Same z (before last (met ∷ ms) known s counts)
        → Same z (before last ms after (behind r s (thread_in m)) counts)
    skip_same dead z same = subst (λ (b : State). Same z (before last ms after b counts)) (sym (behind_is r d s m.did.did h)) (record {
      locals = λ v. same.locals v ∙ ap (λ (b : Bool). record
          { standing = standing_of (if b && (thread_in m == v) then local_at s v else next_local v last ms) (thread_of known v).calls; units = counts v }) dead
          ∙ ap (λ c. record { standing = standing_of (next_local v last ms) c; units = counts v }) (sym (left_calls (reference_of r) d n m known dead v));
      cells = λ c. same.cells c ∙ sym (left_cells (reference_of r) d n m known dead c);
      objects = same.objects ∙ sym (objects_kept (plain dead));
    })

  -- ---- along the run

  pub last_is : (s w : State) (xs : List Step) → IsRun r.gated r.program r.input s xs w → last_from r s xs ≡ w
  unfolding last_from
  last_is s w [] run = run
  last_is s w (y ∷ ys) run = last_is (behind r s y.thread.0) w ys (subst (λ (j : State). IsRun r.gated r.program r.input j ys w) (sym (behind_is r d s y run.0)) run.1)

  module _ (last : State) where
    -- a thread whose next step is live, if it has one, stands where its next unit begins
    pub stays : (T : List ℕ) (k n : ℕ) (known : SymbolicState) (s w : State) (xs : List Step) (v : ℕ) → last ≡ w → IsRun r.gated r.program r.input s xs w → Holds known s →
        AllOf IsLeft (seen_from (reference_of r) d n known (moments_from r.gated r.program r.input s (times recorded T k xs))) →
        is_live d.pinned (thread_of known v).extents ≡ true → next_local v last (met_from T k n known s xs) ≡ local_at s v
    unfolding seen_from moments_from states_from
    stays T k n known s w [] v q run holds left live = ap (λ (z : State). local_at z v) (q ∙ sym run)
    stays T k n known s w (y ∷ ys) v q run holds left live = go (cases_eq v y.thread.0)
        (λ known2 holds2 left2 live2. stays T (done_after (recorded.is_event y) k) (suc n) known2 (behind r s y.thread.0) w ys v q
        (subst (λ (j : State). IsRun r.gated r.program r.input j ys w) (sym b) run.1) holds2 left2 live2)
      where
        b : behind r s y.thread.0 ≡ run.0.after
        b = behind_is r d s y run.0

        m : Moment
        m = record { did = timed recorded T k y; calls = calls_of (slice_get s.locals y.thread.0); bytes = byte_at s.memory }

        go : (v ≡ y.thread.0) ⊎ (v ≢ y.thread.0) →
            ((known2 : SymbolicState) → Holds known2 (behind r s y.thread.0)
            → AllOf IsLeft (seen_from (reference_of r) d (suc n) known2
            (moments_from r.gated r.program r.input (behind r s y.thread.0) (times recorded T (done_after (recorded.is_event y) k) ys)))
            → is_live d.pinned (thread_of known2 v).extents ≡ true
            → next_local v last (met_from T (done_after (recorded.is_event y) k) (suc n) known2 (behind r s y.thread.0) ys) ≡ local_at (behind r s y.thread.0) v) →
            (if is_live d.pinned (thread_of known y.thread.0).extents && (y.thread.0 == v) then local_at s v else next_local v last
            (met_from T (done_after (recorded.is_event y) k) (suc n) (after_step (reference_of r) d n m known) (behind r s y.thread.0) ys)) ≡ local_at s v
        go (inl e) more =
            let on : is_live d.pinned (thread_of known y.thread.0).extents ≡ true = subst (λ (i : ℕ). is_live d.pinned (thread_of known i).extents ≡ true) e live in
            yes_if (is_live d.pinned (thread_of known y.thread.0).extents && (y.thread.0 == v)) (local_at s v) _
            (and_from (is_live d.pinned (thread_of known y.thread.0).extents) (y.thread.0 == v) on (eq-eqb y.thread.0 v (sym e)))
        go (inr e) more =
            no_if (is_live d.pinned (thread_of known y.thread.0).extents && (y.thread.0 == v)) (local_at s v) _
            (ap (λ (c : Bool). is_live d.pinned (thread_of known y.thread.0).extents && c) (ne_eqb y.thread.0 v (λ z. e (sym z)))
            ∙ and_none (is_live d.pinned (thread_of known y.thread.0).extents))
            ∙ more (after_step (reference_of r) d n m known)
            (subst (Holds (after_step (reference_of r) d n m known)) (sym b) (holds_after n m known s none_taken last [] run.0 holds left.0)) left.1
            (ap (is_live d.pinned) (others_open (reference_of r) d n m known v e) ∙ live)
            ∙ ap (λ (z : State). local_at z v) b ∙ local_kept n m known s none_taken last [] run.0 holds left.0 v e

    -- what the units before one leave
    record Recalls (z : PlanState) (us : List PlanUnit) (v : PlanUnit) : Type 0 where
      thread : (effects z (map (deed_of d) us)).locals (thread_in v.seen.moment) ≡ thread_before v
      cells : (c : ℕ) → (effects z (map (deed_of d) us)).cells c ≡ cell_known v.seen.before c
      objects : (effects z (map (deed_of d) us)).objects ≡ objects_of v.state

    module _ (T : List ℕ) (k n : ℕ) (known : SymbolicState) (s w : State) (y : Step) (ys : List Step) (counts : ℕ → ℕ) (q : last ≡ w)
        (run : IsRun r.gated r.program r.input s (y ∷ ys) w) (holds : Holds known s) where
      abbrev m : Moment
      m = record { did = timed recorded T k y; calls = calls_of (slice_get s.locals y.thread.0); bytes = byte_at s.memory }

      abbrev known2 : SymbolicState
      known2 = after_step (reference_of r) d n m known

      abbrev live : Bool
      live = is_live d.pinned (thread_of known y.thread.0).extents

      abbrev later : List Met
      later = met_from T (done_after (recorded.is_event y) k) (suc n) known2 (behind r s y.thread.0) ys

      abbrev here : Met
      here = record {
        seen = record {
          number = n;
          moment = m;
          region = region_of r.program r.regions m (instr_in r.program m);
          live = is_live d.pinned (thread_of known (thread_in m)).extents;
          before = known;
        };
        state = s;
      }

      abbrev first : PlanUnit
      first = unit_of r d last counts here later

      b : behind r s y.thread.0 ≡ run.0.after
      b = behind_is r d s y run.0

      run_there : IsRun r.gated r.program r.input (behind r s y.thread.0) ys w
      run_there = subst (λ (j : State). IsRun r.gated r.program r.input j ys w) (sym b) run.1

      module _ (left : IsLeft here.seen) (more : AllOf IsLeft
          (seen_from (reference_of r) d (suc n) known2 (moments_from r.gated r.program r.input (behind r s y.thread.0) (times recorded T (done_after (recorded.is_event y) k) ys)))) where
        holds_there : Holds known2 (behind r s y.thread.0)
        holds_there = subst (Holds known2) (sym b) (holds_after n m known s counts last later run.0 holds left)

        stays_there : Stays n m known s counts last later run.0 holds left
        stays_there v e = stays T (done_after (recorded.is_event y) k) (suc n) known2 (behind r s y.thread.0) w ys v q run_there holds_there more e ∙ ap (λ (z : State). local_at z v) b

    recalls : (T : List ℕ) (k n : ℕ) (known : SymbolicState) (s w : State) (xs : List Step) (counts : ℕ → ℕ) (z : PlanState) → last ≡ w → IsRun r.gated r.program r.input s xs w
        → Holds known s →
        Same z (before last (met_from T k n known s xs) known s counts) →
        AllOf IsLeft (seen_from (reference_of r) d n known (moments_from r.gated r.program r.input s (times recorded T k xs))) →
        (us : List PlanUnit) (v : PlanUnit) (vs : List PlanUnit) → units_from r d last counts (met_from T k n known s xs) ≡ us ++ v ∷ vs → Recalls z us v
    unfolding seen_from moments_from states_from units_from
    recalls T k n known s w [] counts z q run holds same left [] v vs e = absurd cc
    recalls T k n known s w [] counts z q run holds same left (u ∷ us) v vs e = absurd cc
    recalls T k n known s w (y ∷ ys) counts z q run holds same left us v vs e = go (live T k n known s w y ys counts q run holds) refl us
        (λ b counts2 same2 us2 e2. recalls T (done_after (recorded.is_event y) k) (suc n) (known2 T k n known s w y ys counts q run holds) (behind r s y.thread.0) w ys counts2 b q
        (run_there T k n known s w y ys counts q run holds) (holds_there T k n known s w y ys counts q run holds left.0 left.1) same2 left.1 us2 v vs e2)
        e
      where
        by_unit : live T k n known s w y ys counts q run holds ≡ true → (us : List PlanUnit)
            → ((b : PlanState) (counts2 : ℕ → ℕ)
            → Same b (before last (later T k n known s w y ys counts q run holds) (known2 T k n known s w y ys counts q run holds) (behind r s y.thread.0) counts2) → (us2 : List PlanUnit)
            → units_from r d last counts2 (later T k n known s w y ys counts q run holds) ≡ us2 ++ v ∷ vs → Recalls b us2 v)
            → first T k n known s w y ys counts q run holds ∷ units_from r d last (one_more y.thread.0 counts) (later T k n known s w y ys counts q run holds) ≡ us ++ v ∷ vs → Recalls z us v
        by_unit on [] more p = subst (Recalls z []) (cons_head p) (record {
          thread = same.locals y.thread.0 ∙ ap (λ (o : Option LocalState). record { standing = standing_of o (thread_of known y.thread.0).calls; units = counts y.thread.0 })
              (yes_if (live T k n known s w y ys counts q run holds && (y.thread.0 == y.thread.0)) (local_at s y.thread.0)
              (next_local y.thread.0 last (later T k n known s w y ys counts q run holds))
              (and_from (live T k n known s w y ys counts q run holds) (y.thread.0 == y.thread.0) on (eq-eqb y.thread.0 y.thread.0 refl)));
          cells = same.cells;
          objects = same.objects;
        })
        by_unit on (u ∷ us) more p =
            let k2 = more (plans.effect z (deed_of d (first T k n known s w y ys counts q run holds))) (one_more y.thread.0 counts)
            (unit_same n (m T k n known s w y ys counts q run holds) known s counts last (later T k n known s w y ys counts q run holds) run.0 holds left.0 on
            (stays_there T k n known s w y ys counts q run holds left.0 left.1) z same) us (cons_tail p) in
            subst (λ (i : PlanUnit). Recalls z (i ∷ us) v) (cons_head p) (record { thread = k2.thread; cells = k2.cells; objects = k2.objects })

        go : (a : Bool) → live T k n known s w y ys counts q run holds ≡ a → (us : List PlanUnit)
            → ((b : PlanState) (counts2 : ℕ → ℕ)
            → Same b (before last (later T k n known s w y ys counts q run holds) (known2 T k n known s w y ys counts q run holds) (behind r s y.thread.0) counts2) → (us2 : List PlanUnit)
            → units_from r d last counts2 (later T k n known s w y ys counts q run holds) ≡ us2 ++ v ∷ vs → Recalls b us2 v)
            → (if a then first T k n known s w y ys counts q run holds ∷ units_from r d last (one_more y.thread.0 counts)
            (later T k n known s w y ys counts q run holds) else units_from r d last counts (later T k n known s w y ys counts q run holds)) ≡ us ++ v ∷ vs → Recalls z us v
        go true on us more p = by_unit on us more p
        go false off us more p = more z counts (skip_same n (m T k n known s w y ys counts q run holds) known s counts last
            (later T k n known s w y ys counts q run holds) run.0 holds left.0 off z same) us p

    -- the last objects are the last state's
    leaves : (T : List ℕ) (k n : ℕ) (known : SymbolicState) (s w : State) (xs : List Step) (counts : ℕ → ℕ) (z : PlanState) → last ≡ w → IsRun r.gated r.program r.input s xs w
        → Holds known s →
        Same z (before last (met_from T k n known s xs) known s counts) →
        AllOf IsLeft (seen_from (reference_of r) d n known (moments_from r.gated r.program r.input s (times recorded T k xs))) →
        (effects z (map (deed_of d) (units_from r d last counts (met_from T k n known s xs)))).objects ≡ objects_of w
    unfolding seen_from moments_from states_from units_from
    leaves T k n known s w [] counts z q run holds same left = same.objects ∙ ap objects_of run
    leaves T k n known s w (y ∷ ys) counts z q run holds same left = go (live T k n known s w y ys counts q run holds) refl
        (λ b counts2 same2. leaves T (done_after (recorded.is_event y) k) (suc n) (known2 T k n known s w y ys counts q run holds) (behind r s y.thread.0) w ys counts2 b q
        (run_there T k n known s w y ys counts q run holds) (holds_there T k n known s w y ys counts q run holds left.0 left.1) same2 left.1)
      where
        go : (a : Bool) → live T k n known s w y ys counts q run holds ≡ a
            → ((b : PlanState) (counts2 : ℕ → ℕ)
            → Same b (before last (later T k n known s w y ys counts q run holds) (known2 T k n known s w y ys counts q run holds) (behind r s y.thread.0) counts2)
            → (effects b (map (deed_of d) (units_from r d last counts2 (later T k n known s w y ys counts q run holds)))).objects ≡ objects_of w) →
            (effects z (map (deed_of d) (if a then first T k n known s w y ys counts q run holds ∷ units_from r d last (one_more y.thread.0 counts)
            (later T k n known s w y ys counts q run holds) else units_from r d last counts (later T k n known s w y ys counts q run holds)))).objects ≡ objects_of w
        go true on more = more (plans.effect z (deed_of d (first T k n known s w y ys counts q run holds))) (one_more y.thread.0 counts)
            (unit_same n (m T k n known s w y ys counts q run holds) known s counts last (later T k n known s w y ys counts q run holds) run.0 holds left.0 on
            (stays_there T k n known s w y ys counts q run holds left.0 left.1) z same)
        go false off more = more z counts (skip_same n (m T k n known s w y ys counts q run holds) known s counts last (later T k n known s w y ys counts q run holds) run.0 holds left.0 off z same)

module _ (r : ReferenceRun) (d : Taken) (o : IsOrderedRun r) (plain : ExtentsArePlain r d) where
  last_state : last_from r (initial r.program) r.steps ≡ o.last
  last_state = last_is r d o.can.program o.can.small (initial r.program) o.last r.steps o.run

  holds_first : Holds r d o.can.program o.can.small (start_of r.program) (initial r.program)
  holds_first = record { reached = reached_first r.program o.can.program o.can.bytes; words = first_words r d; started = first_fresh r.program }

  first_open : (v : ℕ) → is_live d.pinned (thread_of (start_of r.program) v).extents ≡ true
  first_open zero = refl
  first_open (suc v) = refl

  same_first : Same (plan_start r) (before r d o.can.program o.can.small (last_from r (initial r.program) r.steps) (met_in r d) (start_of r.program) (initial r.program) none_taken)
  same_first = record {
    locals = λ v. ap (λ (l : Option LocalState). record { standing = standing_of l (thread_of (start_of r.program) v).calls; units = 0 })
        (sym (stays r d o.can.program o.can.small (last_from r (initial r.program) r.steps) (turns_of r) 0 0 (start_of r.program)
        (initial r.program) o.last r.steps v last_state o.run holds_first plain (first_open v)));
    cells = λ c. refl;
    objects = refl;
  }

  pub plan_remembers : PlanRemembers r d
  plan_remembers us u vs e =
      let k = recalls r d o.can.program o.can.small (last_from r (initial r.program) r.steps) (turns_of r) 0 0 (start_of r.program) (initial r.program) o.last r.steps none_taken
      (plan_start r) last_state o.run holds_first same_first plain us u vs e in
      record { thread = k.thread; cells = k.cells; objects = k.objects }

  -- the plan's last objects are the run's
  pub plan_leaves : (effects (plan_start r) (map (deed_of d) (units_of r d))).objects ≡ objects_of o.last
  plan_leaves = leaves r d o.can.program o.can.small (last_from r (initial r.program) r.steps) (turns_of r) 0 0 (start_of r.program) (initial r.program) o.last r.steps none_taken
      (plan_start r) last_state o.run holds_first same_first plain

module _ (r : ReferenceRun) (d : Taken) (o : IsOrderedRun r) where
  -- no unit is an instance
  pub units_single : IsWithoutInstances r d → AllOf (λ (u : PlanUnit). is_instance d u.seen ≡ false) (units_of r d)
  units_single alone = alone
