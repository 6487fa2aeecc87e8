-- In a reference run the thread of a branch step that is left free comes to the join of its region, and its next unit begins there.
use Rattle.std.specs.List.{AllByRecursion as AllOf, AllZip}
use Rattle.std.specs.Prelude.{◌&&◌, Contains, filter, if◌then◌else◌, is_some, slice_get}
use Rattle.std.proofs.Common.{◌++◌, ◌+◌, ◌<◌, ◌==◌, ◌^◌, ◌∙◌, ◌∷◌, ◌≡◌, ◌⊎◌, Bool, List, Option, Some, [], ap, arith, false, inl, inr}
use Rattle.std.proofs.Common.{length, not, refl, subst, suc, sym, true, ℕ, ℤ}
use Rattle.std.proofs.lemmas.Option.{slice_get_within}
use Rattle.pg_law_threads.specs.Intervals.{done_after, timed, times}
use Rattle.pg_ir.specs.Program.{NumberedProgram}
use Rattle.pg_ir.specs.WellFormed.{IsProgram}
use Rattle.pg_ir.specs.declared.ids.InstrId.{InstrId}
use Rattle.pg_run_memory.specs.Memory.{byte_at}
use Rattle.pg_run_thread.specs.LocalState.{Frame, LocalState}
use Rattle.pg_run_thread.specs.Step.{after}
use Rattle.pg_run_trace.specs.Races.{recorded}
use Rattle.pg_run_trace.specs.Steps.{happening_in, turn_at}
use Rattle.pg_run_trace.specs.declared.step.Step.{Step}
use Rattle.pg_run_trace.specs.declared.turn.Turn.{Turn}
use Rattle.pg_region_accesses.specs.Accesses.{RootedList}
use Rattle.pg_region_paths.proofs.Elements.{here, there}
use Rattle.pg_region_summaries.specs.Summaries.{AreSummaries}
use Rattle.pg_region.specs.Regions.{IsRegion}
use Rattle.pg_region.specs.declared.region.Region.{Region}
use Rattle.pg_run.specs.MachineStep.{is_gated, step}
use Rattle.pg_run.specs.Runs.{IsRun}
use Rattle.pg_run.specs.State.{State, initial}
use Rattle.pg_slice_rules.specs.Extents.{Extent, begun, ends, is_live}
use Rattle.pg_slice_rules.specs.Freeable.{FreeRegion, Regions}
use Rattle.pg_slice_rules.specs.Known.{Reference, SymbolicState, Seen, Taken, after_step, edge_of, has, region_of, seen_from, seen_in, start_of, thread_of}
use Rattle.pg_slice_rules.specs.Moments.{Moment, calls_of, instr_in, moments_from, thread_in}
use Rattle.pg_slice_rules.specs.declared.decision.Decision.{Decision}
use Rattle.pg_slice_rules.specs.declared.decision.Decision.TheVariants.{Exact, Pinned}
use Rattle.pg_law_instances.specs.pg_law_least.Keeps.{AreStacked, every, steps_of}
use Rattle.pg_law_instances.specs.pg_law_least.Laws.{SameExtents}
use Rattle.pg_law_instances.proofs.of_pg_law_least.EachStep.{plain_in, same_in}
use Rattle.pg_law_effects.specs.PermittedSteps.{none_taken, one_more}
use Rattle.pg_law_effects.specs.Views.{local_at}
use Rattle.pg_law_effects.proofs.ReachedStates.{reached_first}
use Rattle.pg_law_instances.specs.pg_slice_replay.OfRegions.{AreRegions}
use Rattle.pg_law_instances.specs.Free.{instance_of}
use Rattle.pg_law_instances.specs.Inside.{IsAtJoin, IsInside, Joins}
use Rattle.pg_law_instances.specs.References.{IsReferenceRun}
use Rattle.pg_law_instances.specs.Stays.{CanStepInside, StaysInside}
use Rattle.pg_law_instances.specs.Together.{AreTogether, IsNext}
use Rattle.pg_law_instances.proofs.RunsOfOneThread.{inside_again}
use Rattle.pg_law_instances.proofs.ReferenceExtents.{extents_keep}
use Rattle.pg_law_instances.proofs.NextStepsOfThread.{exited}
use Rattle.pg_law_plan.specs.Units.{Met, PlanUnit, ReferenceRun, behind, is_event_at, is_instance, last_from, met_with, next_local, reference_of, states_from, turns_of, unit_of, units_from, units_of}
use Rattle.pg_law_plan.proofs.EachUnit.{behind_is}
use Rattle.pg_law_plan.proofs.UnbegunThreads.{first_fresh}
use Rattle.pg_law_plan.proofs.KnownBeforeUnits.{yes_if}
use Rattle.pg_law_plan.proofs.KnownBeforeUnits as remembered
use Rattle.pg_law_plan.proofs.WordsBeforeUnits.{first_words}
use Rattle.pg_law_admitted.specs.Free.{JoinsAgain}
use Rattle.pg_law_admitted.proofs.ExtentEnds.{all_end, begun_on, it_stays, left_live, not_live}
use Rattle.pg_law_admitted.proofs.ExtentEnds.{own_extents}
use Rattle.pg_law_admitted.proofs.FreeBranchSteps.{at, calls_there, can_there, free_step, freed_there, inside_open, joined_ends, local, local_there, stays}
use Rattle.pg_law_admitted.proofs.RecordedRuns.{plain_events}
use Rattle.pg_law_admitted.proofs.InstanceFits.{quiet_event}

-- ---- along the run

abbrev IsStackedAt : Reference → Seen → Type 0
IsStackedAt R y = AreStacked (length y.moment.calls) (edge_of R.program y.moment y.moment.did.did.kind)
    (begun y.number (length y.moment.calls) y.region (thread_of y.before (thread_in y.moment)).extents)

-- extents rest on no decision, so they are stacked under each
stack_by : (R : Reference) (d e : Taken) (n : ℕ) (wd we : SymbolicState) (ms : List Moment) → AllZip SameExtents (seen_from R d n wd ms) (seen_from R e n we ms)
    → AllOf (IsStackedAt R) (seen_from R e n we ms) → AllOf (IsStackedAt R) (seen_from R d n wd ms)
unfolding seen_from
stack_by R d e n wd we [] z h = tt
stack_by R d e n wd we (m ∷ ms) z h = (
  subst (λ (es : List Extent). AreStacked (length m.calls) (edge_of R.program m m.did.did.kind) (begun n (length m.calls) (region_of R.program R.regions m (instr_in R.program m)) es))
      (sym (z.0 (thread_in m))) h.0,
  stack_by R d e (suc n) (after_step R d n m wd) (after_step R e n m we) ms z.1 h.1,
)

each_of : {A : Type 0} (P : A → Type 0) (xs : List A) → ((x : A) → Contains xs x → P x) → AllOf P xs
each_of P [] h = tt
each_of P (x ∷ xs) h = (h x (here x xs), each_of P xs (λ y c. h y (there x xs y c)))

module _ (r : ReferenceRun) (d : Taken) (program : IsProgram r.program) (small0 : length r.input < 2 ^ 64) (last : State) where
  module _ (sums : ℕ → Option RootedList) (region : Region) (c : ℕ) (is_region : IsRegion r.program (λ i. is_gated r.gated i) sums c region) (q : FreeRegion) (s0 : State) (l0 : LocalState)
      (f0 : Frame) (fs0 : List Frame)
      (e : Extent) (join : e.join ≡ region.join) (depth : e.depth ≡ length fs0 + 1) (loose : d.pinned e.step ≡ false) where
    -- behind some steps the thread's next unit begins at the join
    abbrev Comes : ℕ → List Met → Type 0
    Comes t ms = (m : LocalState) × (next_local t last ms ≡ Some m) × IsAtJoin (instance_of r.program (λ i. is_gated r.gated i) sums region q s0 l0 f0 fs0) m

    module _ (T : List ℕ) (k n : ℕ) (known : SymbolicState) (s w : State) (x : Step) (ys : List Step) (t : ℕ) (l : LocalState) (own : x.thread.0 ≡ t) (end : last ≡ w)
        (run : IsRun r.gated r.program r.input s (x ∷ ys) w) (holds : remembered.Holds r d program small0 known s)
        (together : AreTogether (x ∷ ys)) (can : CanStepInside (instance_of r.program (λ i. is_gated r.gated i) sums region q s0 l0 f0 fs0) r.gated s t l) where
      abbrev m : Moment
      m = record { did = timed recorded T k x; calls = calls_of (slice_get s.locals x.thread.0); bytes = byte_at s.memory }

      abbrev known2 : SymbolicState
      known2 = after_step (reference_of r) d n m known

      abbrev stay : StaysInside (instance_of r.program (λ i. is_gated r.gated i) sums region q s0 l0 f0 fs0) t l x s run.0.after
      stay = stays r program sums region c is_region q s0 l0 f0 fs0 s t l x can run.0 own holds.reached m refl refl

      run2 : IsRun r.gated r.program r.input (behind r s x.thread.0) ys w
      run2 = subst (λ (j : State). IsRun r.gated r.program r.input j ys w) (sym (behind_is r d s x run.0)) run.1

      next_too : IsNext x.thread.0 ys
      next_too = together.0 (ap (turn_at x) (quiet_event (instance_of r.program (λ i. is_gated r.gated i) sums region q s0 l0 f0 fs0) x.kind stay.tells))

      module _ (left : is_live d.pinned (thread_of known x.thread.0).extents ≡ false → is_some (happening_in x.kind) ≡ false)
          (left2 : AllOf (λ (x : Seen). x.live ≡ false → is_event_at x ≡ false)
          (seen_from (reference_of r) d (suc n) known2 (moments_from r.gated r.program r.input (behind r s x.thread.0) (times recorded T (done_after (recorded.is_event x) k) ys))))
          (stacked : AreStacked (length m.calls) (edge_of r.program m x.kind) (begun n (length m.calls) (region_of r.program r.regions m (instr_in r.program m)) (thread_of known x.thread.0).extents))
          (later earlier : List Extent) (split : begun n (length m.calls) (region_of r.program r.regions m (instr_in r.program m)) (thread_of known x.thread.0).extents ≡ later ++ e ∷ earlier)
          (fixed : is_live d.pinned earlier ≡ true) where
        holds2 : remembered.Holds r d program small0 known2 (behind r s x.thread.0)
        holds2 = subst (remembered.Holds r d program small0 known2) (sym (behind_is r d s x run.0)) (remembered.holds_after r d program small0 n m known s none_taken last [] run.0 holds left)

        opened : (thread_of known2 x.thread.0).extents ≡ filter (λ (e : Extent). not (ends (length m.calls) (edge_of r.program m x.kind) e)) (later ++ e ∷ earlier)
        opened =
            let after = remembered.holds_after r d program small0 n m known s none_taken last [] run.0 holds left in
            let size = after.started.number in
            let within = slice_get_within run.0.after.locals t stay.local stay.is_local in
            own_extents (reference_of r) d n m known (omega (arith, own, size, within))
            ∙ ap (filter (λ (e : Extent). not (ends (length m.calls) (edge_of r.program m x.kind) e))) split

        comes : ((later2 earlier2 : List Extent) → (thread_of known2 t).extents ≡ later2 ++ e ∷ earlier2 → is_live d.pinned earlier2 ≡ true
            → CanStepInside (instance_of r.program (λ i. is_gated r.gated i) sums region q s0 l0 f0 fs0) r.gated (behind r s x.thread.0) t stay.local →
            Comes t (met_with (seen_from (reference_of r) d (suc n) known2
            (moments_from r.gated r.program r.input (behind r s x.thread.0) (times recorded T (done_after (recorded.is_event x) k) ys))) (states_from r (behind r s x.thread.0) ys))) →
            Comes t (met_with (seen_from (reference_of r) d (suc n) known2
            (moments_from r.gated r.program r.input (behind r s x.thread.0) (times recorded T (done_after (recorded.is_event x) k) ys))) (states_from r (behind r s x.thread.0) ys))
        comes more = go stay.goes_on
          where
            go : IsInside (instance_of r.program (λ i. is_gated r.gated i) sums region q s0 l0 f0 fs0) stay.local
                ⊎ Joins (instance_of r.program (λ i. is_gated r.gated i) sums region q s0 l0 f0 fs0) l stay.local →
                Comes t (met_with (seen_from (reference_of r) d (suc n) known2
                (moments_from r.gated r.program r.input (behind r s x.thread.0) (times recorded T (done_after (recorded.is_event x) k) ys))) (states_from r (behind r s x.thread.0) ys))
            go (inr j) =
                let over = joined_ends r program sums region c is_region q s0 l0 f0 fs0 s t l x can run.0 own holds.reached m refl refl e join depth j in
                let rest = opened ∙ all_end (length m.calls) (edge_of r.program m x.kind) later earlier e (subst (AreStacked (length m.calls) (edge_of r.program m x.kind)) split stacked) over in
                let live = ap (is_live d.pinned) rest ∙ left_live d.pinned (λ (e : Extent). not (ends (length m.calls) (edge_of r.program m x.kind) e)) earlier fixed in
                let at = remembered.stays r d program small0 last T (done_after (recorded.is_event x) k) (suc n) known2 (behind r s x.thread.0) w ys x.thread.0 end run2 holds2 left2 live in (
                  stay.local,
                  ap (λ (i : ℕ). next_local i last (met_with
                      (seen_from (reference_of r) d (suc n) known2 (moments_from r.gated r.program r.input (behind r s x.thread.0) (times recorded T (done_after (recorded.is_event x) k) ys)))
                      (states_from r (behind r s x.thread.0) ys))) (sym own)
                      ∙ at ∙ ap (λ (i : ℕ). local_at (behind r s x.thread.0) i) own ∙ ap (λ (z : State). local_at z t) (behind_is r d s x run.0)
                      ∙ local_there r program sums region c is_region q s0 l0 f0 fs0 s t l x can run.0 own holds.reached m refl refl,
                  j.there,
                )
            go (inl i) =
                let on = inside_open r program sums region c is_region q s0 l0 f0 fs0 s t l x can run.0 own holds.reached m refl refl e join depth i in
                more (filter (λ (e : Extent). not (ends (length m.calls) (edge_of r.program m x.kind) e)) later)
                (filter (λ (e : Extent). not (ends (length m.calls) (edge_of r.program m x.kind) e)) earlier)
                (ap (λ (i : ℕ). (thread_of known2 i).extents) (sym own) ∙ opened ∙ it_stays (length m.calls) (edge_of r.program m x.kind) later earlier e on)
                (left_live d.pinned (λ (e : Extent). not (ends (length m.calls) (edge_of r.program m x.kind) e)) earlier fixed)
                (subst (λ (z : State). CanStepInside (instance_of r.program (λ i. is_gated r.gated i) sums region q s0 l0 f0 fs0) r.gated z t stay.local) (sym (behind_is r d s x run.0))
                (inside_again (instance_of r.program (λ i. is_gated r.gated i) sums region q s0 l0 f0 fs0) r.gated s run.0.after t l x can stay i))

    rejoins : (T : List ℕ) (k n : ℕ) (known : SymbolicState) (s w : State) (xs : List Step) (t : ℕ) (l : LocalState) (later earlier : List Extent) → last ≡ w
        → IsRun r.gated r.program r.input s xs w → remembered.Holds r d program small0 known s →
        AllOf (λ (x : Seen). x.live ≡ false → is_event_at x ≡ false) (seen_from (reference_of r) d n known (moments_from r.gated r.program r.input s (times recorded T k xs))) →
        AllOf (IsStackedAt (reference_of r)) (seen_from (reference_of r) d n known (moments_from r.gated r.program r.input s (times recorded T k xs))) →
        AreTogether xs → IsNext t xs → CanStepInside (instance_of r.program (λ i. is_gated r.gated i) sums region q s0 l0 f0 fs0) r.gated s t l →
        (thread_of known t).extents ≡ later ++ e ∷ earlier → is_live d.pinned earlier ≡ true →
        Comes t (met_with (seen_from (reference_of r) d n known (moments_from r.gated r.program r.input s (times recorded T k xs))) (states_from r s xs))
    unfolding seen_from moments_from states_from
    rejoins T k n known s w [] t l later earlier end run holds left stacked together mine can es fixed = absurd mine
    rejoins T k n known s w (x ∷ ys) t l later earlier end run holds left stacked together mine can es fixed =
        let mm : Moment = record { did = timed recorded T k x; calls = calls_of (slice_get s.locals x.thread.0); bytes = byte_at s.memory } in
        let es2 : (thread_of known x.thread.0).extents ≡ later ++ e ∷ earlier = ap (λ (i : ℕ). (thread_of known i).extents) mine ∙ es in
        let on = begun_on n (length mm.calls) (region_of r.program r.regions mm (instr_in r.program mm)) later earlier e in
        let dead : is_live d.pinned (thread_of known x.thread.0).extents ≡ false = ap (is_live d.pinned) es2 ∙ not_live d.pinned later earlier e loose in
        let z = comes T k n known s w x ys t l mine end run holds together can left.0 left.1 stacked.0 on.0 earlier
        (ap (begun n (length mm.calls) (region_of r.program r.regions mm (instr_in r.program mm))) es2 ∙ on.1) fixed
        (λ later2 earlier2 es3 fixed2 can2. rejoins T (done_after (recorded.is_event x) k) (suc n) (after_step (reference_of r) d n mm known) (behind r s x.thread.0) w ys t _ later2 earlier2 end
        (run2 T k n known s w x ys t l mine end run holds together can)
        (holds2 T k n known s w x ys t l mine end run holds together can left.0 left.1 stacked.0 on.0 earlier
        (ap (begun n (length mm.calls) (region_of r.program r.regions mm (instr_in r.program mm))) es2 ∙ on.1) fixed) left.1 stacked.1 together.1
        (subst (λ (i : ℕ). IsNext i ys) mine (next_too T k n known s w x ys t l mine end run holds together can)) can2 es3 fixed2) in (
          z.0,
          ap (λ (v : Bool). if v && (x.thread.0 == t) then local_at s t else next_local t last
              (met_with (seen_from (reference_of r) d (suc n) (after_step (reference_of r) d n mm known)
              (moments_from r.gated r.program r.input (behind r s x.thread.0) (times recorded T (done_after (recorded.is_event x) k) ys))) (states_from r (behind r s x.thread.0) ys))) dead ∙ z.1,
          z.2,
        )

-- ---- each unit

module _ (r : ReferenceRun) (d : Taken) (program : IsProgram r.program) (small0 : length r.input < 2 ^ 64) (last : State) (sums : ℕ → Option RootedList)
    (are : AreRegions r.program (λ i. is_gated r.gated i) sums r.regions) (summaries : AreSummaries r.program (λ i. is_gated r.gated i) sums) where
  abbrev Again : PlanUnit → Type 0
  Again u = is_instance d u.seen ≡ true → JoinsAgain r sums u

  module _ (T : List ℕ) (k n : ℕ) (known : SymbolicState) (s w : State) (x : Step) (ys : List Step) (counts : ℕ → ℕ) (end : last ≡ w)
      (run : IsRun r.gated r.program r.input s (x ∷ ys) w) (holds : remembered.Holds r d program small0 known s) (together : AreTogether (x ∷ ys)) where
    abbrev mu : Moment
    mu = record { did = timed recorded T k x; calls = calls_of (slice_get s.locals x.thread.0); bytes = byte_at s.memory }

    abbrev yu : Seen
    yu = record {
      number = n;
      moment = record { did = timed recorded T k x; calls = calls_of (slice_get s.locals x.thread.0); bytes = byte_at s.memory };
      region = region_of r.program r.regions mu (instr_in r.program mu);
      live = is_live d.pinned (thread_of known x.thread.0).extents;
      before = known;
    }

    abbrev later_mets : List Met
    later_mets = met_with (seen_from (reference_of r) d (suc n) (after_step (reference_of r) d n mu known)
        (moments_from r.gated r.program r.input (behind r s x.thread.0) (times recorded T (done_after (recorded.is_event x) k) ys))) (states_from r (behind r s x.thread.0) ys)

    unit_again : (left : is_live d.pinned (thread_of known x.thread.0).extents ≡ false → is_some (happening_in x.kind) ≡ false)
        (left2 : AllOf (λ (x : Seen). x.live ≡ false → is_event_at x ≡ false)
        (seen_from (reference_of r) d (suc n) (after_step (reference_of r) d n mu known)
        (moments_from r.gated r.program r.input (behind r s x.thread.0) (times recorded T (done_after (recorded.is_event x) k) ys))))
        (stacked : AllOf (IsStackedAt (reference_of r)) (yu ∷ seen_from (reference_of r) d (suc n) (after_step (reference_of r) d n mu known)
        (moments_from r.gated r.program r.input (behind r s x.thread.0) (times recorded T (done_after (recorded.is_event x) k) ys)))) →
        is_live d.pinned (thread_of known x.thread.0).extents ≡ true → Again (unit_of r d last counts (record { seen = yu; state = s }) later_mets)
    unit_again left left2 stacked live free =
        let f = free_step r d program sums are summaries yu s run.0 holds.reached refl refl refl free in
        let l = local r d program sums are summaries yu s run.0 holds.reached refl refl refl free in
        let a = at r d program sums are summaries yu s run.0 holds.reached refl refl refl free in
        let g = freed_there r d program sums are summaries yu s run.0 holds.reached refl refl refl free in
        let can = can_there r d program sums are summaries yu s run.0 holds.reached refl refl refl free in
        let e : Extent = record { step = n; join = f.free.join; depth = length (calls_of (slice_get s.locals x.thread.0)) } in
        let deep : length (calls_of (slice_get s.locals x.thread.0)) ≡ length a.lower + 1 =
        (let q = ap (λ (fs : List Frame). length fs) (calls_there r d program sums are summaries yu s run.0 holds.reached refl refl refl free) in omega (arith, q)) in
        let split = ap (λ (o : Option FreeRegion). begun n (length (calls_of (slice_get s.locals x.thread.0))) o (thread_of known x.thread.0).extents) f.region in
        let z = comes r d program small0 last sums g.region a.instr.block.0 g.is_region f.free s l.0 a.frame a.lower e g.join deep f.pinned
        T k n known s w x ys x.thread.0 l.0 refl end run holds together can left left2 stacked.0 [] (thread_of known x.thread.0).extents split live
        (λ later2 earlier2 es2 fixed2 can2. rejoins r d program small0 last sums g.region a.instr.block.0 g.is_region f.free s l.0 a.frame a.lower e g.join deep f.pinned
        T (done_after (recorded.is_event x) k) (suc n) (after_step (reference_of r) d n mu known) (behind r s x.thread.0) w ys x.thread.0 _ later2 earlier2 end
        (run2 r d program small0 last sums g.region a.instr.block.0 g.is_region f.free s l.0 a.frame a.lower e g.join deep f.pinned T k n known s w x ys x.thread.0 l.0 refl end run holds together can)
        (holds2 r d program small0 last sums g.region a.instr.block.0 g.is_region f.free s l.0 a.frame a.lower e g.join deep f.pinned T k n known s w x ys x.thread.0 l.0 refl end run holds
        together can left left2 stacked.0 [] (thread_of known x.thread.0).extents split live)
        left2 stacked.1 together.1
        (next_too r d program small0 last sums g.region a.instr.block.0 g.is_region f.free s l.0 a.frame a.lower e g.join deep f.pinned T k n known s w x ys x.thread.0 l.0 refl end run holds
        together can) can2 es2 fixed2) in
        record {
          begun = record {
            region = g.region;
            free = f.free;
            local = l.0;
            frame = a.frame;
            lower = a.lower;
            is_region = f.region;
            is_local = l.1;
            frames = a.frames;
            join = g.join;
            sets = g.sets;
            can = can;
          };
          local = z.0;
          is_local = yes_if (is_instance d yu) _ _ free ∙ z.1;
          joined = z.2;
        }

  all_again : (T : List ℕ) (k n : ℕ) (known : SymbolicState) (s w : State) (xs : List Step) (counts : ℕ → ℕ) → last ≡ w → IsRun r.gated r.program r.input s xs w
      → remembered.Holds r d program small0 known s →
      AllOf (λ (x : Seen). x.live ≡ false → is_event_at x ≡ false) (seen_from (reference_of r) d n known (moments_from r.gated r.program r.input s (times recorded T k xs))) →
      AllOf (IsStackedAt (reference_of r)) (seen_from (reference_of r) d n known (moments_from r.gated r.program r.input s (times recorded T k xs))) →
      AreTogether xs → AllOf (λ (u : PlanUnit). is_instance d u.seen ≡ true → JoinsAgain r sums u)
      (units_from r d last counts (met_with (seen_from (reference_of r) d n known (moments_from r.gated r.program r.input s (times recorded T k xs))) (states_from r s xs)))
  unfolding seen_from moments_from states_from units_from
  all_again T k n known s w [] counts end run holds left stacked together = tt
  all_again T k n known s w (x ∷ ys) counts end run holds left stacked together =
      go (is_live d.pinned (thread_of known x.thread.0).extents) refl (unit_again T k n known s w x ys counts end run holds together left.0 left.1 stacked)
      (λ counts2. all_again T (done_after (recorded.is_event x) k) (suc n) (after_step (reference_of r) d n (mu T k n known s w x ys counts end run holds together) known)
      (behind r s x.thread.0) w ys counts2 end
      (subst (λ (j : State). IsRun r.gated r.program r.input j ys w) (sym (behind_is r d s x run.0)) run.1)
      (subst (remembered.Holds r d program small0 (after_step (reference_of r) d n (mu T k n known s w x ys counts end run holds together) known)) (sym (behind_is r d s x run.0))
      (remembered.holds_after r d program small0 n (mu T k n known s w x ys counts end run holds together) known s none_taken last [] run.0 holds left.0))
      left.1 stacked.1 together.1)
    where
      go : (v : Bool) → is_live d.pinned (thread_of known x.thread.0).extents ≡ v →
          (is_live d.pinned (thread_of known x.thread.0).extents ≡ true → is_instance d (yu T k n known s w x ys counts end run holds together) ≡ true
          → JoinsAgain r sums (unit_of r d last counts (record { seen = yu T k n known s w x ys counts end run holds together; state = s })
          (later_mets T k n known s w x ys counts end run holds together))) →
          ((counts2 : ℕ → ℕ) → AllOf (λ (u : PlanUnit). is_instance d u.seen ≡ true → JoinsAgain r sums u)
          (units_from r d last counts2 (later_mets T k n known s w x ys counts end run holds together))) →
          AllOf (λ (u : PlanUnit). is_instance d u.seen ≡ true → JoinsAgain r sums u)
          (if v then unit_of r d last counts (record { seen = yu T k n known s w x ys counts end run holds together; state = s })
          (later_mets T k n known s w x ys counts end run holds together) ∷ units_from r d last (one_more x.thread.0 counts)
          (later_mets T k n known s w x ys counts end run holds together) else units_from r d last counts (later_mets T k n known s w x ys counts end run holds together))
      go true on one more = (one on, more (one_more x.thread.0 counts))
      go false off one more = more counts

-- ---- the whole run

pub units_again : (p : NumberedProgram) (input : List ℤ) (turns : List Turn) (gated : List InstrId) (sums : ℕ → Option RootedList) (regions : Regions) (xs : List Step)
    → IsReferenceRun p input turns gated sums regions xs → (d : Taken) →
    AllOf (λ (u : PlanUnit). is_instance d u.seen ≡ true → JoinsAgain (record { program = p; input = input; gated = gated; regions = regions; steps = xs }) sums u)
    (units_of (record { program = p; input = input; gated = gated; regions = regions; steps = xs }) d)
units_again p input turns gated sums regions xs h d =
    let r : ReferenceRun = record { program = p; input = input; gated = gated; regions = regions; steps = xs } in
    let R = reference_of r in
    let keep = extents_keep p gated sums regions h.regions_are h.program h.summaries input h.small h.bytes turns xs h.printed h.value h.exits in
    let e = exited p input turns gated xs h.printed h.value h.exits in
    let last = last_from r (initial p) xs in
    all_again r d h.program h.small last sums h.regions_are h.summaries (turns_of r) 0 0 (start_of p) (initial p) e.state xs none_taken
    (remembered.last_is r d h.program h.small (initial p) e.state xs e.run) e.run
    (record { reached = reached_first p h.program h.bytes; words = first_words r d; started = first_fresh p })
    (plain_events (seen_in R d) (plain_in R keep d))
    (stack_by R d every 0 (start_of p) (start_of p) R.moments (same_in R keep d every (λ z k. all_taken z)) (each_of (IsStackedAt R) (steps_of R) keep.nested))
    e.together
  where
    all_taken : (z : Decision) → has every z ≡ true
    all_taken (Pinned n) = refl
    all_taken (Exact n) = refl
