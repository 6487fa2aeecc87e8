-- Along a run, where all decisions are taken, what is known is like what the machine has, on the run's own input.
use Rattle.std.proofs.Common.{◌≡◌, ◌≢◌, ℕ, ◌⊎◌, ◌<◌, ◌^◌, ◌==◌, ◌-◌, ◌++◌, suc, Bool, true, false, List, [], ◌∷◌, length, Option, Some, None}
use Rattle.std.proofs.Common.{refl, sym, ap, ◌∙◌, subst, inl, inr}
use Rattle.std.specs.Prelude.{nat_lt, is_some, slice_get, if◌then◌else◌}
use Rattle.std.specs.List.{AllByRecursion as AllOf, list_any}
use Rattle.std.proofs.lemmas.Bool.{cases_eq, eq-eqb, ne_eqb, true≢false}
use Rattle.pg_num.specs.declared.layout.TheConstants.{MEMORY_BYTES}
use Rattle.pg_ir.specs.WellFormed.{IsProgram}
use Rattle.pg_run_memory.specs.Memory.{byte_at}
use Rattle.pg_law_threads.specs.Effects as plans
use Rattle.pg_law_threads.specs.Intervals.{done_after, timed, times}
use Rattle.pg_law_threads.specs.Plans.{Fits}
use Rattle.pg_law_threads.proofs.DoneLists.{both_of}
use Rattle.pg_run_thread.specs.LocalState.{LocalState}
use Rattle.pg_run_trace.specs.declared.step.Step.{Step}
use Rattle.pg_run_trace.specs.Races.{recorded}
use Rattle.pg_run_trace.specs.Steps.{access_in, happening_in}
use Rattle.pg_run.specs.Runs.{IsRun, Takes}
use Rattle.pg_run.specs.State.{State, initial}
use Rattle.pg_law_effects.specs.Effect as effects
use Rattle.pg_law_effects.specs.Effect.{effect_of}
use Rattle.pg_law_effects.specs.Reached.{IsReached}
use Rattle.pg_law_effects.specs.Views.{LeadsTo, cell_at, cell_written, is_thread, local_at, objects_of}
use Rattle.pg_law_effects.proofs.ReachedStates.{reached_first, reached_step}
use Rattle.pg_law_effects.proofs.StepViews.{leads_to}
use Rattle.pg_slice_rules.specs.Closed.{admits}
use Rattle.pg_slice_rules.specs.Extents.{Extent, is_live}
use Rattle.pg_slice_rules.specs.Known.{SymbolicState, Seen, after_step, region_of, seen_from, seen_in, start_of, thread_of}
use Rattle.pg_slice_rules.specs.Moments.{Moment, calls_of, instr_in, moments_from, thread_in}
use Rattle.pg_slice_rules.specs.Rules.{asks_bounds, asks_values, has_region, footprints_in}
use Rattle.pg_law_instances.specs.pg_law_least.Keeps.{every}
use Rattle.pg_law_instances.proofs.of_pg_law_least.ClosedDecisions.{all_closed}
use Rattle.pg_law_plan.specs.Likes.{IsCellLike, IsLike, StandLike, like}
use Rattle.pg_law_plan.specs.Moves.{deed_moved}
use Rattle.pg_law_plan.specs.Units.{PlanUnit, ReferenceRun, access_touch, behind, cell_known, deed_of, is_instance, is_written_in, reference_of, standing_of, turns_of, word_written, writes_cell}
use Rattle.pg_law_plan.proofs.EachUnit.{IsMet, IsUnit, behind_is}
use Rattle.pg_law_plan.proofs.FirstStates.{first_cell, stands_first}
use Rattle.pg_law_plan.proofs.ChangedCells.{cells_kept, may_write}
use Rattle.pg_law_plan.proofs.InstructionFits.{both_fits}
use Rattle.pg_law_plan.proofs.StepChecks.{IsGood}
use Rattle.pg_law_plan.proofs.UnbegunThreads.{AreFresh, first_fresh, fresh_kept, others_kept}
use Rattle.pg_law_plan.proofs.AlikeThreads.{Beginning, Both, opened}
use Rattle.pg_law_plan.proofs.KnownBeforeUnits.{begun_there, no_if, some_there, thread_is, yes_if}
use Rattle.pg_law_plan.proofs.UnitsArePlan.{none_asked}
use Rattle.pg_law_plan.proofs.ThreadStartFits.{start_fits}
use Rattle.pg_law_plan.proofs.WordsBeforeUnits.{first_words}
use Rattle.pg_law_plan.proofs.ThreadWords.{words_kept}
use Rattle.pg_law_own_input.specs.OwnInput.{IsMachineRun}
use Rattle.pg_law_own_input.proofs.AskedValues.{admitted_by}
use Rattle.pg_law_own_input.proofs.StepAsks.{good_both, good_start, none_bound}

old_as : (o : Option ℕ) (n : ℕ) → plans.or_old o n ≡ effects.or_old o n
old_as None n = refl
old_as (Some m) n = refl

-- all decisions leave no step out
live_always : (es : List Extent) → is_live every.pinned es ≡ true
live_always [] = refl
live_always (e ∷ es) = live_always es

-- what is known in a state is like what the machine has there: of each thread and of each cell
pub record IsTrue (r : ReferenceRun) (known : SymbolicState) (s : State) : Type 0 where
  pub reached : IsReached r.program s
  pub words : length known.words ≡ length s.locals
  pub started : AreFresh r.program known s
  pub stands : (v : ℕ) → StandLike r.input (standing_of (local_at s v) (thread_of known v).calls) (local_at s v)
  pub cells : (c : ℕ) → IsCellLike r.input (cell_known known c) (cell_at s c)

-- step n, with what is known before it
abbrev pub seen_at : ReferenceRun → ℕ → Moment → SymbolicState → Seen
seen_at r n m known = record {
  number = n;
  moment = m;
  region = region_of r.program r.regions m (instr_in r.program m);
  live = is_live every.pinned (thread_of known (thread_in m)).extents;
  before = known;
}

-- nothing is unknown that a step asks for
abbrev pub AsksNothing : ReferenceRun → Seen → Type 0
AsksNothing r x = (asks_values (reference_of r) every x ≡ []) × (asks_bounds (reference_of r) x ≡ [])

module _ (r : ReferenceRun) (program : IsProgram r.program) (small : length r.input < 2 ^ 64) where
  -- ---- a step

  module _ (n : ℕ) (m : Moment) (known : SymbolicState) (s : State) (h : Takes r.gated r.program r.input s m.did.did) (holds : IsTrue r known s)
      (calls : m.calls ≡ calls_of (slice_get s.locals (thread_in m))) (bytes : m.bytes ≡ byte_at s.memory) where
    abbrev t : ℕ
    t = thread_in m

    abbrev pub x : Seen
    x = seen_at r n m known

    abbrev after : SymbolicState
    after = after_step (reference_of r) every n m known

    abbrev u : PlanUnit
    u = record { seen = x; state = s; units = 0; known = after; local = local_at (behind r s (thread_in m)) (thread_in m); objects = objects_of (behind r s (thread_in m)) }

    abbrev moves : ℕ → ℕ
    moves v = 0

    pub live : x.live ≡ true
    live = live_always (thread_of known (thread_in m)).extents

    pub met : IsMet r every x s
    met = record { reached = holds.reached; takes = h; calls = calls; bytes = bytes; region = refl; live = refl }

    unit : IsUnit r every u
    unit = record { met = met; live = live; known = refl; local = λ e. refl; objects = refl }

    single : is_instance every x ≡ false
    single = none_bound (has_region x.region)

    pub bytes_like : (c : ℕ) → nat_lt c MEMORY_BYTES ≡ true → IsLike r.input (known.bytes c) (Some (m.bytes c))
    bytes_like c e = subst (λ (f : ℕ → ℕ). IsLike r.input (known.bytes c) (Some (f c))) (sym bytes) (at_byte (holds.cells c))
      where
        at_byte : IsCellLike r.input (cell_known known c) (cell_at s c) → IsLike r.input (known.bytes c) (Some (byte_at s.memory c))
        at_byte k = rw e at k

    pub begins : Both r.program r.input (thread_in m) s s (thread_of known (thread_in m)).calls ⊎ Beginning r.program (thread_in m) s s
    begins = opened r.gated r.program r.input r.input s s m.did.did (thread_of known (thread_in m)).calls holds.reached h holds.reached (holds.stands (thread_in m))

    module _ (asks : AsksNothing r x) where
      pub good : IsGood (reference_of r) every r.input x
      good = go begins
        where
          go : Both r.program r.input (thread_in m) s s (thread_of known (thread_in m)).calls ⊎ Beginning r.program (thread_in m) s s → IsGood (reference_of r) every r.input x
          go (inl b) = good_both r x s met live bytes_like asks.0 asks.1 b
          go (inr b) = good_start r x s met live bytes_like asks.0 asks.1 b

      fits : Fits (like r.input) (deed_of every u) (deed_moved r.program r.input s moves m.did.did)
      fits = go begins
        where
          go : Both r.program r.input (thread_in m) s s (thread_of known (thread_in m)).calls ⊎ Beginning r.program (thread_in m) s s
              → Fits (like r.input) (deed_of every u) (deed_moved r.program r.input s moves m.did.did)
          go (inl b) = both_fits r every r.input program small u s moves m.did.did
              (record { unit = unit; plain = single; reached = holds.reached; takes = h; own = refl; both = b; units = refl }) good (λ e. refl) holds.words (λ c e. holds.cells c)
          go (inr b) = start_fits r every r.input u unit single s moves m.did.did holds.reached h refl refl (λ e. refl) holds.words (λ c e. holds.cells c) b
              (holds.started.fresh_calls (thread_in m) b.function b.first)

      -- ---- what is known behind it

      to : LeadsTo (effect_of r.program r.input s (thread_in m)) s h.after
      to = leads_to r.gated r.program r.input s h.after (thread_in m) m.did.did holds.reached h.is_ready h.is_step

      plain : is_live every.pinned (thread_of known (thread_in m)).extents ≡ false → is_some (happening_in m.did.did.kind) ≡ false
      plain e = absurd (true≢false (sym live ∙ e))

      local_is : (v : ℕ) → local_at h.after v ≡ (if v == thread_in m then (effect_of r.program r.input s (thread_in m)).local else local_at s v)
      local_is v = to.locals v ∙ ap (λ (w : ℕ). if v == w then (effect_of r.program r.input s (thread_in m)).local else local_at s v) (thread_is r.program r.input s (thread_in m))

      own_stands : StandLike r.input (standing_of (local_at h.after (thread_in m)) (thread_of after (thread_in m)).calls) (local_at h.after (thread_in m))
      own_stands = subst (StandLike r.input (standing_of (local_at h.after (thread_in m)) (thread_of after (thread_in m)).calls))
          (sym (local_is (thread_in m) ∙ yes_if (thread_in m == thread_in m) _ _ (eq-eqb (thread_in m) (thread_in m) refl)))
          (subst (λ (z : State). StandLike r.input (standing_of (local_at z (thread_in m)) (thread_of after (thread_in m)).calls) (effect_of r.program r.input s (thread_in m)).local)
          (behind_is r every s m.did.did h) fits.to.stands)

      other_local : (v : ℕ) → v ≢ thread_in m → local_at h.after v ≡ local_at s v
      other_local v w = local_is v ∙ no_if (v == thread_in m) _ _ (ne_eqb v (thread_in m) w)

      other_stands : (v : ℕ) → v ≢ thread_in m → StandLike r.input (standing_of (local_at h.after v) (thread_of after v).calls) (local_at h.after v)
      other_stands v w = subst (λ (o : Option LocalState). StandLike r.input (standing_of o (thread_of after v).calls) o) (sym (other_local v w)) (go (local_at s v) refl (holds.stands v))
        where
          go : (o : Option LocalState) → local_at s v ≡ o → StandLike r.input (standing_of o (thread_of known v).calls) o → StandLike r.input (standing_of o (thread_of after v).calls) o
          go None e k = k
          go (Some l) e k = subst (λ c. StandLike r.input (standing_of (Some l) c) (Some l)) (sym (others_kept (reference_of r) every n m known r.gated r.input s h plain v w
              (subst (λ (i : ℕ). v < i) (sym holds.started.number) (some_there s.locals v (begun_there (slice_get s.locals v) l e))))) k

      by_thread : (v : ℕ) → (v ≡ thread_in m) ⊎ (v ≢ thread_in m) → StandLike r.input (standing_of (local_at h.after v) (thread_of after v).calls) (local_at h.after v)
      by_thread v (inl e) = subst (λ (i : ℕ). StandLike r.input (standing_of (local_at h.after i) (thread_of after i).calls) (local_at h.after i)) (sym e) own_stands
      by_thread v (inr w) = other_stands v w

      single_writes : (c : ℕ) → writes_cell every x c ≡ may_write r.program every n m x.region known m.did.did.kind c
      single_writes c = ap (λ (b : Bool). if nat_lt c MEMORY_BYTES then list_any (λ g. is_written_in g c)
          (access_touch every n (access_in m.did.did.kind) ++ (if b then footprints_in x.region else [])) else is_thread (word_written (thread_in m) m.did.did.kind) (c - MEMORY_BYTES)) single

      known_is : (c : ℕ) (b : Bool) → writes_cell every x c ≡ b → plans.or_old (if b then Some (cell_known after c) else None) (cell_known known c) ≡ cell_known after c
      known_is c true e = refl
      known_is c false e = sym (cells_kept (reference_of r) every n m known r.gated r.input s h live single (holds.reached.machine.threads ∙ sym holds.words) c (sym (single_writes c) ∙ e))

      cells_after : (c : ℕ) → IsCellLike r.input (cell_known after c) (cell_at h.after c)
      cells_after c =
          subst (λ z. IsCellLike r.input z (cell_at h.after c)) (known_is c (writes_cell every x c) refl)
          (subst (IsCellLike r.input (plans.or_old (if writes_cell every x c then Some (cell_known after c) else None) (cell_known known c)))
          (old_as (cell_written (effect_of r.program r.input s (thread_in m)) c) (cell_at s c) ∙ sym (to.cells c))
          (fits.cells c (cell_known known c) (cell_at s c) (holds.cells c)))

      pub true_after : IsTrue r after h.after
      true_after = record {
        reached = reached_step r.gated r.program r.input s h.after (thread_in m) m.did.did program small holds.reached h.is_ready h.is_step;
        words = words_kept (reference_of r) every n m known r.gated r.input s h plain holds.words;
        started = fresh_kept (reference_of r) every n m known r.gated r.input s h plain holds.started;
        stands = λ v. by_thread v (cases_eq v (thread_in m));
        cells = cells_after;
      }

  -- ---- the run

  -- what holds of each step where what is known is true holds along the run
  along : (P : Seen → Type 0) → ((n : ℕ) (m : Moment) (known : SymbolicState) (s : State) → Takes r.gated r.program r.input s m.did.did → IsTrue r known s
      → m.calls ≡ calls_of (slice_get s.locals (thread_in m)) → m.bytes ≡ byte_at s.memory → AsksNothing r (seen_at r n m known) → P (seen_at r n m known)) →
      (T : List ℕ) (k n : ℕ) (known : SymbolicState) (s z : State) (xs : List Step) → IsRun r.gated r.program r.input s xs z → IsTrue r known s →
      AllOf (AsksNothing r) (seen_from (reference_of r) every n known (moments_from r.gated r.program r.input s (times recorded T k xs))) →
      AllOf P (seen_from (reference_of r) every n known (moments_from r.gated r.program r.input s (times recorded T k xs)))
  unfolding seen_from moments_from
  along P f T k n known s z [] run holds asks = tt
  along P f T k n known s z (y ∷ ys) run holds asks =
      let m : Moment = record { did = timed recorded T k y; calls = calls_of (slice_get s.locals y.thread.0); bytes = byte_at s.memory } in
      let b = behind_is r every s y run.0 in (
        f n m known s run.0 holds refl refl asks.0,
        along P f T (done_after (recorded.is_event y) k) (suc n) (after_step (reference_of r) every n m known) (behind r s y.thread.0) z ys
            (subst (λ (w : State). IsRun r.gated r.program r.input w ys z) (sym b) run.1)
            (subst (IsTrue r (after_step (reference_of r) every n m known)) (sym b) (true_after n m known s run.0 holds refl refl asks.0)) asks.1,
      )

-- ---- before the first step

module _ (r : ReferenceRun) (o : IsMachineRun r) where
  first_true : IsTrue r (start_of r.program) (initial r.program)
  first_true = record {
    reached = reached_first r.program o.can.program o.can.bytes;
    words = first_words r every;
    started = first_fresh r.program;
    stands = stands_first r.program r.input;
    cells = first_cell r.program r.input o.can.bytes;
  }

  asks_nothing : AllOf (AsksNothing r) (seen_in (reference_of r) every)
  asks_nothing =
      let R = reference_of r in
      let closed = all_closed R in
      both_of (λ (x : Seen). asks_values R every x ≡ []) (λ (x : Seen). asks_bounds R x ≡ []) (seen_in R every) (none_asked (asks_values R every) (seen_in R every) closed.values)
      (none_asked (asks_bounds R) (seen_in R every) closed.bounds)

  -- what holds of each step where what is known is true
  pub each_step : (P : Seen → Type 0) → ((n : ℕ) (m : Moment) (known : SymbolicState) (s : State) → Takes r.gated r.program r.input s m.did.did → IsTrue r known s
      → m.calls ≡ calls_of (slice_get s.locals (thread_in m)) → m.bytes ≡ byte_at s.memory → AsksNothing r (seen_at r n m known) → P (seen_at r n m known)) →
      AllOf P (seen_in (reference_of r) every)
  each_step P f = along r o.can.program o.can.small P f (turns_of r) 0 0 (start_of r.program) (initial r.program) o.last r.steps o.run first_true asks_nothing

  -- all decisions admit the input of their run
  pub all_admit : admits (reference_of r) every r.input ≡ true
  all_admit = admitted_by r.input (reference_of r) every (each_step (IsGood (reference_of r) every r.input)
      (λ n m known s h holds calls bytes asks. good r o.can.program o.can.small n m known s h holds calls bytes asks))
