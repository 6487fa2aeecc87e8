-- What holds of each unit of a run.
use Rattle.std.proofs.Common.{◌≡◌, ℕ, Bool, true, false, List, [], ◌∷◌, refl, sym, ap, subst, suc, ◌<◌, ◌^◌, length}
use Rattle.std.specs.Prelude.{slice_get, if◌then◌else◌}
use Rattle.std.specs.List.{AllByRecursion as AllOf}
use Rattle.pg_ir.specs.WellFormed.{IsProgram}
use Rattle.pg_run_memory.specs.Memory.{byte_at}
use Rattle.pg_law_threads.specs.Intervals.{done_after, times}
use Rattle.pg_run_trace.specs.declared.step.Step.{Step}
use Rattle.pg_run_trace.specs.Races.{recorded}
use Rattle.pg_run.specs.Runs.{IsRun, Takes}
use Rattle.pg_run.specs.State.{State, initial}
use Rattle.pg_law_effects.specs.PermittedSteps.{none_taken, one_more}
use Rattle.pg_law_effects.specs.Reached.{IsReached}
use Rattle.pg_law_effects.specs.Views.{local_at, objects_of}
use Rattle.pg_law_effects.proofs.ReachedStates.{reached_first, reached_step}
use Rattle.pg_slice_rules.specs.Extents.{is_live}
use Rattle.pg_slice_rules.specs.Known.{SymbolicState, Seen, Taken, after_step, region_of, seen_from, start_of, thread_of}
use Rattle.pg_slice_rules.specs.Moments.{calls_of, instr_in, moments_from, state_after, thread_in}
use Rattle.pg_law_plan.specs.Order.{IsOrderedRun}
use Rattle.pg_law_plan.specs.Units.{Met, PlanUnit, ReferenceRun, behind, is_instance, last_from, met_in, met_with, next_local, reference_of, states_from, turns_of, unit_of, units_from, units_of}

-- a step that was met, with the state before it
pub record IsMet (r : ReferenceRun) (d : Taken) (x : Seen) (s : State) : Type 0 where
  pub reached : IsReached r.program s
  pub takes : Takes r.gated r.program r.input s x.moment.did.did
  pub calls : x.moment.calls ≡ calls_of (slice_get s.locals (thread_in x.moment))
  pub bytes : x.moment.bytes ≡ byte_at s.memory
  pub region : x.region ≡ region_of r.program r.regions x.moment (instr_in r.program x.moment)
  pub live : x.live ≡ is_live d.pinned (thread_of x.before (thread_in x.moment)).extents

pub record IsUnit (r : ReferenceRun) (d : Taken) (u : PlanUnit) : Type 0 where
  pub met : IsMet r d u.seen u.state
  pub live : u.seen.live ≡ true
  pub known : u.known ≡ after_step (reference_of r) d u.seen.number u.seen.moment u.seen.before
  pub local : is_instance d u.seen ≡ false → u.local ≡ local_at (behind r u.state (thread_in u.seen.moment)) (thread_in u.seen.moment)
  pub objects : u.objects ≡ objects_of (behind r u.state (thread_in u.seen.moment))

module _ (r : ReferenceRun) (d : Taken) where
  pub behind_is : (s : State) (x : Step) (h : Takes r.gated r.program r.input s x) → behind r s x.thread.0 ≡ h.after
  behind_is s x h = ap (state_after s) h.is_step

  met_is : (T : List ℕ) (k n : ℕ) (known : SymbolicState) (s z : State) (xs : List Step) → IsProgram r.program → length r.input < 2 ^ 64 → IsReached r.program s
      → IsRun r.gated r.program r.input s xs z →
      AllOf (λ (m : Met). IsMet r d m.seen m.state) (met_with (seen_from (reference_of r) d n known (moments_from r.gated r.program r.input s (times recorded T k xs))) (states_from r s xs))
  unfolding seen_from moments_from states_from
  met_is T k n known s z [] program small reached h = tt
  met_is T k n known s z (x ∷ xs) program small reached h =
      let t = h.0 in (
        record { reached = reached; takes = t; calls = refl; bytes = refl; region = refl; live = refl },
        met_is T (done_after (recorded.is_event x) k) (suc n) _ (behind r s x.thread.0) z xs program small
            (subst (IsReached r.program) (sym (behind_is s x t)) (reached_step r.gated r.program r.input s t.after x.thread.0 x program small reached t.is_ready t.is_step))
            (subst (λ (w : State). IsRun r.gated r.program r.input w xs z) (sym (behind_is s x t)) h.1),
      )

  pub all_met : IsOrderedRun r → AllOf (λ (m : Met). IsMet r d m.seen m.state) (met_in r d)
  all_met o = met_is (turns_of r) 0 0 (start_of r.program) (initial r.program) o.last r.steps o.can.program o.can.small (reached_first r.program o.can.program o.can.bytes) o.run

  unit_is : (last : State) (counts : ℕ → ℕ) (m : Met) (ms : List Met) → IsMet r d m.seen m.state → m.seen.live ≡ true → IsUnit r d (unit_of r d last counts m ms)
  unit_is last counts m ms h e = record {
    met = h;
    live = e;
    known = refl;
    local = λ n. ap (λ (b : Bool). if b then next_local (thread_in m.seen.moment) last ms else local_at (behind r m.state (thread_in m.seen.moment)) (thread_in m.seen.moment)) n;
    objects = refl;
  }

  units_are : (last : State) (counts : ℕ → ℕ) (ms : List Met) → AllOf (λ (m : Met). IsMet r d m.seen m.state) ms → AllOf (IsUnit r d) (units_from r d last counts ms)
  unfolding units_from
  units_are last counts [] h = tt
  units_are last counts (m ∷ ms) h = go m.seen.live refl (λ counts. units_are last counts ms h.1)
    where
      go : (b : Bool) → m.seen.live ≡ b → ((counts : ℕ → ℕ) → AllOf (IsUnit r d) (units_from r d last counts ms)) →
          AllOf (IsUnit r d) (if b then unit_of r d last counts m ms ∷ units_from r d last (one_more (thread_in m.seen.moment) counts) ms else units_from r d last counts ms)
      go true e more = (unit_is last counts m ms h.0 e, more (one_more (thread_in m.seen.moment) counts))
      go false e more = more counts

  pub all_units : IsOrderedRun r → AllOf (IsUnit r d) (units_of r d)
  all_units o = units_are (last_from r (initial r.program) r.steps) none_taken (met_in r d) (all_met o)
