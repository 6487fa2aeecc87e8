-- A recording runs to its end along its own turns.
use Rattle.std.proofs.Common.{◌≡◌, ℕ, ℤ, true, false, List, [], ◌∷◌, Option, sym, ap, ◌∙◌, subst}
use Rattle.std.specs.Prelude.{is_some}
use Rattle.std.specs.List.{AllByRecursion as AllOf}
use Rattle.pg_ir.specs.Program.{NumberedProgram}
use Rattle.pg_region_accesses.specs.Accesses.{RootedList}
use Rattle.pg_law_threads.specs.Intervals.{IsOrdered, owners}
use Rattle.pg_run_objects.specs.Sync as sync
use Rattle.pg_run_trace.specs.declared.schedule.Schedule.{Schedule}
use Rattle.pg_run_trace.specs.declared.step.Step.{Step}
use Rattle.pg_run_trace.specs.Races.{recorded}
use Rattle.pg_run_trace.specs.Steps.{events}
use Rattle.pg_run.specs.Guided.{GuidedRun, guided_of}
use Rattle.pg_run.specs.Permitted.{IsPermitted, turns_left}
use Rattle.pg_run.specs.Runs.{IsRun}
use Rattle.pg_run.specs.State.{initial}
use Rattle.pg_run.proofs.GuidedPermitted.{guided_permitted}
use Rattle.pg_slice_rules.specs.Freeable.{Regions}
use Rattle.pg_slice_rules.specs.Known.{Seen, Taken, seen_in}
use Rattle.pg_law_instances.proofs.ReferenceExtents.{extents_keep}
use Rattle.pg_law_instances.specs.pg_law_least.Laws.{IsPlain}
use Rattle.pg_law_instances.proofs.of_pg_law_least.EachStep.{plain_in}
use Rattle.pg_law_plan.specs.pg_law_runs.Deeds.{owners_of}
use Rattle.pg_law_plan.specs.Order.{IsOrderedRun}
use Rattle.pg_law_plan.specs.Units.{ExtentsArePlain, ReferenceRun, is_event_at, reference_of}
use Rattle.pg_law_order.proofs.ExitsHaveAllTurns.{Exited, all_done, all_turns, exited, owners_events}
use Rattle.pg_law_admitted.specs.Recorded.{IsOrderedReference, recording}

pub plain_events : (xs : List Seen) → AllOf IsPlain xs → AllOf (λ (x : Seen). x.live ≡ false → is_event_at x ≡ false) xs
plain_events [] h = tt
plain_events (x ∷ xs) h = (λ e. ap is_some (h.0 e), plain_events xs h.1)

module _ (p : NumberedProgram) (recorded_input : List ℤ) (s : Schedule) (sums : ℕ → Option RootedList) (regions : Regions) (xs : List Step) (d : Taken)
    (k : IsOrderedReference p recorded_input s sums regions xs) where
  abbrev pub r : ReferenceRun
  r = recording p recorded_input s regions xs

  abbrev pub g : GuidedRun
  g = guided_of p recorded_input s.turns s.gated

  exit : Exited (guided_of p recorded_input s.turns s.gated) xs
  exit = exited p recorded_input s.turns s.gated xs k.reference.printed k.reference.value k.reference.exits

  pub done : (turns_left s.turns g.trace ≡ []) × (sync.over g.state.sync ≡ true)
  done = all_done p recorded_input s.turns s.gated xs exit

  permitted : IsPermitted p recorded_input s.turns s.gated g.trace g.state
  permitted = guided_permitted p recorded_input s.turns s.gated

  pub own : events xs ≡ s.turns
  own = all_turns p recorded_input s.turns s.gated xs exit

  pub same_owners : owners_of s.turns ≡ owners recorded xs
  same_owners = ap owners_of (sym own) ∙ sym (owners_events xs)

  pub plain : ExtentsArePlain r d
  plain =
      let h = k.reference in
      plain_events (seen_in (reference_of r) d) (plain_in (reference_of r)
      (extents_keep p s.gated sums regions h.regions_are h.program h.summaries recorded_input h.small h.bytes s.turns xs h.printed h.value h.exits) d)

  pub ordered_run : IsOrderedRun r
  ordered_run = record {
    can = record { program = k.reference.program; bytes = k.reference.bytes; small = k.reference.small };
    last = g.state;
    run = subst (λ (l : List Step). IsRun s.gated p recorded_input (initial p) l g.state) exit.steps permitted.run;
    ordered = subst (λ (T : List ℕ). IsOrdered recorded T xs) same_owners k.ordered;
  }

  -- it is over in its last state
  pub over_last : sync.over ordered_run.last.sync ≡ true
  unfolding ordered_run
  over_last = done.1
