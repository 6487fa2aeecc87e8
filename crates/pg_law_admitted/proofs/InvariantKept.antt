-- An unbroken permitted run on an admitted input keeps the invariant.
use Rattle.std.proofs.Common.{◌≡◌, ◌≢◌, ℕ, ℤ, ◌⊎◌, drop, true, false, List, [], ◌∷◌, Option, None, sym, ap, ◌∙◌, subst, inl, inr}
use Rattle.std.proofs.Common.{append_assoc}
use Rattle.std.specs.List.{AllByRecursion as AllOf}
use Rattle.pg_region_accesses.specs.Accesses.{RootedList}
use Rattle.pg_law_threads.specs.Cuts.{Mark}
use Rattle.pg_law_threads.specs.Effects.{deeds, effects}
use Rattle.pg_law_threads.specs.Intervals.{IsOrdered, Timed, turns_done}
use Rattle.pg_law_threads.specs.Plans.{Follows}
use Rattle.pg_law_threads.proofs.PlanLaw as follows
use Rattle.pg_law_threads.proofs.DoneLists.{First, all_map, find}
use Rattle.pg_run_trace.specs.declared.step.Step.{Step}
use Rattle.pg_run_trace.specs.declared.turn.Turn.{Turn}
use Rattle.pg_run_trace.specs.Races.{recorded}
use Rattle.pg_run.specs.Permitted.{IsPermitted, has_turn, turns_left}
use Rattle.pg_run.specs.State.{State}
use Rattle.pg_law_effects.specs.PermittedSteps.{none_taken}
use Rattle.pg_law_effects.specs.Views.{local_at}
use Rattle.pg_law_plan.specs.pg_law_runs.Cuts.{IsOrderedAlong}
use Rattle.pg_slice_rules.specs.Known.{Taken, thread_of}
use Rattle.pg_law_plan.specs.Likes.{StandLike, like}
use Rattle.pg_law_plan.specs.Lists.{Has}
use Rattle.pg_law_plan.specs.Moves.{RunState}
use Rattle.pg_law_plan.specs.Units.{PlanDeed, ReferenceRun, plan_of, plan_start, standing_of, turns_of, units_of}
use Rattle.pg_law_plan.proofs.UnitSteps.{none_left_by}
use Rattle.pg_law_plan.proofs.UnbegunThreads.{starts_are_fresh}
use Rattle.pg_law_plan.proofs.KnownBeforeUnits.{plan_remembers}
use Rattle.pg_law_plan.proofs.UnitsArePlan.{is_plan}
use Rattle.pg_law_admitted.specs.Free.{IsAnyMove}
use Rattle.pg_law_admitted.specs.Invariant.{Invariant, IsInInstance, Portion, StandsAtNext, owner, units_by, units_done}
use Rattle.pg_law_admitted.specs.Unbroken.{IsUnbroken}
use Rattle.pg_law_admitted.proofs.AdmittedInputs.{IsAdmitted}
use Rattle.pg_law_admitted.proofs.RunEnds as ended
use Rattle.pg_law_admitted.proofs.MovesFollowPlan.{obeys}
use Rattle.pg_law_admitted.proofs.MovesAsPortions.{AreInTurn, StandsBehind}
use Rattle.pg_law_admitted.proofs.UnitNumbers.{counts_after}
use Rattle.pg_law_admitted.proofs.NextUnits.{Open, open_unit}
use Rattle.pg_law_admitted.proofs.OrderFromMoves.{falls_ordered}
use Rattle.pg_law_admitted.proofs.PortionOrder as portions

module _ (r : ReferenceRun) (d : Taken) (input : List ℤ) (sums : ℕ → Option RootedList) (turns : List Turn) (given : IsAdmitted r d input sums turns)
    (xs : List Step) (z : State) (h : IsPermitted r.program input turns r.gated xs z) (unbroken : IsUnbroken xs) where
  open given use {reference, plain, closed, admitted, small, same_turns, again}
  open ended.facts r d input sums turns given xs z h unbroken use {first, fallen, stands, done_is}

  abbrev at : RunState
  at = effects first fallen.moves

  turn : AreInTurn r d none_taken fallen.portions
  turn = fallen.along

  has : AllOf (λ (e : Portion). Has (units_of r d) e.unit) fallen.portions
  has = all_map (λ e k. k.has) fallen.portions fallen.each

  -- ---- where threads stand

  where_is : (t : ℕ) → ((at.locals t).local ≡ local_at z t) ⊎ IsInInstance r d sums fallen.portions t z
  where_is t = go (fallen.stand t)
    where
      go : StandsBehind r d input sums turns None fallen.portions at z t → ((at.locals t).local ≡ local_at z t) ⊎ IsInInstance r d sums fallen.portions t z
      go (inl e) = inl e
      go (inr (inl l)) = absurd l.0
      go (inr (inr i)) = inr i

  abbrev OpenAt : ℕ → Type 0
  OpenAt t = Open r d input sums turns reference plain (starts_are_fresh r d reference plain) (plan_remembers r d reference plain) closed admitted small same_turns again at
      (turns_done deeds 0 fallen.moves) t

  at_next : (t : ℕ) → OpenAt t → (at.locals t).local ≡ local_at z t → StandsAtNext r d input fallen.portions t z
  at_next t q e =
      let number : q.unit.units ≡ counts_after none_taken (units_done fallen.portions) t = sym q.thread.moves ∙ ap (λ (i : ℕ). (at.locals i).moves) q.own ∙ fallen.counted t in
      let f = portions.next_of r d fallen.portions turn has t q.unit q.has q.own number in
      let stands : StandLike input (standing_of (local_at q.unit.state (owner q.unit)) (thread_of q.unit.seen.before (owner q.unit)).calls) (local_at z (owner q.unit)) =
      subst (λ l. StandLike input (standing_of (local_at q.unit.state (owner q.unit)) (thread_of q.unit.seen.before (owner q.unit)).calls) l)
      (subst (λ (i : ℕ). (at.locals i).local ≡ local_at z i) (sym q.own) e) q.thread.stands in
      record {
        unit = q.unit;
        later = f.0;
        next = sym f.1 ∙ append_assoc (units_by t (units_done fallen.portions)) (q.unit ∷ []) f.0;
        stands = stands;
      }

  threads : (t : ℕ) → has_turn t (turns_left turns xs) ≡ true → StandsAtNext r d input fallen.portions t z ⊎ IsInInstance r d sums fallen.portions t z
  threads t w = go (find deeds t stands.holds.cut.marks)
    where
      go : AllOf (λ (m : Mark (Timed PlanDeed)). m.done ≡ false → m.step.did.thread ≢ t) stands.holds.cut.marks ⊎ First deeds t stands.holds.cut.marks
          → StandsAtNext r d input fallen.portions t z ⊎ IsInInstance r d sums fallen.portions t z
      go (inl none) = absurd (none_left_by r d input turns reference plain (starts_are_fresh r d reference plain) (plan_remembers r d reference plain) closed admitted small same_turns t
          (turns_done deeds 0 fallen.moves)
          (subst (λ (n : ℕ). has_turn t (drop n turns) ≡ true) (sym done_is) w)
          (follows.no_turn_left (like input) (turns_of r) (plan_start r) (plan_of r d) (IsAnyMove r d input sums turns) (is_plan r d reference closed plain)
          (obeys r d input sums turns reference plain (starts_are_fresh r d reference plain) (plan_remembers r d reference plain) closed admitted small same_turns again) at
          (turns_done deeds 0 fallen.moves) stands.holds t none))
      go (inr f) = by (where_is t) (open_unit r d input sums turns reference plain (starts_are_fresh r d reference plain) (plan_remembers r d reference plain) closed admitted small same_turns again at
          (turns_done deeds 0 fallen.moves) stands.holds t f)
        where
          by : ((at.locals t).local ≡ local_at z t) ⊎ IsInInstance r d sums fallen.portions t z → OpenAt t
              → StandsAtNext r d input fallen.portions t z ⊎ IsInInstance r d sums fallen.portions t z
          by (inl e) q = inl (at_next t q e)
          by (inr i) q = inr i

  ordered : IsOrderedAlong turns xs
  ordered = subst (λ (T : List ℕ). IsOrdered recorded T xs) (sym same_turns) (falls_ordered (turns_of r) xs fallen.moves fallen.fall stands.settled)

  pub keeps : Invariant r d input sums turns xs z
  keeps = record {
    portions = fallen.portions;
    whole = fallen.whole;
    chained = fallen.chained;
    each = fallen.each;
    fronts = portions.fronts r d fallen.portions turn has;
    in_order = portions.in_order r d fallen.portions turn has;
    at = at;
    cut = subst (λ (n : ℕ). Follows (like input) (turns_of r) (plan_start r) (plan_of r d) n at) done_is stands.holds.cut;
    looks = record { locals = where_is; cells = fallen.cells; objects = fallen.objects };
    threads = threads;
    ordered = ordered;
  }
