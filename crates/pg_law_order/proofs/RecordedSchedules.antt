-- The schedule of a recorded run: up to each thread's last turn the run is an ordered full one along it, and the
-- guided run along it ends as the recorded one.
use Rattle.std.proofs.Common.{◌≡◌, ◌≢◌, ℕ, ℤ, ◌≤◌, List, [], ◌∷◌, length, map, drop, Bool, true, false, refl, sym, ◌∙◌, ap, subst, arith, zero, suc}
use Rattle.std.specs.Prelude.{if◌then◌else◌, ◌==◌}
use Rattle.std.proofs.lemmas.List.Sums.{count_by-le-length}
use Rattle.pg_num.specs.declared.limits.TheConstants.{GUIDED_STEP_LIMIT}
use Rattle.pg_ir.specs.declared.ids.InstrId.{InstrId}
use Rattle.pg_ir.specs.Program.{NumberedProgram}
use Rattle.pg_law_threads.specs.Intervals.{IsOrdered, owners}
use Rattle.pg_law_threads.proofs.OwnTurns.{own_turns}
use Rattle.pg_run_objects.specs.Sync as sync
use Rattle.pg_run_trace.specs.declared.step.Step.{Step}
use Rattle.pg_run_trace.specs.declared.step.StepKind.{StepKind}
use Rattle.pg_run_trace.specs.declared.step.StepKind.TheVariants as kinds
use Rattle.pg_run_trace.specs.declared.turn.Race.{Race}
use Rattle.pg_run_trace.specs.declared.turn.Turn.{Turn}
use Rattle.pg_run_trace.specs.Races.{is_one_of, kind_gated, races_of, recorded, schedule_of, with_gated}
use Rattle.pg_run.specs.declared.guided_end.GuidedEnd.TheVariants as ends
use Rattle.pg_run.specs.State.{State, exit_value_of, initial}
use Rattle.pg_run.specs.Guided.{guided_of}
use Rattle.pg_run.specs.FullGuided.{full_guided_of}
use Rattle.pg_run.specs.Permitted.{IsFull, IsHeldBy, IsPermitted, end_before, full_end, turns_left}
use Rattle.pg_run.specs.Runs.{IsRun, events, steps_of}
use Rattle.pg_run.proofs.GuidedExits.{guided_exits}
use Rattle.pg_run.proofs.GuidedPermitted.{guided_permitted}
use Rattle.pg_run.proofs.GuidedRuns.{guided_is}
use Rattle.pg_law_runs.specs.pg_law_effects.Gates.{marked, with_gates}
use Rattle.pg_law_runs.proofs.of_pg_law_effects.FullGuidedRun.{full_is}
use Rattle.pg_law_runs.proofs.of_pg_law_effects.OtherGates.{run_gated}
use Rattle.pg_law_runs.specs.Cuts.{CanRun, EndsAs, IsOrderedAlong, IsOrderedFull}
use Rattle.pg_law_runs.specs.Deeds.{Shared}
use Rattle.pg_law_runs.specs.LastTurns.{IsRecorded}
use Rattle.pg_law_runs.proofs.UpToLastTurns as last
use Rattle.pg_law_runs.proofs.MaximalRuns.{drop_end}
use Rattle.pg_law_runs.proofs.DeedLists.{map_length}
use Rattle.pg_law_runs.proofs.PermittedRuns as law
use Rattle.pg_law_order.specs.Schedules.{GuidesAs, IsOrderedUpTo, along}
use Rattle.pg_law_order.proofs.GatedSteps.{as_gated, order_gated, owners_gated}
use Rattle.pg_law_order.proofs.RacingSteps.{races_order}
use Rattle.pg_law_order.proofs.LateStraying.{strays_late}
use Rattle.pg_law_runs.proofs.StrayedOwners.{StuckAt, guided_strays}
use Rattle.pg_law_order.proofs.ExitsHaveAllTurns.{owners_events}

-- ---- the steps with the gates of their races

marked_is : (b : Bool) (k : StepKind) → marked b k ≡ kind_gated b k
marked_is b (kinds.Access a) = refl
marked_is b (kinds.Event e) = refl
marked_is b (kinds.Branch c) = refl
marked_is b (kinds.Allocation m n) = refl
marked_is b kinds.Other = refl

gates_are : (gated : List InstrId) (xs : List Step) → map (with_gates gated) xs ≡ map (with_gated gated) xs
gates_are gated [] = refl
gates_are gated (x ∷ xs) =
    ap (λ (k : StepKind). record x { kind = k } ∷ map (with_gates gated) xs) (marked_is (is_one_of gated x.instr.0) x.kind)
    ∙ ap (λ (l : List Step). with_gated gated x ∷ l) (gates_are gated xs)

module _ (p : NumberedProgram) (input : List ℤ) (can : CanRun p input) (xs : List Step) (z : State) (h : IsRecorded p input xs z) where
  abbrev gates : List InstrId
  gates = map (λ (r : Race). r.instr) (races_of xs)

  abbrev told : List Step
  told = map (with_gated (map (λ (r : Race). r.instr) (races_of xs))) xs

  abbrev turns : List Turn
  turns = events (map (with_gated (map (λ (r : Race). r.instr) (races_of xs))) xs)

  run : IsRun gates p input (initial p) told z
  run = subst (λ (l : List Step). IsRun gates p input (initial p) l z) (gates_are gates xs) (run_gated gates [] p input (initial p) z xs h.run)

  budget : (t : ℕ) → steps_of t told ≤ GUIDED_STEP_LIMIT
  budget t =
      let a : steps_of t told ≤ length told = count_by-le-length (λ (x : Step). x.thread.0 == t) told in
      let b = map_length (with_gated gates) xs in
      let c = h.short in
      omega (arith, a, b, c)

  ordered : IsOrderedAlong turns told
  ordered = subst (λ (T : List ℕ). IsOrdered recorded T told) (owners_gated gates xs ∙ owners_events told)
      (order_gated gates (owners (as_gated gates) xs) xs (own_turns (as_gated gates) xs) (races_order xs))

  pub up_to : IsOrderedUpTo p input (schedule_of xs) xs z
  up_to =
      let s = last.shared p input turns gates can told z run refl budget ordered in record {
        last = (last.kept_run p input turns gates can told z run refl budget ordered).state;
        ordered = subst (λ (l : List Step). IsOrderedFull p input turns gates l (last.kept_run p input turns gates can told z run refl budget ordered).state)
            (last.steps_are p input turns gates can told z run refl budget ordered) (last.is_ordered_full p input turns gates can told z run refl budget ordered);
        over = ap (λ (q : Shared). sync.over q.objects.sync) s ∙ h.over;
        printed = ap (λ (q : Shared). q.printed) s;
        value = ap (λ (n : ℕ). Rattle.pg_num.specs.Numbers.signed Rattle.pg_num.specs.declared.width.Width.TheVariants.W32
            (Rattle.pg_num.specs.Numbers.truncated Rattle.pg_num.specs.declared.width.Width.TheVariants.W32 n)) (last.value p input turns gates can told z run refl budget ordered);
      }

-- ---- the guided run along turns of which an ordered full run has all, and is over

module _ (p : NumberedProgram) (input : List ℤ) (turns : List Turn) (gated : List InstrId) (can : CanRun p input) (full : List Step) (w : State) (o : IsOrderedFull p input turns gated full w)
    (over : sync.over w.sync ≡ true) (none : turns_left turns full ≡ []) where
  exits : full_end p turns full w ≡ ends.Exit (exit_value_of w)
  exits = ap (end_before p full w) none ∙ ap (λ (b : Bool). if b then ends.Exit (exit_value_of w) else ends.Strayed) over

  -- a full run exits
  full_exits : (xs : List Step) (z : State) → IsPermitted p input turns gated xs z → IsFull gated p turns xs z → full_end p turns xs z ≡ ends.Exit (exit_value_of w)
  full_exits xs z h f = (law.ends p input turns gated can full w o xs z h f).end ∙ exits

  whole : (guided_of p input turns gated).end ≢ ends.Strayed → (guided_of p input turns gated).end ≡ ends.Exit (exit_value_of w)
  whole n =
      let g = full_is p input turns gated in
      let f = g.full n in
      sym f.1 ∙ full_exits (full_guided_of p input turns gated).trace (full_guided_of p input turns gated).state g.permitted f.0

  guided_full : (v : ℤ) → (guided_of p input turns gated).end ≡ ends.Exit v → IsFull gated p turns (guided_of p input turns gated).trace (guided_of p input turns gated).state
  guided_full v e = (guided_exits p input turns gated v e).0

  -- it doesn't stray
  stays : (guided_of p input turns gated).end ≡ ends.Strayed → ⊥
  stays e = by (drop (guided_of p input turns gated).turns turns) refl (guided_strays p input turns gated e)
    where
      late : length (events full) ≤ (guided_of p input turns gated).turns
      late = strays_late p input turns gated can full w o e

      all : length turns ≤ length (events full)
      all = drop_end (length (events full)) turns none

      none_after : drop (guided_of p input turns gated).turns turns ≡ []
      none_after = go (guided_of p input turns gated).turns turns (let a = late in let b = all in omega (arith, a, b))
        where
          go : (n : ℕ) (us : List Turn) → length us ≤ n → drop n us ≡ []
          go zero [] h = refl
          go (suc n) [] h = refl
          go zero (u ∷ us) h = absurd (omega (arith, h))
          go (suc n) (u ∷ us) h = go n us (omega (arith, h))

      by : (us : List Turn) → drop (guided_of p input turns gated).turns turns ≡ us → StuckAt gated p input us (guided_of p input turns gated).state → ⊥
      by (u ∷ us) q s = let k : Path (List Turn) (u ∷ us) [] = sym q ∙ none_after in absurd cc
      by [] q s =
          let h : IsPermitted p input turns gated (guided_of p input turns gated).trace (guided_of p input turns gated).state = guided_permitted p input turns gated in
          let f : IsFull gated p turns (guided_of p input turns gated).trace (guided_of p input turns gated).state =
          subst (IsHeldBy gated p (guided_of p input turns gated).trace (guided_of p input turns gated).state) (sym (left_none h)) tt in
          let same = (law.ends p input turns gated can full w o (guided_of p input turns gated).trace (guided_of p input turns gated).state h f).state in
          let k : true ≡ false = sym over ∙ ap (λ (v : State). sync.over v.sync) (sym same) ∙ s in absurd cc
        where
          take_all : (n : ℕ) (us : List Turn) → length us ≤ n → Rattle.std.proofs.Common.take n us ≡ us
          take_all zero [] h = refl
          take_all (suc n) [] h = refl
          take_all zero (u ∷ us) h = absurd (omega (arith, h))
          take_all (suc n) (u ∷ us) h = ap (λ (l : List Turn). u ∷ l) (take_all n us (omega (arith, h)))

          left_none : IsPermitted p input turns gated (guided_of p input turns gated).trace (guided_of p input turns gated).state → turns_left turns (guided_of p input turns gated).trace ≡ []
          left_none h =
              let e : events (guided_of p input turns gated).trace ≡ turns =
              (guided_is p input turns gated).1 ∙ take_all (guided_of p input turns gated).turns turns (let a = late in let b = all in omega (arith, a, b)) in
              ap (λ (l : List Turn). drop (length l) turns) e ∙ last.drop_all turns

  pub guided_ends : (guided_of p input turns gated).end ≡ ends.Exit (exit_value_of w)
  guided_ends = whole stays

  pub guided_as : EndsAs p input turns full w (guided_of p input turns gated).trace (guided_of p input turns gated).state
  guided_as = law.ends p input turns gated can full w o (guided_of p input turns gated).trace (guided_of p input turns gated).state (guided_permitted p input turns gated)
      (guided_full (exit_value_of w) guided_ends)

  pub guided_ordered : IsOrderedFull p input turns gated (guided_of p input turns gated).trace (guided_of p input turns gated).state
  guided_ordered = record {
    permitted = guided_permitted p input turns gated;
    is_full = guided_full (exit_value_of w) guided_ends;
    ordered = law.ordered p input turns gated can full w o (guided_of p input turns gated).trace (guided_of p input turns gated).state (guided_permitted p input turns gated);
  }

pub guides_as : (p : NumberedProgram) (input : List ℤ) → CanRun p input → (xs : List Step) (z : State) → IsRecorded p input xs z → GuidesAs p input (schedule_of xs) xs z
guides_as p input can xs z h =
    let u = up_to p input can xs z h in
    let s = schedule_of xs in
    let full = along s xs in
    let none : turns_left s.turns full ≡ [] = none_left u in
    let e = guided_as p input s.turns s.gated can full u.last u.ordered u.over none in
    record {
      end = guided_ends p input s.turns s.gated can full u.last u.ordered u.over none ∙ ap (λ (v : ℤ). ends.Exit v) u.value;
      printed = ap (λ (v : State). v.printed) e.state ∙ u.printed;
      ordered = guided_ordered p input s.turns s.gated can full u.last u.ordered u.over none;
      steps = e.steps;
    }
  where
    -- the run is over, so it is full by having all turns
    none_left : (u : IsOrderedUpTo p input (schedule_of xs) xs z) → turns_left (schedule_of xs).turns (along (schedule_of xs) xs) ≡ []
    none_left u = go (turns_left (schedule_of xs).turns (along (schedule_of xs) xs)) refl u.ordered.is_full
      where
        go : (us : List Turn) → turns_left (schedule_of xs).turns (along (schedule_of xs) xs) ≡ us → IsHeldBy (schedule_of xs).gated p (along (schedule_of xs) xs) u.last us
            → turns_left (schedule_of xs).turns (along (schedule_of xs) xs) ≡ []
        go [] q k = q
        go (v ∷ us) q k = let n : true ≡ false = sym u.over ∙ k.going in absurd cc
