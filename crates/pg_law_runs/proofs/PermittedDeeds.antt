-- Where some full run along turns is ordered: what holds of each permitted run of deeds, and of the steps that it tells.
use Rattle.std.proofs.Common.{◌≡◌, ℕ, ℤ, ◌≤◌, List, [], ◌∷◌, ◌++◌, length, sym, ◌∙◌, ap, subst, append-nil}
use Rattle.std.specs.List.{AllByRecursion as AllOf, filter_map}
use Rattle.pg_ir.specs.declared.ids.InstrId.{InstrId}
use Rattle.pg_ir.specs.Program.{NumberedProgram}
use Rattle.pg_law_threads.specs.Cuts.{kept, performed, whole}
use Rattle.pg_law_threads.specs.Effects as plans
use Rattle.pg_law_threads.specs.Effects.{IsSame, Same, deeds}
use Rattle.pg_law_threads.specs.Intervals.{did_of, done_after, turns_done}
use Rattle.pg_law_threads.specs.Machines as machines
use Rattle.pg_law_threads.specs.Machines.{IsPart, May, Takes}
use Rattle.pg_law_threads.specs.Plans.{IsPlan}
use Rattle.pg_law_threads.proofs.DoneLists.{did_append, whole_append}
use Rattle.pg_law_threads.proofs.PermittedRunLaw as runs
use Rattle.pg_law_threads.proofs.TimedSteps.{did_times}
use Rattle.pg_run_trace.specs.declared.turn.Turn.{Turn}
use Rattle.pg_run_trace.specs.declared.step.Step.{Step}
use Rattle.pg_run.specs.State.{State, initial}
use Rattle.pg_run.specs.Runs.{event_of, events}
use Rattle.pg_law_effects.specs.PermittedSteps.{none_taken}
use Rattle.pg_law_runs.specs.Cuts.{CanRun, IsFrontOf, IsOrderedFull}
use Rattle.pg_law_runs.specs.Deeds.{Did as Deed', Does, Seen, deeds_of, owners_of, rules, seen}
use Rattle.pg_law_runs.proofs.CutRuns as cuts
use Rattle.pg_law_runs.proofs.DeedDependence.{determined}
use Rattle.pg_law_runs.proofs.MaximalRuns.{all_turns, maximal}
use Rattle.pg_law_runs.proofs.DeedLists.{TellsSo, events_are, told_of}

module _ (p : NumberedProgram) (input : List ℤ) (turns : List Turn) (gated : List InstrId) (can : CanRun p input) where
  abbrev pub first : Seen
  first = seen (initial p) none_taken

  pub more_permitted : (a : Seen) (g : ℕ) (ds : List Deed') (d : Deed') → machines.IsPermitted (rules gated p) (Does gated p input) (owners_of turns) a g ds
      → Takes (rules gated p) (Does gated p input) (owners_of turns) (plans.effects a ds) (turns_done deeds g ds) d
      → machines.IsPermitted (rules gated p) (Does gated p input) (owners_of turns) a g (ds ++ d ∷ [])
  more_permitted a g [] d h k = (k, tt)
  more_permitted a g (e ∷ ds) d h k = (h.0, more_permitted (plans.effect a e) (done_after (deeds.is_event e) g) ds d h.1 k)

  module _ (full : List Step) (w : State) (o : IsOrderedFull p input turns gated full w) where
    abbrev pub plan : List Deed'
    plan = deeds_of p input (initial p) none_taken full

    pub is_plan : IsPlan deeds (owners_of turns) (deeds_of p input (initial p) none_taken full)
    is_plan = cuts.is_plan p input turns gated can full w o.permitted.run o.permitted.in_order o.permitted.budget o.ordered

    pub full_is : machines.IsFull (rules gated p) (Does gated p input) (owners_of turns) first (deeds_of p input (initial p) none_taken full)
    full_is =
        let r = (cuts.ran p input turns gated can full w o.permitted) in
        let q = cuts.done_is p input turns gated can full in
        record {
          permitted = r.permitted;
          all_turns = λ v. subst (λ (n : ℕ). length (owners_of turns) ≤ n) (sym q)
              (all_turns gated p input turns full w (plans.effects first (deeds_of p input (initial p) none_taken full)) r.reached (cuts.looks p input turns gated can full w o.permitted) o.is_full v);
          maximal = λ t m. maximal gated p input turns full w (plans.effects first (deeds_of p input (initial p) none_taken full)) r.reached
              (cuts.looks p input turns gated can full w o.permitted) o.is_full t
              (subst (λ (n : ℕ). May (rules gated p) (owners_of turns) (plans.effects first (deeds_of p input (initial p) none_taken full)) n t) q m);
        }

    -- ---- a permitted run of deeds

    module _ (ds : List Deed') (perm : machines.IsPermitted (rules gated p) (Does gated p input) (owners_of turns) first 0 ds) where
      pub part : IsPart (rules gated p) (owners_of turns) first (deeds_of p input (initial p) none_taken full) ds
      part = runs.law_of_steps (rules gated p) (Does gated p input) (owners_of turns) first (deeds_of p input (initial p) none_taken full) (determined gated p input) full_is is_plan.ordered ds perm

      pub tell_kept : AllOf TellsSo (did_of (kept part.cut.marks))
      tell_kept = cuts.tell_kept p input turns gated can full w o.permitted.run o.permitted.in_order o.permitted.budget o.ordered
          (turns_done deeds 0 ds) part.cut.marks part.cut.is_whole part.cut.is_cut part.cut.below part.cut.marks [] (sym (append-nil part.cut.marks))

      -- and so are those of the run
      pub run_front : AllOf TellsSo ds → IsFrontOf (events (told_of ds)) (events full)
      run_front tell =
          let f = cuts.kept_front p input turns gated can full w o.permitted.run o.permitted.in_order o.permitted.budget o.ordered
          (turns_done deeds 0 ds) part.cut.marks part.cut.is_whole part.cut.is_cut part.cut.below part.cut.marks [] (sym (append-nil part.cut.marks)) in
          let q : events (told_of ds) ≡ events (told_of (did_of (kept part.cut.marks))) =
          sym (events_are ds tell) ∙ ap (filter_map event_of) part.cut.steps.events ∙ events_are (did_of (kept part.cut.marks)) tell_kept in
          (f.0, ap (λ (l : List Turn). l ++ f.0) q ∙ f.1)

      have_turns : cuts.HaveTurns p input turns gated can full w o.permitted.run o.permitted.in_order o.permitted.budget o.ordered
          (turns_done deeds 0 ds) part.cut.marks part.cut.is_whole part.cut.is_cut part.cut.below
      have_turns ms ns x e =
          let m = (runs.takes_there (rules gated p) (Does gated p input) (owners_of turns) (determined gated p input) first (deeds_of p input (initial p) none_taken full) full_is is_plan.ordered
          (did_of (whole ms)) x.did (did_of (whole ns))
          (sym (did_times deeds (owners_of turns) 0 (deeds_of p input (initial p) none_taken full)) ∙ ap did_of (sym part.cut.is_whole) ∙ ap (λ l. did_of (whole l)) e
          ∙ ap did_of (whole_append ms (performed x ∷ ns)) ∙ did_append (whole ms) (x ∷ whole ns))).may in
          (m.turn, m.left, m.own)

      -- the steps that are done, in the full run's order
      pub kept_run : cuts.KeptRun p input turns gated can full w o.permitted.run o.permitted.in_order o.permitted.budget o.ordered
          (turns_done deeds 0 ds) part.cut.marks part.cut.is_whole part.cut.is_cut part.cut.below part.cut.marks
      kept_run = cuts.kept_run p input turns gated can full w o.permitted.run o.permitted.in_order o.permitted.budget o.ordered
          (turns_done deeds 0 ds) part.cut.marks part.cut.is_whole part.cut.is_cut part.cut.below have_turns
