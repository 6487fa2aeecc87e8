-- Where some full run along turns is ordered: what holds of each permitted run along them.
use Rattle.std.proofs.Common.{◌≡◌, ◌≢◌, ℕ, ℤ, ◌+◌, ◌<◌, ◌≤◌, List, [], ◌∷◌, ◌++◌, length, map, drop, Bool, true, false, Option, Some, None, refl, sym}
use Rattle.std.proofs.Common.{◌∙◌, ap, append-nil, subst, arith, inl, inr, ◌⊎◌}
use Rattle.std.specs.Prelude.{◌||◌, nat_le, is_some, slice_get, if◌then◌else◌}
use Rattle.std.specs.List.{AllByRecursion as AllOf, filter, filter_map}
use Rattle.std.proofs.lemmas.Bool.{ne_eqb}
use Rattle.pg_num.specs.declared.layout.TheConstants.{MEMORY_BYTES}
use Rattle.pg_num.specs.declared.limits.TheConstants.{GUIDED_STEP_LIMIT}
use Rattle.pg_ir.specs.declared.ids.InstrId.{InstrId}
use Rattle.pg_ir.specs.declared.request.Request.TheVariants as requests
use Rattle.pg_ir.specs.declared.request.TrapName.{TrapName}
use Rattle.pg_ir.specs.Program.{NumberedProgram}
use Rattle.pg_law_threads.specs.Cuts.{IsBelow, kept}
use Rattle.pg_law_threads.specs.Effects as plans
use Rattle.pg_law_threads.specs.Effects.{Same, deeds}
use Rattle.pg_law_threads.specs.Intervals.{did_of, done_after, times, turns_done}
use Rattle.pg_law_threads.specs.Machines as machines
use Rattle.pg_law_threads.specs.Machines.{IsAtEnd, IsPart, IsRearranged, May, Takes}
use Rattle.pg_law_threads.specs.Plans.{is_of_thread}
use Rattle.pg_law_threads.proofs.EffectsOfSteps.{agree, cell_part, deed_refl, same_back, same_then}
use Rattle.pg_law_threads.proofs.FirstOfKind.{own_first}
use Rattle.pg_law_threads.proofs.DoneLists.{all_join, all_map, at_marks, both_of}
use Rattle.pg_law_threads.proofs.TimedSteps.{events_below}
use Rattle.pg_law_threads.proofs.PermittedRunLaw as runs
use Rattle.pg_run_objects.specs.Sync as sync
use Rattle.pg_run_thread.specs.declared.action.Action.{Action}
use Rattle.pg_run_thread.specs.declared.action.Action.TheVariants as actions
use Rattle.pg_run_thread.specs.LocalState.{LocalState}
use Rattle.pg_run_thread.specs.Step.{next}
use Rattle.pg_run_thread.specs.Told.{id_of}
use Rattle.pg_run_trace.specs.declared.turn.Turn.{Turn}
use Rattle.pg_run_trace.specs.declared.step.Step.{Step}
use Rattle.pg_run_trace.specs.Races.{recorded}
use Rattle.pg_run.specs.declared.guided_end.GuidedEnd.{GuidedEnd}
use Rattle.pg_run.specs.declared.guided_end.GuidedEnd.TheVariants as stops
use Rattle.pg_run.specs.State.{State, initial, instr_of, next_of}
use Rattle.pg_run.specs.Guided.{end_after}
use Rattle.pg_run.specs.MachineStep.{trap_of}
use Rattle.pg_run.specs.Permitted.{IsFull, IsHeld, IsHeldBy, IsPermitted, end_before, has_spent, trapped, traps, turns_left}
use Rattle.pg_run.specs.Runs.{event_of, events, steps_of}
use Rattle.pg_run.proofs.StepsBegin.{next_is}
use Rattle.pg_law_effects.specs.PermittedSteps.{none_taken}
use Rattle.pg_law_effects.specs.Reached.{IsReached, IsThread}
use Rattle.pg_law_effects.specs.Views.{begun_in, local_at}
use Rattle.pg_law_runs.specs.Cuts.{CanRun, CanStep, EndsAs, HasEndedAs, IsAtCut, IsFrontOf, IsOrderedAlong, IsOrderedFull, locals_by, steps_by}
use Rattle.pg_law_runs.specs.Deeds.{Did as Deed', Does, Seen, Shared, Thread, deed_of, deeds_of, owners_of, rules, seen}
use Rattle.pg_law_runs.proofs.StepRules.{Steps, instr_is, next_fresh}
use Rattle.pg_law_runs.proofs.DeedDependence.{determined, get_behind, steps_of_may}
use Rattle.pg_law_runs.proofs.MaximalRuns.{maximal, no_traps, not_spent}
use Rattle.pg_law_runs.proofs.AlikeStatesEqual.{same_state}
use Rattle.pg_law_runs.proofs.ToldCells.{KeepsWords, all_keep_words, all_told, ordered_steps, turns_as}
use Rattle.pg_law_runs.proofs.DeedLists.{TellsSo, all_tell, below_told, cut_told, events_are, front_map, kept_told, locals_are, map_append, map_length, map_twice, marks_told, steps_are, tells_so}
use Rattle.pg_law_runs.proofs.DeedLists.{timed_told, times_told, told_is, told_of, whole_told}
use Rattle.pg_law_runs.proofs.CutRuns as cuts
use Rattle.pg_law_runs.proofs.PermittedDeeds as law

-- ---- traps, by what is seen

abbrev trap_by : sync.Sync → ℕ → Action → Bool
trap_by y t (actions.Trap name) = true
trap_by y t (actions.Event r) = is_some (sync.check y t r)
trap_by y t action = false

abbrev trap_seen : NumberedProgram → ℕ → sync.Sync → Option LocalState → Bool
trap_seen p t y None = false
trap_seen p t y (Some l) = trap_by y t (next p l)

traps_by : (s : State) (t : ℕ) (action : Action) → is_some (trap_of s t action) ≡ trap_by s.sync t action
traps_by s t (actions.Event r) = refl
traps_by s t (actions.Trap name) = refl
traps_by s t actions.Local = refl
traps_by s t (actions.In i) = refl
traps_by s t actions.InLen = refl
traps_by s t (actions.Load r) = refl
traps_by s t (actions.Store r n) = refl
traps_by s t actions.Ended = refl

start_traps : (y : sync.Sync) (t : ℕ) → trap_by y t (actions.Event requests.Start) ≡ false
unfolding sync.check
start_traps y t = refl

next_none : (p : NumberedProgram) (s : State) (t : ℕ) → slice_get s.locals t ≡ None → next_of p s t ≡ actions.Ended
unfolding next_of
next_none p s t e = ap (Rattle.pg_run.specs.State.action_in p) e

traps_seen : (p : NumberedProgram) (s : State) (t : ℕ) → IsReached p s → traps p s t ≡ trap_seen p t s.sync (local_at s t)
traps_seen p s t reached = go (slice_get s.locals t) refl
  where
    made : (l : LocalState) → slice_get s.locals t ≡ Some l → (b : Bool) → l.begun ≡ b → traps p s t ≡ trap_seen p t s.sync (local_at s t)
    made l e true b =
        let k : local_at s t ≡ Some l = ap begun_in e ∙ ap (λ (c : Bool). if c then Some l else None) b in
        traps_by s t (next_of p s t) ∙ ap (trap_by s.sync t) (next_is p s t l e) ∙ sym (ap (trap_seen p t s.sync) k)
    made l e false b =
        let thread : IsThread p t l = subst (λ (o : Option LocalState). Rattle.std.specs.Prelude.IfSome o (IsThread p t)) e (reached.threads t) in
        let w = thread.waiting b in
        let k : local_at s t ≡ None = ap begun_in e ∙ ap (λ (c : Bool). if c then Some l else None) b in
        traps_by s t (next_of p s t) ∙ ap (trap_by s.sync t) (next_is p s t l e ∙ ap (next p) w.1 ∙ next_fresh p t w.0) ∙ start_traps s.sync t ∙ sym (ap (trap_seen p t s.sync) k)

    go : (o : Option LocalState) → slice_get s.locals t ≡ o → traps p s t ≡ trap_seen p t s.sync (local_at s t)
    go None e = traps_by s t (next_of p s t) ∙ ap (trap_by s.sync t) (next_none p s t e) ∙ sym (ap (trap_seen p t s.sync) (ap begun_in e))
    go (Some l) e = made l e l.begun refl

-- ---- how a thread stops, by what is seen

trap_name_by : sync.Sync → ℕ → Action → Option TrapName
trap_name_by y t (actions.Trap name) = Some name
trap_name_by y t (actions.Event r) = sync.check y t r
trap_name_by y t action = None

end_with : ℕ → Option TrapName → GuidedEnd
end_with id None = stops.Strayed
end_with id (Some name) = stops.Trap name (record { 0 = id })

end_seen : NumberedProgram → ℕ → sync.Sync → Option LocalState → GuidedEnd
end_seen p t y None = stops.Strayed
end_seen p t y (Some l) = end_with (id_of l) (trap_name_by y t (next p l))

name_is : (s : State) (t : ℕ) (action : Action) → trap_of s t action ≡ trap_name_by s.sync t action
unfolding trap_name_by
name_is s t (actions.Event r) = refl
name_is s t (actions.Trap name) = refl
name_is s t actions.Local = refl
name_is s t (actions.In i) = refl
name_is s t actions.InLen = refl
name_is s t (actions.Load r) = refl
name_is s t (actions.Store r n) = refl
name_is s t actions.Ended = refl

start_name : (y : sync.Sync) (t : ℕ) → trap_name_by y t (actions.Event requests.Start) ≡ None
unfolding trap_name_by sync.check
start_name y t = refl

ended_name : (y : sync.Sync) (t : ℕ) → trap_name_by y t actions.Ended ≡ None
unfolding trap_name_by
ended_name y t = refl

trapped_is : (s : State) (t : ℕ) (o : Option TrapName) → trapped s t o ≡ end_with (instr_of s t) o
unfolding end_with
trapped_is s t None = refl
trapped_is s t (Some name) = refl

stops_seen : (p : NumberedProgram) (s : State) (t : ℕ) → IsReached p s → trapped s t (trap_of s t (next_of p s t)) ≡ end_seen p t s.sync (local_at s t)
unfolding end_with end_seen
stops_seen p s t reached = trapped_is s t (trap_of s t (next_of p s t)) ∙ ap (end_with (instr_of s t)) (name_is s t (next_of p s t)) ∙ go (slice_get s.locals t) refl
  where
    made : (l : LocalState) → slice_get s.locals t ≡ Some l → (b : Bool) → l.begun ≡ b → end_with (instr_of s t) (trap_name_by s.sync t (next_of p s t)) ≡ end_seen p t s.sync (local_at s t)
    made l e true b =
        let k : local_at s t ≡ Some l = ap begun_in e ∙ ap (λ (c : Bool). if c then Some l else None) b in
        ap (λ (a : Action). end_with (instr_of s t) (trap_name_by s.sync t a)) (next_is p s t l e)
        ∙ ap (λ (i : ℕ). end_with i (trap_name_by s.sync t (next p l))) (instr_is s t l e) ∙ sym (ap (end_seen p t s.sync) k)
    made l e false b =
        let thread : IsThread p t l = subst (λ (o : Option LocalState). Rattle.std.specs.Prelude.IfSome o (IsThread p t)) e (reached.threads t) in
        let w = thread.waiting b in
        let k : local_at s t ≡ None = ap begun_in e ∙ ap (λ (c : Bool). if c then Some l else None) b in
        ap (λ (a : Action). end_with (instr_of s t) (trap_name_by s.sync t a)) (next_is p s t l e ∙ ap (next p) w.1 ∙ next_fresh p t w.0)
        ∙ ap (end_with (instr_of s t)) (start_name s.sync t) ∙ sym (ap (end_seen p t s.sync) k)

    go : (o : Option LocalState) → slice_get s.locals t ≡ o → end_with (instr_of s t) (trap_name_by s.sync t (next_of p s t)) ≡ end_seen p t s.sync (local_at s t)
    go None e =
        ap (λ (a : Action). end_with (instr_of s t) (trap_name_by s.sync t a)) (next_none p s t e) ∙ ap (end_with (instr_of s t)) (ended_name s.sync t) ∙ sym (ap (end_seen p t s.sync) (ap begun_in e))
    go (Some l) e = made l e l.begun refl

-- ---- the end of a run

spent_same : (xs ys : List Step) → ((t : ℕ) → steps_of t xs ≡ steps_of t ys) → (t : ℕ) → has_spent xs t ≡ has_spent ys t
spent_same xs ys h t = ap (nat_le GUIDED_STEP_LIMIT) (h t)

end_same : (p : NumberedProgram) (xs ys : List Step) (z w : State) (us : List Turn) → ((t : ℕ) → steps_of t xs ≡ steps_of t ys) → z ≡ w → end_before p xs z us ≡ end_before p ys w us
end_same p xs ys z w [] h e = ap end_after e
end_same p xs ys z w (u ∷ us) h e =
    ap (λ (s : State). end_before p xs s (u ∷ us)) e
    ∙ ap (λ (b : Bool). if b then Rattle.pg_run.specs.declared.guided_end.GuidedEnd.TheVariants.Budget u.thread else trapped w u.thread.0 (trap_of w u.thread.0 (next_of p w u.thread.0)))
    (spent_same xs ys h u.thread.0)

held_same : (gated : List InstrId) (p : NumberedProgram) (xs ys : List Step) (z w : State) (us : List Turn) → ((t : ℕ) → steps_of t xs ≡ steps_of t ys) → z ≡ w
    → IsHeldBy gated p ys w us → IsHeldBy gated p xs z us
held_same gated p xs ys z w [] h e k = tt
held_same gated p xs ys z w (u ∷ us) h e k = subst (λ (s : State). IsHeld gated p xs s u us) (sym e) (record {
  going = k.going;
  owner = ap (λ (b : Bool). traps p w u.thread.0 || b) (spent_same xs ys h u.thread.0) ∙ k.owner;
  others = λ t n q. ap (λ (b : Bool). Rattle.pg_run.specs.MachineStep.is_ended (next_of p w t) || traps p w t || b || is_some (Rattle.pg_run.specs.MachineStep.turn_of gated p w t))
      (spent_same xs ys h t) ∙ k.others t n q;
})

timed_all : (T : List ℕ) (k : ℕ) (ds : List Deed') → AllOf KeepsWords ds → AllOf (λ x. KeepsWords x.did) (times deeds T k ds)
timed_all T k [] h = tt
timed_all T k (d ∷ ds) h = (h.0, timed_all T (done_after (deeds.is_event d) k) ds h.1)

-- a front of the same length is the whole
whole_front : {A : Type 0} (us vs ws : List A) → us ++ vs ≡ ws → length ws ≡ length us → us ≡ ws
whole_front {A} us vs ws q n = sym (append-nil us) ∙ ap (λ (l : List A). us ++ l) (sym (nothing vs (let k = Rattle.std.proofs.lemmas.List.length-append us vs in let l = ap length q in omega (arith, k, l, n)))) ∙ q
  where
    nothing : (l : List A) → length l ≡ 0 → l ≡ []
    nothing [] e = refl
    nothing (x ∷ l) e = absurd (omega (arith, e))

abbrev sync_of : Seen → sync.Sync
sync_of a = a.objects.objects.sync

-- ---- the law

module _ (p : NumberedProgram) (input : List ℤ) (turns : List Turn) (gated : List InstrId) (can : CanRun p input) (full : List Step) (w : State) (o : IsOrderedFull p input turns gated full w)
    (xs : List Step) (z : State) (h : IsPermitted p input turns gated xs z) where
  abbrev first : Seen
  first = seen (initial p) none_taken

  abbrev plan : List Deed'
  plan = deeds_of p input (initial p) none_taken full

  abbrev done : List Deed'
  done = deeds_of p input (initial p) none_taken xs

  perm : machines.IsPermitted (rules gated p) (Does gated p input) (owners_of turns) first 0 done
  perm = (cuts.ran p input turns gated can xs z h).permitted

  reached : IsReached p z
  reached = (cuts.ran p input turns gated can xs z h).reached

  full_reached : IsReached p w
  full_reached = (cuts.ran p input turns gated can full w o.permitted).reached

  sees : Same (plans.effects first done) (seen z (λ t. steps_of t xs))
  sees = cuts.looks p input turns gated can xs z h

  full_sees : Same (plans.effects first plan) (seen w (λ t. steps_of t full))
  full_sees = cuts.looks p input turns gated can full w o.permitted

  part : IsPart (rules gated p) (owners_of turns) first plan done
  part = law.part p input turns gated can full w o done perm

  turns_are : turns_done deeds 0 done ≡ length (events xs)
  turns_are = cuts.done_is p input turns gated can xs

  full_turns_are : turns_done deeds 0 plan ≡ length (events full)
  full_turns_are = cuts.done_is p input turns gated can full

  all_done : AllOf TellsSo done
  all_done = all_tell p input (initial p) none_taken xs

  all_plan : AllOf TellsSo plan
  all_plan = all_tell p input (initial p) none_taken full

  xs_told : told_of done ≡ xs
  xs_told = told_is p input (initial p) none_taken xs

  full_told : told_of plan ≡ full
  full_told = told_is p input (initial p) none_taken full

  -- ---- what one thread does

  is_own : (t : ℕ) (d : Deed') → (d.thread ≢ t) → is_of_thread t d ≡ false
  is_own t d n = ne_eqb t d.thread (λ e. n (sym e))

  rearranged_steps : (t : ℕ) (ps : List Deed') → AllOf TellsSo ps → IsRearranged (owners_of turns) first done ps → steps_by t xs ≡ steps_by t (told_of ps)
  rearranged_steps t ps a r = ap (steps_by t) (sym xs_told) ∙ sym (steps_are t done all_done) ∙ r.told t ∙ steps_are t ps a

  rearranged_locals : (t : ℕ) (ps : List Deed') → IsRearranged (owners_of turns) first done ps
      → locals_by p input (initial p) t xs ≡ map (λ (d : Deed'). d.to.local) (filter (is_of_thread t) ps)
  rearranged_locals t ps r =
      sym (locals_are p input (initial p) none_taken t xs) ∙ sym (map_twice (λ (d : Deed'). d.to) (λ (l : Thread). l.local) (filter (is_of_thread t) done))
      ∙ ap (map (λ (l : Thread). l.local)) (r.locals t) ∙ map_twice (λ (d : Deed'). d.to) (λ (l : Thread). l.local) (filter (is_of_thread t) ps)

  -- ---- the cut

  tell_kept : AllOf TellsSo (did_of (kept part.cut.marks))
  unfolding part
  tell_kept = law.tell_kept p input turns gated can full w o done perm

  own_front : (t : ℕ) → IsFrontOf (filter (is_of_thread t) (did_of (kept part.cut.marks))) (filter (is_of_thread t) plan)
  unfolding part
  own_front t =
      let f = own_first deeds t (is_of_thread t) (is_own t) part.cut.marks part.cut.is_cut in (
        f.0,
        f.1 ∙ ap (filter (is_of_thread t)) (cuts.all_steps p input turns gated can full w o.permitted.run o.permitted.in_order o.permitted.budget o.ordered
            (turns_done deeds 0 done) part.cut.marks part.cut.is_whole part.cut.is_cut part.cut.below),
      )

  front_steps : (t : ℕ) → IsFrontOf (steps_by t xs) (steps_by t full)
  front_steps t =
      let f = front_map (λ (d : Deed'). d.told) (filter (is_of_thread t) (did_of (kept part.cut.marks))) (filter (is_of_thread t) plan) (own_front t) in (
        f.0,
        ap (λ (l : List Step). l ++ f.0) (rearranged_steps t (did_of (kept part.cut.marks)) tell_kept part.cut.steps ∙ sym (steps_are t (did_of (kept part.cut.marks)) tell_kept)) ∙ f.1
            ∙ steps_are t plan all_plan ∙ ap (steps_by t) full_told,
      )

  front_locals : (t : ℕ) → IsFrontOf (locals_by p input (initial p) t xs) (locals_by p input (initial p) t full)
  front_locals t =
      let f = front_map (λ (d : Deed'). d.to.local) (filter (is_of_thread t) (did_of (kept part.cut.marks))) (filter (is_of_thread t) plan) (own_front t) in
      (f.0, ap (λ (l : List (Option LocalState)). l ++ f.0) (rearranged_locals t (did_of (kept part.cut.marks)) part.cut.steps) ∙ f.1 ∙ locals_are p input (initial p) none_taken t full)

  kept_state : IsPermitted p input turns gated (told_of (did_of (kept part.cut.marks))) z
  unfolding part
  kept_state =
      let r = law.kept_run p input turns gated can full w o done perm in
      let q : r.state ≡ z = same_state p input r.state z (λ t. steps_of t (told_of (did_of (kept part.cut.marks)))) (λ t. steps_of t xs)
      (cuts.ran p input turns gated can (told_of (did_of (kept part.cut.marks))) r.state r.permitted).reached reached
      (same_then (same_back r.sees) (same_then (same_back part.cut.same) sees)) in
      subst (λ (s : State). IsPermitted p input turns gated (told_of (did_of (kept part.cut.marks))) s) q r.permitted

  pub at_cut : IsAtCut p input turns gated full xs z
  unfolding part
  at_cut = record {
    marks = marks_told part.cut.marks;
    is_whole = whole_told part.cut.marks ∙ ap (map timed_told) part.cut.is_whole ∙ sym (times_told (owners_of turns) 0 plan all_plan) ∙ ap (times recorded (owners_of turns) 0) full_told;
    is_cut = cut_told part.cut.marks (cuts.marks_tell p input turns gated can full w o.permitted.run o.permitted.in_order o.permitted.budget o.ordered
        (turns_done deeds 0 done) part.cut.marks part.cut.is_whole part.cut.is_cut part.cut.below) part.cut.is_cut;
    below = below_told (length (events xs)) part.cut.marks (subst (λ (n : ℕ). IsBelow n part.cut.marks) turns_are part.cut.below);
    steps = λ t. rearranged_steps t (did_of (kept part.cut.marks)) tell_kept part.cut.steps ∙ ap (steps_by t) (sym (kept_told part.cut.marks));
    front = front_steps;
    locals = front_locals;
    state = subst (λ (l : List Step). IsPermitted p input turns gated l z) (sym (kept_told part.cut.marks)) kept_state;
  }

  -- ---- order and length

  pub ordered : IsOrderedAlong turns xs
  ordered =
      let t = all_told gated p input (initial p) none_taken xs z h.run in
      ordered_steps (owners_of turns) xs done t (turns_as (owners_of turns) 0 xs done t
      (runs.turns_of (rules gated p) (Does gated p input) (owners_of turns) (determined gated p input) first 0 done perm)) part.ordered

  length_is : (ys : List Step) → length (deeds_of p input (initial p) none_taken ys) ≡ length ys
  length_is ys = sym (map_length (λ (d : Deed'). d.told) (deeds_of p input (initial p) none_taken ys)) ∙ ap length (told_is p input (initial p) none_taken ys)

  pub short : length xs ≤ length full
  short = let a = part.short in let b = length_is xs in let c = length_is full in omega (arith, a, b, c)

  -- ---- one step more

  can_step : (t : ℕ) → May (rules gated p) (owners_of turns) (plans.effects first done) (turns_done deeds 0 done) t → CanStep p input turns gated xs t
  can_step t m = record {
    step = k.told;
    after = k.takes.after;
    own = k.own;
    permitted = cuts.prolongs p input turns gated can xs z (plans.effects first done) (turns_done deeds 0 done) t h sees m k turns_are due;
  }
    where
      k : Steps gated p input t z
      k = steps_of_may gated p input z (λ u. steps_of u xs) (plans.effects first done) reached sees turns (turns_done deeds 0 done) t m

      d : Deed'
      d = deed_of p input z (λ u. steps_of u xs) k.told

      takes : Takes (rules gated p) (Does gated p input) (owners_of turns) (plans.effects first done) (turns_done deeds 0 done) (deed_of p input z (λ u. steps_of u xs) k.told)
      takes = record {
        may = subst (May (rules gated p) (owners_of turns) (plans.effects first done) (turns_done deeds 0 done)) (sym k.own) m;
        is_step = record {
          state = z;
          counts = λ u. steps_of u xs;
          reached = reached;
          looks = sees;
          told = k.told;
          takes = k.takes;
          is_deed = deed_refl (deed_of p input z (λ u. steps_of u xs) k.told);
        };
      }

      more : machines.IsPermitted (rules gated p) (Does gated p input) (owners_of turns) first 0 (done ++ deed_of p input z (λ u. steps_of u xs) k.told ∷ [])
      more = law.more_permitted p input turns gated can first 0 done (deed_of p input z (λ u. steps_of u xs) k.told) perm takes

      told : told_of (done ++ deed_of p input z (λ u. steps_of u xs) k.told ∷ []) ≡ xs ++ k.told ∷ []
      told = map_append (λ (q : Deed'). q.told) done (deed_of p input z (λ u. steps_of u xs) k.told ∷ []) ∙ ap (λ (l : List Step). l ++ k.told ∷ []) xs_told

      due : Rattle.pg_law_effects.specs.PermittedSteps.IsDue (event_of k.told) (turns_left turns xs)
      due = cuts.due_by p input turns gated can full w o.permitted.run o.permitted.in_order o.permitted.budget o.ordered xs k.told (subst (λ (l : List Step). IsFrontOf (events l) (events full)) told
          (law.run_front p input turns gated can full w o (done ++ deed_of p input z (λ u. steps_of u xs) k.told ∷ []) more
          (all_join TellsSo done (deed_of p input z (λ u. steps_of u xs) k.told ∷ []) all_done (tells_so p input z (λ u. steps_of u xs) k.told, tt))))

  -- ---- the end

  ends_as : machines.EndsAs (owners_of turns) first plan done → EndsAs p input turns full w xs z
  ends_as e = record {
    state = states;
    events = same_events;
    steps = λ t. rearranged_steps t plan all_plan e.steps ∙ ap (steps_by t) full_told;
    locals = λ t. rearranged_locals t plan e.steps ∙ locals_are p input (initial p) none_taken t full;
    number = let a = e.steps.number in let b = length_is xs in let c = length_is full in omega (arith, a, b, c);
    end = ap (λ (n : ℕ). end_before p xs z (drop n turns)) (ap length same_events) ∙ end_same p xs full z w (turns_left turns full) counts states;
  }
    where
      states : z ≡ w
      states = same_state p input z w (λ t. steps_of t xs) (λ t. steps_of t full) reached full_reached (same_then (same_back sees) (same_then e.same full_sees))

      same_events : events xs ≡ events full
      same_events = ap events (sym xs_told) ∙ sym (events_are done all_done) ∙ ap (filter_map event_of) e.steps.events ∙ events_are plan all_plan ∙ ap events full_told

      counts : (t : ℕ) → steps_of t xs ≡ steps_of t full
      counts t = ap (λ (l : Thread). l.taken) (sym (sees.locals t) ∙ e.same.locals t ∙ full_sees.locals t)

  full_as : machines.EndsAs (owners_of turns) first plan done → IsFull gated p turns xs z
  full_as e =
      let r = ends_as e in
      subst (IsHeldBy gated p xs z) (ap (λ (n : ℕ). drop n turns) (sym (ap length r.events)))
      (held_same gated p xs full z w (turns_left turns full) (λ t. ap (λ (l : Thread). l.taken) (sym (sees.locals t) ∙ e.same.locals t ∙ full_sees.locals t)) r.state o.is_full)

  -- it is full, or it can be prolonged
  pub goes_on : IsFull gated p turns xs z ⊎ ((t : ℕ) × CanStep p input turns gated xs t)
  goes_on = go part.goes_on
    where
      go : ((t : ℕ) × May (rules gated p) (owners_of turns) (plans.effects first done) (turns_done deeds 0 done) t) ⊎ machines.EndsAs (owners_of turns) first plan done
          → IsFull gated p turns xs z ⊎ ((t : ℕ) × CanStep p input turns gated xs t)
      go (inl m) = inr (m.0, can_step m.0 m.1)
      go (inr e) = inl (full_as e)

  pub ends : IsFull gated p turns xs z → EndsAs p input turns full w xs z
  ends f = go part.goes_on
    where
      go : ((t : ℕ) × May (rules gated p) (owners_of turns) (plans.effects first done) (turns_done deeds 0 done) t) ⊎ machines.EndsAs (owners_of turns) first plan done
          → EndsAs p input turns full w xs z
      go (inl m) = absurd (maximal gated p input turns xs z (plans.effects first done) reached sees f m.0
          (subst (λ (n : ℕ). May (rules gated p) (owners_of turns) (plans.effects first done) n m.0) turns_are m.1))
      go (inr e) = ends_as e

  -- ---- the owner of the next turn

  next_own : (u : Turn) (us : List Turn) → turns_left turns xs ≡ u ∷ us → slice_get (owners_of turns) (turns_done deeds 0 done) ≡ Some u.thread.0
  next_own u us e =
      let q : turns_done deeds 0 done ≡ length (events xs) + 0 = let k = turns_are in omega (arith, k) in
      ap (slice_get (owners_of turns)) q ∙ sym (get_behind gated p input (length (events xs)) turns 0) ∙ ap (λ (l : List Turn). slice_get (owners_of l) 0) e

  -- where the full run has the next turn, its owner can step
  pub owner : (u : Turn) (us : List Turn) → turns_left turns xs ≡ u ∷ us → length (events xs) < length (events full) → CanStep p input turns gated xs u.thread.0
  owner u us e lt = can_step u.thread.0 (part.owner u.thread.0 (let a = turns_are in let b = full_turns_are in omega (arith, a, b, lt)) (next_own u us e))

  -- ---- all turns are done, and the owner of the next turn stands where the full run leaves it

  module _ (u : Turn) (us : List Turn) (e : turns_left turns xs ≡ u ∷ us) (r : IsAtEnd first plan done u.thread.0) where
    front : IsFrontOf (events xs) (events full)
    front =
        let f = law.run_front p input turns gated can full w o done perm all_done in
        (f.0, ap (λ (l : List Turn). l ++ f.0) (sym (ap events xs_told)) ∙ f.1)

    front_short : {A : Type 0} (us vs ws : List A) → us ++ vs ≡ ws → length us ≤ length ws
    front_short us vs ws q = let k = Rattle.std.proofs.lemmas.List.length-append us vs in let l = ap length q in omega (arith, k, l)

    number : length (events full) ≡ length (events xs)
    number = let a = r.turns in let b = turns_are in let c = full_turns_are in let d = front_short (events xs) front.0 (events full) front.1 in omega (arith, a, b, c, d)

    left : turns_left turns full ≡ u ∷ us
    left = ap (λ (n : ℕ). drop n turns) number ∙ e

    shared : sync_of (plans.effects first done) ≡ sync_of (plans.effects first plan)
    shared = ap (λ (q : Shared). q.objects.sync) r.objects

    same_traps : traps p w u.thread.0 ≡ traps p z u.thread.0
    same_traps =
        traps_seen p w u.thread.0 full_reached
        ∙ ap (λ (y : sync.Sync). trap_seen p u.thread.0 y (local_at w u.thread.0))
        (sym (ap (λ (q : Shared). q.objects.sync) full_sees.objects) ∙ sym shared ∙ ap (λ (q : Shared). q.objects.sync) sees.objects)
        ∙ ap (λ (l : Thread). trap_seen p u.thread.0 z.sync l.local) (sym (full_sees.locals u.thread.0) ∙ sym r.local ∙ sees.locals u.thread.0)
        ∙ sym (traps_seen p z u.thread.0 reached)

    same_stop : trapped z u.thread.0 (trap_of z u.thread.0 (next_of p z u.thread.0)) ≡ trapped w u.thread.0 (trap_of w u.thread.0 (next_of p w u.thread.0))
    same_stop =
        stops_seen p z u.thread.0 reached
        ∙ ap (λ (y : sync.Sync). end_seen p u.thread.0 y (local_at z u.thread.0))
        (sym (ap (λ (q : Shared). q.objects.sync) sees.objects) ∙ shared ∙ ap (λ (q : Shared). q.objects.sync) full_sees.objects)
        ∙ ap (λ (l : Thread). end_seen p u.thread.0 w.sync l.local) (sym (sees.locals u.thread.0) ∙ r.local ∙ full_sees.locals u.thread.0)
        ∙ sym (stops_seen p w u.thread.0 full_reached)

    same_spent : has_spent full u.thread.0 ≡ has_spent xs u.thread.0
    same_spent = ap (nat_le GUIDED_STEP_LIMIT) (ap (λ (l : Thread). l.taken) (sym (full_sees.locals u.thread.0) ∙ sym r.local ∙ sees.locals u.thread.0))

    -- each step that isn't done is no event, and so leaves the words
    open_plain : AllOf (λ m. m.done ≡ false → is_some (m.step.did.writes MEMORY_BYTES) ≡ false) part.cut.marks
    unfolding part
    open_plain = all_map (λ m h n. plain m.step.did m.step.high h.0.0 h.0.1 (h.1.if_open n)) part.cut.marks
        (both_of _ _ part.cut.marks (both_of _ _ part.cut.marks keep below_all) part.cut.below)
      where
        told_all : AllOf KeepsWords plan
        told_all = all_keep_words full plan (all_told gated p input (initial p) none_taken full w o.permitted.run)

        keep : AllOf (λ m. KeepsWords m.step.did) part.cut.marks
        keep = at_marks (λ x. KeepsWords x.did) part.cut.marks (subst (AllOf (λ x. KeepsWords x.did)) (sym part.cut.is_whole) (timed_all (owners_of turns) 0 plan told_all))

        below_all : AllOf (λ m. deeds.is_event m.step.did ≡ true → m.step.high < turns_done deeds 0 plan) part.cut.marks
        below_all = at_marks (λ x. deeds.is_event x.did ≡ true → x.high < turns_done deeds 0 plan) part.cut.marks
            (subst (AllOf (λ x. deeds.is_event x.did ≡ true → x.high < turns_done deeds 0 plan)) (sym part.cut.is_whole) (events_below deeds (owners_of turns) 0 plan (cuts.is_plan p input turns gated can full w o.permitted.run o.permitted.in_order o.permitted.budget o.ordered).turns))

        plain : (d : Deed') (high : ℕ) → KeepsWords d → (deeds.is_event d ≡ true → high < turns_done deeds 0 plan) → turns_done deeds 0 done ≤ high → is_some (d.writes MEMORY_BYTES) ≡ false
        plain d high k b l = go (deeds.is_event d) refl
          where
            go : (c : Bool) → deeds.is_event d ≡ c → is_some (d.writes MEMORY_BYTES) ≡ false
            go true q = absurd (let x = b q in let y = r.turns in omega (arith, x, y, l))
            go false q = k q MEMORY_BYTES (omega arith)

    same_value : z.value ≡ w.value
    unfolding part
    same_value =
        let a = agree (cell_part MEMORY_BYTES) first first part.cut.marks open_plain refl in
        reached.value ∙ sym (sees.cells MEMORY_BYTES) ∙ part.cut.same.cells MEMORY_BYTES ∙ a
        ∙ ap (λ (l : List Deed'). (plans.effects first l).cells MEMORY_BYTES) (cuts.all_steps p input turns gated can full w o.permitted.run o.permitted.in_order o.permitted.budget o.ordered
        (turns_done deeds 0 done) part.cut.marks part.cut.is_whole part.cut.is_cut part.cut.below)
        ∙ full_sees.cells MEMORY_BYTES ∙ sym full_reached.value

  -- and so it can where it doesn't trap and has steps left
  pub owner_goes : (u : Turn) (us : List Turn) → turns_left turns xs ≡ u ∷ us → traps p z u.thread.0 ≡ false → has_spent xs u.thread.0 ≡ false
      → CanStep p input turns gated xs u.thread.0
  owner_goes u us e no_trap steps = go (part.rests u.thread.0 (next_own u us e))
    where
      go : May (rules gated p) (owners_of turns) (plans.effects first done) (turns_done deeds 0 done) u.thread.0 ⊎ IsAtEnd first plan done u.thread.0 → CanStep p input turns gated xs u.thread.0
      go (inl m) = can_step u.thread.0 m
      go (inr r) = absurd (held (subst (IsHeldBy gated p full w) (left u us e r) o.is_full))
        where
          held : IsHeld gated p full w u us → ⊥
          held k = let n : true ≡ false = sym k.owner ∙ rw (same_traps u us e r ∙ no_trap, same_spent u us e r ∙ steps) refl in absurd cc

  -- a run that the owner of the next turn holds has come as far as others see as the full run
  pub held_ends : (u : Turn) (us : List Turn) → turns_left turns xs ≡ u ∷ us → (traps p z u.thread.0 || has_spent xs u.thread.0) ≡ true → HasEndedAs p turns full w xs z
  held_ends u us e halts = go (part.rests u.thread.0 (next_own u us e))
    where
      go : May (rules gated p) (owners_of turns) (plans.effects first done) (turns_done deeds 0 done) u.thread.0 ⊎ IsAtEnd first plan done u.thread.0 → HasEndedAs p turns full w xs z
      go (inl m) =
          let k : May (rules gated p) (owners_of turns) (plans.effects first done) (length (events xs)) u.thread.0 =
          subst (λ (n : ℕ). May (rules gated p) (owners_of turns) (plans.effects first done) n u.thread.0) turns_are m in
          absurd (let n : true ≡ false = sym halts ∙ rw (
            no_traps gated p input turns xs z (plans.effects first done) reached sees u.thread.0 k,
            not_spent gated p input turns xs z (plans.effects first done) reached sees u.thread.0 k,
          ) refl in cc)
      go (inr r) = record {
        events = all_events;
        printed = ap (λ (q : Shared). q.printed) (sym sees.objects ∙ r.objects ∙ full_sees.objects);
        value = same_value u us e r;
        end = ap (end_before p xs z) e ∙ same_end ∙ sym (ap (end_before p full w) (left u us e r));
      }
        where
          all_events : events xs ≡ events full
          all_events = whole_front (events xs) (front u us e r).0 (events full) (front u us e r).1 (number u us e r)

          same_end : end_before p xs z (u ∷ us) ≡ end_before p full w (u ∷ us)
          same_end =
              ap (λ (g : GuidedEnd). if has_spent xs u.thread.0 then stops.Budget u.thread else g) (same_stop u us e r)
              ∙ ap (λ (b : Bool). if b then stops.Budget u.thread else trapped w u.thread.0 (trap_of w u.thread.0 (next_of p w u.thread.0))) (sym (same_spent u us e r))
