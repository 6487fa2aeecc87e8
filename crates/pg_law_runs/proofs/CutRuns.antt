-- The steps of a run that are done at a cut of it, in its order, are a permitted run, where they have turns left.
use Rattle.std.proofs.Common.{◌≡◌, ℕ, ℤ, ◌+◌, ◌-◌, ◌<◌, ◌≤◌, List, [], ◌∷◌, ◌++◌, length, map, drop, Bool, true, false, cond, Option, Some, None, refl}
use Rattle.std.proofs.Common.{sym, ◌∙◌, ap, subst, arith, append_assoc, append-nil}
use Rattle.std.specs.Prelude.{◌==◌, ◌&&◌, nat_lt, slice_get, if◌then◌else◌}
use Rattle.std.specs.List.{AllByRecursion as AllOf, filter}
use Rattle.std.proofs.lemmas.Bool.Decides.{nat_tests}
use Rattle.std.proofs.lemmas.Bool.{and_parts}
use Rattle.std.proofs.lemmas.List.Elements.{filter-append, filter_map-append}
use Rattle.pg_num.specs.declared.limits.TheConstants.{GUIDED_STEP_LIMIT}
use Rattle.pg_ir.specs.declared.ids.InstrId.{InstrId}
use Rattle.pg_ir.specs.Program.{NumberedProgram}
use Rattle.pg_law_threads.specs.Cuts.{IsBelow, IsCut, Mark, kept, performed, whole}
use Rattle.pg_law_threads.specs.Effects as plans
use Rattle.pg_law_threads.specs.Effects.{IsSame, Same, deeds}
use Rattle.pg_law_threads.specs.Intervals.{Timed, did_of, times, turns_done}
use Rattle.pg_law_threads.specs.Machines.{May, Takes}
use Rattle.pg_law_threads.specs.Plans.{IsPlan}
use Rattle.pg_law_threads.proofs.EffectsOfSteps.{deed_refl, effects_append, same_refl, same_then}
use Rattle.pg_law_threads.proofs.FirstOfKind.{events_first}
use Rattle.pg_law_threads.proofs.DoneStepsInOrder as done
use Rattle.pg_law_threads.proofs.DoneLists.{all_did, all_join, all_kept, all_map, at_marks, did_append, kept_append}
use Rattle.pg_law_threads.proofs.TimedSteps.{did_times}
use Rattle.pg_run_trace.specs.declared.turn.Turn.{Turn}
use Rattle.pg_run_trace.specs.declared.step.Step.{Step}
use Rattle.pg_run.specs.State.{State, initial}
use Rattle.pg_run.specs.Permitted.{IsPermitted, has_turn, turns_left}
use Rattle.pg_run.specs.Runs.{IsRun, event_of, events, steps_of}
use Rattle.pg_law_effects.specs.PermittedSteps.{IsDue, none_taken, one_more}
use Rattle.pg_law_effects.specs.Reached.{IsReached}
use Rattle.pg_law_effects.proofs.StepsApart.{left_by}
use Rattle.pg_law_effects.proofs.PermittedStepByStep.{permitted_is, permitted_more, steps_append}
use Rattle.pg_law_effects.proofs.ReachedStates.{reached_first}
use Rattle.pg_law_runs.specs.Cuts.{CanRun, IsFrontOf, IsOrderedAlong}
use Rattle.pg_law_runs.specs.Deeds.{Did as Deed', Does, Seen, Shared, Thread, deed_of, deeds_of, local_goes, owners_of, rules, seen}
use Rattle.pg_law_runs.proofs.StepRules.{Steps}
use Rattle.pg_law_runs.proofs.DeedDependence.{determined, does_same, get_behind, steps_of_may}
use Rattle.pg_law_runs.proofs.RunsAsDeeds.{Ran, count_more, counts_by, leads, next_state, run_is, turns_are}
use Rattle.pg_law_runs.proofs.StepsWithTurnLeft.{FreeSteps, free_steps, free_turns, takes_at}
use Rattle.pg_law_runs.proofs.MaximalRuns.{turn_there}
use Rattle.pg_law_runs.proofs.ToldCells.{all_told, ordered_deeds}
use Rattle.pg_law_runs.proofs.DeedLists.{TellsSo, all_tell, all_times, done_told, events_are, events_front, front_map, map_append, told_is, told_of}

drop_front : (us vs : List Turn) → drop (length us) (us ++ vs) ≡ vs
drop_front [] vs = refl
drop_front (u ∷ us) vs = drop_front us vs

same_effect : (a : Seen) (d e : Deed') → IsSame d e → Same (plans.effect a d) (plans.effect a e)
same_effect a d e h = record {
  locals = λ u. ap (λ (t : ℕ). if u == t then d.to else a.locals u) h.thread ∙ ap (λ (l : Thread). if u == e.thread then l else a.locals u) h.to;
  cells = λ b. ap (λ (o : Option ℕ). plans.or_old o (a.cells b)) (h.writes b);
  objects = ap (λ (o : Option Shared). plans.or_old o a.objects) h.objects;
}

module _ (p : NumberedProgram) (input : List ℤ) (turns : List Turn) (gated : List InstrId) (can : CanRun p input) where
  abbrev pub T : List ℕ
  T = owners_of turns

  abbrev pub first : Seen
  first = seen (initial p) none_taken

  abbrev pub done_by : List Step → List Deed'
  done_by xs = deeds_of p input (initial p) none_taken xs

  pub ran : (xs : List Step) (z : State) → IsPermitted p input turns gated xs z → Ran gated p input (initial p) none_taken first turns 0 xs z
  ran xs z h = run_is gated p input (initial p) none_taken first turns 0 xs z can.program can.small (reached_first p can.program can.bytes) (same_refl first)
      ((permitted_is p input turns gated xs z).0 h)

  pub looks : (xs : List Step) (z : State) → IsPermitted p input turns gated xs z → Same (plans.effects first (done_by xs)) (seen z (λ t. steps_of t xs))
  looks xs z h = same_then (ran xs z h).looks (counts_by gated p input z (λ t. none_taken t + steps_of t xs) (λ t. steps_of t xs) (λ t. omega arith))

  pub done_is : (xs : List Step) → turns_done deeds 0 (done_by xs) ≡ length (events xs)
  done_is xs = let e = turns_are gated p input (initial p) none_taken 0 xs in omega (arith, e)

  -- a step that may be taken of what is seen prolongs a permitted run, where an event is the next turn
  pub prolongs : (ys : List Step) (s : State) (a : Seen) (g t : ℕ) → IsPermitted p input turns gated ys s → Same a (seen s (λ u. steps_of u ys))
      → May (rules gated p) (owners_of turns) a g t → (k : Steps gated p input t s) → g ≡ length (events ys) → IsDue (event_of k.told) (turns_left turns ys) →
      IsPermitted p input turns gated (ys ++ k.told ∷ []) k.takes.after
  prolongs ys s a g t h sees m k e due = (permitted_more p input turns gated ys k.told k.takes.after).1 (
    s,
    h,
    (
      record {
        takes = k.takes;
        owner = subst (λ (u : ℕ). has_turn u (turns_left turns ys) ≡ true) (sym k.own)
            (turn_there t (turns_left turns ys) (m.turn - length (events ys))
            (get_behind gated p input (length (events ys)) turns (m.turn - length (events ys)) ∙ ap (slice_get (owners_of turns)) sum ∙ m.own));
        budget = subst (λ (u : ℕ). steps_of u ys < GUIDED_STEP_LIMIT) (sym k.own) below;
        due = due;
      },
      refl,
    ),
  )
    where
      sum : length (events ys) + (m.turn - length (events ys)) ≡ m.turn
      sum = let l = m.left in omega (arith, l, e)

      left : nat_lt (steps_of t ys) GUIDED_STEP_LIMIT ≡ true
      left = (and_parts (local_goes p (a.locals t).local) (nat_lt (steps_of t ys) GUIDED_STEP_LIMIT)
          (ap (λ (n : ℕ). local_goes p (a.locals t).local && nat_lt n GUIDED_STEP_LIMIT) (ap (λ (l : Thread). l.taken) (sym (sees.locals t))) ∙ m.can)).1

      below : steps_of t ys < GUIDED_STEP_LIMIT
      below = let l = left in grind (arith, nat_tests)

  -- a run whose events are the first turns, and that is ordered
  module _ (full : List Step) (w : State) (run : IsRun gated p input (initial p) full w) (in_order : events full ++ turns_left turns full ≡ turns)
      (budget : (t : ℕ) → steps_of t full ≤ GUIDED_STEP_LIMIT) (ordered : IsOrderedAlong turns full) where
    free : FreeSteps gated p input (initial p) turns none_taken full w
    free = free_steps gated p input (initial p) w turns none_taken full run in_order (λ t. let b = budget t in omega (arith, b))

    pub is_plan : IsPlan deeds (owners_of turns) (deeds_of p input (initial p) none_taken full)
    is_plan =
        let t = free_turns gated p input (initial p) none_taken turns 0 full w free in
        record { turns = t; ordered = ordered_deeds (owners_of turns) full (deeds_of p input (initial p) none_taken full) (all_told gated p input (initial p) none_taken full w run) t ordered }

    pub takes_there : (xs : List Deed') (d : Deed') (ys : List Deed') → deeds_of p input (initial p) none_taken full ≡ xs ++ d ∷ ys → (turn : ℕ) → turns_done deeds 0 xs ≤ turn
        → slice_get (owners_of turns) turn ≡ Some d.thread →
        Takes (rules gated p) (Does gated p input) (owners_of turns) (plans.effects first xs) (turns_done deeds 0 xs) d
    takes_there xs d ys e turn le own = takes_at gated p input (initial p) none_taken first turns 0 full w can.program can.small (reached_first p can.program can.bytes)
        (same_refl first) free xs d ys e turn le own

    all_full : AllOf TellsSo (deeds_of p input (initial p) none_taken full)
    all_full = all_tell p input (initial p) none_taken full

    full_told : told_of (deeds_of p input (initial p) none_taken full) ≡ full
    full_told = told_is p input (initial p) none_taken full

    -- an event that continues a front of the full run's events is due
    pub due_by : (ys : List Step) (x : Step) → IsFrontOf (events (ys ++ x ∷ [])) (events full) → IsDue (event_of x) (turns_left turns ys)
    due_by ys x h = go (event_of x) refl
      where
        go : (v : Option Turn) → event_of x ≡ v → IsDue (event_of x) (turns_left turns ys)
        go None e = rw e tt
        go (Some v) e =
            let one : events (x ∷ []) ≡ v ∷ [] = rw e refl in
            let front : (events ys ++ v ∷ []) ++ h.0 ≡ events full =
            ap (λ (l : List Turn). (events ys ++ l) ++ h.0) (sym one) ∙ ap (λ (l : List Turn). l ++ h.0) (sym (filter_map-append event_of ys (x ∷ []))) ∙ h.1 in
            let rest : List Turn = h.0 ++ turns_left turns full in
            let all : events ys ++ v ∷ rest ≡ turns =
            sym (append_assoc (events ys) (v ∷ []) rest) ∙ sym (append_assoc (events ys ++ v ∷ []) h.0 (turns_left turns full)) ∙ ap (λ (l : List Turn). l ++ turns_left turns full) front
            ∙ in_order in
            let left : turns_left turns ys ≡ v ∷ rest = ap (drop (length (events ys))) (sym all) ∙ drop_front (events ys) (v ∷ rest) in
            rw (e, left) refl

    -- ---- a cut

    module _ (g : ℕ) (marks : List (Mark (Timed Deed'))) (whole_is : whole marks ≡ times deeds (owners_of turns) 0 (deeds_of p input (initial p) none_taken full)) (cut_is : IsCut deeds marks)
        (below_is : IsBelow g marks) where
      pub marks_tell : AllOf (λ m. TellsSo m.step.did) marks
      marks_tell = at_marks (λ x. TellsSo x.did) marks (subst (AllOf (λ x. TellsSo x.did)) (sym whole_is) (all_times (owners_of turns) 0 (deeds_of p input (initial p) none_taken full) all_full))

      pub all_steps : did_of (whole marks) ≡ deeds_of p input (initial p) none_taken full
      all_steps = ap did_of whole_is ∙ did_times deeds (owners_of turns) 0 (deeds_of p input (initial p) none_taken full)

      pub tell_kept : (ms ns : List (Mark (Timed Deed'))) → marks ≡ ms ++ ns → AllOf TellsSo (did_of (kept ms))
      tell_kept ms ns e = all_did TellsSo (kept ms) (all_kept (λ x. TellsSo x.did) ms
          (all_map (λ m k v. k) ms (Rattle.pg_law_threads.proofs.DoneLists.all_left (λ (m : Mark (Timed Deed')). TellsSo m.step.did) ms ns (subst (AllOf (λ m. TellsSo m.step.did)) e marks_tell))))

      -- the events that are done are a front of the full run's
      pub kept_front : (ms ns : List (Mark (Timed Deed'))) → marks ≡ ms ++ ns → IsFrontOf (events (told_of (did_of (kept ms)))) (events full)
      kept_front ms ns e =
          let f = events_first (owners_of turns) (deeds_of p input (initial p) none_taken full) is_plan g marks whole_is below_is in
          let more : List Deed' = filter deeds.is_event (did_of (kept ns)) ++ f.0 in
          let split : filter deeds.is_event (did_of (kept marks)) ≡ filter deeds.is_event (did_of (kept ms)) ++ filter deeds.is_event (did_of (kept ns)) =
          ap (λ l. filter deeds.is_event (did_of (kept l))) e ∙ ap (λ l. filter deeds.is_event (did_of l)) (kept_append ms ns) ∙ ap (filter deeds.is_event) (did_append (kept ms) (kept ns))
          ∙ filter-append deeds.is_event (did_of (kept ms)) (did_of (kept ns)) in
          let front : filter deeds.is_event (did_of (kept ms)) ++ more ≡ filter deeds.is_event (deeds_of p input (initial p) none_taken full) =
          sym (append_assoc (filter deeds.is_event (did_of (kept ms))) (filter deeds.is_event (did_of (kept ns))) f.0) ∙ ap (λ l. l ++ f.0) (sym split) ∙ f.1
          ∙ ap (filter deeds.is_event) all_steps in
          let told = events_front (map (λ (d : Deed'). d.told) (filter deeds.is_event (did_of (kept ms))))
          (map (λ (d : Deed'). d.told) (filter deeds.is_event (deeds_of p input (initial p) none_taken full)))
          (front_map (λ (d : Deed'). d.told) (filter deeds.is_event (did_of (kept ms))) (filter deeds.is_event (deeds_of p input (initial p) none_taken full)) (more, front)) in (
            told.0,
            ap (λ (l : List Turn). l ++ told.0) (sym (events_are (did_of (kept ms)) (tell_kept ms ns e))) ∙ told.1 ∙ events_are (deeds_of p input (initial p) none_taken full) all_full
                ∙ ap events full_told,
          )

      -- ---- the steps that are done, in the run's order

      -- a step that is done has a turn left
      abbrev pub HaveTurns : Type 0
      HaveTurns = (ms ns : List (Mark (Timed Deed'))) (x : Timed Deed') → marks ≡ ms ++ performed x ∷ ns
          → (turn : ℕ) × (turns_done deeds 0 (did_of (whole ms)) ≤ turn) × (slice_get (owners_of turns) turn ≡ Some x.did.thread)

      pub record KeptRun (ms : List (Mark (Timed Deed'))) : Type 0 where
        pub state : State
        pub permitted : IsPermitted p input turns gated (told_of (did_of (kept ms))) state
        pub sees : Same (plans.effects first (did_of (kept ms))) (seen state (λ t. steps_of t (told_of (did_of (kept ms)))))

      kept_more : HaveTurns → (ms ns : List (Mark (Timed Deed'))) (x : Timed Deed') → marks ≡ ms ++ performed x ∷ ns → KeptRun ms → KeptRun (ms ++ performed x ∷ [])
      kept_more have ms ns x e r = record {
        state = next_state gated p input r.state k.told;
        permitted = subst (λ (l : List Step). IsPermitted p input turns gated l (next_state gated p input r.state k.told)) (sym steps_now)
            (subst (λ (v : State). IsPermitted p input turns gated ((told_of (did_of (kept ms))) ++ k.told ∷ []) v) after_is
            (prolongs (told_of (did_of (kept ms))) r.state (plans.effects first (did_of (kept ms))) (turns_done deeds 0 (did_of (kept ms))) x.did.thread r.permitted r.sees may k turns_now due));
        sees = subst (λ (l : List Step). Same (plans.effects first (did_of (kept (ms ++ performed x ∷ [])))) (seen (next_state gated p input r.state k.told) (λ t. steps_of t l))) (sym steps_now)
            (subst (λ (a : Seen). Same a (seen (next_state gated p input r.state k.told) (λ t. steps_of t ((told_of (did_of (kept ms))) ++ k.told ∷ [])))) (sym state_now)
            (same_then (same_effect (plans.effects first (did_of (kept ms))) x.did d same)
            (same_then (leads gated p input r.state (λ t. steps_of t (told_of (did_of (kept ms)))) (plans.effects first (did_of (kept ms))) k.told reached r.sees k.takes)
            (counts_by gated p input (next_state gated p input r.state k.told) (one_more k.told.thread.0 (λ t. steps_of t (told_of (did_of (kept ms)))))
            (λ t. steps_of t ((told_of (did_of (kept ms))) ++ k.told ∷ [])) counts_now))));
      }
        where
          is_whole : whole (ms ++ performed x ∷ ns) ≡ times deeds (owners_of turns) 0 (deeds_of p input (initial p) none_taken full)
          is_whole = ap whole (sym e) ∙ whole_is

          is_cut : IsCut deeds (ms ++ performed x ∷ ns)
          is_cut = subst (IsCut deeds) e cut_is

          below : IsBelow g (ms ++ performed x ∷ ns)
          below = subst (IsBelow g) e below_is

          own : (turn : ℕ) × (turns_done deeds 0 (did_of (whole ms)) ≤ turn) × (slice_get (owners_of turns) turn ≡ Some x.did.thread)
          own = have ms ns x e

          may : May (rules gated p) (owners_of turns) (plans.effects first (did_of (kept ms))) (turns_done deeds 0 (did_of (kept ms))) x.did.thread
          may = done.may_here (rules gated p) (Does gated p input) (owners_of turns) (determined gated p input) first
              (deeds_of p input (initial p) none_taken full) is_plan takes_there g ms ns x is_whole is_cut below own.0 own.1 own.2

          reached : IsReached p r.state
          reached = (ran (told_of (did_of (kept ms))) r.state r.permitted).reached

          k : Steps gated p input x.did.thread r.state
          k = steps_of_may gated p input r.state (λ t. steps_of t (told_of (did_of (kept ms)))) (plans.effects first (did_of (kept ms))) reached r.sees turns
              (turns_done deeds 0 (did_of (kept ms))) x.did.thread may

          d : Deed'
          d = deed_of p input r.state (λ t. steps_of t (told_of (did_of (kept ms)))) k.told

          does : Does gated p input (plans.effects first (did_of (kept ms))) d
          does = record { state = r.state; counts = λ t. steps_of t (told_of (did_of (kept ms))); reached = reached; looks = r.sees; told = k.told; takes = k.takes; is_deed = deed_refl d }

          same : IsSame x.did d
          same = does_same gated p input (plans.effects first (did_of (whole ms))) (plans.effects first (did_of (kept ms))) x.did d
              (done.does_there (rules gated p) (Does gated p input) (owners_of turns) (determined gated p input) first
              (deeds_of p input (initial p) none_taken full) is_plan takes_there g ms ns x is_whole is_cut below own.0 own.1 own.2)
              does k.own
              (sym (done.same_local (rules gated p) (Does gated p input) (owners_of turns) (determined gated p input) first
              (deeds_of p input (initial p) none_taken full) is_plan takes_there g ms ns x is_whole is_cut below own.0 own.1 own.2))
              (λ c q. sym (done.same_cell (rules gated p) (Does gated p input) (owners_of turns) (determined gated p input) first
              (deeds_of p input (initial p) none_taken full) is_plan takes_there g ms ns x is_whole is_cut below own.0 own.1 own.2 c q))
              (λ v. sym (done.same_objects (rules gated p) (Does gated p input) (owners_of turns) (determined gated p input) first
              (deeds_of p input (initial p) none_taken full) is_plan takes_there g ms ns x is_whole is_cut below own.0 own.1 own.2 v))

          deeds_now : did_of (kept (ms ++ performed x ∷ [])) ≡ did_of (kept ms) ++ x.did ∷ []
          deeds_now = ap did_of (kept_append ms (performed x ∷ [])) ∙ did_append (kept ms) (x ∷ [])

          steps_now : told_of (did_of (kept (ms ++ performed x ∷ []))) ≡ (told_of (did_of (kept ms))) ++ k.told ∷ []
          steps_now = ap told_of deeds_now ∙ map_append (λ (q : Deed'). q.told) (did_of (kept ms)) (x.did ∷ []) ∙ ap (λ (q : Step). told_of (did_of (kept ms)) ++ q ∷ []) same.told

          state_now : plans.effects first (did_of (kept (ms ++ performed x ∷ []))) ≡ plans.effect (plans.effects first (did_of (kept ms))) x.did
          state_now = ap (plans.effects first) deeds_now ∙ effects_append first (did_of (kept ms)) (x.did ∷ [])

          after_is : k.takes.after ≡ next_state gated p input r.state k.told
          after_is = left_by gated p input r.state k.takes.after k.told.thread.0 k.told k.takes.is_step

          counts_now : (t : ℕ) → one_more k.told.thread.0 (λ u. steps_of u (told_of (did_of (kept ms)))) t ≡ steps_of t ((told_of (did_of (kept ms))) ++ k.told ∷ [])
          counts_now t =
              let a = count_more t (λ u. steps_of u (told_of (did_of (kept ms)))) k.told [] in
              let b = steps_append t (told_of (did_of (kept ms))) (k.told ∷ []) in
              let c : one_more k.told.thread.0 (λ u. steps_of u (told_of (did_of (kept ms)))) t ≡ one_more k.told.thread.0 (λ u. steps_of u (told_of (did_of (kept ms)))) t + steps_of t [] =
              omega arith in
              c ∙ a ∙ sym b

          turns_now : turns_done deeds 0 (did_of (kept ms)) ≡ length (events (told_of (did_of (kept ms))))
          turns_now = let q = done_told 0 (did_of (kept ms)) (tell_kept ms (performed x ∷ ns) e) in omega (arith, q)

          due : IsDue (event_of k.told) (turns_left turns (told_of (did_of (kept ms))))
          due = due_by (told_of (did_of (kept ms))) k.told (subst (λ (l : List Step). IsFrontOf (events l) (events full)) steps_now
              (kept_front (ms ++ performed x ∷ []) ns (e ∙ sym (append_assoc ms (performed x ∷ []) ns))))

      kept_from : HaveTurns → (ms ns : List (Mark (Timed Deed'))) → marks ≡ ms ++ ns → KeptRun ms → KeptRun marks
      kept_from have ms [] e r = subst KeptRun (sym (e ∙ append-nil ms)) r
      kept_from have ms (m ∷ ns) e r = kept_from have (ms ++ m ∷ []) ns (e ∙ sym (append_assoc ms (m ∷ []) ns)) (go m.done refl)
        where
          go : (b : Bool) → m.done ≡ b → KeptRun (ms ++ m ∷ [])
          go true v =
              let q : m ≡ performed m.step = ap (λ (b : Bool). record { done = b; step = m.step }) v in
              subst (λ (n : Mark (Timed Deed')). KeptRun (ms ++ n ∷ [])) (sym q) (kept_more have ms ns m.step (subst (λ (n : Mark (Timed Deed')). marks ≡ ms ++ n ∷ ns) q e) r)
          go false v =
              let q : kept (ms ++ m ∷ []) ≡ kept ms = kept_append ms (m ∷ []) ∙ ap (λ (b : Bool). kept ms ++ cond b (m.step ∷ []) []) v ∙ append-nil (kept ms) in
              record {
                state = r.state;
                permitted = subst (λ l. IsPermitted p input turns gated (told_of (did_of l)) r.state) (sym q) r.permitted;
                sees = subst (λ l. Same (plans.effects first (did_of l)) (seen r.state (λ t. steps_of t (told_of (did_of l))))) (sym q) r.sees;
              }

      none_kept : KeptRun []
      none_kept = record {
        state = initial p;
        permitted = (permitted_is p input turns gated [] (initial p)).1 refl;
        sees = counts_by gated p input (initial p) none_taken (λ t. steps_of t []) (λ t. refl);
      }

      pub kept_run : HaveTurns → KeptRun marks
      kept_run have = kept_from have [] marks refl none_kept
