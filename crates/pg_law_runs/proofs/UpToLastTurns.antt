-- An ordered run with all turns, up to each thread's last turn, is an ordered full run along them.
use Rattle.std.proofs.Common.{◌≡◌, ◌≢◌, ℕ, ℤ, ◌+◌, ◌<◌, ◌≤◌, List, [], ◌∷◌, ◌++◌, length, map, drop, Bool, true, false, cond, Some, refl, sym}
use Rattle.std.proofs.Common.{◌∙◌, ap, subst, arith, zero, suc, inl, inr, ◌⊎◌, append-nil}
use Rattle.std.specs.Prelude.{◌==◌, ◌||◌, nat_lt, is_some, slice_get, slice_index}
use Rattle.std.specs.List.{AllByRecursion as AllOf, filter, filter_map}
use Rattle.std.proofs.lemmas.Bool.Decides.{nat_tests}
use Rattle.std.proofs.lemmas.Bool.{true≢false, false_from_ne_true}
use Rattle.pg_num.specs.declared.layout.TheConstants.{MEMORY_BYTES}
use Rattle.pg_num.specs.declared.limits.TheConstants.{GUIDED_STEP_LIMIT}
use Rattle.pg_ir.specs.declared.ids.InstrId.{InstrId}
use Rattle.pg_ir.specs.Program.{NumberedProgram}
use Rattle.pg_law_threads.specs.Steps.{Conflict, EachPair}
use Rattle.pg_law_threads.specs.Cuts.{IsBelow, IsCut, Mark, kept, performed, whole}
use Rattle.pg_law_threads.specs.Effects as plans
use Rattle.pg_law_threads.specs.Effects.{Same, deeds}
use Rattle.pg_law_threads.specs.Intervals.{AreOrdered, AreTurns, Timed, did_of, done_after, next_from, timed, times, turns_done}
use Rattle.pg_law_threads.proofs.EffectsOfSteps.{agree, cell_part, objects_part, same_refl}
use Rattle.pg_law_threads.proofs.FirstOfKind.{same_chosen}
use Rattle.pg_law_threads.proofs.DoneLists.{all_did, all_kept, all_map, all_right, at_marks, whole_append}
use Rattle.pg_law_threads.proofs.PermittedRunLaw as runs
use Rattle.pg_law_threads.proofs.TimedSteps.{did_times, events_below, low_up, timed_at, turns_left_of, within_after, within_end}
use Rattle.pg_law_threads.proofs.LastAndNextTurn.{next_from_end, next_is, next_of_own, next_up}
use Rattle.pg_run_trace.specs.declared.turn.Turn.{Turn}
use Rattle.pg_run_trace.specs.declared.step.Step.{Step}
use Rattle.pg_run.specs.State.{State, initial}
use Rattle.pg_run.specs.Permitted.{IsHeldBy, has_turn, turns_left}
use Rattle.pg_run.specs.Runs.{IsRun, event_of, events, steps_of}
use Rattle.pg_law_effects.specs.Effect.{effect_of}
use Rattle.pg_law_effects.specs.PermittedSteps.{none_taken, one_more, turns_behind}
use Rattle.pg_law_effects.specs.Reached.{IsReached}
use Rattle.pg_law_effects.proofs.ReachedStates.{reached_first}
use Rattle.pg_law_runs.specs.Cuts.{CanRun, IsOrderedAlong, IsOrderedFull}
use Rattle.pg_law_runs.specs.Deeds.{Did as Deed', Does, Seen, deed_of, deeds_of, owners_of, rules, seen, shared_of}
use Rattle.pg_law_runs.specs.LastTurns.{until_last}
use Rattle.pg_law_runs.proofs.RunsAsDeeds.{flipped, left_behind, looks_run}
use Rattle.pg_law_runs.proofs.CutRuns as cuts
use Rattle.pg_law_runs.proofs.DeedDependence.{deed_event, determined}
use Rattle.pg_law_runs.proofs.DeedLists.{TellsSo, all_tell, events_are, told_is, told_of}
use Rattle.pg_law_runs.proofs.ToldCells.{IsTold, all_told, each_told, ordered_steps, paired_told, turns_as}

-- ---- marks

-- a step is done where its thread has a turn left
abbrev pub marks_by : ℕ → List (Timed Deed') → List (Mark (Timed Deed'))
marks_by n [] = []
marks_by n (x ∷ xs) = (record { done = nat_lt x.high n; step = x }) ∷ marks_by n xs

whole_marks : (n : ℕ) (xs : List (Timed Deed')) → whole (marks_by n xs) ≡ xs
whole_marks n [] = refl
whole_marks n (x ∷ xs) = ap (λ (l : List (Timed Deed')). x ∷ l) (whole_marks n xs)

marks_say : (n : ℕ) (xs : List (Timed Deed')) → AllOf (λ m. m.done ≡ nat_lt m.step.high n) (marks_by n xs)
marks_say n [] = tt
marks_say n (x ∷ xs) = (refl, marks_say n xs)

on_marks : (P : Mark (Timed Deed') → Type 0) (n : ℕ) (xs : List (Timed Deed')) → AllOf (λ x. P (record { done = nat_lt x.high n; step = x })) xs → AllOf P (marks_by n xs)
on_marks P n [] h = tt
on_marks P n (x ∷ xs) h = (h.0, on_marks P n xs h.1)

lt_is : (a b : ℕ) → nat_lt a b ≡ true → a < b
lt_is a b h = grind (arith, nat_tests)

ge_is : (a b : ℕ) → nat_lt a b ≡ false → b ≤ a
ge_is a b h = grind (arith, nat_tests)

is_lt : (a b : ℕ) → a < b → nat_lt a b ≡ true
is_lt a b h = grind (arith, nat_tests)

next_grows : (T : List ℕ) (u k l : ℕ) → k ≤ l → l ≤ length T → next_from u T k ≤ next_from u T l
next_grows T u k l le h = go (next_is u T l)
  where
    go : (slice_get T (next_from u T l) ≡ Some u) ⊎ (next_from u T l ≡ length T) → next_from u T k ≤ next_from u T l
    go (inl o) = let a = next_up u T l h in next_of_own u T k (next_from u T l) (omega (arith, a, le)) o
    go (inr e) = let a = next_from_end u T k in omega (arith, a, e)

-- steps of a thread behind another have no earlier next turn
highs_up : (T : List ℕ) (u k l : ℕ) (ds : List Deed') → k ≤ l → l ≤ length T → AreTurns deeds T l ds
    → AllOf (λ y. y.did.thread ≡ u → next_from u T k ≤ y.high) (times deeds T l ds)
highs_up T u k l [] le h t = tt
highs_up T u k l (d ∷ ds) le h t = (
  (λ e. ap_high e),
  highs_up T u k (done_after (deeds.is_event d) l) ds (up (deeds.is_event d)) (within_after deeds T l d h t.0) t.1,
)
  where
    up : (e : Bool) → k ≤ done_after e l
    up true = omega (arith, le)
    up false = le

    ap_high : d.thread ≡ u → next_from u T k ≤ next_from d.thread T l
    ap_high e = subst (λ v. next_from u T k ≤ next_from v T l) (sym e) (next_grows T u k l le h)

-- the steps that have a turn left are a cut
marks_cut : (T : List ℕ) (k : ℕ) (ds : List Deed') → k ≤ length T → AreTurns deeds T k ds → IsCut deeds (marks_by (length T) (times deeds T k ds))
marks_cut T k [] h t = tt
marks_cut T k (d ∷ ds) h t = (
  (λ w. on_marks (λ m. m.done ≡ true → m.step.did.thread ≢ d.thread) (length T) (times deeds T (done_after (deeds.is_event d) k) ds)
      (all_map (λ y f q e. let a = f e in let b = ge_is (next_from d.thread T k) (length T) w in let c = lt_is y.high (length T) q in absurd (omega (arith, a, b, c)))
      (times deeds T (done_after (deeds.is_event d) k) ds) (highs_up T d.thread k (done_after (deeds.is_event d) k) ds (up (deeds.is_event d)) (within_after deeds T k d h t.0) t.1))),
  marks_cut T (done_after (deeds.is_event d) k) ds (within_after deeds T k d h t.0) t.1,
)
  where
    up : (e : Bool) → k ≤ done_after e k
    up true = omega arith
    up false = omega arith

marks_below : (T : List ℕ) (k : ℕ) (ds : List Deed') → k ≤ length T → AreTurns deeds T k ds → IsBelow (length T) (marks_by (length T) (times deeds T k ds))
marks_below T k [] h t = tt
marks_below T k (d ∷ ds) h t = (
  record {
    if_done = λ w. let a = low_up deeds T k d in let b = within_after deeds T k d h t.0 in omega (arith, a, b);
    if_open = λ w. ge_is (next_from d.thread T k) (length T) w;
  },
  marks_below T (done_after (deeds.is_event d) k) ds (within_after deeds T k d h t.0) t.1,
)

-- ---- the kept steps in order

kept_times : (T : List ℕ) (k : ℕ) (ms : List (Mark (Timed Deed'))) → whole ms ≡ times deeds T k (did_of (whole ms))
    → AllOf (λ m. m.done ≡ false → deeds.is_event m.step.did ≡ false) ms → times deeds T k (did_of (kept ms)) ≡ kept ms
kept_times T k [] e a = refl
kept_times T k (m ∷ ms) e a = go m.done refl (kept_times T (done_after (deeds.is_event m.step.did) k) ms (Rattle.pg_law_threads.proofs.DoneLists.cons_tail e) a.1)
  where
    go : (b : Bool) → m.done ≡ b → times deeds T (done_after (deeds.is_event m.step.did) k) (did_of (kept ms)) ≡ kept ms
        → times deeds T k (did_of (cond m.done (m.step ∷ kept ms) (kept ms))) ≡ cond m.done (m.step ∷ kept ms) (kept ms)
    go true w ih = rw w (ap (λ (l : List (Timed Deed')). timed deeds T k m.step.did ∷ l) ih ∙ ap (λ (x : Timed Deed'). x ∷ kept ms) (sym (Rattle.pg_law_threads.proofs.DoneLists.cons_head e)))
    go false w ih = rw w (ap (λ (n : ℕ). times deeds T n (did_of (kept ms))) (sym (ap (λ (v : Bool). done_after v k) (a.0 w))) ∙ ih)

kept_pairs : (R : Timed Deed' → Timed Deed' → Type 0) (ms : List (Mark (Timed Deed'))) → EachPair R (whole ms) → EachPair R (kept ms)
kept_pairs R [] h = tt
kept_pairs R (m ∷ ms) h = go m.done (kept_pairs R ms h.1)
  where
    kept_of : (ns : List (Mark (Timed Deed'))) → AllOf (R m.step) (whole ns) → AllOf (R m.step) (kept ns)
    kept_of ns a = all_kept (R m.step) ns (all_map (λ n k w. k) ns (at_marks (R m.step) ns a))

    go : (b : Bool) → EachPair R (kept ms) → EachPair R (cond b (m.step ∷ kept ms) (kept ms))
    go true ih = (kept_of ms h.0, ih)
    go false ih = ih

-- ---- the turns that are left

lt_suc : (a b : ℕ) → nat_lt (suc a) (suc b) ≡ nat_lt a b
lt_suc a b = go (nat_lt a b) refl
  where
    go : (c : Bool) → nat_lt a b ≡ c → nat_lt (suc a) (suc b) ≡ c
    go true h = is_lt (suc a) (suc b) (let k = lt_is a b h in omega (arith, k))
    go false h = false_from_ne_true (nat_lt (suc a) (suc b)) (λ q. let k = lt_is (suc a) (suc b) q in let l = ge_is a b h in absurd (omega (arith, k, l)))

has_left : (t : ℕ) (us : List Turn) (g : ℕ) → nat_lt (next_from t (owners_of us) g) (length (owners_of us)) ≡ has_turn t (drop g us)
has_left t [] zero = false_from_ne_true (nat_lt 0 0) (λ q. let k = lt_is 0 0 q in absurd (omega (arith, k)))
has_left t [] (suc g) = false_from_ne_true (nat_lt 0 0) (λ q. let k = lt_is 0 0 q in absurd (omega (arith, k)))
has_left t (u ∷ us) zero = go (t == u.thread.0) refl (has_left t us zero)
  where
    go : (b : Bool) → (t == u.thread.0) ≡ b → nat_lt (next_from t (owners_of us) 0) (length (owners_of us)) ≡ has_turn t us
        → nat_lt (cond (t == u.thread.0) 0 (suc (next_from t (owners_of us) 0))) (suc (length (owners_of us))) ≡ ((u.thread.0 == t) || has_turn t us)
    go true e ih = rw (e, flipped t u.thread.0 true e) (is_lt 0 (suc (length (owners_of us))) (omega arith))
    go false e ih = rw (e, flipped t u.thread.0 false e) (lt_suc (next_from t (owners_of us) 0) (length (owners_of us)) ∙ ih)
has_left t (u ∷ us) (suc g) = lt_suc (next_from t (owners_of us) g) (length (owners_of us)) ∙ has_left t us g

until_is : (p : NumberedProgram) (input : List ℤ) (turns : List Turn) (s : State) (counts : ℕ → ℕ) (g : ℕ) (xs : List Step) →
    told_of (did_of (kept (marks_by (length (owners_of turns)) (times deeds (owners_of turns) g (deeds_of p input s counts xs))))) ≡ until_last (drop g turns) xs
unfolding deeds_of
until_is p input turns s counts g [] = refl
until_is p input turns s counts g (x ∷ xs) =
    step (nat_lt (next_from x.thread.0 (owners_of turns) g) (length (owners_of turns))) (has_left x.thread.0 turns g)
    (until_is p input turns (Rattle.pg_law_effects.specs.Effect.effect s (effect_of p input s x.thread.0)) (one_more x.thread.0 counts) (done_after (deeds.is_event (deed_of p input s counts x)) g) xs
    ∙ ap (λ (b : Bool). until_last (drop (done_after b g) turns) xs) (deed_event [] p input s counts x) ∙ ap (λ (us : List Turn). until_last us xs) (sym (left_behind (event_of x) g turns)))
  where
    step : (b : Bool) → b ≡ has_turn x.thread.0 (drop g turns) →
        told_of (did_of (kept (marks_by (length (owners_of turns))
        (times deeds (owners_of turns) (done_after (deeds.is_event (deed_of p input s counts x)) g)
        (deeds_of p input (Rattle.pg_law_effects.specs.Effect.effect s (effect_of p input s x.thread.0)) (one_more x.thread.0 counts) xs)))))
        ≡ until_last (turns_behind (event_of x) (drop g turns)) xs →
        told_of (did_of (cond b (timed deeds (owners_of turns) g (deed_of p input s counts x) ∷ kept
        (marks_by (length (owners_of turns)) (times deeds (owners_of turns) (done_after (deeds.is_event (deed_of p input s counts x)) g)
        (deeds_of p input (Rattle.pg_law_effects.specs.Effect.effect s (effect_of p input s x.thread.0)) (one_more x.thread.0 counts) xs))))
        (kept (marks_by (length (owners_of turns)) (times deeds (owners_of turns) (done_after (deeds.is_event (deed_of p input s counts x)) g)
        (deeds_of p input (Rattle.pg_law_effects.specs.Effect.effect s (effect_of p input s x.thread.0)) (one_more x.thread.0 counts) xs))))))
        ≡ until_last (drop g turns) (x ∷ xs)
    step true e ih = rw (sym e) (ap (λ (l : List Step). x ∷ l) ih)
    step false e ih = rw (sym e) ih

pub drop_all : (us : List Turn) → drop (length us) us ≡ []
drop_all [] = refl
drop_all (u ∷ us) = drop_all us

-- ---- the run

module _ (p : NumberedProgram) (input : List ℤ) (turns : List Turn) (gated : List InstrId) (can : CanRun p input) (full : List Step) (w : State)
    (run : IsRun gated p input (initial p) full w) (all : events full ≡ turns) (budget : (t : ℕ) → steps_of t full ≤ GUIDED_STEP_LIMIT) (ordered : IsOrderedAlong turns full) where
  abbrev pub first : Seen
  first = seen (initial p) none_taken

  abbrev pub plan : List Deed'
  plan = deeds_of p input (initial p) none_taken full

  abbrev pub marks : List (Mark (Timed Deed'))
  marks = marks_by (length (owners_of turns)) (times deeds (owners_of turns) 0 (deeds_of p input (initial p) none_taken full))

  none_left : turns_left turns full ≡ []
  none_left = ap (λ (l : List Turn). drop (length l) turns) all ∙ drop_all turns

  pub in_order : events full ++ turns_left turns full ≡ turns
  in_order = ap (λ (l : List Turn). events full ++ l) none_left ∙ append-nil (events full) ∙ all

  plan_turns : AreTurns deeds (owners_of turns) 0 plan
  plan_turns = (cuts.is_plan p input turns gated can full w run in_order budget ordered).turns

  pub whole_is : whole marks ≡ times deeds (owners_of turns) 0 plan
  whole_is = whole_marks (length (owners_of turns)) (times deeds (owners_of turns) 0 plan)

  pub cut_is : IsCut deeds marks
  cut_is = marks_cut (owners_of turns) 0 plan (omega arith) plan_turns

  pub below_is : IsBelow (length (owners_of turns)) marks
  below_is = marks_below (owners_of turns) 0 plan (omega arith) plan_turns

  have : cuts.HaveTurns p input turns gated can full w run in_order budget ordered (length (owners_of turns)) marks whole_is cut_is below_is
  have ms ns x e = (x.high, later, own)
    where
      split : times deeds (owners_of turns) 0 plan ≡ whole ms ++ x ∷ whole ns
      split = sym whole_is ∙ ap whole e ∙ whole_append ms (performed x ∷ ns)

      steps : plan ≡ did_of (whole ms) ++ x.did ∷ did_of (whole ns)
      steps = sym (did_times deeds (owners_of turns) 0 plan) ∙ ap did_of split ∙ Rattle.pg_law_threads.proofs.DoneLists.did_append (whole ms) (x ∷ whole ns)

      place : x ≡ timed deeds (owners_of turns) (turns_done deeds 0 (did_of (whole ms))) x.did
      place = timed_at deeds (owners_of turns) 0 plan (whole ms) x (whole ns) split

      high_is : x.high ≡ next_from x.did.thread (owners_of turns) (turns_done deeds 0 (did_of (whole ms)))
      high_is = ap (λ (y : Timed Deed'). y.high) place

      is_done : x.high < length (owners_of turns)
      is_done = lt_is x.high (length (owners_of turns)) (sym
          ((all_right (λ m. m.done ≡ nat_lt m.step.high (length (owners_of turns))) ms (performed x ∷ ns)
          (subst (AllOf (λ m. m.done ≡ nat_lt m.step.high (length (owners_of turns)))) e (marks_say (length (owners_of turns)) (times deeds (owners_of turns) 0 plan)))).0))

      within : turns_done deeds 0 (did_of (whole ms)) ≤ length (owners_of turns)
      within = within_end deeds (owners_of turns) 0 (did_of (whole ms)) (omega arith)
          (turns_left_of deeds (owners_of turns) 0 (did_of (whole ms)) (x.did ∷ did_of (whole ns)) (subst (AreTurns deeds (owners_of turns) 0) steps plan_turns))

      later : turns_done deeds 0 (did_of (whole ms)) ≤ x.high
      later = let a = next_up x.did.thread (owners_of turns) (turns_done deeds 0 (did_of (whole ms))) within in let b = high_is in omega (arith, a, b)

      own : slice_get (owners_of turns) x.high ≡ Some x.did.thread
      own = go (next_is x.did.thread (owners_of turns) (turns_done deeds 0 (did_of (whole ms))))
        where
          go : (slice_get (owners_of turns) (next_from x.did.thread (owners_of turns) (turns_done deeds 0 (did_of (whole ms)))) ≡ Some x.did.thread)
              ⊎ (next_from x.did.thread (owners_of turns) (turns_done deeds 0 (did_of (whole ms))) ≡ length (owners_of turns)) → slice_get (owners_of turns) x.high ≡ Some x.did.thread
          go (inl o) = ap (slice_get (owners_of turns)) high_is ∙ o
          go (inr q) = let a = high_is in let b = is_done in absurd (omega (arith, a, b, q))

  -- the events are all done
  open_plain : AllOf (λ m. m.done ≡ false → deeds.is_event m.step.did ≡ false) marks
  open_plain = on_marks (λ m. m.done ≡ false → deeds.is_event m.step.did ≡ false) (length (owners_of turns)) (times deeds (owners_of turns) 0 plan)
      (all_map (λ x f v. false_from_ne_true (deeds.is_event x.did)
      (λ e. let a = f e in let b = ge_is x.high (length (owners_of turns)) v in let c = within_end deeds (owners_of turns) 0 plan (omega arith) plan_turns in absurd (omega (arith, a, b, c))))
      (times deeds (owners_of turns) 0 plan) (events_below deeds (owners_of turns) 0 plan plan_turns))

  pub kept_run : cuts.KeptRun p input turns gated can full w run in_order budget ordered (length (owners_of turns)) marks whole_is cut_is below_is marks
  kept_run = cuts.kept_run p input turns gated can full w run in_order budget ordered (length (owners_of turns)) marks whole_is cut_is below_is have

  tell : AllOf TellsSo (did_of (kept marks))
  tell = cuts.tell_kept p input turns gated can full w run in_order budget ordered (length (owners_of turns)) marks whole_is cut_is below_is marks [] (sym (append-nil marks))

  all_steps : did_of (whole marks) ≡ plan
  all_steps = ap did_of whole_is ∙ did_times deeds (owners_of turns) 0 plan

  kept_events : events (told_of (did_of (kept marks))) ≡ turns
  kept_events =
      sym (events_are (did_of (kept marks)) tell) ∙ ap (λ (l : List Deed'). filter_map event_of (map (λ (d : Deed'). d.told) l))
      (same_chosen deeds.is_event marks open_plain ∙ ap (filter deeds.is_event) all_steps)
      ∙ events_are plan (all_tell p input (initial p) none_taken full) ∙ ap events (told_is p input (initial p) none_taken full) ∙ all

  kept_none_left : turns_left turns (told_of (did_of (kept marks))) ≡ []
  kept_none_left = ap (λ (l : List Turn). drop (length l) turns) kept_events ∙ drop_all turns

  kept_told : AllOf (λ d. IsTold d.told d) (did_of (kept marks))
  kept_told = all_did (λ d. IsTold d.told d) (kept marks) (all_kept (λ x. IsTold x.did.told x.did) marks
      (all_map (λ m k v. k) marks (at_marks (λ x. IsTold x.did.told x.did) marks
      (subst (AllOf (λ x. IsTold x.did.told x.did)) (sym whole_is) (told_times 0 plan (each_told gated p input (initial p) none_taken full w run))))))
    where
      told_times : (k : ℕ) (ds : List Deed') → AllOf (λ d. IsTold d.told d) ds → AllOf (λ x. IsTold x.did.told x.did) (times deeds (owners_of turns) k ds)
      told_times k [] h = tt
      told_times k (d ∷ ds) h = (h.0, told_times (done_after (deeds.is_event d) k) ds h.1)

  -- an ordered full run
  pub is_ordered_full : IsOrderedFull p input turns gated (told_of (did_of (kept marks))) kept_run.state
  is_ordered_full = record {
    permitted = kept_run.permitted;
    is_full = subst (IsHeldBy gated p (told_of (did_of (kept marks))) kept_run.state) (sym kept_none_left) tt;
    ordered = ordered_steps (owners_of turns) (told_of (did_of (kept marks))) (did_of (kept marks)) (paired_told (did_of (kept marks)) kept_told)
        (turns_as (owners_of turns) 0 (told_of (did_of (kept marks))) (deeds_of p input (initial p) none_taken (told_of (did_of (kept marks))))
        (all_told gated p input (initial p) none_taken (told_of (did_of (kept marks))) kept_run.state kept_run.permitted.run)
        (runs.turns_of (rules gated p) (Does gated p input) (owners_of turns) (determined gated p input) first 0 (deeds_of p input (initial p) none_taken (told_of (did_of (kept marks))))
        (cuts.ran p input turns gated can (told_of (did_of (kept marks))) kept_run.state kept_run.permitted).permitted))
        (subst (EachPair (λ x y. Conflict deeds x.did y.did → AreOrdered x y))
        (sym (kept_times (owners_of turns) 0 marks (whole_is ∙ ap (times deeds (owners_of turns) 0) (sym all_steps)) open_plain))
        (kept_pairs (λ x y. Conflict deeds x.did y.did → AreOrdered x y) marks
        (subst (EachPair (λ x y. Conflict deeds x.did y.did → AreOrdered x y)) (sym whole_is) (cuts.is_plan p input turns gated can full w run in_order budget ordered).ordered)));
  }

  pub steps_are : told_of (did_of (kept marks)) ≡ until_last turns full
  steps_are = until_is p input turns (initial p) none_taken 0 full

  -- ---- what it leaves

  looks : Same (plans.effects first plan) (seen w (λ t. none_taken t + steps_of t full)) × IsReached p w
  looks = looks_run gated p input (initial p) none_taken first full w can.program can.small (reached_first p can.program can.bytes) (same_refl first) run

  pub shared : shared_of kept_run.state ≡ shared_of w
  shared = sym kept_run.sees.objects ∙ agree objects_part first first marks open_plain refl ∙ ap (λ (l : List Deed'). (plans.effects first l).objects) all_steps ∙ looks.0.objects

  pub value : kept_run.state.value ≡ w.value
  value =
      (cuts.ran p input turns gated can (told_of (did_of (kept marks))) kept_run.state kept_run.permitted).reached.value ∙ word ∙ sym looks.1.value
    where
      open_words : AllOf (λ m. m.done ≡ false → is_some (m.step.did.writes MEMORY_BYTES) ≡ false) marks
      open_words = all_map (λ m k v. false_from_ne_true (is_some (m.step.did.writes MEMORY_BYTES)) (λ q. true≢false (sym (k.0.word_written MEMORY_BYTES (omega arith) q) ∙ k.1 v))) marks
          (Rattle.pg_law_threads.proofs.DoneLists.both_of (λ m. IsTold m.step.did.told m.step.did) (λ m. m.done ≡ false → deeds.is_event m.step.did ≡ false) marks
          (at_marks (λ x. IsTold x.did.told x.did) marks (subst (AllOf (λ x. IsTold x.did.told x.did)) (sym whole_is)
          (told_times 0 plan (each_told gated p input (initial p) none_taken full w run)))) open_plain)
        where
          told_times : (k : ℕ) (ds : List Deed') → AllOf (λ d. IsTold d.told d) ds → AllOf (λ x. IsTold x.did.told x.did) (times deeds (owners_of turns) k ds)
          told_times k [] h = tt
          told_times k (d ∷ ds) h = (h.0, told_times (done_after (deeds.is_event d) k) ds h.1)

      word : slice_index kept_run.state.words 0 ≡ slice_index w.words 0
      word = sym (kept_run.sees.cells MEMORY_BYTES) ∙ agree (cell_part MEMORY_BYTES) first first marks open_words refl
          ∙ ap (λ (l : List Deed'). (plans.effects first l).cells MEMORY_BYTES) all_steps ∙ looks.0.cells MEMORY_BYTES
