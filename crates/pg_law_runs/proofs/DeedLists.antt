-- Lists of deeds and the steps that they tell.
use Rattle.std.proofs.Common.{◌≡◌, ◌≢◌, ℕ, ℤ, ◌+◌, List, [], ◌∷◌, ◌++◌, length, map, Bool, true, false, cond, Option, Some, None, refl, sym, ◌∙◌, ap, suc, arith}
use Rattle.std.specs.Prelude.{◌==◌, is_some}
use Rattle.std.specs.List.{AllByRecursion as AllOf, filter, filter_map}
use Rattle.std.proofs.lemmas.List.Elements.{filter_map-append}
use Rattle.pg_ir.specs.Program.{NumberedProgram}
use Rattle.pg_law_threads.specs.Cuts.{IsBelow, IsCut, Mark, kept, whole}
use Rattle.pg_law_threads.specs.Effects.{deeds}
use Rattle.pg_law_threads.specs.Intervals.{Timed, did_of, done_after, timed, times, last_before, next_from, turns_done}
use Rattle.pg_law_threads.specs.Plans.{is_of_thread}
use Rattle.pg_run_trace.specs.declared.turn.Turn.{Turn}
use Rattle.pg_run_trace.specs.declared.step.Step.{Step}
use Rattle.pg_run_trace.specs.Races.{recorded}
use Rattle.pg_run.specs.State.{State}
use Rattle.pg_run.specs.Runs.{event_of, events}
use Rattle.pg_law_effects.specs.Effect.{Effect, effect, effect_of}
use Rattle.pg_law_effects.specs.PermittedSteps.{one_more}
use Rattle.pg_law_effects.specs.StatesAlong.{effects_of, threads_of}
use Rattle.pg_run_thread.specs.LocalState.{LocalState}
use Rattle.pg_law_runs.specs.Deeds.{Did as Deed', deed_of, deeds_of}
use Rattle.pg_law_runs.specs.Cuts.{IsFrontOf, locals_by, steps_by}
use Rattle.pg_law_runs.proofs.DeedDependence.{deed_event}

abbrev pub told_of : List Deed' → List Step
told_of ds = map (λ (d : Deed'). d.told) ds

-- a deed that tells its thread, and whether it is an event
pub record TellsSo (d : Deed') : Type 0 where
  pub thread : d.told.thread.0 ≡ d.thread
  pub event : deeds.is_event d ≡ is_some (event_of d.told)

module _ (p : NumberedProgram) (input : List ℤ) where
  pub tells_so : (s : State) (counts : ℕ → ℕ) (x : Step) → TellsSo (deed_of p input s counts x)
  tells_so s counts x = record { thread = refl; event = deed_event [] p input s counts x }

  pub all_tell : (s : State) (counts : ℕ → ℕ) (xs : List Step) → AllOf TellsSo (deeds_of p input s counts xs)
  unfolding deeds_of
  all_tell s counts [] = tt
  all_tell s counts (x ∷ xs) = (tells_so s counts x, all_tell (effect s (effect_of p input s x.thread.0)) (one_more x.thread.0 counts) xs)

  pub told_is : (s : State) (counts : ℕ → ℕ) (xs : List Step) → told_of (deeds_of p input s counts xs) ≡ xs
  unfolding deeds_of
  told_is s counts [] = refl
  told_is s counts (x ∷ xs) = ap (λ (l : List Step). x ∷ l) (told_is (effect s (effect_of p input s x.thread.0)) (one_more x.thread.0 counts) xs)

  thread_is : (s : State) (t : ℕ) → (effect_of p input s t).thread ≡ t
  unfolding effect_of
  thread_is s t = refl

  -- the local states of one thread
  pub locals_are : (s : State) (counts : ℕ → ℕ) (t : ℕ) (xs : List Step)
      → map (λ (d : Deed'). d.to.local) (filter (is_of_thread t) (deeds_of p input s counts xs)) ≡ locals_by p input s t xs
  unfolding deeds_of effects_of
  locals_are s counts t [] = refl
  locals_are s counts t (x ∷ xs) =
      step (t == x.thread.0) (ap (λ (u : ℕ). t == u) (thread_is s x.thread.0)) (locals_are (effect s (effect_of p input s x.thread.0)) (one_more x.thread.0 counts) t xs)
    where
      -- the rest of the run
      more : List Deed'
      more = deeds_of p input (effect s (effect_of p input s x.thread.0)) (one_more x.thread.0 counts) xs

      step : (b : Bool) → (t == (effect_of p input s x.thread.0).thread) ≡ b →
          map (λ (d : Deed'). d.to.local) (filter (is_of_thread t) (deeds_of p input (effect s (effect_of p input s x.thread.0)) (one_more x.thread.0 counts) xs))
          ≡ locals_by p input (effect s (effect_of p input s x.thread.0)) t xs →
          map (λ (d : Deed'). d.to.local) (cond b
          (deed_of p input s counts x ∷ filter (is_of_thread t) (deeds_of p input (effect s (effect_of p input s x.thread.0)) (one_more x.thread.0 counts) xs))
          (filter (is_of_thread t) (deeds_of p input (effect s (effect_of p input s x.thread.0)) (one_more x.thread.0 counts) xs)))
          ≡ map (λ (e : Effect). e.local) (cond (t == (effect_of p input s x.thread.0).thread)
          (effect_of p input s x.thread.0 ∷ filter (λ (e : Effect). t == e.thread) (effects_of p input (effect s (effect_of p input s x.thread.0)) (threads_of xs)))
          (filter (λ (e : Effect). t == e.thread) (effects_of p input (effect s (effect_of p input s x.thread.0)) (threads_of xs))))
      step true q ih = rw q (ap (λ (l : List (Option LocalState)). (effect_of p input s x.thread.0).local ∷ l) ih)
      step false q ih = rw q ih

-- ---- lists

pub map_append : {A B : Type 0} (f : A → B) (xs ys : List A) → map f (xs ++ ys) ≡ map f xs ++ map f ys
map_append f [] ys = refl
map_append f (x ∷ xs) ys = ap (λ l. f x ∷ l) (map_append f xs ys)

pub map_twice : {A B C : Type 0} (f : A → B) (g : B → C) (xs : List A) → map g (map f xs) ≡ map (λ x. g (f x)) xs
map_twice f g [] = refl
map_twice f g (x ∷ xs) = ap (λ l. g (f x) ∷ l) (map_twice f g xs)

pub map_length : {A B : Type 0} (f : A → B) (xs : List A) → length (map f xs) ≡ length xs
map_length f [] = refl
map_length f (x ∷ xs) = ap suc (map_length f xs)

-- a front of a list is one of what it is mapped to
pub front_map : {A B : Type 0} (f : A → B) (xs ys : List A) → IsFrontOf xs ys → IsFrontOf (map f xs) (map f ys)
front_map f xs ys h = (map f h.0, sym (map_append f xs h.0) ∙ ap (map f) h.1)

-- the steps of one thread
pub steps_are : (t : ℕ) (ds : List Deed') → AllOf TellsSo ds → map (λ (d : Deed'). d.told) (filter (is_of_thread t) ds) ≡ steps_by t (told_of ds)
steps_are t [] h = refl
steps_are t (d ∷ ds) h = go (t == d.thread) refl (steps_are t ds h.1)
  where
    go : (b : Bool) → (t == d.thread) ≡ b → map (λ (d : Deed'). d.told) (filter (is_of_thread t) ds) ≡ steps_by t (told_of ds) →
        map (λ (d : Deed'). d.told) (cond (t == d.thread) (d ∷ filter (is_of_thread t) ds) (filter (is_of_thread t) ds))
        ≡ cond (t == d.told.thread.0) (d.told ∷ steps_by t (told_of ds)) (steps_by t (told_of ds))
    go true q ih = rw (q, ap (λ (u : ℕ). t == u) h.0.thread ∙ q) (ap (λ (l : List Step). d.told ∷ l) ih)
    go false q ih = rw (q, ap (λ (u : ℕ). t == u) h.0.thread ∙ q) ih

-- the events
pub events_are : (ds : List Deed') → AllOf TellsSo ds → filter_map event_of (map (λ (d : Deed'). d.told) (filter deeds.is_event ds)) ≡ events (told_of ds)
events_are [] h = refl
events_are (d ∷ ds) h = go (event_of d.told) refl (events_are ds h.1)
  where
    go : (o : Option Turn) → event_of d.told ≡ o → filter_map event_of (map (λ (d : Deed'). d.told) (filter deeds.is_event ds)) ≡ events (told_of ds) →
        filter_map event_of (map (λ (d : Deed'). d.told) (cond (deeds.is_event d) (d ∷ filter deeds.is_event ds) (filter deeds.is_event ds))) ≡ events (d.told ∷ told_of ds)
    go None q ih = rw (h.0.event ∙ ap is_some q, q) ih
    go (Some v) q ih = rw (h.0.event ∙ ap is_some q, q) (ap (λ (l : List Turn). v ∷ l) ih)

pub events_front : (xs ys : List Step) → IsFrontOf xs ys → IsFrontOf (filter_map event_of xs) (filter_map event_of ys)
events_front xs ys h = (filter_map event_of h.0, sym (filter_map-append event_of xs h.0) ∙ ap (filter_map event_of) h.1)

-- ---- marks

abbrev pub timed_told : Timed Deed' → Timed Step
timed_told x = record { did = x.did.told; low = x.low; high = x.high }

abbrev pub marks_told : List (Mark (Timed Deed')) → List (Mark (Timed Step))
marks_told [] = []
marks_told (m ∷ ms) = (record { done = m.done; step = timed_told m.step }) ∷ marks_told ms

pub whole_told : (ms : List (Mark (Timed Deed'))) → whole (marks_told ms) ≡ map timed_told (whole ms)
whole_told [] = refl
whole_told (m ∷ ms) = ap (λ (l : List (Timed Step)). timed_told m.step ∷ l) (whole_told ms)

pub times_told : (T : List ℕ) (k : ℕ) (ds : List Deed') → AllOf TellsSo ds → times recorded T k (told_of ds) ≡ map timed_told (times deeds T k ds)
times_told T k [] h = refl
times_told T k (d ∷ ds) h =
    let e : recorded.is_event d.told ≡ deeds.is_event d = recorded_event d.told ∙ sym h.0.event in
    let first : timed recorded T k d.told ≡ timed_told (timed deeds T k d) =
    ap (λ (b : Bool). record { did = d.told; low = last_before d.told.thread.0 T (done_after b k); high = next_from d.told.thread.0 T k }) e
    ∙ ap (λ (u : ℕ). record { did = d.told; low = last_before u T (done_after (deeds.is_event d) k); high = next_from u T k }) h.0.thread in
    let rest : times recorded T (done_after (recorded.is_event d.told) k) (told_of ds) ≡ map timed_told (times deeds T (done_after (deeds.is_event d) k) ds) =
    ap (λ (b : Bool). times recorded T (done_after b k) (told_of ds)) e ∙ times_told T (done_after (deeds.is_event d) k) ds h.1 in
    ap (λ (x : Timed Step). x ∷ times recorded T (done_after (recorded.is_event d.told) k) (told_of ds)) first ∙ ap (λ (l : List (Timed Step)). timed_told (timed deeds T k d) ∷ l) rest
  where
    recorded_event : (x : Step) → recorded.is_event x ≡ is_some (event_of x)
    recorded_event x = sym (Rattle.pg_law_runs.proofs.DeedDependence.some_turn x (Rattle.pg_run_trace.specs.Steps.happening_in x.kind))

pub kept_told : (ms : List (Mark (Timed Deed'))) → did_of (kept (marks_told ms)) ≡ told_of (did_of (kept ms))
kept_told [] = refl
kept_told (m ∷ ms) = go m.done (kept_told ms)
  where
    go : (b : Bool) → did_of (kept (marks_told ms)) ≡ told_of (did_of (kept ms))
        → did_of (cond b (timed_told m.step ∷ kept (marks_told ms)) (kept (marks_told ms))) ≡ told_of (did_of (cond b (m.step ∷ kept ms) (kept ms)))
    go true ih = ap (λ (l : List Step). m.step.did.told ∷ l) ih
    go false ih = ih

pub below_told : (g : ℕ) (ms : List (Mark (Timed Deed'))) → IsBelow g ms → IsBelow g (marks_told ms)
below_told g [] h = tt
below_told g (m ∷ ms) h = (record { if_done = h.0.if_done; if_open = h.0.if_open }, below_told g ms h.1)

pub cut_told : (ms : List (Mark (Timed Deed'))) → AllOf (λ m. TellsSo m.step.did) ms → IsCut deeds ms → IsCut recorded (marks_told ms)
cut_told [] a h = tt
cut_told (m ∷ ms) a h = ((λ w. rest m.step.did ms a.0 a.1 (h.0 w)), cut_told ms a.1 h.1)
  where
    rest : (d : Deed') (ns : List (Mark (Timed Deed'))) → TellsSo d → AllOf (λ m. TellsSo m.step.did) ns → AllOf (λ n. n.done ≡ true → n.step.did.thread ≢ d.thread) ns
        → AllOf (λ n. n.done ≡ true → n.step.did.thread.0 ≢ d.told.thread.0) (marks_told ns)
    rest d [] k b c = tt
    rest d (n ∷ ns) k b c = ((λ w e. c.0 w (sym b.0.thread ∙ e ∙ k.thread)), rest d ns k b.1 c.1)

-- how many turns are done
pub done_told : (k : ℕ) (ds : List Deed') → AllOf TellsSo ds → turns_done deeds k ds ≡ k + length (events (told_of ds))
done_told k [] h = omega arith
done_told k (d ∷ ds) h = done_told (done_after (deeds.is_event d) k) ds h.1 ∙ ap (λ (b : Bool). done_after b k + length (events (told_of ds))) h.0.event ∙ go (event_of d.told) refl
  where
    go : (o : Option Turn) → event_of d.told ≡ o → done_after (is_some (event_of d.told)) k + length (events (told_of ds)) ≡ k + length (events (d.told ∷ told_of ds))
    go None e = rw e refl
    go (Some v) e = rw e (omega arith)

pub all_times : (T : List ℕ) (k : ℕ) (ds : List Deed') → AllOf TellsSo ds → AllOf (λ x. TellsSo x.did) (times deeds T k ds)
all_times T k [] h = tt
all_times T k (d ∷ ds) h = (h.0, all_times T (done_after (deeds.is_event d) k) ds h.1)
