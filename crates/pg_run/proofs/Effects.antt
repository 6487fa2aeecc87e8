-- How far threads have come after a request was done.
use Rattle.std.proofs.Common.{◌≡◌, ℕ, ◌+◌, ◌<◌, List, [], ◌∷◌, ◌++◌, length, map, Bool, true, false, Option, Some, None, refl, sym, ◌∙◌, ap}
use Rattle.std.specs.Prelude.{slice_get, slice_set, filter, find, not, nat_lt, ◌==◌, ◌&&◌, if◌then◌else◌}
use Rattle.std.proofs.lemmas.List.{length-append}
use Rattle.pg_run_trace.specs.pg_num.Places.{ByteRange}
use Rattle.pg_run_trace.specs.pg_ir.declared.request.Request.{Request}
use Rattle.pg_run_trace.specs.pg_ir.declared.request.Request.TheVariants as requests
use Rattle.pg_run_trace.specs.pg_ir.declared.request.TrapName.TheVariants.{WrongObject}
use Rattle.pg_run_objects.specs.declared.object.Object.{Object}
use Rattle.pg_run_objects.specs.declared.object.Object.TheVariants as objects
use Rattle.pg_run_objects.specs.declared.status.Stage.{Stage}
use Rattle.pg_run_objects.specs.declared.status.Stage.TheVariants.{Running, Waiting, Arrived, Ended}
use Rattle.pg_run_objects.specs.declared.status.Status.{Status}
use Rattle.pg_run_objects.specs.declared.status.Waiter.{Waiter}
use Rattle.pg_run_objects.specs.declared.reply.Reply.{Reply}
use Rattle.pg_run_objects.specs.Objects.{object_at, put_object, is_free, is_barrier}
use Rattle.pg_run_objects.specs.Sync.{Sync, stage_of, is_signalled, at_stage, made, release, joined_in, signal_each, waits_on, without_first, first_of, done, check, check_barrier, first_trap}
use Rattle.pg_run_objects.specs.Sync.{unless, may_go, hold, answer, arrive_at}
use Rattle.pg_run.specs.Phases.{Phase, Fresh, Going, InCondition, InBarrier, stage_phase, request_before, request_after}
use Rattle.pg_run.specs.Machine.{AreWaiting}
use Rattle.pg_run.proofs.Threads.{stage_at, own_stage, other_stage, set_length, waiting_kept, waiting_more, waiting_by, absent_of, join_stage, release_phase, release_waits}
use Rattle.pg_run.proofs.Threads.{release_length, made_waits, made_own, made_other, signal_length, signal_phase, signal_waits, waiting_filter, waiting_without, waiting_first}
use Rattle.pg_run.proofs.Threads.{filters_apart, first_apart}

-- thread t has come to a phase, all others are where they were, and those that wait still do
pub record Moved (t : ℕ) (x : Phase) (ss us : List Status) (vs : List Waiter) : Type 0 where
  pub own : stage_phase (stage_at us t) ≡ x
  pub others : (u : ℕ) → (u ≡ t → ⊥) → stage_phase (stage_at us u) ≡ stage_phase (stage_at ss u)
  pub waiters : AreWaiting us vs
  pub count : length us ≡ length ss

stays : (t : ℕ) (x : Phase) (ss : List Status) (ws : List Waiter) → stage_phase (stage_at ss t) ≡ x → AreWaiting ss ws → Moved t x ss ss ws
stays t x ss ws e h = record { own = e; others = λ u n. refl; waiters = h; count = refl }

comes : (t : ℕ) (s : Stage) (ss : List Status) (ws : List Waiter) → t < length ss → (stage_at ss t ≡ Waiting false → ⊥) → AreWaiting ss ws
    → Moved t (stage_phase s) ss (at_stage t s ss) ws
comes t s ss ws l n h = record {
  own = ap stage_phase (own_stage ss t s l);
  others = λ u k. ap stage_phase (other_stage ss t u s k);
  waiters = waiting_kept ss ws t s (absent_of ss ws t n h) h;
  count = set_length ss t _;
}

-- a thread in another phase doesn't wait on a condition
fresh_is : (s : Stage) → stage_phase s ≡ Fresh → s ≡ Waiting false → ⊥
fresh_is s h e = let k : InCondition ≡ Fresh = ap stage_phase (sym e) ∙ h in cc

going_is : (s : Stage) → stage_phase s ≡ Going → s ≡ Waiting false → ⊥
going_is s h e = let k : InCondition ≡ Going = ap stage_phase (sym e) ∙ h in cc

barrier_is : (s : Stage) → stage_phase s ≡ InBarrier → s ≡ Waiting false → ⊥
barrier_is s h e = let k : InCondition ≡ InBarrier = ap stage_phase (sym e) ∙ h in cc

both_true : (a b : Bool) → (a && b) ≡ true → a ≡ true
both_true true b e = refl
both_true false b e = absurd cc

signalled_is : (s : Stage) (b : Bool) → (is_signalled s && b) ≡ true → s ≡ Waiting false → ⊥
signalled_is s b h e = let k : false ≡ true = ap is_signalled (sym e) ∙ both_true (is_signalled s) b h in cc

joins : (t n : ℕ) (x : Phase) (ss : List Status) (ws : List Waiter) → stage_phase (stage_at ss t) ≡ x → AreWaiting ss ws → Moved t x ss (slice_set ss n (joined_in (slice_get ss n))) ws
joins t n x ss ws e h = record {
  own = ap stage_phase (join_stage ss n t) ∙ e;
  others = λ u k. ap stage_phase (join_stage ss n u);
  waiters = waiting_by ss (slice_set ss n (joined_in (slice_get ss n))) ws (λ u k. join_stage ss n u ∙ k) h;
  count = set_length ss n _;
}

waits : (t c : ℕ) (ss : List Status) (ws : List Waiter) → t < length ss → stage_phase (stage_at ss t) ≡ Going → AreWaiting ss ws
    → Moved t InCondition ss (at_stage t (Waiting false) ss) (ws ++ record { condition = c; thread = record { 0 = t } } ∷ [])
waits t c ss ws l e h = record {
  own = ap stage_phase (own_stage ss t (Waiting false) l);
  others = λ u k. ap stage_phase (other_stage ss t u (Waiting false) k);
  waiters = waiting_more ss ws (record { condition = c; thread = record { 0 = t } }) l (absent_of ss ws t (going_is (stage_at ss t) e) h) h;
  count = set_length ss t _;
}

signals : (t : ℕ) (x : Phase) (ss : List Status) (us vs : List Waiter) → stage_phase (stage_at ss t) ≡ x → AreWaiting ss vs → AreWaiting (signal_each vs ss) us
    → Moved t x ss (signal_each vs ss) us
signals t x ss us vs e h k = record {
  own = signal_phase vs ss t h ∙ e;
  others = λ u n. signal_phase vs ss u h;
  waiters = k;
  count = signal_length vs ss;
}

arrives : (t b count arrived : ℕ) (ss : List Status) (ws : List Waiter) (z : Bool) → t < length ss → stage_phase (stage_at ss t) ≡ Going → AreWaiting ss ws
    → Moved t InBarrier ss (if z then at_stage t (Arrived b false false) ss else at_stage t (Arrived b true true) (map (release b) ss)) ws
arrives t b count arrived ss ws true l e h = comes t (Arrived b false false) ss ws l (going_is _ e) h
arrives t b count arrived ss ws false l e h =
    let k = comes t (Arrived b true true) (map (release b) ss) ws (rw (release_length b ss) l) (going_is _ (release_phase b ss t ∙ e))
    (waiting_by ss (map (release b) ss) ws (release_waits b ss) h) in
    record { own = k.own; others = λ u n. k.others u n ∙ release_phase b ss u; waiters = k.waiters; count = k.count ∙ release_length b ss }

abbrev barrier_then : Sync → ℕ → ℕ → ℕ → ℕ → Bool → Sync
barrier_then y t b count n z =
    if z
    then record y { objects = put_object b (objects.Barrier count (n + 1)) y.objects; threads = at_stage t (Arrived b false false) y.threads }
    else record y { objects = put_object b (objects.Barrier count 0) y.objects; threads = at_stage t (Arrived b true true) (map (release b) y.threads) }

arrived : (y : Sync) (t b : ℕ) (o : Option Object) → t < length y.threads → is_barrier o ≡ true → stage_phase (stage_of y t) ≡ Going → AreWaiting y.threads y.waiters
    → Moved t InBarrier y.threads (arrive_at y t b o).threads (arrive_at y t b o).waiters
arrived y t b None l k e h = absurd cc
arrived y t b (Some (objects.Mutex holder)) l k e h = absurd cc
arrived y t b (Some objects.Condition) l k e h = absurd cc
arrived y t b (Some (objects.Barrier count n)) l k e h = go (nat_lt (n + 1) count) (λ z. arrives t b count n y.threads y.waiters z l e h)
  where
    go : (z : Bool) → ((w : Bool) → Moved t InBarrier y.threads (if w then at_stage t (Arrived b false false) y.threads else at_stage t (Arrived b true true) (map (release b) y.threads))
        y.waiters)
        → Moved t InBarrier y.threads (barrier_then y t b count n z).threads (barrier_then y t b count n z).waiters
    go true m = m true
    go false m = m false

there : (o : Option Object) → check_barrier o None ≡ None → is_barrier o ≡ true
there o e = go (is_barrier o) e
  where
    go : (b : Bool) → first_trap (unless b WrongObject) None ≡ None → b ≡ true
    go true k = refl
    go false k = absurd cc

abbrev tried_then : Sync → ℕ → ℕ → Bool → Sync × Reply
tried_then y t o b = if b then (record y { objects = hold y t o }, answer 0) else (y, answer 16)

abbrev initialised_then : Sync → ℕ → ℕ → ℕ → Bool → Sync × Reply
initialised_then y t o n b = if b then (y, answer 22) else (record y { objects = put_object o (objects.Barrier n 0) y.objects }, answer 0)

tried : (y : Sync) (t o : ℕ) (b : Bool) → stage_phase (stage_of y t) ≡ Going → AreWaiting y.threads y.waiters
    → Moved t Going y.threads (tried_then y t o b).0.threads (tried_then y t o b).0.waiters
tried y t o true e h = stays t Going y.threads y.waiters e h
tried y t o false e h = stays t Going y.threads y.waiters e h

initialised : (y : Sync) (t o n : ℕ) (b : Bool) → stage_phase (stage_of y t) ≡ Going → AreWaiting y.threads y.waiters
    → Moved t Going y.threads (initialised_then y t o n b).0.threads (initialised_then y t o n b).0.waiters
initialised y t o n true e h = stays t Going y.threads y.waiters e h
initialised y t o n false e h = stays t Going y.threads y.waiters e h

-- a request that makes no thread
abbrev pub MakesNone : Request → Type 0
MakesNone (requests.Create r f n) = ⊥
MakesNone r = Unit {0}

pub moved : (y : Sync) (t : ℕ) (r : Request) → MakesNone r → t < length y.threads → check y t r ≡ None → may_go y t r ≡ true → stage_phase (stage_of y t) ≡ request_before r
    → AreWaiting y.threads y.waiters → Moved t (request_after r) y.threads (done y t r).0.threads (done y t r).0.waiters
unfolding done check
moved y t requests.Start m l c g e h = comes t Running y.threads y.waiters l (fresh_is _ e) h
moved y t (requests.Exit n is_return) m l c g e h = comes t Ended y.threads y.waiters l (going_is _ e) h
moved y t (requests.Create r f n) m l c g e h = absurd m
moved y t (requests.Join n r) m l c g e h = joins t n Going y.threads y.waiters e h
moved y t (requests.Trylock o) m l c g e h = tried y t o (is_free (object_at o y.objects)) e h
moved y t (requests.Wait a b) m l c g e h = waits t a y.threads y.waiters l e h
moved y t (requests.Wake a b) m l c g e h = comes t Running y.threads y.waiters l (signalled_is _ _ g) h
moved y t (requests.Signal o) m l c g e h =
    signals t Going y.threads (without_first o y.waiters) (first_of (find (waits_on o) y.waiters)) e (waiting_first o y.threads y.waiters h)
    (signal_waits (without_first o y.waiters) (first_of (find (waits_on o) y.waiters)) y.threads (first_apart o y.threads y.waiters h) (waiting_without o y.threads y.waiters h))
moved y t (requests.Broadcast o) m l c g e h =
    signals t Going y.threads (filter (λ w. not (waits_on o w)) y.waiters) (filter (waits_on o) y.waiters) e (waiting_filter (waits_on o) y.threads y.waiters h)
    (signal_waits (filter (λ w. not (waits_on o w)) y.waiters) (filter (waits_on o) y.waiters) y.threads (filters_apart (waits_on o) y.threads y.waiters h)
    (waiting_filter (λ w. not (waits_on o w)) y.threads y.waiters h))
moved y t (requests.BarrierInit o n) m l c g e h = initialised y t o n (n == 0) e h
moved y t (requests.Arrive o) m l c g e h = arrived y t o (object_at o y.objects) l (there (object_at o y.objects) c) e h
moved y t (requests.Leave o) m l c g e h = comes t Running y.threads y.waiters l (barrier_is _ e) h
moved y t r m l c g e h = stays t Going y.threads y.waiters e h

-- thread t goes on, and a thread is made
pub record MadeOne (ss us : List Status) (vs : List Waiter) : Type 0 where
  pub new : stage_phase (stage_at us (length ss)) ≡ Fresh
  pub others : (u : ℕ) → (u ≡ length ss → ⊥) → stage_phase (stage_at us u) ≡ stage_phase (stage_at ss u)
  pub waiters : AreWaiting us vs
  pub count : length us ≡ length ss + 1

pub made_one : (y : Sync) (t : ℕ) (r : ByteRange) (f n : ℕ) → AreWaiting y.threads y.waiters
    → MadeOne y.threads (done y t (requests.Create r f n)).0.threads (done y t (requests.Create r f n)).0.waiters
unfolding done
made_one y t r f n h = record {
  new = ap stage_phase (made_own y.threads);
  others = λ u k. ap stage_phase (made_other y.threads u k);
  waiters = waiting_by y.threads (y.threads ++ made ∷ []) y.waiters (made_waits y.threads) h;
  count = length-append y.threads (made ∷ []);
}
