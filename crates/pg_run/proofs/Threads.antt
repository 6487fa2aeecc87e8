-- The stages of threads, and those that wait, after a change of one thread or of several.
use Rattle.std.proofs.Common.{◌≡◌, ℕ, zero, suc, ◌<◌, List, [], ◌∷◌, ◌++◌, length, map, Bool, true, false, Option, Some, None, arith, refl, sym, ◌∙◌, ap, subst}
use Rattle.std.specs.Prelude.{slice_get, slice_set, filter, find, not, ◌==◌, if◌then◌else◌}
use Rattle.std.proofs.lemmas.Bool.Decides.{nat_tests}
use Rattle.pg_run_objects.specs.declared.status.Stage.{Stage}
use Rattle.pg_run_objects.specs.declared.status.Stage.TheVariants.{Made, Running, Waiting, Arrived, Ended}
use Rattle.pg_run_objects.specs.declared.status.Status.{Status}
use Rattle.pg_run_objects.specs.declared.status.Waiter.{Waiter}
use Rattle.pg_run_objects.specs.Sync.{stage_in, set_stage_in, at_stage, made, is_at, release, joined_in, signalled, signal_each, waits_on, without_first, first_of}
use Rattle.pg_run.specs.Phases.{InBarrier, stage_phase}
use Rattle.pg_run.specs.Machine.{IsAbsent, AreWaiting}

abbrev pub stage_at : List Status → ℕ → Stage
stage_at ss t = stage_in (slice_get ss t)

-- ---- one thread

pub set_own : {X : Type 0} (ss : List X) (t : ℕ) (x : X) → t < length ss → slice_get (slice_set ss t x) t ≡ Some x
set_own [] t x h = absurd (omega arith)
set_own (s ∷ ss) zero x h = refl
set_own (s ∷ ss) (suc t) x h = set_own ss t x (omega arith)

pub set_other : {X : Type 0} (ss : List X) (t u : ℕ) (x : X) → (u ≡ t → ⊥) → slice_get (slice_set ss t x) u ≡ slice_get ss u
set_other [] t u x h = refl
set_other (s ∷ ss) zero zero x h = absurd (h refl)
set_other (s ∷ ss) zero (suc u) x h = refl
set_other (s ∷ ss) (suc t) zero x h = refl
set_other (s ∷ ss) (suc t) (suc u) x h = set_other ss t u x (λ e. h (ap suc e))

pub set_length : {X : Type 0} (ss : List X) (t : ℕ) (x : X) → length (slice_set ss t x) ≡ length ss
set_length [] t x = refl
set_length (s ∷ ss) zero x = refl
set_length (s ∷ ss) (suc t) x = ap suc (set_length ss t x)

pub last_own : {X : Type 0} (ss : List X) (x : X) → slice_get (ss ++ x ∷ []) (length ss) ≡ Some x
last_own [] x = refl
last_own (s ∷ ss) x = last_own ss x

pub last_other : {X : Type 0} (ss : List X) (x : X) (u : ℕ) → (u ≡ length ss → ⊥) → slice_get (ss ++ x ∷ []) u ≡ slice_get ss u
last_other [] x zero h = absurd (h refl)
last_other [] x (suc u) h = refl
last_other (s ∷ ss) x zero h = refl
last_other (s ∷ ss) x (suc u) h = last_other ss x u (λ e. h (ap suc e))

stage_set : (o : Option Status) (s : Stage) → stage_in (Some (set_stage_in o s)) ≡ s
stage_set None s = refl
stage_set (Some x) s = refl

pub own_stage : (ss : List Status) (t : ℕ) (s : Stage) → t < length ss → stage_at (at_stage t s ss) t ≡ s
own_stage ss t s h = ap stage_in (set_own ss t (set_stage_in (slice_get ss t) s) h) ∙ stage_set (slice_get ss t) s

pub other_stage : (ss : List Status) (t u : ℕ) (s : Stage) → (u ≡ t → ⊥) → stage_at (at_stage t s ss) u ≡ stage_at ss u
other_stage ss t u s h = ap stage_in (set_other ss t u (set_stage_in (slice_get ss t) s) h)

pub waiting_kept : (ss : List Status) (ws : List Waiter) (t : ℕ) (s : Stage) → IsAbsent t ws → AreWaiting ss ws → AreWaiting (at_stage t s ss) ws
waiting_kept ss [] t s a h = tt
waiting_kept ss (w ∷ ws) t s a h = (other_stage ss t w.thread.0 s a.0 ∙ h.0, h.1, waiting_kept ss ws t s a.1 h.2)

pub absent_of : (ss : List Status) (ws : List Waiter) (t : ℕ) → (stage_at ss t ≡ Waiting false → ⊥) → AreWaiting ss ws → IsAbsent t ws
absent_of ss [] t n h = tt
absent_of ss (w ∷ ws) t n h = (λ e. n (subst (λ (u : ℕ). stage_at ss u ≡ Waiting false) e h.0), absent_of ss ws t n h.2)

absent_last : (ws : List Waiter) (t : ℕ) (w : Waiter) → IsAbsent t ws → (w.thread.0 ≡ t → ⊥) → IsAbsent t (ws ++ w ∷ [])
absent_last [] t w a n = (n, tt)
absent_last (v ∷ ws) t w a n = (a.0, absent_last ws t w a.1 n)

waiting_last : (ss : List Status) (ws : List Waiter) (w : Waiter) → IsAbsent w.thread.0 ws → stage_at ss w.thread.0 ≡ Waiting false → AreWaiting ss ws → AreWaiting ss (ws ++ w ∷ [])
waiting_last ss [] w a e h = (e, tt, tt)
waiting_last ss (v ∷ ws) w a e h = (h.0, absent_last ws v.thread.0 w h.1 (λ k. a.0 (sym k)), waiting_last ss ws w a.1 e h.2)

pub waiting_more : (ss : List Status) (ws : List Waiter) (w : Waiter) → w.thread.0 < length ss → IsAbsent w.thread.0 ws → AreWaiting ss ws
    → AreWaiting (at_stage w.thread.0 (Waiting false) ss) (ws ++ w ∷ [])
waiting_more ss ws w l a h = waiting_last (at_stage w.thread.0 (Waiting false) ss) ws w a (own_stage ss w.thread.0 (Waiting false) l) (waiting_kept ss ws w.thread.0 (Waiting false) a h)

-- ---- other changes

-- threads that wait where one list says so wait by the other
pub waiting_by : (ss us : List Status) (ws : List Waiter) → ((t : ℕ) → stage_at ss t ≡ Waiting false → stage_at us t ≡ Waiting false) → AreWaiting ss ws → AreWaiting us ws
waiting_by ss us [] k h = tt
waiting_by ss us (w ∷ ws) k h = (k w.thread.0 h.0, h.1, waiting_by ss us ws k h.2)

pub join_stage : (ss : List Status) (n u : ℕ) → stage_at (slice_set ss n (joined_in (slice_get ss n))) u ≡ stage_at ss u
join_stage [] n u = refl
join_stage (s ∷ ss) zero zero = refl
join_stage (s ∷ ss) zero (suc u) = refl
join_stage (s ∷ ss) (suc n) zero = refl
join_stage (s ∷ ss) (suc n) (suc u) = join_stage ss n u

abbrev released_if : ℕ → Bool → Status → Status
released_if b d s = if d then record s { stage = Arrived b true false } else s

released_phase : (b : ℕ) (s : Stage) (j : Bool) → stage_phase (release b (record { stage = s; joined = j })).stage ≡ stage_phase s
released_phase b Made j = refl
released_phase b Running j = refl
released_phase b (Waiting g) j = refl
released_phase b Ended j = refl
released_phase b (Arrived c r l) j = go (is_at b (Arrived c r l))
  where
    go : (d : Bool) → stage_phase (released_if b d (record { stage = Arrived c r l; joined = j })).stage ≡ InBarrier
    go true = refl
    go false = refl

pub release_phase : (b : ℕ) (ss : List Status) (u : ℕ) → stage_phase (stage_at (map (release b) ss) u) ≡ stage_phase (stage_at ss u)
release_phase b [] u = refl
release_phase b (s ∷ ss) zero = released_phase b s.stage s.joined
release_phase b (s ∷ ss) (suc u) = release_phase b ss u

released_waits : (b : ℕ) (s : Stage) (j : Bool) → s ≡ Waiting false → (release b (record { stage = s; joined = j })).stage ≡ Waiting false
released_waits b Made j e = absurd cc
released_waits b Running j e = absurd cc
released_waits b (Waiting g) j e = e
released_waits b Ended j e = absurd cc
released_waits b (Arrived c r l) j e = absurd cc

pub release_waits : (b : ℕ) (ss : List Status) (u : ℕ) → stage_at ss u ≡ Waiting false → stage_at (map (release b) ss) u ≡ Waiting false
release_waits b [] u e = e
release_waits b (s ∷ ss) zero e = released_waits b s.stage s.joined e
release_waits b (s ∷ ss) (suc u) e = release_waits b ss u e

pub release_length : (b : ℕ) (ss : List Status) → length (map (release b) ss) ≡ length ss
release_length b [] = refl
release_length b (s ∷ ss) = ap suc (release_length b ss)

pub made_waits : (ss : List Status) (u : ℕ) → stage_at ss u ≡ Waiting false → stage_at (ss ++ made ∷ []) u ≡ Waiting false
made_waits [] u e = absurd cc
made_waits (s ∷ ss) zero e = e
made_waits (s ∷ ss) (suc u) e = made_waits ss u e

pub made_own : (ss : List Status) → stage_at (ss ++ made ∷ []) (length ss) ≡ Made
made_own [] = refl
made_own (s ∷ ss) = made_own ss

pub made_other : (ss : List Status) (u : ℕ) → (u ≡ length ss → ⊥) → stage_at (ss ++ made ∷ []) u ≡ stage_at ss u
made_other [] zero h = absurd (h refl)
made_other [] (suc u) h = refl
made_other (s ∷ ss) zero h = refl
made_other (s ∷ ss) (suc u) h = made_other ss u (λ e. h (ap suc e))

-- ---- signals

pub signal_length : (vs : List Waiter) (ss : List Status) → length (signal_each vs ss) ≡ length ss
signal_length [] ss = refl
signal_length (v ∷ vs) ss = signal_length vs (signalled ss v) ∙ set_length ss v.thread.0 _

-- one that isn't signalled stays as it is
unsignalled : (vs : List Waiter) (ss : List Status) (t : ℕ) → IsAbsent t vs → stage_at (signal_each vs ss) t ≡ stage_at ss t
unsignalled [] ss t a = refl
unsignalled (v ∷ vs) ss t a = unsignalled vs (signalled ss v) t a.1 ∙ other_stage ss v.thread.0 t (Waiting true) (λ e. a.0 (sym e))

within_stage : (ss : List Status) (t : ℕ) → stage_at ss t ≡ Waiting false → t < length ss
within_stage [] t e = absurd cc
within_stage (s ∷ ss) zero e = omega arith
within_stage (s ∷ ss) (suc t) e = let k = within_stage ss t e in omega (arith, k)

signalled_phase : (ss : List Status) (t u : ℕ) (b : Bool) → (u == t) ≡ b → stage_at ss t ≡ Waiting false
    → stage_phase (stage_at (at_stage t (Waiting true) ss) u) ≡ stage_phase (stage_at ss u)
signalled_phase ss t u true q e =
    let same : u ≡ t = grind (arith, nat_tests) in
    subst (λ (n : ℕ). stage_phase (stage_at (at_stage t (Waiting true) ss) n) ≡ stage_phase (stage_at ss n)) (sym same)
    (ap stage_phase (own_stage ss t (Waiting true) (within_stage ss t e)) ∙ sym (ap stage_phase e))
signalled_phase ss t u false q e =
    let other : u ≡ t → ⊥ = λ k. grind (arith, nat_tests) in
    ap stage_phase (other_stage ss t u (Waiting true) other)

pub signal_phase : (vs : List Waiter) (ss : List Status) (u : ℕ) → AreWaiting ss vs → stage_phase (stage_at (signal_each vs ss) u) ≡ stage_phase (stage_at ss u)
signal_phase [] ss u h = refl
signal_phase (v ∷ vs) ss u h = signal_phase vs (signalled ss v) u (waiting_kept ss vs v.thread.0 (Waiting true) h.1 h.2) ∙ signalled_phase ss v.thread.0 u _ refl h.0

-- no thread is in both lists
abbrev pub Apart : List Waiter → List Waiter → Type 0
Apart [] vs = Unit {0}
Apart (w ∷ ws) vs = IsAbsent w.thread.0 vs × Apart ws vs

pub signal_waits : (us vs : List Waiter) (ss : List Status) → Apart us vs → AreWaiting ss us → AreWaiting (signal_each vs ss) us
signal_waits [] vs ss a h = tt
signal_waits (w ∷ ws) vs ss a h = (unsignalled vs ss w.thread.0 a.0 ∙ h.0, h.1, signal_waits ws vs ss a.1 h.2)

-- ---- those that a signal or a broadcast takes, and the others

absent_filter : (p : Waiter → Bool) (t : ℕ) (ws : List Waiter) → IsAbsent t ws → IsAbsent t (filter p ws)
absent_filter p t [] a = tt
absent_filter p t (w ∷ ws) a = go (p w) (absent_filter p t ws a.1)
  where
    go : (b : Bool) → IsAbsent t (filter p ws) → IsAbsent t (if b then w ∷ filter p ws else filter p ws)
    go true k = (a.0, k)
    go false k = k

pub waiting_filter : (p : Waiter → Bool) (ss : List Status) (ws : List Waiter) → AreWaiting ss ws → AreWaiting ss (filter p ws)
waiting_filter p ss [] h = tt
waiting_filter p ss (w ∷ ws) h = go (p w) (waiting_filter p ss ws h.2)
  where
    go : (b : Bool) → AreWaiting ss (filter p ws) → AreWaiting ss (if b then w ∷ filter p ws else filter p ws)
    go true k = (h.0, absent_filter p w.thread.0 ws h.1, k)
    go false k = k

apart_more : (us vs : List Waiter) (w : Waiter) → IsAbsent w.thread.0 us → Apart us vs → Apart us (w ∷ vs)
apart_more [] vs w a h = tt
apart_more (u ∷ us) vs w a h = ((λ e. a.0 (sym e), h.0), apart_more us vs w a.1 h.1)

pub filters_apart : (p : Waiter → Bool) (ss : List Status) (ws : List Waiter) → AreWaiting ss ws → Apart (filter (λ w. not (p w)) ws) (filter p ws)
filters_apart p ss [] h = tt
filters_apart p ss (w ∷ ws) h = go (p w) (filters_apart p ss ws h.2)
  where
    go : (b : Bool) → Apart (filter (λ w. not (p w)) ws) (filter p ws)
        → Apart (if not b then w ∷ filter (λ w. not (p w)) ws else filter (λ w. not (p w)) ws) (if b then w ∷ filter p ws else filter p ws)
    go true k = apart_more _ _ w (absent_filter (λ w. not (p w)) w.thread.0 ws h.1) k
    go false k = (absent_filter p w.thread.0 ws h.1, k)

absent_without : (c t : ℕ) (ws : List Waiter) → IsAbsent t ws → IsAbsent t (without_first c ws)
absent_without c t [] a = tt
absent_without c t (w ∷ ws) a = go (waits_on c w) (absent_without c t ws a.1)
  where
    go : (b : Bool) → IsAbsent t (without_first c ws) → IsAbsent t (if b then ws else w ∷ without_first c ws)
    go true k = a.1
    go false k = (a.0, k)

pub waiting_without : (c : ℕ) (ss : List Status) (ws : List Waiter) → AreWaiting ss ws → AreWaiting ss (without_first c ws)
waiting_without c ss [] h = tt
waiting_without c ss (w ∷ ws) h = go (waits_on c w) (waiting_without c ss ws h.2)
  where
    go : (b : Bool) → AreWaiting ss (without_first c ws) → AreWaiting ss (if b then ws else w ∷ without_first c ws)
    go true k = h.2
    go false k = (h.0, absent_without c w.thread.0 ws h.1, k)

absent_first : (c t : ℕ) (ws : List Waiter) → IsAbsent t ws → IsAbsent t (first_of (find (waits_on c) ws))
absent_first c t [] a = tt
absent_first c t (w ∷ ws) a = go (waits_on c w) (absent_first c t ws a.1)
  where
    go : (b : Bool) → IsAbsent t (first_of (find (waits_on c) ws)) → IsAbsent t (first_of (if b then Some w else find (waits_on c) ws))
    go true k = (a.0, tt)
    go false k = k

pub waiting_first : (c : ℕ) (ss : List Status) (ws : List Waiter) → AreWaiting ss ws → AreWaiting ss (first_of (find (waits_on c) ws))
waiting_first c ss [] h = tt
waiting_first c ss (w ∷ ws) h = go (waits_on c w) (waiting_first c ss ws h.2)
  where
    go : (b : Bool) → AreWaiting ss (first_of (find (waits_on c) ws)) → AreWaiting ss (first_of (if b then Some w else find (waits_on c) ws))
    go true k = (h.0, tt, tt)
    go false k = k

apart_one : (us : List Waiter) (w : Waiter) → IsAbsent w.thread.0 us → Apart us (w ∷ [])
apart_one [] w a = tt
apart_one (u ∷ us) w a = ((λ e. a.0 (sym e), tt), apart_one us w a.1)

pub first_apart : (c : ℕ) (ss : List Status) (ws : List Waiter) → AreWaiting ss ws → Apart (without_first c ws) (first_of (find (waits_on c) ws))
first_apart c ss [] h = tt
first_apart c ss (w ∷ ws) h = go (waits_on c w) (first_apart c ss ws h.2)
  where
    go : (b : Bool) → Apart (without_first c ws) (first_of (find (waits_on c) ws)) → Apart (if b then ws else w ∷ without_first c ws) (first_of (if b then Some w else find (waits_on c) ws))
    go true k = apart_one ws w h.1
    go false k = (absent_first c w.thread.0 ws h.1, k)
