-- The waiters are at most as many as the threads that wait for a signal.
use Rattle.std.proofs.Common.{◌≡◌, ℕ, ◌+◌, ◌^◌, ◌<◌, Fits, w8, rules, ◌≤◌, List, [], ◌∷◌, ◌++◌, length, Bool, true, false, Option, Some, None, refl, sym}
use Rattle.std.proofs.Common.{ap, arith, zero, suc, length-append, length-set}
use Rattle.std.specs.Prelude.{slice_get, slice_set, map, find, if◌then◌else◌}
use Rattle.std.proofs.lemmas.List.{length-map}
use Rattle.pg_ir.specs.pg_num.declared.limits.TheConstants.{THREAD_LIMIT}
use Rattle.pg_run_objects.specs.declared.status.Stage.{Stage}
use Rattle.pg_run_objects.specs.declared.status.Stage.TheVariants.{Made, Running, Waiting, Arrived, Ended}
use Rattle.pg_run_objects.specs.declared.status.Status.{Status}
use Rattle.pg_run_objects.specs.declared.status.Waiter.{Waiter}
use Rattle.pg_run_objects.specs.Stages.{is_unsignalled, unsignalled, unsignalled_count, FitsLimits}
use Rattle.pg_run_objects.specs.Sync.{at_stage, stage_in, set_stage_in, waits_on, without_first, one_if, release, is_at, joined_in, made}

-- a change of one thread
pub count_set : (ss : List Status) (t : ℕ) (s : Status) → t < length ss
    → unsignalled_count (slice_set ss t s) + one_if (is_unsignalled (stage_in (slice_get ss t))) ≡ unsignalled_count ss + one_if (unsignalled s)
count_set [] t s l = absurd (omega arith)
count_set (x ∷ ss) zero s l = omega arith
count_set (x ∷ ss) (suc t) s l = omega (arith, count_set ss t s (omega (arith, l)))

stage_set_in : (o : Option Status) (s : Stage) → (set_stage_in o s).stage ≡ s
stage_set_in None s = refl
stage_set_in (Some x) s = refl

one_at_most : (b : Bool) → one_if b ≤ 1
one_at_most true = omega arith
one_at_most false = omega arith

-- at most one less waits where a thread comes to another stage
pub count_falls : (ss : List Status) (t : ℕ) (s : Status) → unsignalled_count ss ≤ unsignalled_count (slice_set ss t s) + one_if (is_unsignalled (stage_in (slice_get ss t)))
count_falls [] t s = omega arith
count_falls (x ∷ ss) zero s = omega arith
count_falls (x ∷ ss) (suc t) s = omega (arith, count_falls ss t s)

-- more room fits too
pub kept_with_room : (ss : List Status) (ws : List Waiter) (a b c d : ℕ) → FitsLimits ss ws a b → a ≤ c → b ≤ d → FitsLimits ss ws c d
unfolding FitsLimits
kept_with_room ss ws a b c d f l m = (f.0, omega (arith, f.1, l), omega (arith, f.2, m), f.3)

pub room_of_thread : (ss : List Status) (ws : List Waiter) (a b : ℕ) → FitsLimits ss ws a b → length ss < THREAD_LIMIT → length ss < a
unfolding FitsLimits
room_of_thread ss ws a b f l = omega (arith, l, f.1)

pub kept_at_stage : (ss : List Status) (ws : List Waiter) (a b t : ℕ) (s : Stage) → FitsLimits ss ws a b → is_unsignalled (stage_in (slice_get ss t)) ≡ false
    → FitsLimits (at_stage t s ss) ws a b
unfolding FitsLimits
kept_at_stage ss ws a b t s f h =
    let k = count_falls ss t (set_stage_in (slice_get ss t) s) in
    let z : one_if (is_unsignalled (stage_in (slice_get ss t))) ≡ 0 = ap one_if h in
    (omega (arith, f.0, length-set ss t (set_stage_in (slice_get ss t) s)), f.1, f.2, omega (arith, f.3, k, z))

count_at_most : (ss : List Status) → unsignalled_count ss ≤ length ss
count_at_most [] = omega arith
count_at_most (s ∷ ss) = omega (arith, count_at_most ss, one_at_most (unsignalled s))

pub kept_by_wait : (ss : List Status) (ws : List Waiter) (a b t : ℕ) (w : Waiter) → FitsLimits ss ws a b → t < length ss → is_unsignalled (stage_in (slice_get ss t)) ≡ false
    → FitsLimits (at_stage t (Waiting false) ss) (ws ++ w ∷ []) a b
unfolding FitsLimits
kept_by_wait ss ws a b t w f l h =
    let k = count_set ss t (set_stage_in (slice_get ss t) (Waiting false)) l in
    let z : one_if (is_unsignalled (stage_in (slice_get ss t))) ≡ 0 = ap one_if h in
    let o : one_if (unsignalled (set_stage_in (slice_get ss t) (Waiting false))) ≡ 1 = ap (λ (s : Stage). one_if (is_unsignalled s)) (stage_set_in (slice_get ss t) (Waiting false)) in
    (omega (arith, f.0, length-set ss t (set_stage_in (slice_get ss t) (Waiting false))), f.1, f.2, omega (arith, f.3, k, z, o, length-append ws (w ∷ [])))

without_one : (c : ℕ) (ws : List Waiter) (w : Waiter) → find (waits_on c) ws ≡ Some w → length (without_first c ws) + 1 ≡ length ws
without_one c [] w h = absurd cc
without_one c (x ∷ ws) w h = go (λ k. without_one c ws w k) (waits_on c x) h
  where
    go : (find (waits_on c) ws ≡ Some w → length (without_first c ws) + 1 ≡ length ws) → (b : Bool) → (if b then Some x else find (waits_on c) ws) ≡ Some w
        → length (if b then ws else x ∷ without_first c ws) + 1 ≡ length (x ∷ ws)
    go k true h = omega arith
    go k false h = omega (arith, k h)

pub kept_by_signal : (ss : List Status) (ws : List Waiter) (a b c t : ℕ) (w : Waiter) → FitsLimits ss ws a b → find (waits_on c) ws ≡ Some w
    → FitsLimits (at_stage t (Waiting true) ss) (without_first c ws) a b
unfolding FitsLimits
kept_by_signal ss ws a b c t w f h =
    let k = count_falls ss t (set_stage_in (slice_get ss t) (Waiting true)) in
    let o = one_at_most (is_unsignalled (stage_in (slice_get ss t))) in
    (omega (arith, f.0, length-set ss t (set_stage_in (slice_get ss t) (Waiting true))), f.1, f.2, omega (arith, f.3, k, o, without_one c ws w h))

-- a release changes no stage in which a thread waits for a signal
pub release_waits : (b : ℕ) (s : Status) → unsignalled (release b s) ≡ unsignalled s
release_waits b s = go (is_at b s.stage) refl
  where
    arrived : (x : Stage) → is_at b x ≡ true → is_unsignalled x ≡ false
    arrived Made h = refl
    arrived Running h = refl
    arrived (Waiting signalled) h = absurd cc
    arrived (Arrived barrier released last) h = refl
    arrived Ended h = refl

    go : (x : Bool) → is_at b s.stage ≡ x → unsignalled (if x then record s { stage = Arrived b true false } else s) ≡ unsignalled s
    go true h = sym (arrived s.stage h)
    go false h = refl

count_released : (b : ℕ) (ss : List Status) → unsignalled_count (map (release b) ss) ≡ unsignalled_count ss
count_released b [] = refl
count_released b (s ∷ ss) = omega (arith, count_released b ss, ap one_if (release_waits b s))

pub kept_by_release : (ss : List Status) (ws : List Waiter) (a b c : ℕ) → FitsLimits ss ws a b → FitsLimits (map (release c) ss) ws a b
unfolding FitsLimits
kept_by_release ss ws a b c f = (omega (arith, f.0, length-map ss (release c)), f.1, f.2, omega (arith, f.3, count_released c ss))

count_joined : (ss : List Status) (n : ℕ) → unsignalled_count (slice_set ss n (joined_in (slice_get ss n))) ≡ unsignalled_count ss
count_joined [] n = refl
count_joined (x ∷ ss) zero = refl
count_joined (x ∷ ss) (suc n) = omega (arith, count_joined ss n)

pub kept_by_join : (ss : List Status) (ws : List Waiter) (a b n : ℕ) → FitsLimits ss ws a b → FitsLimits (slice_set ss n (joined_in (slice_get ss n))) ws a b
unfolding FitsLimits
kept_by_join ss ws a b n f = (omega (arith, f.0, length-set ss n (joined_in (slice_get ss n))), f.1, f.2, omega (arith, f.3, count_joined ss n))

count_made : (ss : List Status) → unsignalled_count (ss ++ made ∷ []) ≡ unsignalled_count ss
count_made [] = refl
count_made (s ∷ ss) = omega (arith, count_made ss)

pub kept_by_create : (ss : List Status) (ws : List Waiter) (a b : ℕ) → FitsLimits ss ws a b → length ss < THREAD_LIMIT → FitsLimits (ss ++ made ∷ []) ws a b
unfolding FitsLimits
kept_by_create ss ws a b f l = (omega (arith, l, length-append ss (made ∷ [])), f.1, f.2, omega (arith, f.3, count_made ss))

pub room_of_waiter : (ss : List Status) (ws : List Waiter) (a b t : ℕ) (w : Waiter) → FitsLimits ss ws a b → t < length ss → is_unsignalled (stage_in (slice_get ss t)) ≡ false
    → length ws < b
unfolding FitsLimits
room_of_waiter ss ws a b t w f l h =
    let k = kept_by_wait ss ws a b t w f l h in
    omega (arith, k.0, k.2, k.3, length-append ws (w ∷ []), count_at_most (at_stage t (Waiting false) ss))

pub number_is_small : (ss : List Status) (ws : List Waiter) (a b n : ℕ) → FitsLimits ss ws a b → n < length ss → Fits w8 n
unfolding FitsLimits
number_is_small ss ws a b n f l = let h : n < 2 ^ 8 = omega (arith, l, f.0) in search rules
