-- A broadcast is a signal for each that waits.
use Rattle.std.proofs.Common.{◌≡◌, ℕ, ◌<◌, List, [], ◌∷◌, ◌++◌, length, Bool, true, false, not, Option, Some, None, refl, sym, ap, ◌∙◌, arith}
use Rattle.std.specs.Prelude.{find, filter, is_some, if◌then◌else◌}
use Rattle.pg_run_objects.specs.declared.status.Waiter.{Waiter}
use Rattle.pg_run_objects.specs.declared.status.Status.{Status}
use Rattle.pg_run_objects.specs.Sync.{Sync, waits_on, without_first, first_of, signal, broadcast, signal_each}
use Rattle.pg_run_objects.proofs.Waits.{nobody_leaves}

-- the first leaves, and then all others
pub filter_first : (c : ℕ) (ws : List Waiter) → filter (waits_on c) ws ≡ first_of (find (waits_on c) ws) ++ filter (waits_on c) (without_first c ws)
filter_first c [] = refl
filter_first c (w ∷ ws) = go (filter_first c ws) (waits_on c w) refl
  where
    go : filter (waits_on c) ws ≡ first_of (find (waits_on c) ws) ++ filter (waits_on c) (without_first c ws) → (b : Bool) → waits_on c w ≡ b
        → (if b then w ∷ filter (waits_on c) ws else filter (waits_on c) ws) ≡ first_of (if b then Some w else find (waits_on c) ws)
        ++ filter (waits_on c) (if b then ws else w ∷ without_first c ws)
    go k true e = refl
    go k false e = k ∙ ap (λ (b : Bool). first_of (find (waits_on c) ws) ++ (if b then w ∷ filter (waits_on c) (without_first c ws) else filter (waits_on c) (without_first c ws))) (sym e)

pub filter_others : (c : ℕ) (ws : List Waiter) → filter (λ w. not (waits_on c w)) (without_first c ws) ≡ filter (λ w. not (waits_on c w)) ws
filter_others c [] = refl
filter_others c (w ∷ ws) = go (filter_others c ws) (waits_on c w) refl
  where
    go : filter (λ w. not (waits_on c w)) (without_first c ws) ≡ filter (λ w. not (waits_on c w)) ws → (b : Bool) → waits_on c w ≡ b
        → filter (λ w. not (waits_on c w)) (if b then ws else w ∷ without_first c ws) ≡ (if not b then w ∷ filter (λ w. not (waits_on c w)) ws else filter (λ w. not (waits_on c w)) ws)
    go k true e = refl
    go k false e = ap (λ (b : Bool). if not b then w ∷ filter (λ w. not (waits_on c w)) (without_first c ws) else filter (λ w. not (waits_on c w)) (without_first c ws)) e
        ∙ ap (λ (xs : List Waiter). w ∷ xs) k

each_after : (o : Option Waiter) (ws : List Waiter) (ss : List Status) → signal_each (first_of o ++ ws) ss ≡ signal_each ws (signal_each (first_of o) ss)
each_after None ws ss = refl
each_after (Some w) ws ss = refl

pub broadcast_on : (y : Sync) (c : ℕ) → broadcast (signal y c) c ≡ broadcast y c
broadcast_on y c =
    ap (λ (ss : List Status). record y { threads = ss; waiters = filter (λ w. not (waits_on c w)) (without_first c y.waiters) })
    (sym (each_after (find (waits_on c) y.waiters) (filter (waits_on c) (without_first c y.waiters)) y.threads)
    ∙ ap (λ (ws : List Waiter). signal_each ws y.threads) (sym (filter_first c y.waiters)))
    ∙ ap (λ (ws : List Waiter). record y { threads = signal_each (filter (waits_on c) y.waiters) y.threads; waiters = ws }) (filter_others c y.waiters)

none_of : (o : Option Waiter) → is_some o ≡ false → o ≡ None
none_of None h = refl
none_of (Some w) h = absurd cc

nobody : (c : ℕ) (ws : List Waiter) → find (waits_on c) ws ≡ None → (filter (waits_on c) ws ≡ []) × (filter (λ w. not (waits_on c w)) ws ≡ ws)
nobody c [] h = (refl, refl)
nobody c (w ∷ ws) h = go (λ k. nobody c ws k) (waits_on c w) h
  where
    go : (find (waits_on c) ws ≡ None → (filter (waits_on c) ws ≡ []) × (filter (λ w. not (waits_on c w)) ws ≡ ws)) → (b : Bool) → (if b then Some w else find (waits_on c) ws) ≡ None
        → ((if b then w ∷ filter (waits_on c) ws else filter (waits_on c) ws) ≡ [])
        × ((if not b then w ∷ filter (λ w. not (waits_on c w)) ws else filter (λ w. not (waits_on c w)) ws) ≡ w ∷ ws)
    go k true h = absurd cc
    go k false h = ((k h).0, ap (λ (xs : List Waiter). w ∷ xs) (k h).1)

pub broadcast_of_none : (y : Sync) (c : ℕ) → is_some (find (waits_on c) y.waiters) ≡ false → broadcast y c ≡ y
broadcast_of_none y c h =
    let n = nobody c y.waiters (none_of (find (waits_on c) y.waiters) h) in
    ap (λ (ws : List Waiter). record y { threads = signal_each ws y.threads; waiters = filter (λ w. not (waits_on c w)) y.waiters }) n.0
    ∙ ap (λ (ws : List Waiter). record y { waiters = ws }) n.1

pub signal_of_none : (y : Sync) (c : ℕ) → is_some (find (waits_on c) y.waiters) ≡ false → signal y c ≡ y
signal_of_none y c h =
    let n = none_of (find (waits_on c) y.waiters) h in
    ap (λ (o : Option Waiter). record y { threads = signal_each (first_of o) y.threads; waiters = without_first c y.waiters }) n
    ∙ ap (λ (ws : List Waiter). record y { waiters = ws }) (nobody_leaves c y.waiters n)

pub fewer_wait : (c : ℕ) (ws : List Waiter) → is_some (find (waits_on c) ws) ≡ true → length (without_first c ws) < length ws
fewer_wait c [] h = absurd cc
fewer_wait c (w ∷ ws) h = go (λ k. fewer_wait c ws k) (waits_on c w) h
  where
    go : (is_some (find (waits_on c) ws) ≡ true → length (without_first c ws) < length ws) → (b : Bool) → is_some (if b then Some w else find (waits_on c) ws) ≡ true
        → length (if b then ws else w ∷ without_first c ws) < length (w ∷ ws)
    go k true h = omega arith
    go k false h = omega (arith, k h)
