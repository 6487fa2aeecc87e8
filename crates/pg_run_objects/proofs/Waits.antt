-- Those that wait on conditions.
use Rattle.std.proofs.Common.{◌≡◌, ℕ, ◌+◌, ◌<◌, ◌≤◌, List, [], ◌∷◌, length, Bool, true, false, not, Some, None, refl, sym, ap, ◌∙◌, arith, get_or, suc}
use Rattle.std.specs.Prelude.{slice_get, nat_lt, find, position, if◌then◌else◌}
use Rattle.std.specs.List.{position_or_len, remove}
use Rattle.std.proofs.lemmas.List.Folds.{find_at}
use Rattle.std.proofs.lemmas.Bool.Decides.{nat_tests}
use Rattle.std.proofs.lemmas.Option.{slice_get-get_or, same_Some}
use Rattle.pg_run_objects.specs.declared.status.Waiter.{Waiter}
use Rattle.pg_run_objects.specs.Sync.{waits_on, without_first}

pub position_within : (p : Waiter → Bool) (ws : List Waiter) (i : ℕ) → position p ws ≡ Some i → (i < length ws) × (position_or_len p ws ≡ i)
position_within p ws i h = go (nat_lt (position_or_len p ws) (length ws)) refl h
  where
    go : (b : Bool) → nat_lt (position_or_len p ws) (length ws) ≡ b → (if b then Some (position_or_len p ws) else None) ≡ Some i → (i < length ws) × (position_or_len p ws ≡ i)
    go true e h = let k : position_or_len p ws ≡ i = same_Some _ _ h in (rw (sym k) (grind (arith, nat_tests)), k)
    go false e h = absurd cc

pub first_is : (p : Waiter → Bool) (ws : List Waiter) (i : ℕ) (d : Waiter) → position p ws ≡ Some i → find p ws ≡ Some (get_or ws i d)
first_is p ws i d h = let k = position_within p ws i h in find_at p ws ∙ ap (slice_get ws) k.1 ∙ slice_get-get_or ws i d k.0

passed : (c : ℕ) (ws : List Waiter) → length ws ≤ position_or_len (waits_on c) ws → (find (waits_on c) ws ≡ None) × (without_first c ws ≡ ws)
passed c [] h = (refl, refl)
passed c (w ∷ ws) h = go (λ k. passed c ws k) (waits_on c w) h
  where
    go : (length ws ≤ position_or_len (waits_on c) ws → (find (waits_on c) ws ≡ None) × (without_first c ws ≡ ws)) → (b : Bool)
        → length (w ∷ ws) ≤ (if not b then (1 + position_or_len (waits_on c) ws) else 0)
        → ((if b then Some w else find (waits_on c) ws) ≡ None) × ((if b then ws else w ∷ without_first c ws) ≡ w ∷ ws)
    go k true h = absurd (omega arith)
    go k false h = let r = k (omega (arith, h)) in (r.0, ap (λ (xs : List Waiter). w ∷ xs) r.1)

pub none_is : (c : ℕ) (ws : List Waiter) → position (waits_on c) ws ≡ None → (find (waits_on c) ws ≡ None) × (without_first c ws ≡ ws)
none_is c ws h = go (nat_lt (position_or_len (waits_on c) ws) (length ws)) refl h
  where
    go : (b : Bool) → nat_lt (position_or_len (waits_on c) ws) (length ws) ≡ b → (if b then Some (position_or_len (waits_on c) ws) else None) ≡ None
        → (find (waits_on c) ws ≡ None) × (without_first c ws ≡ ws)
    go true e h = absurd cc
    go false e h = passed c ws (grind (arith, nat_tests))

one_more : (n : ℕ) → suc n ≡ 1 + n
one_more n = omega arith

pub rest_of_none : (c : ℕ) (ws : List Waiter) → position (waits_on c) ws ≡ None → without_first c ws ≡ ws
rest_of_none c ws h = (none_is c ws h).1

-- where nobody waits on a condition, nobody leaves
pub nobody_leaves : (c : ℕ) (ws : List Waiter) → find (waits_on c) ws ≡ None → without_first c ws ≡ ws
nobody_leaves c [] h = refl
nobody_leaves c (w ∷ ws) h = go (λ k. nobody_leaves c ws k) (waits_on c w) h
  where
    go : (find (waits_on c) ws ≡ None → without_first c ws ≡ ws) → (b : Bool) → (if b then Some w else find (waits_on c) ws) ≡ None
        → (if b then ws else w ∷ without_first c ws) ≡ w ∷ ws
    go k true h = absurd cc
    go k false h = ap (λ (xs : List Waiter). w ∷ xs) (k h)

removed : (c : ℕ) (ws : List Waiter) → position_or_len (waits_on c) ws < length ws → without_first c ws ≡ remove ws (position_or_len (waits_on c) ws)
removed c [] h = absurd (omega arith)
removed c (w ∷ ws) h = go (λ k. removed c ws k) (waits_on c w) h
  where
    go : (position_or_len (waits_on c) ws < length ws → without_first c ws ≡ remove ws (position_or_len (waits_on c) ws)) → (b : Bool)
        → (if not b then (1 + position_or_len (waits_on c) ws) else 0) < length (w ∷ ws)
        → (if b then ws else w ∷ without_first c ws) ≡ remove (w ∷ ws) (if not b then (1 + position_or_len (waits_on c) ws) else 0)
    go k true h = refl
    go k false h = ap (λ (xs : List Waiter). w ∷ xs) (k (omega (arith, h))) ∙ ap (remove (w ∷ ws)) (one_more (position_or_len (waits_on c) ws))

pub rest_is : (c : ℕ) (ws : List Waiter) (i : ℕ) → position (waits_on c) ws ≡ Some i → without_first c ws ≡ remove ws i
rest_is c ws i h = let k = position_within (waits_on c) ws i h in removed c ws (rw k.1 k.0) ∙ ap (remove ws) k.1
