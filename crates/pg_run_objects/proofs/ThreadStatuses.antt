-- The list of threads after one or all of them have changed.
use Rattle.std.proofs.Common.{◌≡◌, ℕ, ◌+◌, ◌<◌, List, [], ◌∷◌, ◌++◌, length, take, drop, refl, ap, ◌∙◌, arith, get_or, zero, suc, add-one}
use Rattle.std.specs.Prelude.{slice_set, map}
use Rattle.pg_run_objects.specs.declared.status.Status.{Status}

get_mapped : (f : Status → Status) (xs : List Status) (i : ℕ) (d : Status) → i < length xs → get_or (map f (take i xs) ++ drop i xs) i d ≡ get_or xs i d
get_mapped f [] i d h = absurd (omega arith)
get_mapped f (x ∷ xs) zero d h = refl
get_mapped f (x ∷ xs) (suc i) d h = get_mapped f xs i d (omega (arith, h))

set_mapped : (f : Status → Status) (xs : List Status) (i : ℕ) (d : Status) → i < length xs
    → slice_set (map f (take i xs) ++ drop i xs) i (f (get_or xs i d)) ≡ map f (take (suc i) xs) ++ drop (suc i) xs
set_mapped f [] i d h = absurd (omega arith)
set_mapped f (x ∷ xs) zero d h = refl
set_mapped f (x ∷ xs) (suc i) d h = ap (λ (ys : List Status). f x ∷ ys) (set_mapped f xs i d (omega (arith, h)))

pub map_step : (f : Status → Status) (xs ys : List Status) (i : ℕ) (d : Status) → i < length xs → ys ≡ map f (take i xs) ++ drop i xs
    → slice_set ys i (f (get_or ys i d)) ≡ map f (take (i + 1) xs) ++ drop (i + 1) xs
map_step f xs ys i d l e =
    ap (λ (zs : List Status). slice_set zs i (f (get_or zs i d))) e
    ∙ ap (λ (x : Status). slice_set (map f (take i xs) ++ drop i xs) i (f x)) (get_mapped f xs i d l)
    ∙ rw add-one (set_mapped f xs i d l)
