-- A list each of whose elements is read, as far as its first elements.
use Rattle.std.proofs.Common.{◌≡◌, ℕ, zero, suc, ◌+◌, ◌<◌, List, [], ◌∷◌, ◌++◌, length, get_or, take, map, ℤ, Option, Some, None, add-one, arith, take-suc}
use Rattle.std.proofs.lemmas.List.{map-append}

pub mapped-more : {X : Type 0} (read : List ℕ → Option ℤ) (view : X → List ℕ) (xs : List X) (i : ℕ) (d : X) (ns : List ℤ) (n : ℤ) → i < length xs
    → map read (map view (take i xs)) ≡ map Some ns → read (view (get_or xs i d)) ≡ Some n → map read (map view (take (i + 1) xs)) ≡ map Some (ns ++ n ∷ [])
mapped-more read view xs i d ns n inside so_far here =
    rw (add-one, take-suc xs i d inside, map-append, map-append, map-append, so_far, here)

-- one that is not read refutes each list of values
pub mapped-none : {X : Type 0} (read : List ℕ → Option ℤ) (view : X → List ℕ) (xs : List X) (i : ℕ) (d : X) → i < length xs → read (view (get_or xs i d)) ≡ None
    → (ns : List ℤ) → map read (map view xs) ≡ map Some ns → ⊥
mapped-none read view [] i d inside none ns e = omega arith
mapped-none read view (y ∷ ys) zero d inside none [] e = cc
mapped-none read view (y ∷ ys) zero d inside none (n ∷ ns) e = cc
mapped-none read view (y ∷ ys) (suc i) d inside none [] e = cc
mapped-none read view (y ∷ ys) (suc i) d inside none (n ∷ ns) e =
    mapped-none read view ys i d (omega arith) none ns (cc)
