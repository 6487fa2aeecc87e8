-- Footprints that are added in order.
use Rattle.std.proofs.Common.{ℕ, ◌≢◌, ◌+◌, ◌/◌, ◌≤◌, List, [], ◌∷◌, ◌++◌, arith}
use Rattle.std.specs.List.{AllByRecursion}
use Rattle.std.proofs.Math.Nat.{div-mul-le_self}
use Rattle.std.proofs.lemmas.Nat.{le-div}
use Rattle.pg_slice_conflicts.specs.declared.footprint.Footprint.{Footprint}
use Rattle.pg_slice_conflicts.specs.Meets.{InOrder}

push_all : {A : Type 0} (P : A → Type 0) (xs : List A) (y : A) → AllByRecursion P xs → P y → AllByRecursion P (xs ++ y ∷ [])
push_all P [] y a q = (q, tt)
push_all P (x ∷ xs) y a q = (a.0, push_all P xs y a.1 q)

-- the last turn of each is no later than turn k
abbrev pub AreUpTo : ℕ → List Footprint → Type 0
AreUpTo k xs = AllByRecursion (λ (x : Footprint). x.low ≤ k) xs

pub order_push : (k : ℕ) (xs : List Footprint) (y : Footprint) → k ≤ y.high → AreUpTo k xs → InOrder xs → InOrder (xs ++ y ∷ [])
order_push k [] y h a o = (tt, tt)
order_push k (x ∷ xs) y h a o =
    let l = a.0 in
    (push_all (λ (z : Footprint). x.thread.0 ≢ z.thread.0 → x.low ≤ z.high) xs y o.0 (λ n. omega (arith, l, h)), order_push k xs y h a.1 o.1)

later : (k m : ℕ) (xs : List Footprint) → k ≤ m → AreUpTo k xs → AreUpTo m xs
later k m [] le a = tt
later k m (x ∷ xs) le a = let l = a.0 in (omega (arith, l, le), later k m xs le a.1)

pub up_push : (k m : ℕ) (xs : List Footprint) (y : Footprint) → k ≤ m → y.low ≤ m → AreUpTo k xs → AreUpTo m (xs ++ y ∷ [])
up_push k m xs y le l a = push_all (λ (x : Footprint). x.low ≤ m) xs y (later k m xs le a) l

-- the turn of the next number is none earlier
pub next_turn : (k : ℕ) → k / 8 ≤ (k + 1) / 8
next_turn k = let l = div-mul-le_self k 8 in le-div (k / 8) (k + 1) 8 (omega arith) (omega (arith, l))
