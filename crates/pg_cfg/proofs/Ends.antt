-- A graph as it is kept: all edges in one list, cut at the ends of the vertices.
use Rattle.std.proofs.Common.{◌≡◌, ℕ, zero, suc, ◌-◌, ◌<◌, ◌≤◌, List, [], ◌∷◌, ◌++◌, length, get_or, take, drop, refl, ap, arith, length-append, length-drop}
use Rattle.std.specs.Prelude.{slice_range}
use Rattle.std.proofs.lemmas.List.{take-append-le, drop-append-le}
use Rattle.std.proofs.Math.Seq.{drop-append_seam, take-length}
use Rattle.pg_cfg.specs.Graphs.{lists_from, AreEnds, start_in, targets_of}

pub length_lists : (s : ℕ) (es ts : List ℕ) → length (lists_from s es ts) ≡ length es
length_lists s [] ts = refl
length_lists s (e ∷ es) ts = ap suc (length_lists e es ts)

-- no start is behind the last end
pub start_below : (s : ℕ) (es : List ℕ) (n : ℕ) → AreEnds s es n → s ≤ n
start_below s [] n h = omega (arith, h)
start_below s (e ∷ es) n h = omega (arith, h.0, start_below e es n h.1)

pub end_below : (s : ℕ) (es : List ℕ) (n v : ℕ) → AreEnds s es n → v < length es → get_or es v 0 ≤ n
end_below s [] n v h lt = omega arith
end_below s (e ∷ es) n zero h lt = start_below e es n h.1
end_below s (e ∷ es) n (suc v) h lt = end_below e es n v h.1 (omega arith)

pub start_at : (s : ℕ) (es : List ℕ) (n v : ℕ) → AreEnds s es n → v < length es → start_in s es v ≤ get_or es v 0
start_at s [] n v h lt = omega arith
start_at s (e ∷ es) n zero h lt = h.0
start_at s (e ∷ es) n (suc zero) h lt = start_at e es n zero h.1 (omega arith)
start_at s (e ∷ es) n (suc (suc v)) h lt = start_at e es n (suc v) h.1 (omega arith)

-- the targets of a vertex are the edges between its start and its end
pub targets_at : (s : ℕ) (es ts : List ℕ) (v : ℕ) → v < length es → targets_of (lists_from s es ts) v ≡ take (get_or es v 0 - start_in s es v) (drop (start_in s es v) ts)
unfolding targets_of
targets_at s [] ts v lt = absurd (omega arith)
targets_at s (e ∷ es) ts zero lt = refl
targets_at s (e ∷ es) ts (suc zero) lt = targets_at e es ts zero (omega arith)
targets_at s (e ∷ es) ts (suc (suc v)) lt = targets_at e es ts (suc v) (omega arith)

pub ends_push : (s : ℕ) (es : List ℕ) (n m : ℕ) → AreEnds s es n → n ≤ m → AreEnds s (es ++ m ∷ []) m
ends_push s [] n m h le = (omega (arith, h), refl)
ends_push s (e ∷ es) n m h le = (h.0, ends_push e es n m h.1 le)

range_kept : (ts xs : List ℕ) (s e : ℕ) → s ≤ e → e ≤ length ts → slice_range (ts ++ xs) s e ≡ slice_range ts s e
range_kept ts xs s e lo le =
    let a : s ≤ length ts = omega arith in
    let b : e - s ≤ length (drop s ts) = omega (arith, length-drop s ts) in
    rw drop-append-le (rw take-append-le refl)

range_last : (ts xs : List ℕ) (s : ℕ) → s ≡ length ts → slice_range (ts ++ xs) s (length (ts ++ xs)) ≡ xs
range_last ts xs s e = rw e (rw drop-append_seam (rw last_count (take-length xs)))
  where
    last_count : length (ts ++ xs) - length ts ≡ length xs
    last_count = omega (arith, length-append ts xs)

pub lists_push : (s : ℕ) (es ts xs : List ℕ) → AreEnds s es (length ts) → lists_from s (es ++ length (ts ++ xs) ∷ []) (ts ++ xs) ≡ lists_from s es ts ++ xs ∷ []
lists_push s [] ts xs h = ap (λ l. l ∷ []) (range_last ts xs s h)
lists_push s (e ∷ es) ts xs h = rw (range_kept ts xs s e h.0 (start_below e es (length ts) h.1)) (ap (λ l. slice_range ts s e ∷ l) (lists_push e es ts xs h.1))
