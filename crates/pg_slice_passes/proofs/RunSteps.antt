-- The steps of a run, one after another.
use Rattle.std.proofs.Common.{◌≡◌, ℕ, zero, suc, ◌+◌, List, [], ◌∷◌, ◌++◌, take, Some, slice_get, refl, ap, sym, ◌∙◌, arith}
use Rattle.pg_slice_rules.specs.Known.{Reference, SymbolicState, Seen, Taken, after_step, seen_from}
use Rattle.pg_slice_rules.specs.Moments.{Moment}
use Rattle.pg_law_demands.specs.Along.{known_from}
use Rattle.pg_slice_passes.specs.Along.{step_from}

pub known_more : (R : Reference) (d : Taken) (n k : ℕ) (s : SymbolicState) (ms : List Moment) (m : Moment) → slice_get ms k ≡ Some m →
    known_from R d n s (take (suc k) ms) ≡ after_step R d (n + k) m (known_from R d n s (take k ms))
unfolding known_from
known_more R d n zero s [] m e = absurd cc
known_more R d n (suc k) s [] m e = absurd cc
known_more R d n zero s (x ∷ ms) m e = let h : x ≡ m = cc in let z : n + 0 ≡ n = omega arith in rw z (ap (λ (y : Moment). after_step R d n y s) h)
known_more R d n (suc k) s (x ∷ ms) m e = let z : n + suc k ≡ suc n + k = omega arith in rw z (known_more R d (suc n) k (after_step R d n x s) ms m e)

pub steps_more : (R : Reference) (d : Taken) (n k : ℕ) (s : SymbolicState) (ms : List Moment) (m : Moment) → slice_get ms k ≡ Some m →
    take (suc k) (seen_from R d n s ms) ≡ take k (seen_from R d n s ms) ++ step_from R d (n + k) (known_from R d n s (take k ms)) m ∷ []
unfolding seen_from known_from
steps_more R d n zero s [] m e = absurd cc
steps_more R d n (suc k) s [] m e = absurd cc
steps_more R d n zero s (x ∷ ms) m e = let h : x ≡ m = cc in let z : n + 0 ≡ n = omega arith in rw z (ap (λ (y : Moment). step_from R d n s y ∷ []) h)
steps_more R d n (suc k) s (x ∷ ms) m e =
    let z : n + suc k ≡ suc n + k = omega arith in
    rw z (ap (λ (ys : List Seen). step_from R d n s x ∷ ys) (steps_more R d (suc n) k (after_step R d n x s) ms m e))
