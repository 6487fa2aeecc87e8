-- The steps of a run by their numbers.
use Rattle.std.proofs.Common.{◌≡◌, ℕ, zero, suc, ◌<◌, ℤ, List, [], ◌∷◌, Some, length, slice_get, refl, arith}
use Rattle.std.specs.Prelude.{slice_index_or}
use Rattle.pg_ir.specs.declared.ids.InstrId.{InstrId}
use Rattle.pg_ir.specs.Program.{NumberedProgram}
use Rattle.pg_schedule.specs.declared.interval.Interval.{Interval}
use Rattle.pg_schedule.specs.declared.interval.Turns.TheVariants.{Recorded}
use Rattle.pg_schedule.specs.Intervals.{intervals_of}
use Rattle.pg_run_trace.specs.declared.step.Step.{Step}
use Rattle.pg_slice_rules.specs.Moments.{Moment, moments_of}
use Rattle.pg_slice_back.proofs.of_pg_slice_passes.OneStepMore.{has_moment}

an_interval : Interval
an_interval = record { low = 0; high = 0 }

pub index_same : {A : Type 0} (ys : List A) (n : ℕ) (z : A) → slice_index_or ys n z ≡ slice_index_or ys n (slice_index_or ys n z)
index_same [] n z = refl
index_same (y ∷ ys) zero z = refl
index_same (y ∷ ys) (suc n) z = index_same ys n z

pub has_at : (xs : List Step) (gated : List InstrId) (p : NumberedProgram) (input : List ℤ) (n : ℕ) (x : Step) → slice_get xs n ≡ Some x →
    (m : Moment) × (slice_get (moments_of gated p input xs) n ≡ Some m) × (m.did.did ≡ x)
has_at xs gated p input n x h =
    let k = has_moment gated p input xs n x (slice_index_or (intervals_of Recorded xs) n an_interval) (intervals_of Recorded xs) refl h (index_same (intervals_of Recorded xs) n an_interval) in
    (k.moment, k.stands, k.did)

pub get_below : {A : Type 0} (xs : List A) (n : ℕ) (x : A) → slice_get xs n ≡ Some x → n < length xs
get_below [] n x h = absurd cc
get_below (y ∷ xs) zero x h = omega arith
get_below (y ∷ xs) (suc n) x h = let l = get_below xs n x h in omega (arith, l)

pub get_there : {A : Type 0} (xs : List A) (n : ℕ) → n < length xs → (x : A) × (slice_get xs n ≡ Some x)
get_there [] n l = absurd (omega (arith, l))
get_there (y ∷ xs) zero l = (y, refl)
get_there (y ∷ xs) (suc n) l = get_there xs n (omega (arith, l))
