-- The place of an access: an aligned range of one granule, within the pointer's bounds.
use Rattle.std.proofs.Common.{◌≡◌, ℕ, ◌+◌, ◌*◌, ◌/◌, ◌%◌, ◌≤◌, arith}
use Rattle.std.specs.Prelude.{IfOk, IsTrue}
use Rattle.std.proofs.lemmas.Bool.Decides.{nat_tests}
use Rattle.pg_num.specs.Places.{IsPlace, IsWithinGranule, is_size}
use Rattle.pg_num.specs.Pointers.{place_of, pointer_of}

pub place_of-is_place : (word bytes : ℕ) → IsTrue (is_size bytes) → IfOk (place_of word bytes) (λ r. IsPlace r)
place_of-is_place word bytes s = grind (arith, nat_tests)

pub place_of-in_granule : (word bytes : ℕ) → IsTrue (is_size bytes) → IfOk (place_of word bytes) (λ r. IsWithinGranule (r.start / 8) (r.start % 8) r.bytes)
place_of-in_granule word bytes s = grind (arith, nat_tests)

pub place_of-bytes : (word bytes : ℕ) → IfOk (place_of word bytes) (λ r. r.bytes ≡ bytes)
place_of-bytes word bytes = grind (arith, nat_tests)

pub place_of-start : (word bytes : ℕ) → IfOk (place_of word bytes) (λ r. r.start ≡ 8 * (pointer_of word).start + (pointer_of word).offset)
place_of-start word bytes = grind (arith, nat_tests)

pub place_of-in_bounds : (word bytes : ℕ) → IfOk (place_of word bytes) (λ r. r.start + r.bytes ≤ 8 * (pointer_of word).start + (pointer_of word).length)
place_of-in_bounds word bytes = grind (arith, nat_tests)
