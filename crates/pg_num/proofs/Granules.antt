-- A place lies in one granule.
use Rattle.std.proofs.Common.{◌≡◌, ℕ, ◌+◌, ◌/◌, ◌%◌, ◌<◌, ◌≤◌, arith}
use Rattle.std.specs.Prelude.{IsTrue}
use Rattle.std.proofs.lemmas.Bool.Decides.{nat_tests}
use Rattle.pg_num.specs.Places.{ByteRange, IsPlace, is_size}
use Rattle.pg_num.specs.declared.layout.TheConstants.{GRANULE_COUNT, MEMORY_BYTES}

aligned_fits : (start n : ℕ) → IsTrue (is_size n) → start % n ≡ 0 → start % 8 + n ≤ 8
aligned_fits start n s h = grind (arith, nat_tests)

pub IsPlace-in_granule : (r : ByteRange) → IsPlace r → r.start % 8 + r.bytes ≤ 8
IsPlace-in_granule r h = aligned_fits r.start r.bytes h.size h.aligned

some_bytes : (n : ℕ) → IsTrue (is_size n) → 1 ≤ n
some_bytes n h = grind (arith, nat_tests)

pub IsPlace-some : (r : ByteRange) → IsPlace r → 1 ≤ r.bytes
IsPlace-some r h = some_bytes r.bytes h.size

pub IsPlace-in_memory : (r : ByteRange) → IsPlace r → r.start / 8 < GRANULE_COUNT
IsPlace-in_memory r h =
    let n : 1 ≤ r.bytes = IsPlace-some r h in
    let m : r.start + r.bytes ≤ MEMORY_BYTES = h.in_memory in
    omega arith
