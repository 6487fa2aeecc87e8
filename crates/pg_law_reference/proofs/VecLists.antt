-- A list as a `Vec` holds it.
use Rattle.std.proofs.Common.{◌≡◌, ◌<◌, ◌^◌, List, length, refl, arith}
use Rattle.std.specs.Global.{Vec}
use denote.RawPtr.{null_ptr}

pub filled : {A : Type 0} (xs : List A) → length xs < 2 ^ 63 → (v : Vec A) × (v.items ≡ xs)
filled xs small = (record { ptr = null_ptr; len = length xs; cap = length xs; alloc = record { memory = record { seal = tt } }; items = xs; ok = (refl, omega arith); small = small }, refl)
