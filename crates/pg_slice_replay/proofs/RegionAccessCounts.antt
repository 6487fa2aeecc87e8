-- How many accesses of a region are kept of a step.
use Rattle.std.proofs.Common.{◌≡◌, List, [], ◌∷◌, length, min, arith}
use Rattle.pg_region_accesses.specs.declared.rooted.Rooted.{Rooted}
use Rattle.pg_slice_replay.specs.declared.at.At.{At}
use Rattle.pg_slice_replay.specs.Paths.{accesses_with}

pub counted : (us : List Rooted) (xs : List At) → min (length us) (length xs) ≡ length (accesses_with us xs)
counted [] xs = omega arith
counted (a ∷ us) [] = omega arith
counted (a ∷ us) (x ∷ xs) = let h = counted us xs in omega (arith, h)
