use Rattle.std.proofs.Common.{◌≡◌, map, take, All}
use Rattle.pg_slice_conflicts.specs.Places.{IsPlaced, footprint_of}
use Rattle.pg_slice_conflicts.proofs.places.place_all.Given as goal

abbrev pub invariant-loop-i : goal.invariant-loop-i
invariant-loop-i l = All (IsPlaced l.bytes) l.placed.items × (map footprint_of l.placed.items ≡ take l.i l.footprints)
