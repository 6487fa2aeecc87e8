use Rattle.std.proofs.Common.{◌≡◌, map, take}
use Rattle.pg_slice_conflicts.specs.Places.{start_of}
use Rattle.pg_slice_conflicts.proofs.places.starts.Given as goal

abbrev pub invariant-loop-footprint : goal.invariant-loop-footprint
invariant-loop-footprint l = l.starts.items ≡ map start_of (take l.footprint-index l.footprints)
