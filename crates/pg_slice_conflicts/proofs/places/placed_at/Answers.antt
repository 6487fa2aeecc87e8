use Rattle.std.proofs.Common.{arith}
use Rattle.pg_slice_conflicts.proofs.places.placed_at.Goals as goal

pub returns-clause-placed : goal.returns-clause-placed
returns-clause-placed c = record { low = omega arith; high = omega arith; first = c.place.ensures; end = c.place_of_end.ensures; start = c.requires.start }
