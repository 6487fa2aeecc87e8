use Rattle.pg_region.proofs.NestedRegions as within
use Rattle.pg_region.proofs.laws.regions_nest.Goals as goal

pub returns : goal.returns
returns c = λ p gated sums b d v outer inner h k m path l. within.regions_nest p gated sums b d v outer inner h k m path l
