use Rattle.pg_law_instances.proofs.InnerRegions.{lies_within}
use Rattle.pg_law_instances.proofs.laws.inner_regions_lie_within.Goals as goal

pub returns : goal.returns
returns c = λ p gated sums input b outer inner q first s l0 l f0 frame fs0 below t x o h e at i. lies_within p gated sums input b outer inner q first s l0 l f0 frame fs0 below t x o h e at i
