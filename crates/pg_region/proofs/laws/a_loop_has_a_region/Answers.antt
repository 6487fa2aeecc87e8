use Rattle.pg_region.proofs.Examples as examples
use Rattle.pg_region.proofs.laws.a_loop_has_a_region.Goals as goal

pub returns : goal.returns
returns c = examples.loop_has_region
