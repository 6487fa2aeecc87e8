use Rattle.pg_region.proofs.Examples as examples
use Rattle.pg_region.proofs.laws.a_gated_loop_has_none.Goals as goal

pub returns : goal.returns
returns c = examples.gated_loop_has_none
