use Rattle.std.proofs.Common.{refl}
use Rattle.pg_run_trace.specs.Races.{races_below}
use Rattle.pg_law_order.proofs.examples.a_step_behind_the_last_turn_is_left_out.Goals as goal

pub returns : goal.returns
unfolding races_below
returns c = refl
