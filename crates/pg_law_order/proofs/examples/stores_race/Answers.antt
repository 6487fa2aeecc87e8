use Rattle.std.proofs.Common.{refl}
use Rattle.pg_run_trace.specs.Races.{races_below}
use Rattle.pg_law_order.proofs.examples.stores_race.Goals as goal

pub returns : goal.returns
unfolding races_below
returns c = record { order = refl; races = refl; turns = refl; replies = refl }
