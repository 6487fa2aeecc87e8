use Rattle.pg_slice_back.proofs.RegionWrites.{none_asks, one_asks}
use Rattle.pg_slice_back.proofs.region.asks_one.Goals as goal

pub returns-in-Some-clause-some : goal.returns-in-Some-clause-some
returns-in-Some-clause-some c =
    one_asks _ c.args.k c.access.result c.in-Some.access c.in-Some.is c.access.ensures.access c.asks_written.result c.args.demanded.now c.asks_written.ensures.some

pub returns-in-Some-clause-none : goal.returns-in-Some-clause-none
returns-in-Some-clause-none c =
    none_asks _ c.args.k c.access.result c.in-Some.access c.in-Some.is c.access.ensures.access c.asks_written.result c.args.demanded.now c.asks_written.ensures.none
