use Rattle.pg_slice_walk.proofs.OpenExtents.{none_leave}
use Rattle.pg_slice_walk.proofs.holders.left_open.Goals as goal

pub returns-in-None-clause-left : goal.returns-in-None-clause-left
returns-in-None-clause-left c = none_leave c.args.reference.now c.args.holders.now c.args.inner c.args.depth c.args.edge c.in-None.is
