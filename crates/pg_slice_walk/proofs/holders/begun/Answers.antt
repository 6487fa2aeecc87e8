use Rattle.pg_slice_walk.proofs.OpenExtents.{begun_is, begun_not}
use Rattle.pg_slice_walk.proofs.holders.begun.Goals as goal

pub returns-then-is_free-clause-first : goal.returns-then-is_free-clause-first
returns-then-is_free-clause-first c = begun_is _ c.args.number c.args.before c.is_free.result c.if-is_free.true c.is_free.ensures.free

pub returns-else-is_free-clause-first : goal.returns-else-is_free-clause-first
returns-else-is_free-clause-first c = begun_not _ c.args.number c.args.before c.is_free.result c.if-is_free.false c.is_free.ensures.free
