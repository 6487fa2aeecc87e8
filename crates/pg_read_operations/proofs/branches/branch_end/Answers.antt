use Rattle.std.proofs.Common.{refl}
use Rattle.pg_read_operations.proofs.branches.branch_end.Goals as goal

pub returns : goal.returns
returns c = let e = c.in_ok-yes.ensures in (rw e.0 refl, e.1, e.2)
