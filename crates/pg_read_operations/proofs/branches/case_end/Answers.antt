use Rattle.std.proofs.Common.{refl}
use Rattle.pg_read_operations.proofs.branches.case_end.Goals as goal

pub returns-clause-read : goal.returns-clause-read
returns-clause-read c = let e = c.in_ok-block.ensures.read in (rw e.0 refl, e.1, e.2)
