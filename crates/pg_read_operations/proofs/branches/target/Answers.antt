use Rattle.std.proofs.Common.{arith, refl}
use Rattle.pg_read_operations.proofs.branches.target.Goals as goal

pub returns-clause-read : goal.returns-clause-read
returns-clause-read c = let a = c.in_ok-at.ensures.read in let b = c.in_ok-label.ensures.read in let n = c.in_ok-name.ensures in
    (rw a.0 (rw b.0 (rw n refl)), omega (arith, a.1, b.1), b.2)
