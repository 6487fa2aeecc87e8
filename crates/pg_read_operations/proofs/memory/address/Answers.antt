use Rattle.std.proofs.Common.{arith, refl}
use Rattle.pg_read_operations.proofs.memory.address.Goals as goal

pub returns : goal.returns
returns c = let e = c.in_ok-at.ensures.read in let f = c.in_ok-pointer.ensures in let g = c.in_ok-at-2.ensures in
    (rw e.0 (rw f.0 (rw g.0 refl)), omega (arith, e.1, f.1, g.1), g.2)
