use Rattle.std.proofs.Common.{arith, refl}
use Rattle.pg_read_operations.proofs.branches.ways.Goals as goal

pub returns : goal.returns
returns c = let d = c.in_ok-at.ensures.read in let e = c.in_ok-other.ensures.read in let f = c.in_ok-at-2.ensures.read in let g = c.in_ok-all.ensures in
    (rw d.0 (rw e.0 (rw f.0 (rw g.0 refl))), omega (arith, d.1, e.1, f.1, g.1), g.2)
