use Rattle.std.proofs.Common.{arith, refl}
use Rattle.pg_read_operations.proofs.phi.label.Goals as goal

pub returns : goal.returns
returns c = let d = c.in_ok-at.ensures.read in let e = c.in_ok-local.ensures.read in let f = c.in_ok-at-2.ensures.read in let n = c.in_ok-block.ensures in
    (rw d.0 (rw e.0 (rw f.0 (rw n refl))), omega (arith, d.1, e.1, f.1), f.2)
