use Rattle.std.proofs.Common.{arith, refl}
use Rattle.pg_read.proofs.lines.debug_tail.Goals as goal

pub returns : goal.returns
returns c = let a = c.in_ok-at.ensures.read in let s = c.in_ok-to.ensures in let e = c.in_ok-blocks.ensures in
    (rw a.0 (rw s.0 (rw e refl)), omega (arith, a.1, s.1), s.2)
