use Rattle.std.proofs.Common.{arith, refl}
use Rattle.pg_read.proofs.functions.opened.Goals as goal

pub returns : goal.returns
returns c = let a = c.in_ok-token.ensures.read in let b = c.in_ok-at.ensures.read in let n = c.in_ok-name.ensures in
    (rw a.0 (rw b.0 (rw n refl)), omega (arith, a.1, b.1), b.2)
