use Rattle.std.proofs.Common.{arith, refl}
use Rattle.pg_read.proofs.functions.define_end.Goals as goal

pub returns : goal.returns
returns c = let a = c.in_ok-result.ensures in let b = c.in_ok-name.ensures in
    (rw a.0 (rw b.0 refl), omega (arith, a.1, b.1), b.2)
