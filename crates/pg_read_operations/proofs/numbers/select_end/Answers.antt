use Rattle.std.proofs.Common.{arith, refl}
use Rattle.pg_read_operations.proofs.numbers.select_end.Goals as goal

pub returns : goal.returns
returns c = let e = c.in_ok-yes.ensures in let g = c.in_ok-no.ensures in
    (rw e.0 (rw g.0 refl), omega (arith, e.1, g.1), g.2)
