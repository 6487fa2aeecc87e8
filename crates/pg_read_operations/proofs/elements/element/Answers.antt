use Rattle.std.proofs.Common.{arith, refl}
use Rattle.pg_read_operations.proofs.elements.element.Goals as goal

pub returns : goal.returns
returns c = let b = c.in_ok-at.ensures.read in let d = c.in_ok-pointer.ensures in let e = c.in_ok-more.ensures in
    (rw b.0 (rw d.0 (rw e.0 refl)), omega (arith, b.1, d.1, e.1), e.2)
