use Rattle.std.proofs.Common.{arith, refl}
use Rattle.pg_read_operations.proofs.phi.phi.Goals as goal

pub returns-clause-read : goal.returns-clause-read
returns-clause-read c = let a = c.in_ok-word.ensures.read in let b = c.in_ok-ty.ensures in let d = c.in_ok-first.ensures.read in let e = c.in_ok-more.ensures in
    (rw a.0 (rw b.0 (rw d.0 (rw e.0 refl))), omega (arith, a.1, b.1, d.1, e.1), e.2)
