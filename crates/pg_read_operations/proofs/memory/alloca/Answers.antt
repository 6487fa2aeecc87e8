use Rattle.std.proofs.Common.{arith, refl}
use Rattle.pg_read_operations.proofs.memory.alloca.Goals as goal

pub returns-clause-read : goal.returns-clause-read
returns-clause-read c = let a = c.in_ok-word.ensures.read in let b = c.in_ok-ty.ensures in let d = c.in_ok-count.ensures in
    (rw a.0 (rw b.0 (rw d.0 refl)), omega (arith, a.1, b.1, d.1), d.2)
