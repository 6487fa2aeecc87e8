use Rattle.std.proofs.Common.{arith, refl}
use Rattle.pg_read_grammar.specs.ReaderItems.{param_at}
use Rattle.pg_read.proofs.params.param.Goals as goal

pub returns : goal.returns
unfolding param_at
returns c = let a = c.in_ok-ty.ensures in let b = c.in_ok-at.ensures in let d = c.in_ok-name.ensures in
    (rw a.0 (rw b.0 (rw d.0 refl)), omega (arith, a.1, b.1, d.1), d.2)
