use Rattle.std.proofs.Common.{refl}
use Rattle.pg_read_operations.proofs.numbers.cast_end.Goals as goal

pub returns : goal.returns
returns c = let e = c.in_ok-ty.ensures in let o = c.cast_op-op.ensures in
    (rw e.0 (rw o refl), e.1, e.2)
