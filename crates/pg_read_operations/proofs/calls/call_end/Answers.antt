use Rattle.std.proofs.Common.{arith, refl, sym, ◌∙◌}
use Rattle.pg_read_operations.proofs.calls.call_end.Goals as goal

pub returns : goal.returns
returns c = let s = c.in_ok-ty.ensures in let n = sym c.next_is.ensures ∙ c.if-next_is.false in let e = c.in_ok-callee.ensures in
    (rw s.0 (rw n (rw e.0 refl)), omega (arith, s.1, e.1), e.2)
