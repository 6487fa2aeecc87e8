use Rattle.std.proofs.Common.{arith, refl, sym, ◌∙◌}
use Rattle.pg_read_operations.proofs.calls.callee.Goals as goal

pub returns : goal.returns
returns c = let n = sym c.next_in.ensures ∙ c.if-next_in.false in let a = c.in_ok-global.ensures.read in let b = c.in_ok-at.ensures.read in let e = c.in_ok-callee.ensures in let d =
    c.in_ok-arguments.ensures in
    (rw n (rw a.0 (rw b.0 (rw d.0 (rw e refl)))), omega (arith, a.1, b.1, d.1), d.2)
