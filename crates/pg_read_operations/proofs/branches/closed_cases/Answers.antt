use Rattle.std.proofs.Common.{arith, refl, sym, ◌∙◌}
use Rattle.pg_read_operations.proofs.branches.closed_cases.Goals as goal

pub returns : goal.returns
returns c = let g = c.in_ok-all.ensures in let n = sym c.next_in.ensures ∙ c.if-next_in.false in let h = c.in_ok-at.ensures.read in
    (rw g.0 (rw n (rw h.0 refl)), omega (arith, g.1, h.1), h.2)
