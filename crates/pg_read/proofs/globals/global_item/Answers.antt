use Rattle.std.proofs.Common.{arith, refl}
use Rattle.pg_read_grammar.specs.ReaderItems.{global_item_at}
use Rattle.pg_read.proofs.globals.global_item.Goals as goal

pub returns-clause-read : goal.returns-clause-read
unfolding global_item_at
returns-clause-read c = let a = c.in_ok-token.ensures.read in let b = c.in_ok-at.ensures.read in let d = c.in_ok-at-2.ensures in let e = c.in_ok-is_constant.ensures in let n =
    c.in_ok-name.ensures in let t = c.in_ok-ty.ensures in let v = c.in_ok-value.ensures in
    (rw a.0 (rw b.0 (rw d.0 (rw e.0 (rw t.0 (rw v.0 (rw n refl)))))), omega (arith, a.1, b.1, d.1, e.1, t.1, v.1), v.2)
