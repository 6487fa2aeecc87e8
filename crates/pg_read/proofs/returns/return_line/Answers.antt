use Rattle.std.proofs.Common.{arith, refl, sym, ◌∙◌}
use Rattle.pg_read_grammar.specs.ReaderItems.{return_at}
use Rattle.pg_read.proofs.returns.return_line.Goals as goal

pub returns-clause-read : goal.returns-clause-read
unfolding return_at
returns-clause-read c = let a = c.in_ok-word.ensures.read in let n = sym c.next_is.ensures ∙ c.if-next_is.false in let v = c.in_ok-value.ensures in let m = c.in_ok-to.ensures in let e =
    c.in_ok-blocks.ensures in
    (rw a.0 (rw n (rw v.0 (rw m.0 (rw e refl)))), omega (arith, a.1, v.1, m.1), m.2)
