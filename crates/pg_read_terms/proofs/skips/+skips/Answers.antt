use Rattle.std.proofs.Common.{drop, sym, ◌∙◌, arith}
use Rattle.pg_read_grammar.specs.Reader.{skip_at, bracketed_at, inside_at, brackets}
use Rattle.pg_read_grammar.proofs.Loops.{rests_next, rests_stop, rests_refuses}
use Rattle.pg_read_terms.proofs.skips.+skips.Goals as goal

pub inside-returns-in-Err : goal.inside-returns-in-Err
inside-returns-in-Err t c = let i = c.loop-error.invariant in
    rests_refuses brackets (bracketed_at (skip_at c.args.depth)) c.args.tokens.now c.args.at c.loop-error.place
    (inside_at (skip_at c.args.depth) (drop c.args.at c.args.tokens.now)) c.in-Err.error i.2 (sym c.next_in.ensures ∙ c.loop-error-test.true) i.0 c.in-Err.ensures.read

pub inside-loop-error-preserved : goal.inside-loop-error-preserved
inside-loop-error-preserved t c = let i = c.loop-error.invariant in let o = c.in-Ok.ensures.read in (
  omega (arith, i.0, o.1),
  o.2,
  rests_next brackets (bracketed_at (skip_at c.args.depth)) c.args.tokens.now c.loop-error.place c.in-Ok.to tt
      (inside_at (skip_at c.args.depth) (drop c.args.at c.args.tokens.now)) i.2 (sym c.next_in.ensures ∙ c.loop-error-test.true) o.0 c.in-Ok.ensures.on o.2,
)

pub inside-returns : goal.inside-returns
inside-returns t c = let i = c.loop-error.invariant in (
  rests_stop brackets (bracketed_at (skip_at c.args.depth)) (drop c.loop-error.place c.args.tokens.now) (inside_at (skip_at c.args.depth) (drop c.args.at c.args.tokens.now)) i.2
      (sym c.next_in.ensures ∙ c.loop-error-test.false),
  i.0,
  i.1,
)
