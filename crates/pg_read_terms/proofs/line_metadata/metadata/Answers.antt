use Rattle.std.proofs.Common.{drop, sym, ◌∙◌, arith}
use Rattle.pg_read_grammar.specs.declared.class.Class.TheVariants.{Comma}
use Rattle.pg_read_grammar.specs.Classes.{is}
use Rattle.pg_read_grammar.specs.ReaderOps.{pair_at, metadata_at}
use Rattle.pg_read_grammar.proofs.Loops.{rests_next, rests_stop, rests_refuses}
use Rattle.pg_read_terms.proofs.line_metadata.metadata.Goals as goal

pub returns-in-Err : goal.returns-in-Err
returns-in-Err c = let i = c.loop-error.invariant in
    rests_refuses (is Comma) pair_at c.args.tokens.now c.args.at c.loop-error.place (metadata_at (drop c.args.at c.args.tokens.now)) c.in-Err.error i.2
    (sym c.next_is.ensures ∙ c.loop-error-test.true) i.0 c.in-Err.ensures.read

pub loop-error-preserved : goal.loop-error-preserved
loop-error-preserved c = let i = c.loop-error.invariant in let o = c.in-Ok.ensures.read in (
  omega (arith, i.0, o.1),
  o.2,
  rests_next (is Comma) pair_at c.args.tokens.now c.loop-error.place c.in-Ok.to _ (metadata_at (drop c.args.at c.args.tokens.now)) i.2
      (sym c.next_is.ensures ∙ c.loop-error-test.true) o.0 c.in-Ok.ensures.on o.2,
)

pub returns : goal.returns
returns c = let i = c.loop-error.invariant in
    (rests_stop (is Comma) pair_at (drop c.loop-error.place c.args.tokens.now) (metadata_at (drop c.args.at c.args.tokens.now)) i.2 (sym c.next_is.ensures ∙ c.loop-error-test.false), i.0, i.1)
