use Rattle.std.proofs.Common.{drop, sym, ◌∙◌, arith}
use Rattle.pg_read_grammar.specs.declared.class.Class.TheVariants.{Flag}
use Rattle.pg_read_grammar.specs.Classes.{is}
use Rattle.pg_read_grammar.specs.Reading.{take_one}
use Rattle.pg_read_grammar.specs.Reader.{flags_at}
use Rattle.pg_read_grammar.proofs.Loops.{rests_token, rests_stop, token_comes}
use Rattle.pg_read_terms.proofs.skips.flags.Goals as goal

pub loop-place-preserved : goal.loop-place-preserved
loop-place-preserved c = let i = c.loop-place.invariant in let h = sym c.next_is.ensures ∙ c.loop-place-test.true in (
  omega (arith, i.0),
  omega (arith, (token_comes (is Flag) c.args.tokens.now c.loop-place.place h).2),
  rests_token (is Flag) c.args.tokens.now c.loop-place.place (flags_at (drop c.args.at c.args.tokens.now)) i.2 h,
)

pub returns-clause-read : goal.returns-clause-read
returns-clause-read c = rests_stop (is Flag) (take_one (is Flag)) (drop c.loop-place.place c.args.tokens.now) (flags_at (drop c.args.at c.args.tokens.now)) c.loop-place.invariant.2
    (sym c.next_is.ensures ∙ c.loop-place-test.false)
