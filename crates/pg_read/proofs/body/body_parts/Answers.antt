use Rattle.std.proofs.Common.{drop, sym, ◌∙◌, arith}
use Rattle.pg_read_grammar.specs.ReaderItems.{begins_next, next_part_at, body_end_at}
use Rattle.pg_read.specs.BodyParts.{body_of, parts_at}
use Rattle.pg_read_grammar.proofs.Loops.{runs_next, runs_stop, runs_fails, reads_on}
use Rattle.pg_read.proofs.body.body_parts.Goals as goal

pub returns-in-Err : goal.returns-in-Err
returns-in-Err c = let i = c.reading.invariant in
    runs_fails begins_next next_part_at body_end_at (body_of c.reading.body) c.args.text.now.tokens.now c.args.at c.reading.place
    (parts_at (drop c.args.at c.args.text.now.tokens.now)) c.in-Err.error i.2 (sym c.part_next.ensures ∙ c.reading-test.true) i.0 c.in-Err.ensures.read

pub reading-preserved : goal.reading-preserved
reading-preserved c = let i = c.reading.invariant in let o = c.in-Ok.ensures.read in (
  omega (arith, i.0, o.1),
  o.2,
  runs_next begins_next next_part_at body_end_at (body_of c.reading.body) (body_of c.in-Ok.next) c.args.text.now.tokens.now c.reading.place c.in-Ok.to
      (parts_at (drop c.args.at c.args.text.now.tokens.now)) i.2 (sym c.part_next.ensures ∙ c.reading-test.true) o.0 c.in-Ok.ensures.on o.2,
)

pub returns : goal.returns
returns c = let i = c.reading.invariant in
    reads_on c.body_end.result _ _ c.args.text.now.tokens.now c.args.at c.reading.place (body_end_at (body_of c.reading.body) (drop c.reading.place c.args.text.now.tokens.now))
    (parts_at (drop c.args.at c.args.text.now.tokens.now)) c.body_end.ensures
    (runs_stop begins_next next_part_at body_end_at (body_of c.reading.body) (drop c.reading.place c.args.text.now.tokens.now) (parts_at (drop c.args.at c.args.text.now.tokens.now)) i.2
    (sym c.part_next.ensures ∙ c.reading-test.false)) i.0
