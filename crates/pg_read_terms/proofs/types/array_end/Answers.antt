use Rattle.std.proofs.Common.{drop, ap}
use Rattle.pg_read_grammar.specs.Grammar.{literal_of}
use Rattle.pg_read_grammar.specs.Reading.{Good}
use Rattle.pg_read_ast.specs.Syntax.{Ty}
use Rattle.pg_read_terms.proofs.Nodes.{array_is}
use Rattle.pg_read_terms.proofs.types.array_end.Goals as goal

pub returns : goal.returns
returns c = let f = c.in_ok-at.ensures.read in (
  rw f.0 (ap (λ (x : Ty). Good x (drop c.in_ok-at.at c.args.text.now.tokens.now))
      (array_is c.args.bracket.now.span c.in_ok-number.number (literal_of c.args.count.now) c.args.element c.in-Ok.boxed c.in_ok-number.ensures c.in-Ok.ensures.ok)),
  f.1,
  f.2,
)
