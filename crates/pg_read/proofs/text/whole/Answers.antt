use Rattle.std.proofs.Common.{drop, None}
use Rattle.pg_read_grammar.specs.ReaderItems.{program_at}
use Rattle.pg_read_ast.specs.Views.{tree_of}
use Rattle.pg_read_grammar.proofs.TextLaws.{ended_long}
use Rattle.pg_read.proofs.text.whole.Goals as goal

pub returns-then-at-tokens-clause-refused : goal.returns-then-at-tokens-clause-refused
returns-then-at-tokens-clause-refused c n =
    let ts = c.args.tokens.now in
    (None, drop c.in-Ok.at ts, ended_long (program_at ts) (tree_of c.in-Ok.tree) ts c.in-Ok.at c.in-Ok.ensures.0 c.if-at-tokens.true, c.refused-then-at-tokens.ensures)
