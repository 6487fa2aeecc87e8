use Rattle.std.proofs.Common.{drop, arith, sym}
use Rattle.pg_read_grammar.specs.GrammarOps.{binary_of}
use Rattle.pg_read_grammar.specs.ReaderOps.{binary_at}
use Rattle.pg_read_ast.specs.Syntax as syntax
use Rattle.pg_read_operations.specs.Rows.{binary_end_at}
use Rattle.pg_read_grammar.proofs.Loops.{reads_on}
use Rattle.pg_read_operations.proofs.Grouped.{operands_grouped}
use Rattle.pg_read_operations.proofs.numbers.binary.Goals as goal

pub returns-clause-read : goal.returns-clause-read
returns-clause-read c = let a = c.in_ok-word.ensures.read in let b = c.flags-at.ensures in let o = c.in_ok-word.word.now in
    reads_on c.binary_end.result _ _ c.args.text.now.tokens.now c.args.at c.flags-at.result (binary_end_at o (drop c.flags-at.result c.args.text.now.tokens.now))
    (binary_at (drop c.args.at c.args.text.now.tokens.now)) c.binary_end.ensures
    (rw a.0 (rw b.read (sym (operands_grouped (syntax.Binary o.span (binary_of o.class)) (drop c.flags-at.result c.args.text.now.tokens.now))))) (omega (arith, a.1, b.from))
