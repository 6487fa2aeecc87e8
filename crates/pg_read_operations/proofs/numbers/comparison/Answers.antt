use Rattle.std.proofs.Common.{drop, arith, sym}
use Rattle.pg_read_grammar.specs.GrammarOps.{predicate_of}
use Rattle.pg_read_grammar.specs.ReaderOps.{icmp_at}
use Rattle.pg_read_ast.specs.Syntax as syntax
use Rattle.pg_read_operations.specs.Rows.{comparison_end_at}
use Rattle.pg_read_grammar.proofs.Loops.{reads_on}
use Rattle.pg_read_operations.proofs.Grouped.{operands_grouped}
use Rattle.pg_read_operations.proofs.numbers.comparison.Goals as goal

pub returns-clause-read : goal.returns-clause-read
returns-clause-read c = let a = c.in_ok-word.ensures.read in let b = c.flags-at.ensures in let d = c.in_ok-predicate.ensures.read in let o = c.in_ok-word.word.now in let p =
    c.in_ok-predicate.predicate.now in
    reads_on c.comparison_end.result _ _ c.args.text.now.tokens.now c.args.at c.in_ok-predicate.at (comparison_end_at o p (drop c.in_ok-predicate.at c.args.text.now.tokens.now))
    (icmp_at (drop c.args.at c.args.text.now.tokens.now)) c.comparison_end.ensures
    (rw a.0 (rw b.read (rw d.0 (sym (operands_grouped (syntax.Icmp o.span (predicate_of p.class)) (drop c.in_ok-predicate.at c.args.text.now.tokens.now)))))) (omega (arith, a.1, b.from, d.1))
