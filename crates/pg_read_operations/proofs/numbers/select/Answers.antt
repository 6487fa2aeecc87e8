use Rattle.std.proofs.Common.{drop, arith, sym}
use Rattle.pg_read_grammar.specs.ReaderOps.{select_at}
use Rattle.pg_read_ast.specs.Views.{typed_of}
use Rattle.pg_read_operations.specs.Rows.{select_end_at}
use Rattle.pg_read_grammar.proofs.Loops.{reads_on}
use Rattle.pg_read_operations.proofs.Grouped.{select_grouped}
use Rattle.pg_read_operations.proofs.numbers.select.Goals as goal

pub returns-clause-read : goal.returns-clause-read
returns-clause-read c = let a = c.in_ok-word.ensures.read in let b = c.in_ok-condition.ensures in
    reads_on c.select_end.result _ _ c.args.text.now.tokens.now c.args.at c.in_ok-condition.at
    (select_end_at c.in_ok-word.word.now (typed_of c.in_ok-condition.condition) (drop c.in_ok-condition.at c.args.text.now.tokens.now))
    (select_at (drop c.args.at c.args.text.now.tokens.now)) c.select_end.ensures
    (rw a.0 (rw b.0 (sym (select_grouped c.in_ok-word.word.now (typed_of c.in_ok-condition.condition) (drop c.in_ok-condition.at c.args.text.now.tokens.now))))) (omega (arith, a.1, b.1))
