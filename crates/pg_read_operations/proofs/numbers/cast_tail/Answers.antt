use Rattle.std.proofs.Common.{drop, arith, sym}
use Rattle.pg_read_grammar.specs.ReaderOps.{cast_tail_at}
use Rattle.pg_read_ast.specs.Views.{typed_of}
use Rattle.pg_read_operations.specs.Rows.{cast_end_at}
use Rattle.pg_read_grammar.proofs.Loops.{reads_on}
use Rattle.pg_read_operations.proofs.Grouped.{cast_grouped}
use Rattle.pg_read_operations.proofs.numbers.cast_tail.Goals as goal

pub returns : goal.returns
returns c = let a = c.flags-at.ensures in let b = c.in_ok-value.ensures in
    reads_on c.cast_end.result _ _ c.args.text.now.tokens.now c.args.at c.in_ok-value.at
    (cast_end_at c.args.word.now (typed_of c.in_ok-value.value) (drop c.in_ok-value.at c.args.text.now.tokens.now))
    (cast_tail_at c.args.word.now (drop c.args.at c.args.text.now.tokens.now)) c.cast_end.ensures
    (rw a.read (rw b.0 (sym (cast_grouped c.args.word.now (typed_of c.in_ok-value.value) (drop c.in_ok-value.at c.args.text.now.tokens.now))))) (omega (arith, a.from, b.1))
