use Rattle.std.proofs.Common.{drop, arith, sym}
use Rattle.pg_read_grammar.specs.ReaderOps.{store_at}
use Rattle.pg_read_ast.specs.Syntax as syntax
use Rattle.pg_read_ast.specs.Views.{typed_of}
use Rattle.pg_read_operations.specs.Rows.{store_end_at}
use Rattle.pg_read_grammar.proofs.Loops.{reads_on}
use Rattle.pg_read_operations.proofs.Grouped.{access_grouped}
use Rattle.pg_read_operations.proofs.memory.store.Goals as goal

pub returns-clause-read : goal.returns-clause-read
returns-clause-read c = let a = c.in_ok-word.ensures.read in let b = c.in_ok-at.ensures in let d = c.in_ok-value.ensures in
    reads_on c.store_end.result _ _ c.args.text.now.tokens.now c.args.at c.in_ok-value.at
    (store_end_at c.in_ok-word.word.now (typed_of c.in_ok-value.value) (drop c.in_ok-value.at c.args.text.now.tokens.now))
    (store_at (drop c.args.at c.args.text.now.tokens.now)) c.store_end.ensures
    (rw a.0 (rw b.0 (rw d.0 (sym (access_grouped (syntax.Store c.in_ok-word.word.now.span (typed_of c.in_ok-value.value)) (drop c.in_ok-value.at c.args.text.now.tokens.now))))))
    (omega (arith, a.1, b.1, d.1))
