use Rattle.std.proofs.Common.{drop, arith, sym, ◌∙◌}
use Rattle.pg_read_grammar.specs.ReaderOps.{branch_at}
use Rattle.pg_read_ast.specs.Views.{typed_of}
use Rattle.pg_read_operations.specs.Rows.{branch_end_at}
use Rattle.pg_read_grammar.proofs.Loops.{reads_on}
use Rattle.pg_read_operations.proofs.Grouped.{branch_grouped}
use Rattle.pg_read_operations.proofs.branches.branch.Goals as goal

pub returns-clause-read : goal.returns-clause-read
returns-clause-read c = let a = c.in_ok-word.ensures.read in let n = sym c.next_is.ensures ∙ c.if-next_is.false in let b = c.in_ok-condition.ensures in
    reads_on c.branch_end.result _ _ c.args.text.now.tokens.now c.args.at c.in_ok-condition.at
    (branch_end_at c.in_ok-word.word.now (typed_of c.in_ok-condition.condition) (drop c.in_ok-condition.at c.args.text.now.tokens.now))
    (branch_at (drop c.args.at c.args.text.now.tokens.now)) c.branch_end.ensures
    (rw a.0 (rw n (rw b.0 (sym (branch_grouped c.in_ok-word.word.now (typed_of c.in_ok-condition.condition) (drop c.in_ok-condition.at c.args.text.now.tokens.now)))))) (omega (arith, a.1, b.1))
