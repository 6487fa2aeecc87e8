use Rattle.std.proofs.Common.{drop, sym}
use Rattle.pg_read_grammar.specs.ReaderOps.{case_at}
use Rattle.pg_read_ast.specs.Views.{typed_of}
use Rattle.pg_read_operations.specs.Rows.{case_end_at}
use Rattle.pg_read_grammar.proofs.Loops.{reads_on}
use Rattle.pg_read_operations.proofs.Grouped.{case_grouped}
use Rattle.pg_read_operations.proofs.branches.case.Goals as goal

pub returns-clause-read : goal.returns-clause-read
returns-clause-read c = let b = c.in_ok-value.ensures in
    reads_on c.case_end.result _ _ c.args.text.now.tokens.now c.args.at c.in_ok-value.at (case_end_at (typed_of c.in_ok-value.value) (drop c.in_ok-value.at c.args.text.now.tokens.now))
    (case_at (drop c.args.at c.args.text.now.tokens.now)) c.case_end.ensures.read
    (rw b.0 (sym (case_grouped (typed_of c.in_ok-value.value) (drop c.in_ok-value.at c.args.text.now.tokens.now)))) b.1
