use Rattle.std.proofs.Common.{drop, arith, sym}
use Rattle.pg_read_grammar.specs.ReaderOps.{incoming_at}
use Rattle.pg_read_ast.specs.Views.{val_of}
use Rattle.pg_read_operations.specs.Rows.{incoming_tail_at}
use Rattle.pg_read_grammar.proofs.Loops.{reads_on}
use Rattle.pg_read_operations.proofs.Grouped.{incoming_grouped}
use Rattle.pg_read_operations.proofs.phi.incoming.Goals as goal

pub returns-clause-read : goal.returns-clause-read
returns-clause-read c = let a = c.in_ok-at.ensures.read in let b = c.in_ok-value.ensures in
    reads_on c.incoming_tail.result _ _ c.args.text.now.tokens.now c.args.at c.in_ok-value.at (incoming_tail_at (val_of c.in_ok-value.value) (drop c.in_ok-value.at c.args.text.now.tokens.now))
    (incoming_at (drop c.args.at c.args.text.now.tokens.now)) c.incoming_tail.ensures
    (rw a.0 (rw b.0 (sym (incoming_grouped (val_of c.in_ok-value.value) (drop c.in_ok-value.at c.args.text.now.tokens.now))))) (omega (arith, a.1, b.1))
