use Rattle.std.proofs.Common.{drop, arith, sym}
use Rattle.pg_read_grammar.specs.ReaderOps.{call_at}
use Rattle.pg_read_operations.specs.Rows.{call_end_at}
use Rattle.pg_read_grammar.proofs.Loops.{reads_on}
use Rattle.pg_read_operations.proofs.Grouped.{call_grouped}
use Rattle.pg_read_operations.proofs.calls.call.Goals as goal

pub returns-clause-read : goal.returns-clause-read
unfolding call_at
returns-clause-read c = let a = c.in_ok-word.ensures.read in let b = c.in_ok-at.ensures in let o = c.in_ok-word.word.now in
    reads_on c.call_end.result _ _ c.args.text.now.tokens.now c.args.at c.in_ok-at.at (call_end_at o (drop c.in_ok-at.at c.args.text.now.tokens.now))
    (call_at (drop c.args.at c.args.text.now.tokens.now)) c.call_end.ensures
    (rw a.0 (rw b.0 (sym (call_grouped o (drop c.in_ok-at.at c.args.text.now.tokens.now))))) (omega (arith, a.1, b.1))
