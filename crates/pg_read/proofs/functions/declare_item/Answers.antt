use Rattle.std.proofs.Common.{drop, arith, sym}
use Rattle.pg_read_grammar.specs.ReaderItems.{declare_item_at}
use Rattle.pg_read.specs.FunctionParts.{declare_end_at}
use Rattle.pg_read_grammar.proofs.Loops.{reads_on}
use Rattle.pg_read.proofs.FunctionGroups.{declare_grouped}
use Rattle.pg_read.proofs.functions.declare_item.Goals as goal

pub returns-clause-read : goal.returns-clause-read
unfolding declare_item_at
returns-clause-read c = let a = c.in_ok-at.ensures.read in let b = c.in_ok-at-2.ensures in
    reads_on c.declare_end.result _ _ c.args.text.now.tokens.now c.args.at c.in_ok-at-2.at (declare_end_at (drop c.in_ok-at-2.at c.args.text.now.tokens.now))
    (declare_item_at (drop c.args.at c.args.text.now.tokens.now)) c.declare_end.ensures
    (rw a.0 (rw b.0 (sym (declare_grouped (drop c.in_ok-at-2.at c.args.text.now.tokens.now))))) (omega (arith, a.1, b.1))
