use Rattle.std.proofs.Common.{drop, sym}
use Rattle.pg_read_grammar.specs.ReaderOps.{gep_op_tail_at}
use Rattle.pg_read_ast.specs.Views.{ty_of}
use Rattle.pg_read_operations.specs.Rows.{gep_op_end_at}
use Rattle.pg_read_grammar.proofs.Loops.{reads_on}
use Rattle.pg_read_operations.proofs.Grouped.{gep_grouped}
use Rattle.pg_read_operations.proofs.elements.gep_op_tail.Goals as goal

pub returns : goal.returns
returns c = let b = c.in_ok-ty.ensures in
    reads_on c.gep_op_end.result _ _ c.args.text.now.tokens.now c.args.at c.in_ok-ty.at (gep_op_end_at c.args.word.now (ty_of c.in_ok-ty.ty) (drop c.in_ok-ty.at c.args.text.now.tokens.now))
    (gep_op_tail_at c.args.word.now (drop c.args.at c.args.text.now.tokens.now)) c.gep_op_end.ensures
    (rw b.0 (sym (gep_grouped c.args.word.now (ty_of c.in_ok-ty.ty) (drop c.in_ok-ty.at c.args.text.now.tokens.now)))) b.1
