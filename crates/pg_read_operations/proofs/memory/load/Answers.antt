use Rattle.std.proofs.Common.{drop, arith, sym}
use Rattle.pg_read_grammar.specs.ReaderOps.{load_at}
use Rattle.pg_read_ast.specs.Syntax as syntax
use Rattle.pg_read_ast.specs.Views.{ty_of}
use Rattle.pg_read_operations.specs.Rows.{load_end_at}
use Rattle.pg_read_grammar.proofs.Loops.{reads_on}
use Rattle.pg_read_operations.proofs.Grouped.{access_grouped}
use Rattle.pg_read_operations.proofs.memory.load.Goals as goal

pub returns-clause-read : goal.returns-clause-read
returns-clause-read c = let a = c.in_ok-word.ensures.read in let b = c.in_ok-at.ensures in let d = c.in_ok-ty.ensures in
    reads_on c.load_end.result _ _ c.args.text.now.tokens.now c.args.at c.in_ok-ty.at (load_end_at c.in_ok-word.word.now (ty_of c.in_ok-ty.ty) (drop c.in_ok-ty.at c.args.text.now.tokens.now))
    (load_at (drop c.args.at c.args.text.now.tokens.now)) c.load_end.ensures
    (rw a.0 (rw b.0 (rw d.0 (sym (access_grouped (syntax.Load c.in_ok-word.word.now.span (ty_of c.in_ok-ty.ty)) (drop c.in_ok-ty.at c.args.text.now.tokens.now)))))) (omega (arith, a.1, b.1, d.1))
