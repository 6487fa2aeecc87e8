use Rattle.std.proofs.Common.{ℕ, drop, refl, arith}
use Rattle.pg_read_grammar.specs.Reader.{int_to_ptr_tail_at}
use Rattle.pg_read_ast.specs.declared.values.ValNode.{ValNode}
use Rattle.pg_read_ast.specs.Views.{ty_of, val_of}
use Rattle.pg_read_terms.specs.Ends.{int_to_ptr_number_at}
use Rattle.pg_read_grammar.proofs.Loops.{reads_on}
use Rattle.pg_read_terms.proofs.values.int_to_ptr_tail.Goals as goal

pub returns : goal.returns
returns c = let a = c.in_ok-at.ensures.read in let b = c.in_ok-from.ensures in
    reads_on c.int_to_ptr_number.result (λ (x : ValNode × ℕ). val_of x.0) (λ (x : ValNode × ℕ). x.1) c.args.text.now.tokens.now c.args.at c.in_ok-from.at
    (int_to_ptr_number_at c.args.depth c.args.word.now (ty_of c.in_ok-from.from) (drop c.in_ok-from.at c.args.text.now.tokens.now))
    (int_to_ptr_tail_at c.args.depth c.args.word.now (drop c.args.at c.args.text.now.tokens.now))
    c.int_to_ptr_number.ensures (rw a.0 (rw b.0 refl)) (omega (arith, a.1, b.1))
