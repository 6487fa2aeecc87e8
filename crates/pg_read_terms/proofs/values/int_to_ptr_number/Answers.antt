use Rattle.std.proofs.Common.{ℕ, drop, refl, arith}
use Rattle.pg_read_grammar.specs.Grammar.{literal_of}
use Rattle.pg_read_ast.specs.declared.values.ValNode.{ValNode}
use Rattle.pg_read_ast.specs.Views.{ty_of, val_of}
use Rattle.pg_read_terms.specs.Ends.{int_to_ptr_number_at, int_to_ptr_end_at}
use Rattle.pg_read_grammar.proofs.Loops.{reads_on}
use Rattle.pg_read_terms.proofs.values.int_to_ptr_number.Goals as goal

pub returns : goal.returns
returns c = let a = c.in_ok-number.ensures.read in let b = c.in_ok-at.ensures.read in let d = c.in_ok-to.ensures in
    reads_on c.int_to_ptr_end.result (λ (x : ValNode × ℕ). val_of x.0) (λ (x : ValNode × ℕ). x.1) c.args.text.now.tokens.now c.args.at c.in_ok-to.at
    (int_to_ptr_end_at c.args.word.now (ty_of c.args.from) (literal_of c.in_ok-number.number.now) (ty_of c.in_ok-to.to) (drop c.in_ok-to.at c.args.text.now.tokens.now))
    (int_to_ptr_number_at c.args.depth c.args.word.now (ty_of c.args.from) (drop c.args.at c.args.text.now.tokens.now))
    c.int_to_ptr_end.ensures (rw a.0 (rw b.0 (rw d.0 refl))) (omega (arith, a.1, b.1, d.1))
