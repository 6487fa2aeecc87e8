use Rattle.std.proofs.Common.{ℕ, drop}
use Rattle.pg_read_grammar.specs.Classes.{none}
use Rattle.pg_read_grammar.specs.Grammar.{no_type}
use Rattle.pg_read_grammar.specs.GrammarOps.{typed_value}
use Rattle.pg_read_grammar.specs.Reader.{begins_type}
use Rattle.pg_read_grammar.specs.ReaderOps.{typed_value_at}
use Rattle.pg_read_ast.specs.declared.values.TypedVal.{TypedVal}
use Rattle.pg_read_ast.specs.Views.{typed_of}
use Rattle.pg_read_grammar.proofs.OpRows.{typed_value_piece}
use Rattle.pg_read_operations.proofs.Longer.{some_read, reads_some}
use Rattle.pg_read_operations.proofs.elements.index.Goals as goal

pub returns-clause-on : goal.returns-clause-on
returns-clause-on c = reads_some c.typed_value_in.result (λ (x : TypedVal × ℕ). typed_of x.0) (λ (x : TypedVal × ℕ). x.1) c.args.text.now.tokens.now c.args.at
    (typed_value_at (drop c.args.at c.args.text.now.tokens.now)) c.typed_value_in.ensures
    (some_read typed_value_at typed_value begins_type no_type none typed_value_piece (drop c.args.at c.args.text.now.tokens.now))
