use Rattle.std.proofs.Common.{ℕ, drop}
use Rattle.pg_num.specs.declared.limits.TheConstants.{NESTING_LIMIT}
use Rattle.pg_read_grammar.specs.Classes.{none}
use Rattle.pg_read_grammar.specs.Grammar.{no_type, type_in}
use Rattle.pg_read_grammar.specs.Reader.{begins_type, type_at}
use Rattle.pg_read_ast.specs.declared.types.TypeNode.{TypeNode}
use Rattle.pg_read_ast.specs.Views.{ty_of}
use Rattle.pg_read_grammar.proofs.Rows.{type_piece}
use Rattle.pg_read_operations.proofs.Longer.{some_read, reads_some}
use Rattle.pg_read_operations.proofs.written.some_type.Goals as goal

pub returns-clause-on : goal.returns-clause-on
returns-clause-on c = reads_some c.type_node.result (λ (x : TypeNode × ℕ). ty_of x.0) (λ (x : TypeNode × ℕ). x.1) c.args.text.now.tokens.now c.args.at
    (type_at NESTING_LIMIT (drop c.args.at c.args.text.now.tokens.now)) c.type_node.ensures
    (some_read (type_at NESTING_LIMIT) (type_in NESTING_LIMIT) begins_type no_type none (type_piece NESTING_LIMIT) (drop c.args.at c.args.text.now.tokens.now))
