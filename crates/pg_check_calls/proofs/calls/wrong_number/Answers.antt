use Rattle.pg_read_ast.specs.Views.{typed_of}
use Rattle.pg_check_rules.specs.Nodes.{ty_behind}
use Rattle.pg_check_calls.proofs.Arguments.{too_few}
use Rattle.pg_check_calls.proofs.calls.wrong_number.Goals as goal

pub returns-then-arguments-params : goal.returns-then-arguments-params
returns-then-arguments-params c = too_few ty_behind typed_of c.args.params.now c.args.arguments.now c.args.name.now c.if-arguments-params.true
