use Rattle.pg_read_ast.specs.Views.{typed_of}
use Rattle.pg_check_calls.proofs.Arguments.{argument_there}
use Rattle.pg_check_calls.proofs.calls.argument_at.Goals as goal

pub returns-then-place-arguments : goal.returns-then-place-arguments
returns-then-place-arguments c =
    argument_there typed_of c.args.arguments.now c.args.place c.index-arguments-place.result c.if-place-arguments.true c.index-arguments-place.is
