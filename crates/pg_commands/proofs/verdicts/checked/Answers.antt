use Rattle.pg_read_ast.specs.Views.{tree_of}
use Rattle.pg_commands.proofs.verdicts.checked.Goals as goal

pub check-requires : goal.check-requires
check-requires c = c.a_module_is_in_order.ensures c.args.text.now (tree_of c.args.tree.now) c.requires.read
