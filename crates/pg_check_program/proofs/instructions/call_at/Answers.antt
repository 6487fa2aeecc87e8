use Rattle.std.proofs.Common.{sym, subst}
use Rattle.pg_read_ast.specs.Views.{tree_of}
use Rattle.pg_check_program.specs.Room.{IsShort}
use Rattle.pg_check_program.proofs.BoundedNumbers.{symbol_short}
use Rattle.pg_check_program.proofs.instructions.call_at.Goals as goal

pub call_of-requires : goal.call_of-requires
call_of-requires c = subst (λ s. IsShort s) (sym c.symbol.ensures) (symbol_short (tree_of c.args.scope.now.globals.now.symbols.tree.now) _ c.args.scope.now.few_symbols)
