-- The types in which a function's lines are looked up are those of its module.
use Rattle.std.proofs.Common.{◌≡◌}
use Rattle.pg_check_program.specs.declared.function_scope.FunctionScope.{FunctionScope}

pub module_types : (s : FunctionScope) → s.globals.now.types.now.items ≡ s.globals.now.symbols.tree.now.types.items
module_types s = s.globals.now.items
