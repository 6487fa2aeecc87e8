-- Sizes in a function's scope.
use Rattle.std.specs.Prelude.{List}
use Rattle.pg_read_ast.specs.Syntax.{Ty, Val, Typed, Incoming, NamedType}
use Rattle.pg_read_ast.specs.Views.{tree_of}
use Rattle.pg_check_program.specs.declared.function_scope.FunctionScope.{FunctionScope}
use Rattle.pg_check_constants.specs.Sizes.{TypeFits, ValFits}
use Rattle.pg_check_program.specs.Room.{TypedFits, IncomingFits}

-- the type items that a scope's types are read by
abbrev pub types_in : FunctionScope → List NamedType
types_in s = (tree_of s.globals.now.symbols.tree.now).types

abbrev pub TyIsSmall : FunctionScope → Ty → Type 0
TyIsSmall s t = TypeFits (types_in s) t

abbrev pub ValIsSmall : FunctionScope → Val → Type 0
ValIsSmall s v = ValFits (types_in s) v

abbrev pub TypedIsSmall : FunctionScope → Typed → Type 0
TypedIsSmall s v = TypedFits (types_in s) v

abbrev pub IncomingIsSmall : FunctionScope → Incoming → Type 0
IncomingIsSmall s i = IncomingFits (types_in s) i
