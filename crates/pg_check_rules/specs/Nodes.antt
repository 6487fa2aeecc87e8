-- The trees of nodes that are kept as references.
use Rattle.std.specs.Prelude.{List, map}
use denote.Ref.{Bor}
use Rattle.pg_read_ast.specs.declared.types.TypeNode.{TypeNode}
use Rattle.pg_read_ast.specs.Syntax.{Ty}
use Rattle.pg_read_ast.specs.Views.{ty_of}

abbrev pub ty_behind : Bor TypeNode → Ty
ty_behind t = ty_of t.now

abbrev pub tys_behind : List (Bor TypeNode) → List Ty
tys_behind ts = map ty_behind ts
