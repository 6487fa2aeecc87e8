-- A structure type as a tree.
use Rattle.std.proofs.Common.{◌≡◌, map, Vec, Global}
use Rattle.pg_read_ast.specs.pg_read_lex.declared.token.Span.{Span}
use Rattle.pg_read_ast.specs.declared.types.TypeNode.{TypeNode, roll-TypeNode}
use Rattle.pg_read_ast.specs.declared.types.TypeNode.TheViews.{Struct}
use Rattle.pg_read_ast.specs.declared.types.TypeNode.TheOpen as opened
use Rattle.pg_read_ast.specs.declared.types.TypeNode.TheFolds.{fold-roll-TypeNode}
use Rattle.pg_read_ast.specs.Syntax as syntax
use Rattle.pg_read_ast.specs.Syntax.{Ty, tys}
use Rattle.pg_read_ast.specs.Views.{ty_of, ty_step}

pub struct_view : (s : Span) (v : Vec TypeNode Global) → ty_of (Struct s v) ≡ syntax.Struct s (tys (map ty_of v.items))
unfolding roll-TypeNode denote.Hole.Carrier.roll
struct_view s v = fold-roll-TypeNode Ty ty_step (opened.Struct s v)
