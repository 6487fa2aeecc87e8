-- An array type as a tree, from what its parts were read as.
use Rattle.std.proofs.Common.{◌≡◌, sym, Global}
use Rattle.std.specs.declared.boxed.Box.{Box}
use Rattle.pg_read_lex.specs.declared.token.Span.{Span}
use Rattle.pg_read_ast.specs.declared.names.Literal.{Literal}
use Rattle.pg_read_ast.specs.declared.types.TypeNode.{TypeNode, roll-TypeNode}
use Rattle.pg_read_ast.specs.declared.types.TypeNode.TheViews.{Array}
use Rattle.pg_read_ast.specs.declared.types.TypeNode.TheOpen as opened
use Rattle.pg_read_ast.specs.declared.types.TypeNode.TheFolds.{fold-roll-TypeNode}
use Rattle.pg_read_ast.specs.Syntax as syntax
use Rattle.pg_read_ast.specs.Syntax.{Ty}
use Rattle.pg_read_ast.specs.Views.{ty_of, ty_step}

array_view : (s : Span) (n : Literal) (b : Box TypeNode Global) → ty_of (Array s n b) ≡ syntax.Array s n (ty_of b.value)
unfolding roll-TypeNode denote.Hole.Carrier.roll
array_view s n b = fold-roll-TypeNode Ty ty_step (opened.Array s n b)

pub array_is : (s : Span) (m n : Literal) (t : TypeNode) (b : Box TypeNode Global) → m ≡ n → b.value ≡ t → syntax.Array s n (ty_of t) ≡ ty_of (Array s m b)
array_is s m n t b e f = rw (← e) (rw (← f) (sym (array_view s m b)))
