-- Constants by what is written.
use Rattle.std.proofs.Common.{◌≡◌, map, Vec, Global}
use Rattle.pg_read_ast.specs.pg_read_lex.declared.token.Span.{Span}
use Rattle.pg_read_ast.specs.declared.values.TypedConst.{TypedConst}
use Rattle.pg_read_ast.specs.declared.values.ValNode.{ValNode}
use Rattle.pg_read_ast.specs.declared.values.ConstNode.{roll-ConstNode}
use Rattle.pg_read_ast.specs.declared.values.ConstNode.TheViews as node
use Rattle.pg_read_ast.specs.declared.values.ConstNode as plain
use Rattle.pg_read_ast.specs.declared.values.ConstNode.TheOpen as opened
use Rattle.pg_read_ast.specs.declared.values.ConstNode.TheFolds.{fold-roll-ConstNode}
use Rattle.pg_read_ast.specs.Syntax.{Const, ValConst, ArrayConst, StructConst, TypedC, consts}
use Rattle.pg_read_ast.specs.Views.{val_of, const_of, typed_const_of, const_step, typed_const_step}

pub val_view : (v : ValNode) → const_of (plain.Val v) ≡ ValConst (val_of v)
unfolding roll-ConstNode denote.Hole.Carrier.roll
val_view v = fold-roll-ConstNode Const TypedC const_step typed_const_step (opened.Val v)

pub array_view : (s : Span) (v : Vec TypedConst Global) → const_of (node.Array s v) ≡ ArrayConst s (consts (map typed_const_of v.items))
unfolding roll-ConstNode denote.Hole.Carrier.roll
array_view s v = fold-roll-ConstNode Const TypedC const_step typed_const_step (opened.Array s v)

pub struct_view : (s : Span) (v : Vec TypedConst Global) → const_of (node.Struct s v) ≡ StructConst s (consts (map typed_const_of v.items))
unfolding roll-ConstNode denote.Hole.Carrier.roll
struct_view s v = fold-roll-ConstNode Const TypedC const_step typed_const_step (opened.Struct s v)
