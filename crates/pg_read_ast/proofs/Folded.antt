-- What a node is as a tree, a layer at a time.
use Rattle.std.proofs.Common.{◌≡◌, map, Vec, Global}
use Rattle.std.specs.declared.boxed.Box.{Box}
use Rattle.pg_read_lex.specs.declared.token.Span.{Span}
use Rattle.pg_read_ast.specs.declared.types.TypeNode.{TypeNode}
use Rattle.pg_read_ast.specs.declared.values.TypedVal.{TypedVal}
use Rattle.pg_read_ast.specs.declared.values.ValNode.{ValNode, roll-ValNode}
use Rattle.pg_read_ast.specs.declared.values.ValNode.TheViews.{GetElementPtr}
use Rattle.pg_read_ast.specs.declared.values.ValNode.TheOpen as opened
use Rattle.pg_read_ast.specs.declared.values.ValNode.TheFolds.{fold-roll-ValNode}
use Rattle.pg_read_ast.specs.Syntax.{GepVal, vals, Val, Typed}
use Rattle.pg_read_ast.specs.Views.{ty_of, val_of, typed_of, val_step, typed_step}

pub gep_view : (s : Span) (t u : TypeNode) (b : Box ValNode Global) (v : Vec TypedVal Global)
    → val_of (GetElementPtr s t u b v) ≡ GepVal s (ty_of t) (ty_of u) (val_of b.value) (vals (map typed_of v.items))
unfolding roll-ValNode denote.Hole.Carrier.roll
gep_view s t u b v = fold-roll-ValNode Val Typed val_step typed_step (opened.GetElementPtr s t u b v)
