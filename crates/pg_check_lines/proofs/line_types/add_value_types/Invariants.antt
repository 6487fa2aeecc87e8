use Rattle.std.proofs.Common.{◌≡◌, ◌++◌, map, take}
use Rattle.pg_read_ast.specs.Syntax.{Typed}
use Rattle.pg_read_ast.specs.Views.{typed_of}
use Rattle.pg_check_rules.specs.Nodes.{tys_behind}
use Rattle.pg_check_lines.proofs.line_types.add_value_types.Given as goal

abbrev pub invariant-loop-value : goal.invariant-loop-value
invariant-loop-value l = tys_behind l.all.items ≡ tys_behind l.fn.all.items ++ map (λ (i : Typed). i.ty) (map typed_of (take l.value-index l.values))
