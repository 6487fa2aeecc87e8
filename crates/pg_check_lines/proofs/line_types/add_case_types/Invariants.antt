use Rattle.std.proofs.Common.{◌≡◌, ◌++◌, map, take}
use Rattle.pg_read_ast.specs.Syntax.{Case}
use Rattle.pg_read_ast.specs.Views.{case_of}
use Rattle.pg_check_rules.specs.Nodes.{tys_behind}
use Rattle.pg_check_lines.proofs.line_types.add_case_types.Given as goal

abbrev pub invariant-loop-case : goal.invariant-loop-case
invariant-loop-case l = tys_behind l.all.items ≡ tys_behind l.fn.all.items ++ map (λ (c : Case). c.value.ty) (map case_of (take l.case-index l.cases))
