use Rattle.std.proofs.Common.{◌≡◌, ◌++◌, map, take}
use Rattle.pg_read_ast.specs.Syntax.{Case}
use Rattle.pg_read_ast.specs.Views.{case_of}
use Rattle.pg_check_rules.specs.Written.{constant_at}
use Rattle.pg_check_lines.specs.Uses.{uses_of}
use Rattle.pg_check_lines.proofs.operands.add_case_uses.Given as goal

abbrev pub invariant-loop-case : goal.invariant-loop-case
invariant-loop-case l = uses_of l.all.items ≡ uses_of l.fn.all.items ++ map (λ (c : Case). constant_at c.value.ty c.value.value) (map case_of (take l.case-index l.cases))
