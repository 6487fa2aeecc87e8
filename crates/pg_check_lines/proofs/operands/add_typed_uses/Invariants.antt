use Rattle.std.proofs.Common.{◌≡◌, ◌++◌, map, take}
use Rattle.pg_read_ast.specs.Views.{typed_of}
use Rattle.pg_check_rules.specs.Written.{typed_operand}
use Rattle.pg_check_lines.specs.Uses.{uses_of}
use Rattle.pg_check_lines.proofs.operands.add_typed_uses.Given as goal

abbrev pub invariant-loop-value : goal.invariant-loop-value
invariant-loop-value l = uses_of l.all.items ≡ uses_of l.fn.all.items ++ map typed_operand (map typed_of (take l.value-index l.values))
