use Rattle.std.proofs.Common.{◌≡◌, ◌++◌, map, take}
use Rattle.pg_read_ast.specs.Syntax.{Incoming}
use Rattle.pg_read_ast.specs.Views.{ty_of, incoming_of}
use Rattle.pg_check_rules.specs.Written.{operand}
use Rattle.pg_check_lines.specs.Uses.{uses_of}
use Rattle.pg_check_lines.proofs.operands.add_incoming_uses.Given as goal

abbrev pub invariant-loop-incoming : goal.invariant-loop-incoming
invariant-loop-incoming l = uses_of l.all.items ≡ uses_of l.fn.all.items ++ map (λ (j : Incoming). operand (ty_of l.ty) j.value) (map incoming_of (take l.incoming-index l.incomings))
