use Rattle.std.proofs.Common.{◌≡◌, map, take}
use Rattle.pg_read_ast.specs.Views.{typed_of}
use Rattle.pg_check_rules.specs.Numbered.{typed_value}
use Rattle.pg_check_program.specs.ScopeNames.{ScopeNames, scope_in}
use Rattle.pg_check_program.proofs.operands.values_at.Given as goal

abbrev pub invariant-loop-value : goal.invariant-loop-value
invariant-loop-value l = (names : ScopeNames l.scope) → l.found.items ≡ map (typed_value (scope_in l.scope names)) (map typed_of (take l.value-index l.values))
