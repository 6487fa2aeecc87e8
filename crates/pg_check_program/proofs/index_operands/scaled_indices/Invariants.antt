use Rattle.std.proofs.Common.{◌≡◌, ◌++◌, map, drop}
use Rattle.pg_read_ast.specs.Views.{typed_of}
use Rattle.pg_check_rules.specs.Numbered.{indices_at}
use Rattle.pg_check_program.specs.ScopeNames.{ScopeNames, scope_in}
use Rattle.pg_check_program.proofs.index_operands.scaled_indices.Given as goal

abbrev pub invariant-loop-place : goal.invariant-loop-place
invariant-loop-place l = (names : ScopeNames l.scope) → l.found.items
    ++ indices_at (scope_in l.scope names) (map typed_of (drop l.place l.indices)) (drop l.place l.scales) ≡ indices_at (scope_in l.scope names) (map typed_of l.indices) l.scales
