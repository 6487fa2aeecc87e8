use Rattle.std.proofs.Common.{◌≡◌, map, take}
use Rattle.std.specs.List.{flat_map}
use Rattle.pg_read_ast.specs.Views.{typed_of}
use Rattle.pg_check_rules.specs.Written.{Use}
use Rattle.pg_check_rules.specs.ValueConditions.{Scope, function_value}
use Rattle.pg_check_rules.specs.Earliest.{earliest}
use Rattle.pg_check_values.specs.Scopes.{IsScope}
use Rattle.pg_check_values.specs.Steps.{index_row}
use Rattle.pg_check_values.proofs.names.+functions.Given as goal

abbrev pub invariant-function_indices-loop-index : goal.invariant-function_indices-loop-index
invariant-function_indices-loop-index l =
    (g : Scope) → IsScope l.scope g → l.found ≡ earliest (flat_map (index_row (λ (u : Use). function_value g u.value)) (map typed_of (take l.index-index l.indices)))
