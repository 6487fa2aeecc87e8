use Rattle.std.proofs.Common.{◌≡◌, take}
use Rattle.std.specs.List.{flat_map}
use Rattle.pg_check_rules.specs.Written.{Use}
use Rattle.pg_check_rules.specs.ValueConditions.{Scope, function_value}
use Rattle.pg_check_rules.specs.Earliest.{earliest}
use Rattle.pg_check_values.specs.Scopes.{IsScope}
use Rattle.pg_check_heads.specs.Initialisers.{uses_behind, within_row}
use Rattle.pg_check_heads.proofs.initialiser_rows.function_uses.Given as goal

abbrev pub invariant-loop-one : goal.invariant-loop-one
invariant-loop-one l = (g : Scope) → IsScope l.scope g → l.found ≡ earliest (flat_map (within_row (λ (u : Use). function_value g u.value)) (uses_behind (take l.one-index l.uses)))
