use Rattle.std.proofs.Common.{◌≡◌, take}
use Rattle.std.specs.List.{flat_map}
use Rattle.pg_check_rules.specs.ValueConditions.{Scope, wrong_use}
use Rattle.pg_check_rules.specs.Earliest.{earliest}
use Rattle.pg_check_values.specs.Scopes.{IsScope}
use Rattle.pg_check_heads.specs.Initialisers.{uses_behind, within_row}
use Rattle.pg_check_heads.proofs.initialiser_rows.wrong_uses.Given as goal

abbrev pub invariant-loop-one : goal.invariant-loop-one
invariant-loop-one l = (g : Scope) → IsScope l.scope g → l.found ≡ earliest (flat_map (within_row (wrong_use g)) (uses_behind (take l.one-index l.uses)))
