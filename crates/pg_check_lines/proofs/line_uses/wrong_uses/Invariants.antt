use Rattle.std.proofs.Common.{◌≡◌, take}
use Rattle.std.specs.List.{flat_map}
use Rattle.pg_check_rules.specs.ValueConditions.{Scope, wrong_use}
use Rattle.pg_check_rules.specs.Earliest.{earliest}
use Rattle.pg_check_values.specs.Scopes.{IsLineScope}
use Rattle.pg_check_lines.specs.Uses.{uses_of, row_within}
use Rattle.pg_check_lines.proofs.line_uses.wrong_uses.Given as goal

abbrev pub invariant-loop-one : goal.invariant-loop-one
invariant-loop-one l = (g : Scope) → IsLineScope l.scope g → l.found ≡ earliest (flat_map (row_within (wrong_use g)) (uses_of (take l.one-index l.uses)))
