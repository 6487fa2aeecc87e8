use Rattle.std.proofs.Common.{◌≡◌, map, take}
use Rattle.std.specs.List.{flat_map}
use Rattle.pg_read_ast.specs.Views.{typed_of}
use Rattle.pg_check_rules.specs.ValueConditions.{Scope, wrong_use}
use Rattle.pg_check_rules.specs.Earliest.{earliest}
use Rattle.pg_check_values.specs.Scopes.{IsScope}
use Rattle.pg_check_values.specs.Steps.{index_row}
use Rattle.pg_check_values.proofs.uses.+wrong.Given as goal

abbrev pub invariant-wrong_index_uses-loop-index : goal.invariant-wrong_index_uses-loop-index
invariant-wrong_index_uses-loop-index l = (g : Scope) → IsScope l.scope g
    → l.found ≡ earliest (flat_map (index_row (wrong_use g)) (map typed_of (take l.index-index l.indices)))
