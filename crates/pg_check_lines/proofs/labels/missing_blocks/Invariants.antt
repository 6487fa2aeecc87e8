use Rattle.std.proofs.Common.{◌≡◌, take}
use Rattle.std.specs.List.{flat_map}
use Rattle.pg_check_rules.specs.Starts.{names_behind}
use Rattle.pg_check_rules.specs.ValueConditions.{Scope}
use Rattle.pg_check_rules.specs.LineConditions.{no_block}
use Rattle.pg_check_rules.specs.Earliest.{earliest}
use Rattle.pg_check_values.specs.Scopes.{IsLineScope}
use Rattle.pg_check_lines.proofs.labels.missing_blocks.Given as goal

abbrev pub invariant-loop-label : goal.invariant-loop-label
invariant-loop-label l = (g : Scope) → IsLineScope l.scope g → l.found ≡ earliest (flat_map (no_block g.labels) (names_behind (take l.label-index l.labels)))
