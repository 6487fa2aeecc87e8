use Rattle.std.proofs.Common.{◌≡◌, ℕ, List, map, take}
use Rattle.std.specs.List.{flat_map}
use Rattle.pg_read_ast.specs.declared.names.Name.{Name}
use Rattle.pg_check_types.specs.NameIndex.{known_place}
use Rattle.pg_check_rules.specs.Earliest.{earliest}
use Rattle.pg_check_rules.specs.Names.{label_number}
use Rattle.pg_check_rules.specs.Starts.{names_behind}
use Rattle.pg_check_rules.specs.BlockConditions.{wrong_sources}
use Rattle.pg_check_bodies.specs.BodyBlocks.{bare_node}
use Rattle.pg_check_bodies.proofs.phis.all_wrong_sources.Given as goal

abbrev pub invariant-loop-line : goal.invariant-loop-line
invariant-loop-line l = (all : List Name) → ((text : List ℕ) → known_place l.labels text ≡ label_number all text) →
    l.found ≡ earliest (flat_map (wrong_sources all (names_behind l.before)) (map bare_node (take l.line-index l.lines)))
