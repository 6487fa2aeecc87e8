use Rattle.std.proofs.Common.{◌≡◌, ℕ, List, take}
use Rattle.std.specs.List.{flat_map}
use Rattle.pg_read_ast.specs.declared.names.Name.{Name}
use Rattle.pg_check_types.specs.NameIndex.{known_place}
use Rattle.pg_check_rules.specs.Names.{doubled}
use Rattle.pg_check_rules.specs.Starts.{first_start, names_behind}
use Rattle.pg_check_rules.specs.Earliest.{earliest}
use Rattle.pg_check_rules.proofs.starts.doubled_names.Given as goal

abbrev pub invariant-loop-name : goal.invariant-loop-name
invariant-loop-name l = (all : List Name) → ((text : List ℕ) → known_place l.starts text ≡ first_start all text)
    → l.found ≡ earliest (flat_map (doubled all) (names_behind (take l.name-index l.names)))
