use Rattle.std.proofs.Common.{◌≡◌, map, take}
use Rattle.std.specs.List.{flat_map}
use Rattle.pg_read_ast.specs.Views.{typed_of}
use Rattle.pg_check_types.specs.NumberedTypes.{named_types}
use Rattle.pg_check_rules.specs.Earliest.{earliest}
use Rattle.pg_check_values.specs.Uses.{integer_row}
use Rattle.pg_check_values.proofs.uses.unmet_integers.Given as goal

abbrev pub invariant-loop-index : goal.invariant-loop-index
invariant-loop-index l = l.found ≡ earliest (flat_map (integer_row (named_types l.types)) (map typed_of (take l.index-index l.indices)))
