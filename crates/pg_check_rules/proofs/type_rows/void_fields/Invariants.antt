use Rattle.std.proofs.Common.{◌≡◌, map, take}
use Rattle.std.specs.List.{flat_map}
use Rattle.pg_read_ast.specs.Views.{ty_of}
use Rattle.pg_check_types.specs.NumberedTypes.{named_types}
use Rattle.pg_check_rules.specs.Earliest.{earliest}
use Rattle.pg_check_rules.specs.TypeConditions.{void_part}
use Rattle.pg_check_rules.proofs.type_rows.void_fields.Given as goal

abbrev pub invariant-loop-field : goal.invariant-loop-field
invariant-loop-field l = l.found ≡ earliest (flat_map (void_part (named_types l.types)) (map ty_of (take l.field-index l.fields)))
