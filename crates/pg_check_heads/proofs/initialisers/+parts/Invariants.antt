use Rattle.std.proofs.Common.{◌≡◌, ◌++◌, map, take}
use Rattle.std.specs.List.{flat_map}
use Rattle.pg_read_ast.specs.Views.{typed_const_of}
use Rattle.pg_check_rules.specs.Nodes.{tys_behind}
use Rattle.pg_check_heads.specs.Initialisers.{type_row}
use Rattle.pg_check_heads.proofs.initialisers.+parts.Given as goal

abbrev pub invariant-add_part_types-loop-part : goal.invariant-add_part_types-loop-part
invariant-add_part_types-loop-part l = tys_behind l.all.items ≡ tys_behind l.fn.all.items ++ flat_map type_row (map typed_const_of (take l.part-index l.parts))
