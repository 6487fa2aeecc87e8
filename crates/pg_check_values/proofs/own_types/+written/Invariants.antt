use Rattle.std.proofs.Common.{◌≡◌, ◌++◌, map, take}
use Rattle.std.specs.List.{flat_map}
use Rattle.pg_read_ast.specs.Views.{typed_of}
use Rattle.pg_check_rules.specs.Nodes.{tys_behind}
use Rattle.pg_check_values.specs.Steps.{type_row}
use Rattle.pg_check_values.proofs.own_types.+written.Given as goal

abbrev pub invariant-add_inner_indices-loop-index : goal.invariant-add_inner_indices-loop-index
invariant-add_inner_indices-loop-index l = tys_behind l.all.items ≡ tys_behind l.fn.all.items ++ flat_map type_row (map typed_of (take l.index-index l.indices))
