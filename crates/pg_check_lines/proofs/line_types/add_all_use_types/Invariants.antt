use Rattle.std.proofs.Common.{◌≡◌, ◌++◌, drop}
use Rattle.std.specs.List.{flat_map}
use Rattle.pg_check_rules.specs.Nodes.{tys_behind}
use Rattle.pg_check_lines.specs.Uses.{uses_of, type_row, row_within}
use Rattle.pg_check_lines.proofs.line_types.add_all_use_types.Given as goal

abbrev pub invariant-loop-one : goal.invariant-loop-one
invariant-loop-one l = tys_behind l.all.items ++ flat_map (row_within type_row) (uses_of (drop l.one-index l.uses)) ≡ tys_behind l.fn.all.items ++ flat_map (row_within type_row) (uses_of l.uses)
