use Rattle.std.proofs.Common.{◌≡◌, map, take}
use Rattle.pg_read_ast.specs.Views.{type_item_of}
use Rattle.pg_check_rules.specs.Starts.{names_behind}
use Rattle.pg_check_rules.specs.Conditions.{type_names}
use Rattle.pg_check_heads.proofs.type_items.item_names.Given as goal

abbrev pub invariant-loop-item : goal.invariant-loop-item
invariant-loop-item l = names_behind l.names.items ≡ type_names (map type_item_of (take l.item-index l.items))
