use Rattle.std.proofs.Common.{map, take}
use Rattle.pg_read_ast.specs.Views.{type_item_of}
use Rattle.pg_check_rules.specs.Earliest.{IsFirstIn}
use Rattle.pg_check_rules.specs.Conditions.{all_of, item_refused}
use Rattle.pg_check_heads.proofs.type_items.items_refusal.Given as goal

abbrev pub invariant-loop-place : goal.invariant-loop-place
invariant-loop-place l = IsFirstIn (all_of (item_refused (map type_item_of l.items)) (map type_item_of (take l.place l.items))) l.found
