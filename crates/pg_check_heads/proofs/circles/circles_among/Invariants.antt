use Rattle.std.proofs.Common.{◌≡◌, List, ℕ, take, map, Some}
use Rattle.std.specs.List.{flat_map}
use Rattle.pg_read_ast.specs.Views.{type_item_of}
use Rattle.pg_check_rules.specs.Nodes.{tys_behind}
use Rattle.pg_check_rules.specs.declared.fault.CheckKind.TheVariants.{WrongType}
use Rattle.pg_check_rules.specs.Conditions.{RefusedPlaces}
use Rattle.pg_check_rules.specs.Earliest.{only, joined, IsFirstIn}
use Rattle.pg_check_heads.specs.Circles.{place_of, circle_at}
use Rattle.pg_check_heads.proofs.circles.circles_among.Given as goal

abbrev pub invariant-loop-ty : goal.invariant-loop-ty
invariant-loop-ty l = (p : RefusedPlaces) (text : List ℕ) → IsFirstIn p l.fn.known → place_of (map type_item_of l.ranked.items.now) text ≡ Some l.target →
    IsFirstIn (joined p (only WrongType (flat_map (circle_at (map type_item_of l.ranked.items.now) text) (tys_behind (take l.ty-index l.all))))) l.found
