use Rattle.std.proofs.Common.{◌≡◌, List, ℕ, take, map}
use Rattle.std.specs.List.{flat_map}
use Rattle.pg_read_ast.specs.Views.{type_item_of}
use Rattle.pg_check_types.specs.NameIndex.{known_place}
use Rattle.pg_check_heads.specs.Circles.{place_of, next_places}
use Rattle.pg_check_heads.proofs.circles.behind.Given as goal

abbrev pub invariant-loop-index : goal.invariant-loop-index
invariant-loop-index l = ((text : List ℕ) → known_place l.places text ≡ place_of (map type_item_of l.items) text) →
    l.found.items ≡ flat_map (next_places (map type_item_of l.items)) (take l.index l.front)
