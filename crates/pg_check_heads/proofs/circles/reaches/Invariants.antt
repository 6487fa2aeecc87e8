use Rattle.std.proofs.Common.{◌≡◌, List, ℕ, length, map}
use Rattle.pg_read_ast.specs.Views.{type_item_of}
use Rattle.pg_check_types.specs.NameIndex.{known_place}
use Rattle.pg_check_heads.specs.Circles.{place_of, next_places}
use Rattle.pg_check_heads.proofs.Searching.{Searching}
use Rattle.pg_check_heads.proofs.circles.reaches.Given as goal

abbrev pub invariant-loop-round : goal.invariant-loop-round
invariant-loop-round l = ((text : List ℕ) → known_place l.places text ≡ place_of (map type_item_of l.items) text) →
    Searching (next_places (map type_item_of l.items)) l.target l.start (length l.items) l.round l.seen.items l.front.items
