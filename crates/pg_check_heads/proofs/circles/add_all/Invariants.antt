use Rattle.std.proofs.Common.{◌≡◌, ◌++◌, List, ℕ, take}
use Rattle.pg_read_ast.specs.Syntax.{NamedType}
use Rattle.pg_check_types.specs.NameIndex.{known_place}
use Rattle.pg_check_rules.specs.Nodes.{tys_behind}
use Rattle.pg_check_heads.specs.Circles.{place_of}
use Rattle.pg_check_heads.proofs.PlaceLists.{placed}
use Rattle.pg_check_heads.proofs.circles.add_all.Given as goal

abbrev pub invariant-loop-ty : goal.invariant-loop-ty
invariant-loop-ty l = (types : List NamedType) → ((text : List ℕ) → known_place l.places text ≡ place_of types text) →
    l.found.items ≡ l.fn.found.items ++ placed types (tys_behind (take l.ty-index l.all))
