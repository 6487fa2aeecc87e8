use Rattle.std.proofs.Common.{◌≡◌, ◌++◌, map, take}
use Rattle.std.specs.List.{flat_map}
use Rattle.pg_read_ast.specs.Views.{typed_const_of}
use Rattle.pg_check_heads.specs.Initialisers.{uses_behind, use_row}
use Rattle.pg_check_heads.proofs.initialisers.+uses.Given as goal

abbrev pub invariant-add_part_uses-loop-part : goal.invariant-add_part_uses-loop-part
invariant-add_part_uses-loop-part l = uses_behind l.all.items ≡ uses_behind l.fn.all.items ++ flat_map use_row (map typed_const_of (take l.part-index l.parts))
