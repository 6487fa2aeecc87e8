use Rattle.std.proofs.Common.{◌≡◌, map, drop}
use Rattle.std.specs.List.{list_any}
use Rattle.pg_read_ast.specs.Views.{block_of}
use Rattle.pg_check_types.specs.NumberedTypes.{named_types}
use Rattle.pg_check_bodies.specs.BodyParts.{is_large_block}
use Rattle.pg_check_bodies.proofs.body_lines.are_large.Given as goal

abbrev pub invariant-loop-block : goal.invariant-loop-block
invariant-loop-block l = list_any (is_large_block (named_types l.types)) (map block_of l.blocks) ≡ list_any (is_large_block (named_types l.types)) (map block_of (drop l.block-index l.blocks))
