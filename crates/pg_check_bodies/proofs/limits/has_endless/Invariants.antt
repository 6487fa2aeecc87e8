use Rattle.std.proofs.Common.{◌≡◌, map, drop}
use Rattle.std.specs.List.{list_any}
use Rattle.pg_read_ast.specs.Views.{block_of}
use Rattle.pg_check_rules.specs.BlockConditions.{is_endless}
use Rattle.pg_check_bodies.proofs.limits.has_endless.Given as goal

abbrev pub invariant-loop-block : goal.invariant-loop-block
invariant-loop-block l = list_any is_endless (map block_of l.blocks) ≡ list_any is_endless (map block_of (drop l.block-index l.blocks))
