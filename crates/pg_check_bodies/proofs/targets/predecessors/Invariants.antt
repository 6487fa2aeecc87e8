use Rattle.std.proofs.Common.{◌≡◌, ◌++◌, Some, map, drop}
use Rattle.std.specs.List.{filter_map}
use Rattle.pg_read_ast.specs.Syntax.{Block}
use Rattle.pg_check_rules.specs.Starts.{names_behind}
use Rattle.pg_check_rules.specs.BlockConditions.{goes_to, label_if}
use Rattle.pg_check_bodies.specs.BodyBlocks.{named_block}
use Rattle.pg_check_bodies.proofs.targets.predecessors.Given as goal

abbrev pub invariant-loop-block : goal.invariant-loop-block
invariant-loop-block l =
    names_behind l.all.items ++ filter_map (λ (b : Block). label_if (goes_to (Some l.label) b) b.label) (map named_block (drop l.block-index l.blocks))
    ≡ filter_map (λ (b : Block). label_if (goes_to (Some l.label) b) b.label) (map named_block l.blocks)
