use Rattle.std.proofs.Common.{◌≡◌, ◌++◌, length, map, drop}
use Rattle.std.specs.List.{filter_map, flat_map}
use Rattle.pg_read_ast.specs.Numbers.{each_at, block_at, behind_block}
use Rattle.pg_read_ast.specs.Views.{block_of}
use Rattle.pg_check_types.specs.NumberedTypes.{named_types}
use Rattle.pg_check_rules.specs.Names.{block_registers}
use Rattle.pg_check_names.specs.Registers.{registers_by, block_label}
use Rattle.pg_check_names.proofs.naming.add_blocks.Given as goal

abbrev pub invariant-loop-block : goal.invariant-loop-block
invariant-loop-block l =
    let types = named_types l.types in
    record {
      labels : l.labels.items ++ filter_map block_label (each_at (behind_block types) (block_at types) l.next (map block_of (drop l.block-index l.blocks)))
          ≡ l.fn.labels.items ++ filter_map block_label (each_at (behind_block types) (block_at types) l.fn.next (map block_of l.blocks));
      registers : registers_by types l.names.items l.kinds.items ++ flat_map (block_registers types) (each_at (behind_block types) (block_at types) l.next (map block_of (drop l.block-index l.blocks)))
          ≡ registers_by types l.fn.names.items l.fn.kinds.items ++ flat_map (block_registers types) (each_at (behind_block types) (block_at types) l.fn.next (map block_of l.blocks));
      lengths : length l.kinds.items ≡ length l.names.items;
    }
