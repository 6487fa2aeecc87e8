use Rattle.std.proofs.Common.{map}
use Rattle.pg_read_ast.specs.Text.{block_text}
use Rattle.pg_read_ast.specs.Numbers.{block_at, behind_block}
use Rattle.pg_read_ast.specs.Views.{block_of, type_item_of}
use Rattle.pg_read_ast.proofs.Counting.{Going}
use Rattle.pg_read_ast.proofs.print.functions.put_blocks.Given as goal

abbrev pub invariant-loop-each : goal.invariant-loop-each
invariant-loop-each l = Going block_of (behind_block (map type_item_of l.types))
    (block_at (map type_item_of l.types)) block_text l.all l.each-index l.initial.out.items l.initial.next l.out.items l.next
