use Rattle.std.proofs.Common.{arith}
use Rattle.pg_schedule.proofs.ByteBlocks.{set_in_block}
use Rattle.pg_schedule.proofs.table.Table.set.Goals as goal

pub returns : goal.returns
returns c = set_in_block c.args.self.now c.put.new.self c.args.byte c.args.cell c.block-cells.result (omega arith) c.block-cells.ensures c.in_ok-put.ensures
