use Rattle.std.proofs.Common.{Some, None, ◌%◌, sym, ◌∙◌}
use Rattle.pg_schedule.proofs.ByteBlocks.{met_in_block, none_met}
use Rattle.pg_schedule.proofs.answered.is_met_in_block.Goals as goal

pub returns-in-Some : goal.returns-in-Some
returns-in-Some c = c.is_met.ensures ∙ met_in_block c.args.table.now c.args.touch.now (Some c.in-Some.cells.now) c.requires (sym c.in-Some.ensures.value)

pub returns-in-None : goal.returns-in-None
returns-in-None c =
    let y = c.args.touch.now in
    sym (none_met y (y.start % 8) y.bytes) ∙ met_in_block c.args.table.now y None c.requires (sym c.in-None.ensures.value)
