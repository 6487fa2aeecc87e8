use Rattle.std.proofs.Common.{arith, sym, ◌∙◌}
use Rattle.pg_schedule.specs.Cells.{is_above, nth_cell}
use Rattle.pg_schedule.proofs.GreatestRanks.{byte_more, byte_none}
use Rattle.pg_schedule.proofs.block.is_met.Goals as goal

pub returns-then-is_above : goal.returns-then-is_above
returns-then-is_above c =
    sym (byte_more (is_above (nth_cell c.args.cells.now) c.args.touch.now) c.args.at c.args.touch.now.bytes c.loop-i.i (omega arith) (sym c.is_above.ensures ∙ c.if-is_above.true))

pub loop-i-preserved : goal.loop-i-preserved
loop-i-preserved c =
    byte_none (is_above (nth_cell c.args.cells.now) c.args.touch.now) c.args.at c.loop-i.i c.loop-i.invariant (sym c.is_above.ensures ∙ c.if-is_above.false)
