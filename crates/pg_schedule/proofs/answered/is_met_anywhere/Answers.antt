use Rattle.std.proofs.Common.{arith, sym, ap, ◌∙◌}
use Rattle.pg_schedule.specs.Cells.{cell_at, is_above}
use Rattle.pg_schedule.proofs.GreatestRanks.{byte_more, byte_none}
use Rattle.pg_schedule.proofs.answered.is_met_anywhere.Goals as goal

pub returns-then-is_above : goal.returns-then-is_above
returns-then-is_above c =
    sym (byte_more (is_above (cell_at c.args.table.now) c.args.touch.now) c.args.touch.now.start c.args.touch.now.bytes c.loop-i.i (omega arith)
    (ap (is_above (cell_at c.args.table.now) c.args.touch.now) (sym c.byte_of.ensures) ∙ sym c.is_above.ensures ∙ c.if-is_above.true))

pub loop-i-preserved : goal.loop-i-preserved
loop-i-preserved c =
    byte_none (is_above (cell_at c.args.table.now) c.args.touch.now) c.args.touch.now.start c.loop-i.i c.loop-i.invariant
    (ap (is_above (cell_at c.args.table.now) c.args.touch.now) (sym c.byte_of.ensures) ∙ sym c.is_above.ensures ∙ c.if-is_above.false)
