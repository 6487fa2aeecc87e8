use Rattle.std.proofs.Common.{◌==◌, ap, ◌∙◌}
use Rattle.std.specs.Prelude.{◌&&◌, not, max, if◌then◌else◌}
use Rattle.pg_run_trace.specs.Best.{other}
use Rattle.pg_schedule.specs.Cells.{cell_at}
use Rattle.pg_schedule.specs.Touches.{rank_if}
use Rattle.pg_schedule.proofs.NotedTouches.{noted_more}
use Rattle.pg_schedule.proofs.answered.note_anywhere.Goals as goal

pub loop-i-preserved : goal.loop-i-preserved
loop-i-preserved c =
    let y = c.args.touch.now in
    let s = c.byte_of-byte.ensures in
    let at = c.at.ensures ∙ ap (cell_at c.loop-i.table) s in
    noted_more (cell_at c.args.table.now) (cell_at c.loop-i.table) (cell_at c.set.new.self) y y.start c.loop-i.i c.with-cell.result c.loop-i.invariant
    c.with-cell.ensures.all_best c.with-cell.ensures.writes_best
    (λ u. c.with-cell.ensures.all u ∙ ap (λ d. max (other d.all u) (rank_if (not (y.thread.0 == u)) y.rank)) at)
    (λ u. c.with-cell.ensures.writes u ∙ ap (λ d. max (other d.writes u) (rank_if (y.writes && not (y.thread.0 == u)) y.rank)) at)
    (λ b. c.in_ok-set.ensures b ∙ ap (λ k. if b == k then c.with-cell.result else cell_at c.loop-i.table b) s)
