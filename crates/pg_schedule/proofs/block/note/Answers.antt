use Rattle.std.proofs.Common.{◌≡◌, ◌==◌, ◌+◌, length, ap, set, arith, ◌∙◌}
use Rattle.std.specs.Prelude.{◌&&◌, not, max}
use Rattle.std.proofs.lemmas.List.{length-set}
use Rattle.pg_run_trace.specs.Best.{other}
use Rattle.pg_schedule.specs.Cells.{nth_cell}
use Rattle.pg_schedule.specs.Touches.{rank_if}
use Rattle.pg_schedule.proofs.ByteBlocks.{best_of_eight, set_nth}
use Rattle.pg_schedule.proofs.NotedTouches.{noted_more, noted_none}
use Rattle.pg_schedule.proofs.block.note.Goals as goal

pub loop-i-init : goal.loop-i-init
loop-i-init c =
    let len : length c.args.cells.now ≡ 8 = omega arith in
    (len, noted_none (nth_cell c.args.cells.now) c.args.touch.now c.args.at (best_of_eight c.args.cells.now len c.requires.best))

pub loop-i-preserved : goal.loop-i-preserved
loop-i-preserved c =
    let y = c.args.touch.now in
    let k = c.args.at + c.loop-i.i in
    let cell = c.with-cell.result in
    let len = c.loop-i.invariant.0 in (
      length-set c.loop-i.cells k cell ∙ c.loop-i.invariant.0,
      noted_more (nth_cell c.args.cells.now) (nth_cell c.loop-i.cells) (nth_cell (set c.loop-i.cells k cell)) y c.args.at c.loop-i.i cell c.loop-i.invariant.1
          c.with-cell.ensures.all_best c.with-cell.ensures.writes_best
          (λ u. c.with-cell.ensures.all u ∙ ap (λ d. max (other d.all u) (rank_if (not (y.thread.0 == u)) y.rank)) c.nth.ensures)
          (λ u. c.with-cell.ensures.writes u ∙ ap (λ d. max (other d.writes u) (rank_if (y.writes && not (y.thread.0 == u)) y.rank)) c.nth.ensures)
          (λ b. set_nth c.loop-i.cells k cell b (omega (arith, len))),
    )
