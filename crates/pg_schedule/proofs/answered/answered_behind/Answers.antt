use Rattle.std.proofs.Common.{◌-◌, drop, length, arith, sym, ◌∙◌, subst}
use Rattle.pg_schedule.specs.Cells.{Keeps, cell_at}
use Rattle.pg_schedule.proofs.GreatestRanks.{met}
use Rattle.pg_schedule.proofs.NotedTouches.{keeps_cons}
use Rattle.pg_schedule.proofs.TableWalk.{behind_end, behind_last, behind_step}
use Rattle.pg_schedule.proofs.answered.answered_behind.Goals as goal

pub loop-k-preserved : goal.loop-k-preserved
loop-k-preserved c =
    let ts = c.args.touches.now in
    let k = c.loop-k.k in
    let y = c.touch_at-touch.result in
    let inv = c.loop-k.invariant in
    let h = c.touch_at-touch.ensures in
    let b = c.is_met.ensures ∙ met y (cell_at c.loop-k.table) (drop (length ts - k) ts) inv.1 in (
      c.in_ok-push.ensures.items ∙ behind_step ts k y c.loop-k.answered.items c.is_met.result (omega arith) h inv.0 b,
      subst (λ l. Keeps (cell_at c.note.new.table) l) (sym (behind_last ts k y (omega arith) h))
          (keeps_cons (cell_at c.loop-k.table) (cell_at c.note.new.table) (drop (length ts - k) ts) y inv.1 c.in_ok-note.ensures),
    )

pub returns : goal.returns
returns c = c.reverse.ensures.items ∙ behind_end c.args.touches.now c.loop-k.answered.items c.loop-k.k (omega arith) c.loop-k.invariant.0
