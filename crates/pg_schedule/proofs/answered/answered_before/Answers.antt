use Rattle.std.proofs.Common.{◌+◌, ◌++◌, take, drop, sym, ap, ◌∙◌, subst}
use Rattle.pg_schedule.specs.Cells.{Keeps, cell_at}
use Rattle.pg_schedule.specs.Touches.{before_in}
use Rattle.pg_schedule.proofs.GreatestRanks.{met}
use Rattle.pg_schedule.proofs.NotedTouches.{keeps_push}
use Rattle.pg_schedule.proofs.TableWalk.{before_more, before_step}
use Rattle.pg_schedule.proofs.answered.answered_before.Goals as goal

pub loop-i-preserved : goal.loop-i-preserved
loop-i-preserved c =
    let ts = c.args.touches.now in
    let i = c.loop-i.i in
    let y = c.touch_at-touch.result in
    let inv = c.loop-i.invariant in
    let h = c.touch_at-touch.ensures in
    let b = c.is_met.ensures ∙ met y (cell_at c.loop-i.table) (take i ts) inv.1 in (
      ap (λ l. l ++ before_in (take (i + 1) ts) (drop (i + 1) ts)) c.in_ok-push.ensures.items ∙ before_step ts i y c.loop-i.answered.items c.is_met.result h inv.0 b,
      subst (λ l. Keeps (cell_at c.note.new.table) l) (sym (before_more ts i y h)) (keeps_push (cell_at c.loop-i.table) (cell_at c.note.new.table) (take i ts) y inv.1 c.in_ok-note.ensures),
    )
