use Rattle.std.proofs.Common.{◌+◌, sym, subst}
use Rattle.pg_session.proofs.TrialCounts.{Summed, summed_line, summed_plain}
use Rattle.pg_session.proofs.trials.with_printed.Goals as goal
use Rattle.pg_session.proofs.trials.with_printed.Goals.{then-output-at-eq10, else-output-at-eq10}

pub loop-at-preserved : goal.loop-at-preserved
loop-at-preserved c =
    let before = c.args.before in
    let output = c.args.output.now in
    let at = c.loop-at.at in
    elim c.if-output-at-eq10.branch [
      | then-output-at-eq10 w ↦
          subst (λ s. Summed before output c.if-output-at-eq10.total s (at + 1)) (sym w.start-is)
          (subst (λ t. Summed before output t (at + 1) (at + 1)) (sym w.total-is)
          (summed_line before output c.loop-at.total w.with_line-total.result c.loop-at.start at c.loop-at-test.true w.if-output-at-eq10.true w.with_line-total.ensures c.loop-at.invariant))
      | else-output-at-eq10 w ↦
          subst (λ s. Summed before output c.if-output-at-eq10.total s (at + 1)) (sym w.start-is)
          (subst (λ t. Summed before output t c.loop-at.start (at + 1)) (sym w.total-is)
          (summed_plain before output c.loop-at.total c.loop-at.start at c.loop-at-test.true w.if-output-at-eq10.false c.loop-at.invariant))
    ]
