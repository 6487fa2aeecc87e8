use Rattle.std.proofs.Common.{refl}
use Rattle.pg_check_rules.specs.LineConditions.{no_block}
use Rattle.pg_check_rules.specs.Earliest.{earliest}
use Rattle.pg_check_rules.proofs.Rows.{row_step}
use Rattle.pg_check_lines.proofs.labels.missing_blocks.Goals as goal

pub loop-label-init : goal.loop-label-init
unfolding earliest
loop-label-init c = λ g s. refl

pub loop-label-preserved : goal.loop-label-preserved
loop-label-preserved c = λ g s.
    row_step (no_block g.labels) (λ n. n.now) c.args.labels.now c.loop-label.label-index c.label-item.result c.label-item.result c.loop-label.found c.no_block.result c.earlier-found.result
    c.loop-label-test.true c.label-item.is (c.loop-label.invariant g s) (c.no_block.ensures g s) c.earlier-found.ensures
