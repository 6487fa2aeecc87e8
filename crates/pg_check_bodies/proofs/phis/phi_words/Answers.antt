use Rattle.std.proofs.Common.{refl}
use Rattle.pg_check_rules.specs.Earliest.{earliest}
use Rattle.pg_check_rules.specs.BlockConditions.{phi_span}
use Rattle.pg_check_rules.proofs.Rows.{row_step}
use Rattle.pg_check_bodies.specs.BodyBlocks.{bare_node}
use Rattle.pg_check_bodies.proofs.phis.phi_words.Goals as goal

pub loop-line-init : goal.loop-line-init
unfolding earliest
loop-line-init c = refl

pub loop-line-preserved : goal.loop-line-preserved
loop-line-preserved c =
    row_step phi_span bare_node c.args.lines.now c.loop-line.line-index c.line-item.result c.line-item.result c.loop-line.found c.phi_word.result c.earlier-found.result
    c.loop-line-test.true c.line-item.is c.loop-line.invariant c.phi_word.ensures c.earlier-found.ensures
