use Rattle.std.proofs.Common.{refl}
use Rattle.pg_check_rules.specs.Earliest.{earliest}
use Rattle.pg_check_rules.specs.Starts.{names_behind}
use Rattle.pg_check_rules.specs.BlockConditions.{wrong_sources}
use Rattle.pg_check_rules.proofs.Rows.{row_step}
use Rattle.pg_check_bodies.specs.BodyBlocks.{bare_node}
use Rattle.pg_check_bodies.proofs.phis.all_wrong_sources.Goals as goal

pub loop-line-init : goal.loop-line-init
unfolding earliest
loop-line-init c = λ all k. refl

pub loop-line-preserved : goal.loop-line-preserved
loop-line-preserved c = λ all k.
    row_step (wrong_sources all (names_behind c.args.before.now)) bare_node c.args.lines.now c.loop-line.line-index c.line-item.result c.line-item.result c.loop-line.found c.in_ok-own.own
    c.earlier-found.result
    c.loop-line-test.true c.line-item.is (c.loop-line.invariant all k) (c.in_ok-own.ensures all k) c.earlier-found.ensures
