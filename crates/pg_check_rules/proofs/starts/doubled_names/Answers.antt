use Rattle.std.proofs.Common.{refl}
use Rattle.pg_check_rules.specs.Names.{doubled}
use Rattle.pg_check_rules.specs.Earliest.{earliest}
use Rattle.pg_check_rules.proofs.Rows.{row_step}
use Rattle.pg_check_rules.proofs.starts.doubled_names.Goals as goal

pub loop-name-init : goal.loop-name-init
unfolding earliest
loop-name-init c = λ all s. refl

pub loop-name-preserved : goal.loop-name-preserved
loop-name-preserved c = λ all s.
    row_step (doubled all) (λ n. n.now) c.args.names.now c.loop-name.name-index c.name-item.result c.name-item.result c.loop-name.found c.doubled.result c.earlier-found.result
    c.loop-name-test.true c.name-item.is (c.loop-name.invariant all s) (c.doubled.ensures all s) c.earlier-found.ensures
