use Rattle.std.proofs.Common.{refl}
use Rattle.pg_check_rules.specs.Earliest.{earliest}
use Rattle.pg_check_rules.specs.ValueConditions.{wrong_use}
use Rattle.pg_check_lines.proofs.UseRows.{use_step, use_whole}
use Rattle.pg_check_lines.proofs.line_uses.wrong_uses.Goals as goal

pub loop-one-init : goal.loop-one-init
unfolding earliest
loop-one-init c = λ g s. refl

pub loop-one-preserved : goal.loop-one-preserved
loop-one-preserved c = λ g s.
    use_step (wrong_use g) c.args.uses.now c.loop-one.one-index c.one-item.result c.loop-one.found c.in_ok-wrong_use.field-0 c.earlier-found.result
    c.loop-one-test.true c.one-item.is (c.loop-one.invariant g s)
    (c.in_ok-wrong_use.ensures.place g s)
    c.earlier-found.ensures

pub returns : goal.returns
returns c = record {
  place = λ g s. use_whole (wrong_use g) c.args.uses.now c.loop-one.one-index c.loop-one.found c.loop-one-test.false (c.loop-one.invariant g s);
}
