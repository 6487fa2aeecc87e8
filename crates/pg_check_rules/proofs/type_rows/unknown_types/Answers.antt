use Rattle.std.proofs.Common.{refl}
use Rattle.pg_check_types.specs.NumberedTypes.{named_types}
use Rattle.pg_check_rules.specs.Nodes.{ty_behind}
use Rattle.pg_check_rules.specs.Earliest.{earliest}
use Rattle.pg_check_rules.specs.TypeConditions.{unknown_type}
use Rattle.pg_check_rules.proofs.Rows.{row_step}
use Rattle.pg_check_rules.proofs.type_rows.unknown_types.Goals as goal

pub loop-ty-init : goal.loop-ty-init
unfolding earliest
loop-ty-init c = refl

pub loop-ty-preserved : goal.loop-ty-preserved
loop-ty-preserved c =
    row_step (unknown_type (named_types c.args.types.now)) ty_behind c.args.all.now c.loop-ty.ty-index c.ty-item.result c.ty-item.result c.loop-ty.found c.unknown_type.result c.earlier-found.result
    c.loop-ty-test.true c.ty-item.is c.loop-ty.invariant c.unknown_type.ensures c.earlier-found.ensures
