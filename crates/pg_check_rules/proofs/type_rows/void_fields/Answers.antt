use Rattle.std.proofs.Common.{refl}
use Rattle.pg_read_ast.specs.Views.{ty_of}
use Rattle.pg_check_types.specs.NumberedTypes.{named_types}
use Rattle.pg_check_rules.specs.Earliest.{earliest}
use Rattle.pg_check_rules.specs.TypeConditions.{void_part}
use Rattle.pg_check_rules.proofs.Rows.{row_step}
use Rattle.pg_check_rules.proofs.type_rows.void_fields.Goals as goal

pub loop-field-init : goal.loop-field-init
unfolding earliest
loop-field-init c = refl

pub loop-field-preserved : goal.loop-field-preserved
loop-field-preserved c =
    row_step (void_part (named_types c.args.types.now)) ty_of c.args.fields.now c.loop-field.field-index c.field-item.result c.field-item.result c.loop-field.found c.in_ok-void_part.field-0
    c.earlier-found.result
    c.loop-field-test.true c.field-item.is c.loop-field.invariant c.in_ok-void_part.ensures.place c.earlier-found.ensures
