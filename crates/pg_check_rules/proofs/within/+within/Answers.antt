use Rattle.std.proofs.Common.{◌++◌, ◌+◌, drop, map, sym, ap, ◌∙◌}
use Rattle.pg_read_ast.specs.Syntax.{tys}
use Rattle.pg_read_ast.specs.Views.{ty_of}
use Rattle.pg_check_rules.specs.Nodes.{tys_behind}
use Rattle.pg_check_rules.specs.Written.{types_within_all}
use Rattle.pg_check_rules.proofs.TypeLists.{within_step, within_done}
use Rattle.pg_check_rules.proofs.within.+within.Goals as goal

pub add_fields_within-loop-field-preserved : goal.add_fields_within-loop-field-preserved
add_fields_within-loop-field-preserved t c =
    ap (λ ts. ts ++ types_within_all (tys (map ty_of (drop (c.loop-field.field-index + 1) c.args.fields.now)))) c.in_ok-add_types_within.ensures
    ∙ within_step (tys_behind c.loop-field.all.items) c.args.fields.now c.loop-field.field-index c.field-item.result c.loop-field-test.true c.field-item.is
    ∙ c.loop-field.invariant

pub add_fields_within-returns : goal.add_fields_within-returns
add_fields_within-returns t c =
    sym (within_done (tys_behind c.loop-field.all.items) c.args.fields.now c.loop-field.field-index c.loop-field-test.false) ∙ c.loop-field.invariant
