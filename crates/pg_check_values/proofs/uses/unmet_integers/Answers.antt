use Rattle.std.proofs.Common.{refl, sym, ap, ◌∙◌}
use Rattle.pg_read_ast.specs.Views.{typed_of}
use Rattle.pg_check_types.specs.NumberedTypes.{named_types}
use Rattle.pg_check_rules.specs.Earliest.{earliest}
use Rattle.pg_check_rules.proofs.Rows.{row_step}
use Rattle.pg_check_types.specs.Resolved.{is_integer}
use Rattle.pg_check_rules.specs.Written.{asks}
use Rattle.pg_check_rules.specs.TypeConditions.{unmet}
use Rattle.pg_check_values.proofs.TypedViews.{typed_ty}
use Rattle.pg_check_values.specs.Uses.{integer_row}
use Rattle.pg_check_values.proofs.uses.unmet_integers.Goals as goal

pub loop-index-init : goal.loop-index-init
unfolding earliest
loop-index-init c = refl

pub loop-index-preserved : goal.loop-index-preserved
loop-index-preserved c =
    let own = c.in_ok-unmet.ensures.place ∙ ap (λ t. earliest (unmet (named_types c.args.types.now) (asks is_integer t))) (sym (typed_ty c.index-item.result)) in
    row_step (integer_row (named_types c.args.types.now)) typed_of c.args.indices.now c.loop-index.index-index c.index-item.result c.index-item.result c.loop-index.found c.in_ok-unmet.field-0
    c.earlier-found.result
    c.loop-index-test.true c.index-item.is c.loop-index.invariant own c.earlier-found.ensures
