use Rattle.std.proofs.Common.{refl}
use Rattle.pg_read_ast.specs.declared.values.TypedVal.{TypedVal}
use Rattle.pg_read_ast.specs.Views.{typed_of}
use Rattle.pg_check_types.specs.NumberedTypes.{named_types}
use Rattle.pg_check_rules.specs.Earliest.{earliest}
use Rattle.pg_check_rules.specs.TypeConditions.{unmet}
use Rattle.pg_check_rules.specs.Written.{asks_typed}
use Rattle.pg_check_rules.proofs.Rows.{row_step}
use Rattle.pg_check_values.specs.declared.type_tests.TypeTest.TheVariants.{Integer}
use Rattle.pg_check_values.specs.Tests.{test_of}
use Rattle.pg_check_lines.proofs.demands.unmet_indices.Goals as goal

pub loop-index-init : goal.loop-index-init
unfolding earliest
loop-index-init c = refl

pub loop-index-preserved : goal.loop-index-preserved
loop-index-preserved c =
    let own = c.in_ok-unmet_typed.ensures.place in
    row_step (unmet (named_types c.args.types.now)) (λ (k : TypedVal). asks_typed (test_of Integer) (typed_of k)) c.args.indices.now c.loop-index.index-index c.index-item.result
    c.index-item.result c.loop-index.found c.in_ok-unmet_typed.field-0 c.earlier-found.result
    c.loop-index-test.true c.index-item.is c.loop-index.invariant own c.earlier-found.ensures
