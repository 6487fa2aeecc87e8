use Rattle.std.proofs.Common.{refl}
use Rattle.pg_read_ast.specs.declared.ops.CaseNode.{CaseNode}
use Rattle.pg_read_ast.specs.Views.{typed_of, case_of}
use Rattle.pg_check_types.specs.Resolved.{resolved}
use Rattle.pg_check_types.specs.Kinds.{is_as}
use Rattle.pg_check_types.specs.NumberedTypes.{named_types}
use Rattle.pg_check_rules.specs.Earliest.{earliest}
use Rattle.pg_check_rules.specs.TypeConditions.{unmet}
use Rattle.pg_check_rules.specs.Written.{asks_typed}
use Rattle.pg_check_rules.proofs.Rows.{row_step}
use Rattle.pg_check_lines.proofs.demands.unmet_cases.Goals as goal

pub loop-case-init : goal.loop-case-init
unfolding earliest
loop-case-init c = refl

pub loop-case-preserved : goal.loop-case-preserved
loop-case-preserved c =
    let own = c.in_ok-unmet_case.ensures.place in
    row_step (unmet (named_types c.args.types.now)) (λ (k : CaseNode). asks_typed (is_as (resolved (named_types c.args.types.now) (typed_of c.args.expected.now).ty)) (case_of k).value)
    c.args.cases.now c.loop-case.case-index c.case-item.result c.case-item.result c.loop-case.found c.in_ok-unmet_case.field-0 c.earlier-found.result
    c.loop-case-test.true c.case-item.is c.loop-case.invariant own c.earlier-found.ensures
