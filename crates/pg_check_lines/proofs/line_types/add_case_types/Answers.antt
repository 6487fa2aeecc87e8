use Rattle.pg_read_ast.specs.Syntax.{Case}
use Rattle.pg_read_ast.specs.Views.{case_of}
use Rattle.pg_check_rules.specs.Nodes.{ty_behind, tys_behind}
use Rattle.pg_check_rules.proofs.MappedLists.{mapped_all}
use Rattle.pg_check_lines.proofs.ListedParts.{listed_more}
use Rattle.pg_check_lines.proofs.line_types.add_case_types.Goals as goal

pub loop-case-preserved : goal.loop-case-preserved
loop-case-preserved c =
    listed_more ty_behind (λ (k : Case). k.value.ty) case_of (tys_behind c.args.all.now.items) c.args.cases.now c.loop-case.case-index c.case-item.result _ c.loop-case.all.items _ _
    c.loop-case-test.true c.case-item.is c.loop-case.invariant c.value_type.ensures c.in_ok-push.ensures.items

pub returns : goal.returns
returns c = mapped_all (λ (k : Case). k.value.ty) case_of (tys_behind c.args.all.now.items) c.args.cases.now c.loop-case.case-index
    (tys_behind c.loop-case.all.items) c.loop-case-test.false c.loop-case.invariant
