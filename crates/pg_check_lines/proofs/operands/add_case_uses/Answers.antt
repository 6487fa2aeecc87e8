use Rattle.pg_read_ast.specs.Syntax.{Case}
use Rattle.pg_read_ast.specs.Views.{case_of}
use Rattle.pg_check_rules.specs.Written.{constant_at}
use Rattle.pg_check_lines.specs.Uses.{use_of, uses_of}
use Rattle.pg_check_rules.proofs.MappedLists.{mapped_all}
use Rattle.pg_check_lines.proofs.ListedParts.{listed_more}
use Rattle.pg_check_lines.proofs.operands.add_case_uses.Goals as goal

pub loop-case-preserved : goal.loop-case-preserved
loop-case-preserved c =
    listed_more use_of (λ (k : Case). constant_at k.value.ty k.value.value) case_of
    (uses_of c.args.all.now.items) c.args.cases.now c.loop-case.case-index c.case-item.result _ c.loop-case.all.items _ _
    c.loop-case-test.true c.case-item.is c.loop-case.invariant c.case_use.ensures c.in_ok-push.ensures.items

pub returns : goal.returns
returns c = mapped_all (λ (k : Case). constant_at k.value.ty k.value.value) case_of (uses_of c.args.all.now.items) c.args.cases.now c.loop-case.case-index
    (uses_of c.loop-case.all.items) c.loop-case-test.false c.loop-case.invariant
