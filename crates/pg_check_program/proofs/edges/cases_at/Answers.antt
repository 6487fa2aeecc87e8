use Rattle.std.proofs.Common.{[]}
use Rattle.pg_read_ast.specs.Views.{ty_of, case_of}
use Rattle.pg_check_rules.specs.Numbered.{case_at}
use Rattle.pg_check_program.specs.ScopeNames.{scope_in}
use Rattle.pg_check_rules.proofs.MappedLists.{mapped_more, mapped_all}
use Rattle.pg_check_program.proofs.edges.cases_at.Goals as goal

pub loop-case-preserved : goal.loop-case-preserved
loop-case-preserved c = λ names.
    mapped_more (case_at (scope_in c.args.scope.now names) c.args.scope.now.first (ty_of c.args.ty.now)) case_of [] c.args.cases.now c.loop-case.case-index c.case-item.result _
    c.loop-case.found.items _ c.in_ok-one.one
    c.loop-case-test.true c.case-item.is (c.loop-case.invariant names) (c.in_ok-one.ensures.case names) c.in_ok-push.ensures.items

pub returns : goal.returns
returns c = record {
  cases = λ names.
      mapped_all (case_at (scope_in c.args.scope.now names) c.args.scope.now.first (ty_of c.args.ty.now)) case_of [] c.args.cases.now c.loop-case.case-index c.loop-case.found.items
      c.loop-case-test.false (c.loop-case.invariant names);
}
